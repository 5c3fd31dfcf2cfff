-- How a text is written as one word of a line.
use Rattle.std.specs.Prelude.{ℕ, ◌==◌, Bool, ◌||◌, if◌then◌else◌, List, [], ◌∷◌, ◌++◌, length, flat_map}
use Rattle.std.specs.List.{list_any}

-- a blank, a tab, a double quote, a carriage return or a line feed
abbrev pub needs_quotes : ℕ → Bool
needs_quotes byte = (byte == 32) || (byte == 9) || (byte == 34) || (byte == 13) || (byte == 10)

-- a byte between quotes: `\\`, `\"`, `\n`, `\r`, `\t`, or as it is
abbrev pub escape_of : ℕ → List ℕ
escape_of byte =
    if byte == 92 then 92 ∷ 92 ∷ []
    else if byte == 34 then 92 ∷ 34 ∷ []
    else if byte == 10 then 92 ∷ 110 ∷ []
    else if byte == 13 then 92 ∷ 114 ∷ []
    else if byte == 9 then 92 ∷ 116 ∷ []
    else byte ∷ []

-- a text as it is where it is not empty and needs no quotes, and else between quotes
abbrev pub word_text : List ℕ → List ℕ
word_text text =
    if (length text == 0) || list_any needs_quotes text then 34 ∷ flat_map escape_of text ++ 34 ∷ []
    else text
