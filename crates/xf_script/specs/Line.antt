-- The words of a line.
use Rattle.std.specs.Prelude.{ℕ, nat_eq, ◌==◌, Bool, true, false, ◌||◌, not, if◌then◌else◌, List, [], ◌∷◌, length, take, drop, zero, suc, Option, Some, None}
use Rattle.std.specs.List.{list_any, prefix_len}
use Rattle.std.specs.Map.{lookup}
use Rattle.xf_filter.specs.Words.{Word}

-- a blank or a tab
abbrev pub is_space : ℕ → Bool
is_space byte = (byte == 32) || (byte == 9)

-- what a byte stands for behind a backslash between quotes
abbrev pub escaped : ℕ → Option ℕ
escaped byte = lookup (nat_eq byte) ((92, 92) ∷ (34, 34) ∷ (110, 10) ∷ (114, 13) ∷ (116, 9) ∷ [])

abbrev pub with_byte : Option ℕ → Option (Word × List ℕ) → Option (Word × List ℕ)
with_byte (Some byte) (Some (word, rest)) = Some (byte ∷ word, rest)
with_byte (Some byte) None = None
with_byte None read = None

-- the word up to the closing quote, and what stands behind that; it may begin behind a backslash
abbrev pub quoted : Bool → List ℕ → Option (Word × List ℕ)
quoted behind_backslash [] = None
quoted true (byte ∷ rest) = with_byte (escaped byte) (quoted false rest)
quoted false (byte ∷ rest) =
    if byte == 34 then Some ([], rest)
    else if byte == 92 then quoted true rest
    else with_byte (Some byte) (quoted false rest)

-- a text without the blanks and tabs in front
abbrev pub skip_spaces : List ℕ → List ℕ
skip_spaces text = drop (prefix_len is_space text) text

-- whether a text is empty or begins with a blank or a tab
abbrev pub is_apart : List ℕ → Bool
is_apart [] = true
is_apart (byte ∷ rest) = is_space byte

-- behind a closing quote the line ends, or a blank or a tab follows
abbrev pub apart : Option (Word × List ℕ) → Option (Word × List ℕ)
apart (Some (word, rest)) = if is_apart rest then Some (word, rest) else None
apart None = None

-- how many bytes stand before the next blank or tab
abbrev pub word_len : List ℕ → ℕ
word_len text = prefix_len (λ byte. not (is_space byte)) text

-- the bytes up to the next blank or tab, none of which is a quote, and what stands behind them
abbrev pub bare : List ℕ → Option (Word × List ℕ)
bare text =
    if list_any (nat_eq 34) (take (word_len text) text) then None else Some (take (word_len text) text, drop (word_len text) text)

-- the word with which a text begins, and what stands behind it; None where the word is malformed
abbrev pub word_at : List ℕ → Option (Word × List ℕ)
word_at [] = None
word_at (byte ∷ rest) = if byte == 34 then apart (quoted false rest) else bare (byte ∷ rest)

-- the words before the first malformed one, and whether there is one
pub record Split : Type 0 where
  pub words : List Word
  pub is_broken : Bool

abbrev pub with_word : Word → Split → Split
with_word word split = record { words = word ∷ split.words; is_broken = split.is_broken }

-- the words from a text on that begins with a word, by those of the text behind that
abbrev pub with_first : (List ℕ → Split) → Option (Word × List ℕ) → Split
with_first split_rest None = record { words = []; is_broken = true }
with_first split_rest (Some (word, rest)) = with_word word (split_rest rest)

-- the same where the text may be empty
abbrev pub split_begun : (List ℕ → Split) → List ℕ → Split
split_begun split_rest [] = record { words = []; is_broken = false }
split_begun split_rest (byte ∷ rest) = with_first split_rest (word_at (byte ∷ rest))

-- the words of a text of at most so many bytes
abbrev pub split_within : ℕ → List ℕ → Split
split_within zero text = record { words = []; is_broken = false }
split_within (suc most) text = split_begun (split_within most) (skip_spaces text)

abbrev pub split_of : List ℕ → Split
split_of line = split_within (length line) line

-- whether the first byte that is neither a blank nor a tab is `#`
abbrev pub begins_comment : List ℕ → Bool
begins_comment [] = false
begins_comment (byte ∷ rest) = byte == 35

abbrev pub is_comment : List ℕ → Bool
is_comment line = begins_comment (skip_spaces line)
