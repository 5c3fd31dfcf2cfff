-- How many values a JSON text may have, counted without reading it.
use Rattle.std.specs.Prelude.{ℕ, ◌+◌, ◌==◌, Bool, ◌||◌, false, if◌then◌else◌, List, [], ◌∷◌}
use Rattle.xf_members.specs.declared.count.TextState.{TextState}
use Rattle.xf_members.specs.declared.count.TextState.TheVariants.{Outside, InText, Escaped}

-- a comma, or the beginning of an array or an object, where it is no part of a text
abbrev pub opens : TextState → ℕ → Bool
opens Outside byte = (byte == 44) || (byte == 91) || (byte == 123)
opens InText byte = false
opens Escaped byte = false

-- whether the next byte is part of a text; behind a `\` in one it is, whatever it is
abbrev pub state_after : TextState → ℕ → TextState
state_after Outside byte = if byte == 34 then InText else Outside
state_after InText byte = if byte == 34 then Outside else if byte == 92 then Escaped else InText
state_after Escaped byte = InText

-- the commas and beginnings outside of texts; a JSON text has one value more at most
abbrev pub openers : TextState → List ℕ → ℕ
openers state [] = 0
openers state (byte ∷ bytes) = (if opens state byte then 1 else 0) + openers (state_after state byte) bytes
