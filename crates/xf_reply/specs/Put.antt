-- What is said of a call that writes a text.
use Rattle.std.specs.Prelude.{◌≡◌, ℕ, List, ◌++◌, IsUtf8}

-- a text was appended, and it is UTF-8
pub record Puts (old new text : List ℕ) : Type 0 where
  pub appended : new ≡ old ++ text
  pub utf8 : IsUtf8 text

-- the same, where the text is UTF-8 only if something else is as it should be
pub record PutsIf (sound : Type 0) (old new text : List ℕ) : Type 0 where
  pub appended : new ≡ old ++ text
  pub utf8 : sound → IsUtf8 text
