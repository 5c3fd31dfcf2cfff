-- A first part of a text.
use Rattle.std.specs.Prelude.{◌≡◌, ℕ, List, ◌++◌, Option, option_map}
use Rattle.std.specs.Io.KnownBytes.{Appends}

-- a first part of the text, and no more, was put after what stood there, where that is told
abbrev pub AppendsPrefix : Option (List ℕ) → Option (List ℕ) → List ℕ → Type 0
AppendsPrefix old new text = (kept : List ℕ) × (rest : List ℕ) × (text ≡ kept ++ rest) × (new ≡ option_map (λ before. before ++ kept) old)

-- the same of the bytes that a writer holds, where they are known
abbrev pub AppendsKnownPrefix : Option (List ℕ) → Option (List ℕ) → List ℕ → Type 0
AppendsKnownPrefix old new text = (kept : List ℕ) × (rest : List ℕ) × (text ≡ kept ++ rest) × Appends old new kept
