-- Only the contracts of private functions need this file: the ranks that the top is sorted by.
use Rattle.std.specs.Prelude.{ℕ, ℤ, List, map}
use Rattle.std.specs.List.{enumerate_from}
use Rattle.xf_group.specs.declared.entry.Entry.{Entry}

-- for each entry the rank of its value, with its position
abbrev pub ranks_at : {Value : Type 0} → (Value → ℤ) → List (Entry Value) → List (ℤ × ℕ)
ranks_at rank entries = map (λ at. (rank at.1.value, at.0)) (enumerate_from 0 entries)
