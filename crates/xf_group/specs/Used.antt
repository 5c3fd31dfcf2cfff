-- Only the contracts of private functions need this file: which entries some place has, by numbers for them.
use Rattle.std.specs.Prelude.{◌≡◌, ℕ, ◌==◌, ◌<◌, Bool, List, Some, if◌then◌else◌, length, map, slice_index}
use Rattle.std.specs.List.{list_any}
use Rattle.xf_base.specs.Gone.{new_place}

-- whether a position is one of some
abbrev pub is_listed : List ℕ → ℕ → Bool
is_listed positions position = list_any (λ own. position == own) positions

-- whether some place has a position
abbrev pub is_used : List (List ℕ) → ℕ → Bool
is_used places position = list_any (λ positions. is_listed positions position) places

-- 1 for each position that some place has, and 0 for the others
abbrev pub AreMarked : List (List ℕ) → List ℕ → Type 0
AreMarked places numbers = (position : ℕ) → position < length numbers → slice_index numbers position ≡ (if is_used places position then 1 else 0)

-- 1 for each of these positions, and what was there for the others
abbrev pub AreMarkedMore : List ℕ → List ℕ → List ℕ → Type 0
AreMarkedMore positions old new = (position : ℕ) → position < length old → slice_index new position ≡ (if is_listed positions position then 1 else slice_index old position)

-- for each number whether it is 0
abbrev pub unused_marks : List ℕ → List Bool
unused_marks numbers = map (λ number. number == 0) numbers

-- for each of the first positions that stays its new one
abbrev pub AreRenumbered : List Bool → ℕ → List ℕ → Type 0
AreRenumbered marks count numbers = (old place : ℕ) → old < count → new_place marks old ≡ Some place → slice_index numbers old ≡ place
