-- Places that are removed, and what is left where they are.
use Rattle.std.specs.Prelude.{◌≡◌, ℕ, Bool, true, not, List, [], ◌∷◌, length, Option, Some, None, slice_get, slice_index, slice_index_or, take, map, if◌then◌else◌}
use Rattle.std.specs.List.{EachIndex, count_by, filter}

-- the items whose mark is false, in order
abbrev pub kept : {X : Type 0} → List Bool → List X → List X
kept [] items = []
kept (gone ∷ marks) [] = []
kept (gone ∷ marks) (item ∷ items) = if gone then kept marks items else item ∷ kept marks items

-- where the item at a place stands among those that are kept, if it is one of them: after as many as are kept before it
abbrev pub new_place : List Bool → ℕ → Option ℕ
new_place marks old = if slice_index_or marks old true then None else Some (count_by not (take old marks))

-- what is counted for each place: how many are kept before it
pub record AreCounts (marks : List Bool) (counts : List ℕ) : Type 0 where
  pub each : length counts ≡ length marks
  pub counted : EachIndex counts (λ place. slice_index counts place ≡ count_by not (take place marks))

-- an item that is kept stands at its new place
abbrev pub KeptStand : Type 0 → Type 0
KeptStand X = (marks : List Bool) (items : List X) (old place : ℕ) → new_place marks old ≡ Some place → slice_get (kept marks items) place ≡ slice_get items old

-- marks that a test gave keep what does not pass it
abbrev pub KeptPass : Type 0 → Type 0
KeptPass X = (test : X → Bool) (items : List X) → kept (map test items) items ≡ filter (λ item. not (test item)) items
