-- Lists that lie one after the other in one vector, with the place at which each ends.
use Rattle.std.specs.Prelude.{◌≡◌, ℕ, zero, suc, ◌-◌, ◌≤◌, List, [], ◌∷◌, drop, slice_index, take}

-- the lists that begin at a place and end at these places
abbrev pub cut_at : {X : Type 0} → ℕ → List ℕ → List X → List (List X)
cut_at start [] items = []
cut_at start (end ∷ ends) items = take (end - start) (drop start items) ∷ cut_at end ends items

-- each list ends where it begins or later, and the last one ends where all ends
abbrev pub AreEnds : ℕ → List ℕ → ℕ → Type 0
AreEnds start [] total = start ≡ total
AreEnds start (end ∷ ends) total = (start ≤ end) × AreEnds end ends total

-- where the list at a place begins: where the one before it ends
abbrev pub start_of : List ℕ → ℕ → ℕ
start_of ends zero = 0
start_of ends (suc place) = slice_index ends place
