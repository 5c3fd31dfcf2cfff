-- The order of a group's top.
use Rattle.std.specs.Prelude.{ℕ, ℤ, List, [], ◌∷◌, take, if◌then◌else◌}
use Rattle.std.specs.Ordering.{int_cmp, is_le}

-- one more in front of what is ranked already: before the first that does not rank higher
abbrev pub with_ranked : {X : Type 0} → (X → ℤ) → X → List X → List X
with_ranked rank one [] = one ∷ []
with_ranked rank one (first ∷ later) = if is_le (int_cmp (rank first) (rank one)) then one ∷ first ∷ later else first ∷ with_ranked rank one later

-- by rank, the greatest first, and where ranks are equal as they stand
abbrev pub ranked : {X : Type 0} → (X → ℤ) → List X → List X
ranked rank [] = []
ranked rank (one ∷ later) = with_ranked rank one (ranked rank later)

-- the first entries of a group by the rank of a value; the entries come by ascending key, so that equal ranks do too
abbrev pub group_top : {Key Value : Type 0} → (Value → ℤ) → ℕ → List (Key × Value) → List (Key × Value)
group_top rank k entries = take k (ranked (λ entry. rank entry.1) entries)
