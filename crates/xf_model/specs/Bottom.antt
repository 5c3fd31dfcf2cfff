-- Which rows have the least and the greatest keys of a dimension.
use Rattle.std.specs.Prelude.{ℕ, List, [], map, reverse, take, drop, filter, flat_map, if◌then◌else◌}
use Rattle.std.specs.List.{enumerate_from}
use Rattle.std.specs.Ordering.{nat_cmp, ordering_then}
use Rattle.std.specs.declared.cmp.Ordering.{Ordering}
use Rattle.xf_model.specs.Dimension.{Dimension, passes_each}
use Rattle.xf_model.specs.Group.{distinct_keys}

-- a pair has a key and the place of its row: pairs stand in order by key, and by place where the keys tie
abbrev pub pair_cmp : {Key : Type 0} → (Key → Key → Ordering) → Key × ℕ → Key × ℕ → Ordering
pair_cmp cmp one other = ordering_then (cmp one.0 other.0) (nat_cmp one.1 other.1)

-- the pairs of one row, if it passes every dimension: those of its keys for which the own dimension's filter holds
abbrev pub row_pairs : {Row Key : Type 0} → List (Dimension Row Key) → Dimension Row Key → ℕ × Row → List (Key × ℕ)
row_pairs dimensions own (place, row) =
    if passes_each dimensions row then map (λ key. (key, place)) (filter own.chosen.holds (own.keys row)) else []

-- the pairs of all rows, row by row; the first row's place is 0
abbrev pub pairs_of : {Row Key : Type 0} → List (Dimension Row Key) → Dimension Row Key → List Row → List (Key × ℕ)
pairs_of dimensions own rows = flat_map (row_pairs dimensions own) (enumerate_from 0 rows)

-- the pairs of the selected rows, ascending by key and then by place: the least stand first
abbrev pub bottom : {Row Key : Type 0} → (Key → Key → Ordering) → List (Dimension Row Key) → Dimension Row Key → List Row → List (Key × ℕ)
bottom cmp dimensions own rows = distinct_keys (pair_cmp cmp) (pairs_of dimensions own rows)

-- the same the other way round: the greatest stand first, and of keys that tie the one at the last place
abbrev pub top : {Row Key : Type 0} → (Key → Key → Ordering) → List (Dimension Row Key) → Dimension Row Key → List Row → List (Key × ℕ)
top cmp dimensions own rows = reverse (bottom cmp dimensions own rows)

-- the places of the first `k` pairs after the first `offset`
abbrev pub places_of : {Key : Type 0} → ℕ → ℕ → List (Key × ℕ) → List ℕ
places_of k offset pairs = map (λ pair. pair.1) (take k (drop offset pairs))
