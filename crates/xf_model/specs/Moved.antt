-- How much a new filter moves.
use Rattle.std.specs.Prelude.{ℕ, Bool, ◌||◌, ◌&&◌, not, List, [], ◌∷◌, count_by, sum_by, if◌then◌else◌}
use Rattle.xf_model.specs.Dimension.{Filter}

-- exactly one of two
abbrev pub exactly_one : Bool → Bool → Bool
exactly_one a b = (a && not b) || (not a && b)

-- the keys of one row for which exactly one of two filters holds; a row without keys counts once where exactly one
-- of the two is "all"
abbrev pub moved_keys : {Key : Type 0} → Filter Key → Filter Key → List Key → ℕ
moved_keys old new [] = if exactly_one old.is_all new.is_all then 1 else 0
moved_keys old new (key ∷ keys) = count_by (λ k. exactly_one (old.holds k) (new.holds k)) (key ∷ keys)

-- what a dimension's filter moves where the new one replaces the old one
abbrev pub moved : {Row Key : Type 0} → (Row → List Key) → Filter Key → Filter Key → List Row → ℕ
moved keys old new rows = sum_by (λ row. moved_keys old new (keys row)) rows
