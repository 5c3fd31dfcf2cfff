-- What folds, groups and wholes keep.
use Rattle.std.proofs.Common.{◌≡◌, ℕ, ◌+◌, ◌≤◌, List, [], ◌∷◌, ◌++◌, Some, length, map, refl, sym, ap, ◌∙◌, arith}
use Rattle.std.proofs.lemmas.List.Sums.{fold-append}
use Rattle.std.specs.declared.cmp.Ordering.{Ordering}
use Rattle.std.specs.List.{filter, fold, insert}
use Rattle.xf_model.specs.Dimension.{Dimension, selected}
use Rattle.xf_model.specs.Group.{Reducer, fold_of, count, has_key, group_entries, group_keys}
use Rattle.xf_model.proofs.SelectedRows.{selected-insert}

count_from : {Row : Type 0} (start : ℕ) (rows : List Row) → fold (λ value (row : Row). value + 1) start rows ≡ start + length rows
count_from start [] = omega arith
count_from start (row ∷ rows) = count_from (start + 1) rows ∙ omega arith

-- the count of rows is their number
pub fold_of-count : {Row : Type 0} (rows : List Row) → fold_of (count {Row = Row}) rows ≡ length rows
fold_of-count rows = count_from 0 rows ∙ omega arith

-- a fold over rows that are joined goes on from the fold over the first
pub fold_of-append : {Row Value : Type 0} (reducer : Reducer Row Value) (xs ys : List Row) → fold_of reducer (xs ++ ys) ≡ fold reducer.step (fold_of reducer xs) ys
fold_of-append reducer xs ys = fold-append reducer.step reducer.initial xs ys

-- the keys of entries that are made key by key
map_firsts : {Key Value : Type 0} (f : Key → Value) (keys : List Key) → map (λ (entry : Key × Value). entry.0) (map (λ key. (key, f key)) keys) ≡ keys
map_firsts f [] = refl
map_firsts f (key ∷ keys) = ap (λ rest. key ∷ rest) (map_firsts f keys)

-- the keys of a group's entries are the group's keys, whatever the filters
pub keys-group_entries : {Row Key Value : Type 0} (cmp : Key → Key → Ordering) (keys : Row → List Key) (reducer : Reducer Row Value) (dimensions : List (Dimension Row Key)) (own : ℕ) (rows : List Row) → map (λ (entry : Key × Value). entry.0) (group_entries cmp keys reducer dimensions own rows) ≡ group_keys cmp keys rows
keys-group_entries cmp keys reducer dimensions own rows =
    map_firsts (λ key. fold_of reducer (filter (has_key cmp keys key) (selected dimensions (Some own) rows))) (group_keys cmp keys rows)

-- a group does not see its own dimension's filter
pub group_entries-insert : {Row Key Value : Type 0} (cmp : Key → Key → Ordering) (keys : Row → List Key) (reducer : Reducer Row Value) (dimensions : List (Dimension Row Key)) (own : ℕ) (one other : Dimension Row Key) (rows : List Row) → own ≤ length dimensions → group_entries cmp keys reducer (insert dimensions own one) own rows ≡ group_entries cmp keys reducer (insert dimensions own other) own rows
group_entries-insert cmp keys reducer dimensions own one other rows within =
    ap (λ seen. map (λ key. (key, fold_of reducer (filter (has_key cmp keys key) seen))) (group_keys cmp keys rows))
    (selected-insert dimensions own one rows within ∙ sym (selected-insert dimensions own other rows within))
