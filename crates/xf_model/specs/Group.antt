-- What a group and a whole mean: the fold of the rows that are selected for them.
use Rattle.std.specs.Prelude.{ℕ, ◌+◌, Bool, List, [], ◌∷◌, Some, None, fold, filter, flat_map, map, if◌then◌else◌}
use Rattle.std.specs.List.{list_any}
use Rattle.std.specs.declared.cmp.Ordering.{Ordering}
use Rattle.std.specs.Ordering.{is_eq, is_lt}
use Rattle.xf_model.specs.Dimension.{Dimension, selected}

-- a reducer: the value over no rows, and the value with one row more
pub record Reducer (Row Value : Type 0) : Type 0 where
  pub initial : Value
  pub step : Value → Row → Value

abbrev pub fold_of : {Row Value : Type 0} → Reducer Row Value → List Row → Value
fold_of reducer rows = fold reducer.step reducer.initial rows

-- the reducer that counts rows
abbrev pub count : {Row : Type 0} → Reducer Row ℕ
count = record { initial = 0; step = λ value _. value + 1 }

-- ascending distinct keys with one key more, which may be among them already
abbrev pub with_key : {Key : Type 0} → (Key → Key → Ordering) → Key → List Key → List Key
with_key cmp key [] = key ∷ []
with_key cmp key (first ∷ rest) =
    if is_lt (cmp key first) then key ∷ first ∷ rest
    else if is_lt (cmp first key) then first ∷ with_key cmp key rest
    else first ∷ rest

-- the distinct keys of a list, ascending
abbrev pub distinct_keys : {Key : Type 0} → (Key → Key → Ordering) → List Key → List Key
distinct_keys cmp [] = []
distinct_keys cmp (key ∷ keys) = with_key cmp key (distinct_keys cmp keys)

-- the keys of a row in a group whose rounding rounds them: ascending and distinct
abbrev pub rounded_keys : {Row Key : Type 0} → (Key → Key → Ordering) → (Key → Key) → (Row → List Key) → Row → List Key
rounded_keys cmp round keys row = distinct_keys cmp (map round (keys row))

-- the keys of a group are those of all rows that are present, whatever the filters
abbrev pub group_keys : {Row Key : Type 0} → (Key → Key → Ordering) → (Row → List Key) → List Row → List Key
group_keys cmp keys rows = distinct_keys cmp (flat_map keys rows)

-- whether a key is among the keys of a row
abbrev pub has_key : {Row Key : Type 0} → (Key → Key → Ordering) → (Row → List Key) → Key → Row → Bool
has_key cmp keys key row = list_any (λ own. is_eq (cmp key own)) (keys row)

-- the entries of a group: each of its keys with the fold of the rows that have it and pass every dimension
-- but the group's own, which stands at the place `own`
abbrev pub group_entries : {Row Key Value : Type 0} → (Key → Key → Ordering) → (Row → List Key) → Reducer Row Value → List (Dimension Row Key) → ℕ → List Row → List (Key × Value)
group_entries cmp keys reducer dimensions own rows =
    map (λ key. (key, fold_of reducer (filter (has_key cmp keys key) (selected dimensions (Some own) rows)))) (group_keys cmp keys rows)

-- the value of a whole is the fold of the rows that pass every dimension
abbrev pub whole_value : {Row Key Value : Type 0} → Reducer Row Value → List (Dimension Row Key) → List Row → Value
whole_value reducer dimensions rows = fold_of reducer (selected dimensions None rows)
