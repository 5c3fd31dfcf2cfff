-- What a crossfilter answers. An answer about an id that is not live is None.
use Rattle.std.specs.Prelude.{ℕ, ℤ, Bool, not, List, [], filter, find, length, map, sum_by, Option, Some, None, option_map, slice_get}
use Rattle.std.specs.List.{enumerate_from}
use Rattle.std.specs.Ordering.{is_eq}
use Rattle.xf_base.specs.Key.{key_cmp}
use Rattle.xf_base.specs.declared.cell.Cell.{Cell}
use Rattle.xf_base.specs.declared.key.Key.{Key}
use Rattle.xf_engine.specs.State.{LiveDimension, LiveGroup, LiveWhole, State, dimension_named, dimension_of, dimension_place, dimensions_of, group_named, is_taken}
use Rattle.xf_engine.specs.declared.key_number.KeyNumber.{KeyNumber}
use Rattle.xf_filter.specs.Filter.{filter_of}
use Rattle.xf_filter.specs.declared.filter.Filter.{Filter}
use Rattle.xf_filter.specs.declared.filter.Filter.TheVariants.{All}
use Rattle.xf_model.specs.Bottom.{bottom, top, places_of}
use Rattle.xf_model.specs.Dimension.{passes, passes_each, selected}
use Rattle.xf_model.specs.Group.{Reducer, group_entries, rounded_keys, whole_value}
use Rattle.xf_model.specs.Moved.{moved}
use Rattle.xf_model.specs.Top.{group_top}

-- how many rows pass every dimension
abbrev pub passing_in : {A P : Type 0} → (A → List Cell → List Key) → (P → Key → Bool) → List (LiveDimension A P) → List (List Cell) → ℕ
passing_in keys_of says lives rows = length (selected (dimensions_of keys_of says lives) None rows)

abbrev pub passing_count : {A G P R : Type 0} → (A → List Cell → List Key) → (P → Key → Bool) → State A G P R → ℕ
passing_count keys_of says state = passing_in keys_of says state.dimensions state.rows

-- how much moves where a dimension's filter is replaced
abbrev pub moved_to : {A P : Type 0} → (A → List Cell → List Key) → (P → Key → Bool) → List (List Cell) → Filter P → LiveDimension A P → ℕ
moved_to keys_of says rows new live = moved (keys_of live.accessor) (filter_of says live.filter) (filter_of says new) rows

abbrev pub moved_by : {A G P R : Type 0} → (A → List Cell → List Key) → (P → Key → Bool) → State A G P R → ℕ → Filter P → Option ℕ
moved_by keys_of says state id new = option_map (moved_to keys_of says state.rows new) (dimension_named state id)

-- how much moves where every filter is taken away
abbrev pub moved_by_clearing : {A G P R : Type 0} → (A → List Cell → List Key) → (P → Key → Bool) → State A G P R → ℕ
moved_by_clearing keys_of says state = sum_by (moved_to keys_of says state.rows All) state.dimensions

-- the filter that is set on a dimension
abbrev pub filter_named : {A G P R : Type 0} → State A G P R → ℕ → Option (Filter P)
filter_named state id = option_map (λ live. live.filter) (dimension_named state id)

-- the places of the rows that pass a test; the first row's place is 0
abbrev pub places_where : {Row : Type 0} → (Row → Bool) → List Row → List ℕ
places_where passes rows = map (λ at. at.0) (filter (λ at. passes at.1) (enumerate_from 0 rows))

-- the dimensions whose ids are not ignored
abbrev pub without_ignored : {A P : Type 0} → List ℕ → List (LiveDimension A P) → List (LiveDimension A P)
without_ignored ignored lives = filter (λ live. not (is_taken ignored live.id)) lives

-- the places of the rows that pass each of these dimensions
abbrev pub all_filtered_of : {A G P R : Type 0} → (A → List Cell → List Key) → (P → Key → Bool) → State A G P R → List ℕ → List ℕ
all_filtered_of keys_of says state ignored = places_where (passes_each (dimensions_of keys_of says (without_ignored ignored state.dimensions))) state.rows

-- whether a row passes a dimension under a filter, whatever filter is set
abbrev pub passes_under : {A P : Type 0} → (A → List Cell → List Key) → (P → Key → Bool) → Filter P → LiveDimension A P → List Cell → Bool
passes_under keys_of says new live row = passes (dimension_of keys_of says (record live { filter = new })) row

-- how many rows pass a dimension under a filter
abbrev pub passing_under : {A G P R : Type 0} → (A → List Cell → List Key) → (P → Key → Bool) → State A G P R → ℕ → Filter P → Option ℕ
passing_under keys_of says state id new = option_map (λ live. length (filter (passes_under keys_of says new live) state.rows)) (dimension_named state id)

-- the keys of a row in the dimension at a place, where one stands there
abbrev pub keys_under : {A P : Type 0} → (A → List Cell → List Key) → Option (LiveDimension A P) → List Cell → List Key
keys_under keys_of None row = []
keys_under keys_of (Some live) row = keys_of live.accessor row

-- the entries of a group that rounds so, under the dimension at a place: each of its keys, with the fold of the rows that have
-- it and pass every other dimension
abbrev pub entries_at : {A P Meaning : Type 0} → (A → List Cell → List Key) → (P → Key → Bool) → List (LiveDimension A P) → List (List Cell) → (Key → Key) → Reducer (List Cell) Meaning → ℕ → List (Key × Meaning)
entries_at keys_of says lives rows round reducer own =
    group_entries key_cmp (rounded_keys key_cmp round (keys_under keys_of (slice_get lives own))) reducer (dimensions_of keys_of says lives) own rows

-- the same where the dimension's place is one that may not be
abbrev pub entries_under : {A P Meaning : Type 0} → (A → List Cell → List Key) → (P → Key → Bool) → List (LiveDimension A P) → List (List Cell) → (Key → Key) → Reducer (List Cell) Meaning → Option ℕ → List (Key × Meaning)
entries_under keys_of says lives rows round reducer None = []
entries_under keys_of says lives rows round reducer (Some own) = entries_at keys_of says lives rows round reducer own

-- the entries of a group
abbrev pub entries_of : {A G P R Meaning : Type 0} → (A → List Cell → List Key) → (P → Key → Bool) → (G → Key → Key) → (R → Reducer (List Cell) Meaning) → State A G P R → LiveGroup G R → List (Key × Meaning)
entries_of keys_of says rounded folding state group =
    entries_under keys_of says state.dimensions state.rows (rounded group.rounding) (folding group.reducer) (dimension_place state group.dimension)

-- entries with the number of a field
abbrev pub numbers_of : {Meaning : Type 0} → (Meaning → ℕ → ℤ) → ℕ → List (Key × Meaning) → List KeyNumber
numbers_of rank field entries = map (λ entry. record { key = entry.0; number = rank entry.1 field }) entries

-- all entries of a group, each with the number of a field
abbrev pub all_of : {A G P R Meaning : Type 0} → (A → List Cell → List Key) → (P → Key → Bool) → (G → Key → Key) → (R → Reducer (List Cell) Meaning) → (R → Meaning → ℕ → ℤ) → State A G P R → ℕ → ℕ → Option (List KeyNumber)
all_of keys_of says rounded folding rank state id field =
    option_map (λ group. numbers_of (rank group.reducer) field (entries_of keys_of says rounded folding state group)) (group_named state id)

-- the first entries by the group's order
abbrev pub top_entries : {A G P R Meaning : Type 0} → (A → List Cell → List Key) → (P → Key → Bool) → (G → Key → Key) → (R → Reducer (List Cell) Meaning) → (R → Meaning → ℕ → ℤ) → State A G P R → ℕ → LiveGroup G R → List (Key × Meaning)
top_entries keys_of says rounded folding rank state k group =
    group_top (λ meaning. rank group.reducer meaning group.field) k (entries_of keys_of says rounded folding state group)

abbrev pub group_top_of : {A G P R Meaning : Type 0} → (A → List Cell → List Key) → (P → Key → Bool) → (G → Key → Key) → (R → Reducer (List Cell) Meaning) → (R → Meaning → ℕ → ℤ) → State A G P R → ℕ → ℕ → ℕ → Option (List KeyNumber)
group_top_of keys_of says rounded folding rank state id k field =
    option_map (λ group. numbers_of (rank group.reducer) field (top_entries keys_of says rounded folding rank state k group)) (group_named state id)

-- what the entry of a key means, if the key is there
abbrev pub meaning_of_key : {Meaning : Type 0} → List (Key × Meaning) → Key → Option Meaning
meaning_of_key entries key = option_map (λ entry. entry.1) (find (λ entry. is_eq (key_cmp key entry.0)) entries)

-- what a whole means
abbrev pub whole_meaning : {A G P R Meaning : Type 0} → (A → List Cell → List Key) → (P → Key → Bool) → (R → Reducer (List Cell) Meaning) → State A G P R → LiveWhole R → Meaning
whole_meaning keys_of says folding state whole = whole_value (folding whole.reducer) (dimensions_of keys_of says state.dimensions) state.rows

-- the places of the rows with the least keys of a dimension, and of those with the greatest
abbrev pub bottom_of : {A G P R : Type 0} → (A → List Cell → List Key) → (P → Key → Bool) → State A G P R → ℕ → ℕ → ℕ → Option (List ℕ)
bottom_of keys_of says state id k offset =
    option_map (λ live. places_of k offset (bottom key_cmp (dimensions_of keys_of says state.dimensions) (dimension_of keys_of says live) state.rows)) (dimension_named state id)

abbrev pub top_of : {A G P R : Type 0} → (A → List Cell → List Key) → (P → Key → Bool) → State A G P R → ℕ → ℕ → ℕ → Option (List ℕ)
top_of keys_of says state id k offset =
    option_map (λ live. places_of k offset (top key_cmp (dimensions_of keys_of says state.dimensions) (dimension_of keys_of says live) state.rows)) (dimension_named state id)
