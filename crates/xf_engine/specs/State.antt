-- What a crossfilter is seen as, and what its dimensions mean.
--
-- An accessor is of any type `A`, and `keys_of` says what its keys of a row are; a rounding is of any type `G`; a
-- predicate is of any type `P`, `says` tells of which keys it says yes, and `keys_in` which keys stand inside it; a reducer
-- is of any type `R`, `suits` tells which columns it fits, and `fields` how many fields it has.
use Rattle.std.specs.Prelude.{◌≡◌, ℕ, ◌+◌, ◌==◌, ◌≤◌, ◌<◌, Bool, true, false, List, [], ◌∷◌, length, map, sum_by, Option, None}
use Rattle.std.specs.List.{AllByRecursion, find, list_any, position}
use Rattle.xf_base.specs.Bounds.{AreLimits, Bounds}
use Rattle.xf_base.specs.Schema.{IsRowOf}
use Rattle.xf_base.specs.declared.cell.Cell.{Cell}
use Rattle.xf_base.specs.declared.column.Column.{Column}
use Rattle.xf_base.specs.declared.key.Key.{Key}
use Rattle.xf_base.specs.declared.kind.KeyKind.{KeyKind}
use Rattle.xf_engine.specs.declared.events.Events.{Events}
use Rattle.xf_engine.specs.declared.ids.DimensionId.{DimensionId}
use Rattle.xf_filter.specs.Filter.{filter_keys, filter_of, first_other}
use Rattle.xf_filter.specs.declared.filter.Filter.{Filter}
use Rattle.xf_model.specs.Dimension.{Dimension}

-- a dimension: its id, what gives the keys of a row, and the filter that is set on it
pub record LiveDimension (A P : Type 0) : Type 0 where
  pub id : ℕ
  pub accessor : A
  pub filter : Filter P

-- a group: its id, that of its dimension, what rounds its keys, what is kept of the rows of a key, and the field by which its
-- top is ranked
pub record LiveGroup (G R : Type 0) : Type 0 where
  pub id : ℕ
  pub dimension : ℕ
  pub rounding : G
  pub reducer : R
  pub field : ℕ

-- a whole: its id, and what is kept of the rows
pub record LiveWhole (R : Type 0) : Type 0 where
  pub id : ℕ
  pub reducer : R

-- the columns, how much may be held, the rows in order of arrival, the dimensions, groups and wholes in order of creation,
-- and how often rows and filters were changed
pub record State (A G P R : Type 0) : Type 0 where
  pub columns : List Column
  pub limits : Bounds
  pub rows : List (List Cell)
  pub dimensions : List (LiveDimension A P)
  pub groups : List (LiveGroup G R)
  pub wholes : List (LiveWhole R)
  pub events : Events

-- no event yet
abbrev pub no_events : Events
no_events = record { added = 0; removed = 0; filtered = 0 }

-- a dimension with its filter, by what its accessor gives
abbrev pub dimension_of : {A P : Type 0} → (A → List Cell → List Key) → (P → Key → Bool) → LiveDimension A P → Dimension (List Cell) Key
dimension_of keys_of says live = record { keys = keys_of live.accessor; chosen = filter_of says live.filter }

abbrev pub dimensions_of : {A P : Type 0} → (A → List Cell → List Key) → (P → Key → Bool) → List (LiveDimension A P) → List (Dimension (List Cell) Key)
dimensions_of keys_of says lives = map (dimension_of keys_of says) lives

-- whether a dimension, a group or a whole has this id
abbrev pub has_id : {A P : Type 0} → ℕ → LiveDimension A P → Bool
has_id id live = live.id == id

abbrev pub group_has_id : {G R : Type 0} → ℕ → LiveGroup G R → Bool
group_has_id id group = group.id == id

abbrev pub whole_has_id : {R : Type 0} → ℕ → LiveWhole R → Bool
whole_has_id id whole = whole.id == id

-- the place of the live dimension, group or whole of an id
abbrev pub dimension_place : {A G P R : Type 0} → State A G P R → ℕ → Option ℕ
dimension_place state id = position (has_id id) state.dimensions

abbrev pub group_place : {A G P R : Type 0} → State A G P R → ℕ → Option ℕ
group_place state id = position (group_has_id id) state.groups

abbrev pub whole_place : {A G P R : Type 0} → State A G P R → ℕ → Option ℕ
whole_place state id = position (whole_has_id id) state.wholes

-- the live dimension, group or whole of an id
abbrev pub dimension_named : {A G P R : Type 0} → State A G P R → ℕ → Option (LiveDimension A P)
dimension_named state id = find (has_id id) state.dimensions

abbrev pub group_named : {A G P R : Type 0} → State A G P R → ℕ → Option (LiveGroup G R)
group_named state id = find (group_has_id id) state.groups

abbrev pub whole_named : {A G P R : Type 0} → State A G P R → ℕ → Option (LiveWhole R)
whole_named state id = find (whole_has_id id) state.wholes

-- whether an id is among those that are taken
abbrev pub is_taken : List ℕ → ℕ → Bool
is_taken ids id = list_any (λ taken. taken == id) ids

abbrev pub dimension_ids : {A P : Type 0} → List (LiveDimension A P) → List ℕ
dimension_ids lives = map (λ live. live.id) lives

-- the numbers of ids
abbrev pub id_numbers : List DimensionId → List ℕ
id_numbers ids = map (λ id. id.0) ids

abbrev pub group_ids : {G R : Type 0} → List (LiveGroup G R) → List ℕ
group_ids groups = map (λ group. group.id) groups

abbrev pub whole_ids : {R : Type 0} → List (LiveWhole R) → List ℕ
whole_ids wholes = map (λ whole. whole.id) wholes

-- the least id that is not taken
pub record IsFreeId (ids : List ℕ) (id : ℕ) : Type 0 where
  pub free : is_taken ids id ≡ false
  pub least : (lower : ℕ) → lower < id → is_taken ids lower ≡ true

-- no id stands twice
abbrev pub AreDistinct : List ℕ → Type 0
AreDistinct [] = Unit {0}
AreDistinct (id ∷ ids) = (is_taken ids id ≡ false) × AreDistinct ids

-- how many entries an accessor makes of rows: one for each key of each row
abbrev pub entries_by : {A : Type 0} → (A → List Cell → List Key) → List (List Cell) → A → ℕ
entries_by keys_of rows accessor = sum_by (λ row. length (keys_of accessor row)) rows

-- how many entries rows have in all dimensions
abbrev pub entry_count : {A G P R : Type 0} → (A → List Cell → List Key) → State A G P R → List (List Cell) → ℕ
entry_count keys_of state rows = sum_by (λ live. entries_by keys_of rows live.accessor) state.dimensions

-- what is true of every crossfilter: the rows are of the schema, each accessor and each reducer fits it, each filter's keys
-- are of its accessor's kind, each field is one of its reducer's, ids differ, each group's dimension is live, and all is
-- within the limits
pub record IsState {A G P R : Type 0} (keys_of : A → List Cell → List Key) (fits_to : A → List Column → Bool) (kind_of : A → KeyKind) (keys_in : P → List Key) (suits : R → List Column → Bool) (fields : R → ℕ) (state : State A G P R) : Type 0 where
  pub limits : AreLimits state.limits
  pub of_schema : AllByRecursion (IsRowOf state.columns) state.rows
  pub fit : AllByRecursion (λ live. fits_to live.accessor state.columns ≡ true) state.dimensions
  pub filters : AllByRecursion (λ live. first_other (kind_of live.accessor) (filter_keys keys_in live.filter) ≡ None) state.dimensions
  pub group_fit : AllByRecursion (λ group. suits group.reducer state.columns ≡ true) state.groups
  pub group_fields : AllByRecursion (λ group. group.field < fields group.reducer) state.groups
  pub whole_fit : AllByRecursion (λ whole. suits whole.reducer state.columns ≡ true) state.wholes
  pub distinct : AreDistinct (dimension_ids state.dimensions)
  pub distinct_groups : AreDistinct (group_ids state.groups)
  pub distinct_wholes : AreDistinct (whole_ids state.wholes)
  pub live : AllByRecursion (λ group. is_taken (dimension_ids state.dimensions) group.dimension ≡ true) state.groups
  pub few_rows : length state.rows ≤ state.limits.rows
  pub few_entries : entry_count keys_of state state.rows ≤ state.limits.entries
  pub few_dimensions : length state.dimensions ≤ state.limits.dimensions
  pub few_groups : length state.groups + length state.wholes ≤ state.limits.groups
