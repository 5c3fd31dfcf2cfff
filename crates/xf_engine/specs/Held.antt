-- Only proofs and the contracts of private functions need this file: what a crossfilter keeps of its dimensions, groups and wholes.
use Rattle.std.specs.Prelude.{◌≡◌, ◌⊎◌, ℕ, ◌+◌, ◌<◌, ◌==◌, Bool, not, ◌||◌, List, [], ◌++◌, Option, length, map, sum_by, take, unwrap_or, slice_get}
use Rattle.std.specs.List.{AllByRecursion, find, list_all, list_any}
use Rattle.xf_base.specs.Gone.{kept}
use Rattle.xf_base.specs.Key.{key_cmp}
use Rattle.xf_base.specs.declared.cell.Cell.{Cell}
use Rattle.xf_base.specs.declared.column.Column.{Column}
use Rattle.xf_base.specs.declared.key.Key.{Key}
use Rattle.xf_base.specs.declared.kind.KeyKind.{KeyKind}
use Rattle.xf_engine.specs.Answers.{entries_of, keys_under, whole_meaning}
use Rattle.xf_engine.specs.Changes.{once_removed}
use Rattle.xf_engine.specs.State.{IsState, LiveDimension, LiveGroup, LiveWhole, State, entries_by, has_id}
use Rattle.xf_engine.specs.declared.add_refusal.AddRefusal.{AddRefusal}
use Rattle.xf_engine.specs.declared.add_refusal.AddRefusal.TheVariants.{OutOfMemory, TooManyEntries}
use Rattle.xf_engine.specs.declared.dimension.Dimension.{Dimension}
use Rattle.xf_engine.specs.declared.events.Events.{Events}
use Rattle.xf_engine.specs.declared.grouping.Grouping.{Grouping}
use Rattle.xf_engine.specs.declared.whole.Whole.{Whole}
use Rattle.xf_filter.specs.Filter.{filter_of}
use Rattle.xf_filter.specs.declared.filter.Filter.{Filter}
use Rattle.xf_filter.specs.declared.filter.Filter.TheVariants.{All}
use Rattle.xf_group.specs.Group.{Grouped, meanings}
use Rattle.xf_group.specs.Order.{order_field}
use Rattle.xf_model.specs.Group.{Reducer, rounded_keys}
use Rattle.xf_model.specs.Moved.{moved_keys}
use Rattle.xf_table.specs.Table.{Contents}

-- what a dimension and a group are seen as
abbrev pub live_dimension : {A P : Type 0} → Dimension A P → LiveDimension A P
live_dimension held = record { id = held.id.0; accessor = held.accessor; filter = held.filter }

abbrev pub live_group : {G R V : Type 0} → Grouping G (Grouped R V) → LiveGroup G R
live_group held = record {
  id = held.id.0;
  dimension = held.dimension.0;
  rounding = held.rounding;
  reducer = held.group.reducer;
  field = order_field held.order;
}

abbrev pub live_whole : {R V : Type 0} → Whole R V → LiveWhole R
live_whole held = record { id = held.id.0; reducer = held.reducer }

abbrev pub live_dimensions : {A P : Type 0} → List (Dimension A P) → List (LiveDimension A P)
live_dimensions held = map live_dimension held

abbrev pub live_groups : {G R V : Type 0} → List (Grouping G (Grouped R V)) → List (LiveGroup G R)
live_groups held = map live_group held

abbrev pub live_wholes : {R V : Type 0} → List (Whole R V) → List (LiveWhole R)
live_wholes held = map live_whole held

abbrev pub state_of : {A G P R V : Type 0} → Contents → List (Dimension A P) → List (Grouping G (Grouped R V)) → List (Whole R V) → Events → State A G P R
state_of table dimensions groups wholes events = record {
  columns = table.columns;
  limits = table.limits;
  rows = table.rows;
  dimensions = live_dimensions dimensions;
  groups = live_groups groups;
  wholes = live_wholes wholes;
  events = events;
}

-- the keys that a dimension holds are those of these rows
abbrev pub HoldsKeysOf : {A P : Type 0} → (A → List Cell → List Key) → List (List Cell) → Dimension A P → Type 0
HoldsKeysOf keys_of rows held = held.keys ≡ map (keys_of held.accessor) rows

-- the rounded keys of each row under a dimension, where it is one
abbrev pub places_under : {A P : Type 0} → (A → List Cell → List Key) → (Key → Key) → Option (LiveDimension A P) → List (List Cell) → List (List Key)
places_under keys_of round own rows = map (rounded_keys key_cmp round (keys_under keys_of own)) rows

-- the places of a group are these rows, each with its rounded keys under the group's dimension
abbrev pub HoldsPlacesOf : {A G P R V : Type 0} → (A → List Cell → List Key) → (G → Key → Key) → List (LiveDimension A P) → List (List Cell) → Grouping G (Grouped R V) → Type 0
HoldsPlacesOf keys_of rounded lives rows held = held.group.places ≡ places_under keys_of (rounded held.rounding) (find (has_id held.dimension.0) lives) rows

-- the places of a group are the rows of the state, and what its entries mean, and what the value of a whole means, are those of
-- the state
abbrev pub HoldsGroupOf : {A G P R V M : Type 0} → (A → List Cell → List Key) → (P → Key → Bool) → (G → Key → Key) → (V → M) → (R → Reducer (List Cell) M) → State A G P R → Grouping G (Grouped R V) → Type 0
HoldsGroupOf keys_of says rounded meaning_of folding state held =
    HoldsPlacesOf keys_of rounded state.dimensions state.rows held × (meanings meaning_of held.group.entries ≡ entries_of keys_of says rounded folding state (live_group held))

abbrev pub HoldsWholeOf : {A G P R V M : Type 0} → (A → List Cell → List Key) → (P → Key → Bool) → (V → M) → (R → Reducer (List Cell) M) → State A G P R → Whole R V → Type 0
HoldsWholeOf keys_of says meaning_of folding state held = meaning_of held.value ≡ whole_meaning keys_of says folding state (live_whole held)

-- what a crossfilter keeps: a state, each dimension's keys of each row, each group's places, and values that mean the folds
-- of the rows that are selected
pub record IsCross {A G P R V M : Type 0} (keys_of : A → List Cell → List Key) (fits_to : A → List Column → Bool) (kind_of : A → KeyKind) (says : P → Key → Bool) (keys_in : P → List Key) (rounded : G → Key → Key) (suits : R → List Column → Bool) (fields : R → ℕ) (meaning_of : V → M) (folding : R → Reducer (List Cell) M) (table : Contents) (dimensions : List (Dimension A P)) (groups : List (Grouping G (Grouped R V))) (wholes : List (Whole R V)) (events : Events) : Type 0 where
  pub state : IsState keys_of fits_to kind_of keys_in suits fields (state_of table dimensions groups wholes events)
  pub keys : AllByRecursion (HoldsKeysOf keys_of table.rows) dimensions
  pub entries : AllByRecursion (HoldsGroupOf keys_of says rounded meaning_of folding (state_of table dimensions groups wholes events)) groups
  pub values : AllByRecursion (HoldsWholeOf {G = G} keys_of says meaning_of folding (state_of table dimensions groups wholes events)) wholes

-- the keys that a dimension holds of the row at a place
abbrev pub keys_at : {A P : Type 0} → Dimension A P → ℕ → List Key
keys_at held place = unwrap_or (slice_get held.keys place) []

-- whether the keys of a row pass a filter
abbrev pub keys_pass : {P : Type 0} → (P → Key → Bool) → Filter P → List Key → Bool
keys_pass says filter keys = (filter_of says filter).is_all || list_any (filter_of says filter).holds keys

-- whether the row at a place passes a dimension, by the keys that it holds
abbrev pub passes_at : {A P : Type 0} → (P → Key → Bool) → ℕ → Dimension A P → Bool
passes_at says place held = keys_pass says held.filter (keys_at held place)

abbrev pub passes_each_at : {A P : Type 0} → (P → Key → Bool) → List (Dimension A P) → ℕ → Bool
passes_each_at says held place = list_all (passes_at says place) held

-- each dimension holds the keys of so many rows
abbrev pub HoldEach : {A P : Type 0} → ℕ → List (Dimension A P) → Type 0
HoldEach count held = AllByRecursion (λ dimension. length dimension.keys ≡ count) held

-- how many keys a dimension holds
abbrev pub held_count : {A P : Type 0} → Dimension A P → ℕ
held_count held = sum_by length held.keys

-- how much a new filter moves in a dimension, by the keys that it holds, and how much it may move: each key and each row
abbrev pub held_moved : {A P : Type 0} → (P → Key → Bool) → Filter P → Dimension A P → ℕ
held_moved says new held = sum_by (moved_keys (filter_of says held.filter) (filter_of says new)) held.keys

abbrev pub most_moved : {A P : Type 0} → Dimension A P → ℕ
most_moved held = held_count held + length held.keys

-- a dimension without its filter
abbrev pub held_unfiltered : {A P : Type 0} → Dimension A P → Dimension A P
held_unfiltered held = record held { filter = All }

-- a dimension with the keys of more rows
abbrev pub with_keys_of : {A P : Type 0} → (A → List Cell → List Key) → List (List Cell) → Dimension A P → Dimension A P
with_keys_of keys_of rows held = record held { keys = held.keys ++ map (keys_of held.accessor) rows }

-- a dimension with the keys of the first `count` rows alone
abbrev pub kept_keys : {A P : Type 0} → ℕ → Dimension A P → Dimension A P
kept_keys count held = record held { keys = take count held.keys }

-- a dimension with the keys of the rows that are not gone
abbrev pub retained_keys : {A P : Type 0} → List Bool → Dimension A P → Dimension A P
retained_keys gone held = record held { keys = kept gone held.keys }

-- without the rows that are gone
abbrev pub with_kept : {A G P R : Type 0} → List Bool → State A G P R → State A G P R
with_kept gone state = record state { rows = kept gone state.rows; events = once_removed state.events }

-- the ids of dimensions and groups
abbrev pub held_ids : {A P : Type 0} → List (Dimension A P) → List ℕ
held_ids held = map (λ dimension. dimension.id.0) held

abbrev pub held_group_ids : {G T : Type 0} → List (Grouping G T) → List ℕ
held_group_ids held = map (λ group. group.id.0) held

abbrev pub held_whole_ids : {R V : Type 0} → List (Whole R V) → List ℕ
held_whole_ids held = map (λ whole. whole.id.0) held

-- whether a group is of another dimension
abbrev pub is_elsewhere : {G T : Type 0} → ℕ → Grouping G T → Bool
is_elsewhere dimension group = not (group.dimension.0 == dimension)

-- how many keys more rows bring
abbrev pub more_count : {A P : Type 0} → (A → List Cell → List Key) → List (List Cell) → List (Dimension A P) → ℕ
more_count keys_of rows held = sum_by (λ dimension. entries_by keys_of rows dimension.accessor) held

-- memory is wanting, or there would be more entries than the limit
abbrev pub IsEntryRefusal : ℕ → ℕ → ℕ → AddRefusal → Type 0
IsEntryRefusal limit have more cause = (cause ≡ OutOfMemory) ⊎ ((cause ≡ TooManyEntries have more limit) × (limit < have + more))
