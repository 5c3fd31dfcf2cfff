-- When a crossfilter refuses, want of memory apart: the first cause that holds.
use Rattle.std.specs.Prelude.{ℕ, ◌+◌, nat_le, nat_lt, Bool, not, List, find, length, Option, Some, None, is_some, option_map, if◌then◌else◌, Result, Ok, Err}
use Rattle.xf_base.specs.declared.cell.Cell.{Cell}
use Rattle.xf_base.specs.declared.key.Key.{Key}
use Rattle.xf_base.specs.declared.kind.KeyKind.{KeyKind}
use Rattle.xf_engine.specs.State.{LiveDimension, LiveGroup, State, dimension_ids, dimension_named, entries_by, entry_count, is_taken}
use Rattle.xf_engine.specs.declared.add_refusal.AddRefusal.{AddRefusal}
use Rattle.xf_engine.specs.declared.add_refusal.AddRefusal.TheVariants as add
use Rattle.xf_engine.specs.declared.dimension_refusal.DimensionRefusal.{DimensionRefusal}
use Rattle.xf_engine.specs.declared.dimension_refusal.DimensionRefusal.TheVariants as dimension
use Rattle.xf_engine.specs.declared.filter_refusal.FilterRefusal.{FilterRefusal}
use Rattle.xf_engine.specs.declared.filter_refusal.FilterRefusal.TheVariants as filter
use Rattle.xf_engine.specs.declared.group_refusal.GroupRefusal.{GroupRefusal}
use Rattle.xf_engine.specs.declared.group_refusal.GroupRefusal.TheVariants as group
use Rattle.xf_engine.specs.declared.ids.DimensionId.{DimensionId}
use Rattle.xf_engine.specs.declared.ids.NoDimension.{NoDimension}
use Rattle.xf_engine.specs.declared.ids.NoGroup.{NoGroup}
use Rattle.xf_engine.specs.declared.ids.NoWhole.{NoWhole}
use Rattle.xf_engine.specs.declared.list_refusal.ListRefusal.{ListRefusal}
use Rattle.xf_engine.specs.declared.list_refusal.ListRefusal.TheVariants as listing
use Rattle.xf_engine.specs.declared.remove_refusal.RemoveRefusal.{RemoveRefusal}
use Rattle.xf_engine.specs.declared.remove_refusal.RemoveRefusal.TheVariants as remove
use Rattle.xf_engine.specs.declared.whole_refusal.WholeRefusal.{WholeRefusal}
use Rattle.xf_engine.specs.declared.whole_refusal.WholeRefusal.TheVariants as whole
use Rattle.xf_filter.specs.Filter.{filter_keys, first_other}
use Rattle.xf_filter.specs.declared.filter.Filter.{Filter}
use Rattle.xf_table.specs.Append.{refusal_of}
use Rattle.xf_table.specs.Table.{Contents}
use Rattle.xf_table.specs.declared.append_refusal.AppendRefusal.{AppendRefusal}
use Rattle.xf_table.specs.declared.append_refusal.AppendRefusal.TheVariants as table

-- a cause of the table as one of the crossfilter
abbrev pub as_add_refusal : AppendRefusal → AddRefusal
as_add_refusal (table.TooManyRecords have more limit) = add.TooManyRecords have more limit
as_add_refusal (table.TooMuchText have more limit) = add.TooMuchText have more limit
as_add_refusal (table.KindMismatch place column) = add.KindMismatch place column
as_add_refusal table.OutOfMemory = add.OutOfMemory

-- the crossfilter's table
abbrev pub table_of : {A G P R : Type 0} → State A G P R → Contents
table_of state = record { columns = state.columns; limits = state.limits; rows = state.rows }

-- why rows are not added that the table does not refuse, or why the table refuses them
abbrev pub add_refusal_after : {A G P R : Type 0} → (A → List Cell → List Key) → State A G P R → List (List Cell) → Option AppendRefusal → Option AddRefusal
add_refusal_after keys_of state rows (Some cause) = Some (as_add_refusal cause)
add_refusal_after keys_of state rows None =
    if nat_lt state.limits.entries (entry_count keys_of state state.rows + entry_count keys_of state rows)
    then Some (add.TooManyEntries (entry_count keys_of state state.rows) (entry_count keys_of state rows) state.limits.entries)
    else None

abbrev pub add_refusal_of : {A G P R : Type 0} → (A → List Cell → List Key) → State A G P R → List (List Cell) → Option AddRefusal
add_refusal_of keys_of state rows = add_refusal_after keys_of state rows (refusal_of (table_of state) rows)

abbrev pub dimension_refusal_of : {A G P R : Type 0} → (A → List Cell → List Key) → State A G P R → A → Option DimensionRefusal
dimension_refusal_of keys_of state accessor =
    if nat_le state.limits.dimensions (length state.dimensions) then Some (dimension.TooManyDimensions state.limits.dimensions)
    else if nat_lt state.limits.entries (entry_count keys_of state state.rows + entries_by keys_of state.rows accessor)
    then Some (dimension.TooManyEntries (entry_count keys_of state state.rows) (entries_by keys_of state.rows accessor) state.limits.entries)
    else None

-- whether one more group or whole may be: they are counted together
abbrev pub has_room_for_group : {A G P R : Type 0} → State A G P R → Bool
has_room_for_group state = nat_lt (length state.groups + length state.wholes) state.limits.groups

abbrev pub group_refusal_of : {A G P R : Type 0} → State A G P R → ℕ → Option GroupRefusal
group_refusal_of state id =
    if is_some (dimension_named state id)
    then (if has_room_for_group state then None else Some (group.TooManyGroups state.limits.groups))
    else Some (group.NoDimension id)

abbrev pub whole_refusal_of : {A G P R : Type 0} → State A G P R → Option WholeRefusal
whole_refusal_of state = if has_room_for_group state then None else Some (whole.TooManyGroups state.limits.groups)

-- the kind that a dimension wants, with the kind of the first key of a filter that is of another
abbrev pub wrong_kind : KeyKind → Option KeyKind → Option FilterRefusal
wrong_kind wanted given = option_map (filter.WrongKind wanted) given

-- why a filter is not set on the dimension of an id, if one is live
abbrev pub filter_refusal_for : {A P : Type 0} → (A → KeyKind) → (P → List Key) → ℕ → Filter P → Option (LiveDimension A P) → Option FilterRefusal
filter_refusal_for kind_of keys_in id new (Some live) = wrong_kind (kind_of live.accessor) (first_other (kind_of live.accessor) (filter_keys keys_in new))
filter_refusal_for kind_of keys_in id new None = Some (filter.NoDimension id)

abbrev pub filter_refusal_of : {A G P R : Type 0} → (A → KeyKind) → (P → List Key) → State A G P R → ℕ → Filter P → Option FilterRefusal
filter_refusal_of kind_of keys_in state id new = filter_refusal_for kind_of keys_in id new (dimension_named state id)

-- a cause of a filter as one of a removal
abbrev pub as_remove_refusal : FilterRefusal → RemoveRefusal
as_remove_refusal (filter.NoDimension id) = remove.NoDimension id
as_remove_refusal (filter.WrongKind wanted given) = remove.WrongKind wanted given
as_remove_refusal filter.OutOfMemory = remove.OutOfMemory

abbrev pub remove_refusal_of : {A G P R : Type 0} → (A → KeyKind) → (P → List Key) → State A G P R → ℕ → Filter P → Option RemoveRefusal
remove_refusal_of kind_of keys_in state id new = option_map as_remove_refusal (filter_refusal_of kind_of keys_in state id new)

-- the first of some ids that no live dimension has
abbrev pub first_missing : {A G P R : Type 0} → State A G P R → List ℕ → Option ℕ
first_missing state ids = find (λ id. not (is_taken (dimension_ids state.dimensions) id)) ids

-- why the places of rows are not listed while some dimensions are ignored
abbrev pub ignored_refusal_of : {A G P R : Type 0} → State A G P R → List ℕ → Option ListRefusal
ignored_refusal_of state ignored = option_map listing.NoDimension (first_missing state ignored)

-- an answer about an id that may not be live
abbrev pub unless_none : {X E : Type 0} → E → Option X → Result X E
unless_none error (Some answer) = Ok answer
unless_none error None = Err error

abbrev pub no_dimension : ℕ → NoDimension
no_dimension id = record { id = id }

abbrev pub no_group : ℕ → NoGroup
no_group id = record { id = id }

abbrev pub no_whole : ℕ → NoWhole
no_whole id = record { id = id }

-- the id of a group's dimension
abbrev pub dimension_id : {G R : Type 0} → LiveGroup G R → DimensionId
dimension_id group = record { 0 = group.dimension }
