-- What each command does in a state: why it is refused, or the state after it and its answer.
--
-- The causes of a refusal stand in the order in which they are tried. What an equation says of a name that is not live has
-- no effect, since the cause for that stands in its list.
use Rattle.std.specs.Prelude.{◌≡◌, ◌⊎◌, ℕ, ◌+◌, ◌==◌, nat_le, nat_lt, Bool, not, if◌then◌else◌, List, [], ◌∷◌, ◌++◌, filter, find, length, map, Option, Some, None, is_none, is_some, option_and_then, option_map, slice_get, unwrap_or, Result, Ok, Err}
use Rattle.std.specs.FinMap as map_of
use Rattle.std.specs.List.{range_with_len}
use Rattle.std.specs.Ordering.{is_eq}
use Rattle.std.specs.Result.{result_unwrap_or}
use Rattle.std.specs.Str.{bytes_eq}
use Rattle.xf_access.specs.Round.{rounded_key}
use Rattle.xf_access.specs.Stock.{form_of, keys_of_row}
use Rattle.xf_access.specs.declared.stock_accessor.StockAccessor.{StockAccessor}
use Rattle.xf_access.specs.declared.stock_rounding.StockRounding.{StockRounding}
use Rattle.xf_base.specs.Form.{key_of_word}
use Rattle.xf_base.specs.Key.{key_cmp}
use Rattle.xf_base.specs.Kind.{kind_of_key_form}
use Rattle.xf_base.specs.declared.cell.Cell.{Cell}
use Rattle.xf_base.specs.declared.column.Column.{Column}
use Rattle.xf_base.specs.declared.form.AtomForm.TheVariants.{Text}
use Rattle.xf_base.specs.declared.form.KeyForm.{KeyForm}
use Rattle.xf_base.specs.declared.form.KeyForm.TheVariants.{One}
use Rattle.xf_base.specs.declared.key.Key.{Key}
use Rattle.xf_columns.specs.Columns.{accessor_of, applies, reducer_of, rounding_of}
use Rattle.xf_engine.specs.Answers as answer
use Rattle.xf_engine.specs.Changes as change
use Rattle.xf_engine.specs.State.{LiveGroup, dimension_ids, entries_by, entry_count, group_ids, group_named, is_taken, whole_ids, whole_named}
use Rattle.xf_engine.specs.declared.ids.GroupId.{GroupId}
use Rattle.xf_filter.specs.Filter.{filter_keys, first_other, item_keys}
use Rattle.xf_filter.specs.Resolving.{resolved, resolved_item}
use Rattle.xf_filter.specs.Stock.{stock_keys, stock_says}
use Rattle.xf_filter.specs.Toggle.{toggled}
use Rattle.xf_filter.specs.declared.filter.Filter.TheVariants.{All}
use Rattle.xf_load.specs.Load.{row_of, rows_of}
use Rattle.xf_load.specs.declared.load.LoadRefusal.{LoadRefusal}
use Rattle.xf_load.specs.declared.load.LoadRefusal.TheVariants as load
use Rattle.xf_model.specs.Replay.{skipped, refused, accepted}
use Rattle.xf_outside.specs.Account.{Files}
use Rattle.xf_reduce.specs.StockReducer.{stock_decimals, stock_field, stock_field_count, stock_of}
use Rattle.xf_reduce.specs.declared.simple.SimpleMeaning.{SimpleMeaning}
use Rattle.xf_reduce.specs.declared.stock_reducer.StockReducer.{StockReducer}
use Rattle.xf_reply.specs.declared.answer.Field.{Field}
use Rattle.xf_reply.specs.declared.refusal.Refusal.{Refusal}
use Rattle.xf_reply.specs.declared.refusal.Refusal.TheVariants as refusal
use Rattle.xf_reply.specs.declared.reply.Change.TheVariants.{Plain, Added, Removed, Moved}
use Rattle.xf_script.specs.Grammar.{Read, form_of_line}
use Rattle.xf_script.specs.declared.command.CommandForm.{CommandForm}
use Rattle.xf_script.specs.declared.command.CommandForm.TheVariants as form
use Rattle.xf_script.specs.declared.line_refusal.LineRefusal.{LineRefusal}
use Rattle.xf_script.specs.declared.line_refusal.LineRefusal.TheVariants as line
use Rattle.xf_session.specs.Columns.{accessor_causes, reducer_causes}
use Rattle.xf_session.specs.Outcome.{Answer, KeyFields, Outcome, Changes, Records, Entries, Entry, Number, Counts, Nothing}
use Rattle.xf_session.specs.State.{Name, Session, StockFilter, StockState, dimension_id_of, group_id_of, named, naming_of, whole_id_of}
use Rattle.xf_session.specs.declared.naming.Naming.{Naming}
use Rattle.xf_table.specs.Table.{text_of_rows}

-- ---- causes

-- the first that holds
abbrev pub first_cause : List (Option Refusal) → Option Refusal
first_cause [] = None
first_cause (Some cause ∷ causes) = Some cause
first_cause (None ∷ causes) = first_cause causes

abbrev pub unless_refused : Option Refusal → Session → Answer → Outcome
unless_refused (Some cause) state answer = refused cause
unless_refused None state answer = accepted state answer

-- refused for the first of these causes that holds, or else accepted
abbrev pub unless : List (Option Refusal) → Session → Answer → Outcome
unless causes state answer = unless_refused (first_cause causes) state answer

-- a cause, where a test says so
abbrev pub where_so : Bool → Refusal → Option Refusal
where_so holds cause = if holds then Some cause else None

-- names that no live thing has, and names that one has already
abbrev pub no_dimension : Session → Name → Option Refusal
no_dimension s name = where_so (is_none (named s.dimensions name)) (refusal.NoDimension name)

abbrev pub no_group : Session → Name → Option Refusal
no_group s name = where_so (is_none (named s.groups name)) (refusal.NoGroup name)

abbrev pub no_whole : Session → Name → Option Refusal
no_whole s name = where_so (is_none (named s.wholes name)) (refusal.NoWhole name)

abbrev pub dimension_taken : Session → Name → Option Refusal
dimension_taken s name = where_so (is_some (named s.dimensions name)) (refusal.NameTaken name)

abbrev pub group_taken : Session → Name → Option Refusal
group_taken s name = where_so (is_some (named s.groups name)) (refusal.NameTaken name)

abbrev pub whole_taken : Session → Name → Option Refusal
whole_taken s name = where_so (is_some (named s.wholes name)) (refusal.NameTaken name)

-- how many fields the reducer of the group of an id has
abbrev pub group_field_count : Session → ℕ → ℕ
group_field_count s id = unwrap_or (option_map (λ group. stock_field_count group.reducer) (group_named s.cross id)) 0

-- the first of some keys that is of another kind than those of a dimension
abbrev pub wrong_kind : Session → Name → List Key → Option Refusal
wrong_kind s name keys = let kind = kind_of_key_form (naming_of s name).form in option_map (refusal.WrongKind kind) (first_other kind keys)

-- rows that would be too many, or have too much text or too many entries
abbrev pub too_many_records : Session → List (List Cell) → Option Refusal
too_many_records s rows =
    where_so (nat_lt s.cross.limits.rows (length s.cross.rows + length rows))
    (refusal.TooManyRecords (length s.cross.rows) (length rows) s.cross.limits.rows)

abbrev pub too_much_text : Session → List (List Cell) → Option Refusal
too_much_text s rows =
    where_so (nat_lt s.cross.limits.text_bytes (text_of_rows s.cross.rows + text_of_rows rows))
    (refusal.TooMuchText (text_of_rows s.cross.rows) (text_of_rows rows) s.cross.limits.text_bytes)

-- the entries that all dimensions have, with so many more
abbrev pub too_many_entries : Session → ℕ → Option Refusal
too_many_entries s more =
    where_so (nat_lt s.cross.limits.entries (entry_count keys_of_row s.cross s.cross.rows + more))
    (refusal.TooManyEntries (entry_count keys_of_row s.cross s.cross.rows) more s.cross.limits.entries)

abbrev pub too_much : Session → List (List Cell) → List (Option Refusal)
too_much s rows = too_many_records s rows ∷ too_much_text s rows ∷ too_many_entries s (entry_count keys_of_row s.cross rows) ∷ []

-- dimensions, or groups and wholes together, that are as many as there may be
abbrev pub too_many_dimensions : Session → Option Refusal
too_many_dimensions s = where_so (nat_le s.cross.limits.dimensions (length s.dimensions)) (refusal.TooManyDimensions s.cross.limits.dimensions)

abbrev pub too_many_groups : Session → Option Refusal
too_many_groups s = where_so (nat_le s.cross.limits.groups (length s.groups + length s.wholes)) (refusal.TooManyGroups s.cross.limits.groups)

-- a field that the reducer of a group does not have
abbrev pub no_field : Session → Name → ℕ → Option Refusal
no_field s name field = where_so (nat_le (group_field_count s (group_id_of s name)) field) (refusal.NoField field)

-- ---- records that come

-- the name of the column at a place
abbrev pub column_name : List Column → ℕ → Name
column_name columns place = unwrap_or (option_map (λ column. column.name) (slice_get columns place)) []

-- why a file, or the words of a record, are refused
abbrev pub as_refusal : List Column → LoadRefusal → Refusal
as_refusal columns load.NoHeader = refusal.NoHeader
as_refusal columns (load.MissingColumn place) = refusal.MissingColumn (column_name columns place)
as_refusal columns (load.UnevenRecord number) = refusal.UnevenRecord number
as_refusal columns (load.BadCell number place why) = refusal.BadCell number (column_name columns place) why
as_refusal columns load.OutOfMemory = refusal.NoHeader

abbrev pub bad_rows : {X : Type 0} → List Column → Result X LoadRefusal → Option Refusal
bad_rows columns (Ok rows) = None
bad_rows columns (Err cause) = Some (as_refusal columns cause)

-- the bytes of a file, and its rows
abbrev pub bytes_of : Files → Name → List ℕ
bytes_of files file = unwrap_or (map_of.get files file) []

abbrev pub rows_in : Session → Files → Name → List (List Cell)
rows_in s files file = result_unwrap_or (rows_of s.cross.columns (bytes_of files file)) []

abbrev pub absent : Files → Name → Option Refusal
absent files file = where_so (is_none (map_of.get files file)) (refusal.Absent file)

abbrev pub too_long : Session → Files → Name → Option Refusal
too_long s files file =
    where_so (nat_lt s.cross.limits.file_bytes (length (bytes_of files file))) (refusal.TooLong file s.cross.limits.file_bytes)

-- the row of words: each is read as the field of its column in record 1
abbrev pub row_of_words : List Column → List (List ℕ) → Result (List Cell) LoadRefusal
row_of_words columns words = row_of columns (range_with_len 0 (length columns)) (length words) (1, words)

abbrev pub row_named : Session → List (List ℕ) → List Cell
row_named s words = result_unwrap_or (row_of_words s.cross.columns words) []

abbrev pub wrong_cells : Session → List (List ℕ) → Option Refusal
wrong_cells s words =
    where_so (not (length words == length s.cross.columns)) (refusal.WrongCells (length s.cross.columns) (length words))

-- ---- changes

abbrev pub with_cross : Session → StockState → Session
with_cross s cross = record s { cross = cross }

abbrev pub with_rows : Session → List (List Cell) → Session
with_rows s rows = with_cross s (change.with_rows s.cross rows)

-- with another filter on a dimension, and how much that moves
abbrev pub with_filter : Session → Name → StockFilter → Session
with_filter s name new = with_cross s (change.with_filter s.cross (dimension_id_of s name) new)

abbrev pub moved : Session → Name → StockFilter → ℕ
moved s name new = unwrap_or (answer.moved_by keys_of_row stock_says s.cross (dimension_id_of s name) new) 0

-- the filter that is set on a dimension
abbrev pub filter_on : Session → Name → StockFilter
filter_on s name = unwrap_or (answer.filter_named s.cross (dimension_id_of s name)) All

-- the least number that is not among some
abbrev pub free_id : List ℕ → ℕ
free_id ids = unwrap_or (find (λ id. not (is_taken ids id)) (range_with_len 0 (length ids + 1))) 0

-- with a dimension more, which is the last and has no filter
abbrev pub with_dimension : Session → Name → StockAccessor → Session
with_dimension s name accessor = let id = free_id (dimension_ids s.cross.dimensions) in record s {
  cross = change.with_dimension s.cross id accessor;
  dimensions = s.dimensions ++ (name, record { id = record { 0 = id }; form = form_of accessor }) ∷ [];
}

-- with a group more
abbrev pub with_group : Session → Name → Name → StockRounding → StockReducer → Session
with_group s name dimension rounding reducer = let id = free_id (group_ids s.cross.groups) in record s {
  cross = change.with_group s.cross id (dimension_id_of s dimension) rounding reducer;
  groups = s.groups ++ (name, record { 0 = id }) ∷ [];
}

-- with a whole more
abbrev pub with_whole : Session → Name → StockReducer → Session
with_whole s name reducer = let id = free_id (whole_ids s.cross.wholes) in record s {
  cross = change.with_whole s.cross id reducer;
  wholes = s.wholes ++ (name, record { 0 = id }) ∷ [];
}

-- names without one of them
abbrev pub without_name : {A : Type 0} → Name → List (Name × A) → List (Name × A)
without_name {A = A} gone names = filter (λ (entry : Name × A). not (bytes_eq gone entry.0)) names

-- the names of the groups that a crossfilter has
abbrev pub live_groups : StockState → List (Name × GroupId) → List (Name × GroupId)
live_groups cross names = filter (λ (entry : Name × GroupId). is_taken (group_ids cross.groups) entry.1.0) names

-- without a dimension and its groups
abbrev pub without_dimension : Session → Name → Session
without_dimension s name = let after = change.without_dimension s.cross (dimension_id_of s name) in record s {
  cross = after;
  dimensions = without_name name s.dimensions;
  groups = live_groups after s.groups;
}

abbrev pub without_group : Session → Name → Session
without_group s name = record s {
  cross = change.without_group s.cross (group_id_of s name);
  groups = without_name name s.groups;
}

abbrev pub without_whole : Session → Name → Session
without_whole s name = record s {
  cross = change.without_whole s.cross (whole_id_of s name);
  wholes = without_name name s.wholes;
}

-- ---- answers

-- the rows at places, each with its place
abbrev pub placed_at : List (List Cell) → List ℕ → List (ℕ × List Cell)
placed_at rows places = map (λ place. (place, unwrap_or (slice_get rows place) [])) places

-- the records at places
abbrev pub records_at : Session → List ℕ → Answer
records_at s places = Records s.cross.columns (placed_at s.cross.rows places)

-- an offset that is left out is 0
abbrev pub top_at : Session → Name → ℕ → Option ℕ → Answer
top_at s name count offset =
    records_at s (unwrap_or (answer.top_of keys_of_row stock_says s.cross (dimension_id_of s name) count (unwrap_or offset 0)) [])

abbrev pub bottom_at : Session → Name → ℕ → Option ℕ → Answer
bottom_at s name count offset =
    records_at s (unwrap_or (answer.bottom_of keys_of_row stock_says s.cross (dimension_id_of s name) count (unwrap_or offset 0)) [])

abbrev pub records_but : Session → List Name → Answer
records_but s ignored = records_at s (answer.all_filtered_of keys_of_row stock_says s.cross (map (λ name. dimension_id_of s name) ignored))

-- the form of the keys of the dimension of an id
abbrev pub form_named : Session → ℕ → Option KeyForm
form_named s id = option_map (λ (entry : Name × Naming). entry.1.form) (find (λ (entry : Name × Naming). entry.1.id.0 == id) s.dimensions)

-- that of the group of an id is that of its dimension; as texts where there is no such group
abbrev pub group_form : Session → ℕ → KeyForm
group_form s id = unwrap_or (option_and_then (λ group. form_named s group.dimension) (group_named s.cross id)) (One Text)

-- what a reducer of the stock keeps
abbrev pub Kept : Type 0
Kept = SimpleMeaning × SimpleMeaning

-- the fields of it, each with its decimals
abbrev pub fields_of : List Column → StockReducer → Kept → List Field
fields_of columns reducer meaning =
    map (λ field. record { number = stock_field reducer meaning field; decimals = stock_decimals reducer columns field }) (range_with_len 0 (stock_field_count reducer))

abbrev pub with_fields : List Column → StockReducer → List (Key × Kept) → List KeyFields
with_fields columns reducer entries = map (λ (entry : Key × Kept). (entry.0, fields_of columns reducer entry.1)) entries

-- all entries of a group, and the first by its order
abbrev pub entries_of : Session → LiveGroup StockRounding StockReducer → List KeyFields
entries_of s group = with_fields s.cross.columns group.reducer (answer.entries_of keys_of_row stock_says rounded_key stock_of s.cross group)

abbrev pub top_of : Session → ℕ → LiveGroup StockRounding StockReducer → List KeyFields
top_of s count group = with_fields s.cross.columns group.reducer (answer.top_entries keys_of_row stock_says rounded_key stock_of stock_field s.cross count group)

-- those of the group of an id
abbrev pub group_entries : Session → ℕ → List KeyFields
group_entries s id = unwrap_or (option_map (entries_of s) (group_named s.cross id)) []

abbrev pub group_tops : Session → ℕ → ℕ → List KeyFields
group_tops s id count = unwrap_or (option_map (top_of s count) (group_named s.cross id)) []

abbrev pub entries_at : Session → ℕ → Answer
entries_at s id = Entries (group_form s id) (group_entries s id)

abbrev pub tops_at : Session → ℕ → ℕ → Answer
tops_at s id count = Entries (group_form s id) (group_tops s id count)

-- the entry of the key that a word names
abbrev pub entry_at : Session → ℕ → List ℕ → Answer
entry_at s id word =
    Entry (group_form s id) (find (λ (entry : KeyFields). is_eq (key_cmp entry.0 (key_of_word (group_form s id) word))) (group_entries s id))

-- the fields of the whole of an id
abbrev pub whole_fields : Session → ℕ → List Field
whole_fields s id =
    unwrap_or (option_map (λ whole. fields_of s.cross.columns whole.reducer (answer.whole_meaning keys_of_row stock_says stock_of s.cross whole)) (whole_named s.cross id)) []

-- ---- the commands

abbrev pub added : ℕ → Answer
added count = Changes (Added count)

abbrev pub removed : ℕ → Answer
removed count = Changes (Removed count)

abbrev pub moving : ℕ → Answer
moving count = Changes (Moved count)

abbrev pub plain : Answer
plain = Changes Plain

abbrev pub outcome_of : Files → Session → CommandForm → Outcome
outcome_of files s (form.Load file) = let rows = rows_in s files file in
    unless (absent files file ∷ too_long s files file ∷ bad_rows s.cross.columns (rows_of s.cross.columns (bytes_of files file)) ∷ too_much s rows)
    (with_rows s rows) (added (length rows))
outcome_of files s (form.Add words) = let row = row_named s words in
    unless (wrong_cells s words ∷ bad_rows s.cross.columns (row_of_words s.cross.columns words) ∷ too_much s (row ∷ []))
    (with_rows s (row ∷ [])) (added 1)
outcome_of files s (form.Filter name words) = let new = resolved (naming_of s name).form words in
    unless (no_dimension s name ∷ wrong_kind s name (filter_keys stock_keys new) ∷ [])
    (with_filter s name new) (moving (moved s name new))
outcome_of files s (form.Toggle name words) = let item = resolved_item (naming_of s name).form words in let new = toggled (filter_on s name) item in
    unless (no_dimension s name ∷ wrong_kind s name (item_keys item) ∷ [])
    (with_filter s name new) (moving (moved s name new))
outcome_of files s (form.Clear name) =
    unless (no_dimension s name ∷ [])
    (with_filter s name All) (moving (moved s name All))
outcome_of files s form.ClearAll =
    accepted (with_cross s (change.without_filters s.cross)) (moving (answer.moved_by_clearing keys_of_row stock_says s.cross))
outcome_of files s form.RemovePassing =
    accepted (with_cross s (change.without_passing keys_of_row stock_says s.cross)) (removed (answer.passing_count keys_of_row stock_says s.cross))
outcome_of files s (form.RemoveWhere name words) = let id = dimension_id_of s name in let given = resolved (naming_of s name).form words in
    unless (no_dimension s name ∷ wrong_kind s name (filter_keys stock_keys given) ∷ [])
    (with_cross s (change.without_where keys_of_row stock_says s.cross id given))
    (removed (unwrap_or (answer.passing_under keys_of_row stock_says s.cross id given) 0))
outcome_of files s (form.Dimension name words) = let accessor = accessor_of s.cross.columns words in
    unless (dimension_taken s name ∷ accessor_causes s.cross.columns words
    ++ too_many_dimensions s ∷ too_many_entries s (entries_by keys_of_row s.cross.rows accessor) ∷ [])
    (with_dimension s name accessor) plain
outcome_of files s (form.Group name dimension words reducer) = let rounding = rounding_of words in
    unless (group_taken s name ∷ no_dimension s dimension ∷ where_so (not (applies rounding (naming_of s dimension).form)) refusal.WrongRounding
    ∷ reducer_causes s.cross.columns reducer ++ too_many_groups s ∷ [])
    (with_group s name dimension rounding (reducer_of s.cross.columns reducer)) plain
outcome_of files s (form.Whole name reducer) =
    unless (whole_taken s name ∷ reducer_causes s.cross.columns reducer ++ too_many_groups s ∷ [])
    (with_whole s name (reducer_of s.cross.columns reducer)) plain
outcome_of files s (form.Order name field) = let place = unwrap_or field 0 in
    unless (no_group s name ∷ no_field s name place ∷ [])
    (with_cross s (change.with_order s.cross (group_id_of s name) place)) plain
outcome_of files s (form.DisposeDimension name) =
    unless (no_dimension s name ∷ [])
    (without_dimension s name) (moving (moved s name All))
outcome_of files s (form.DisposeGroup name) =
    unless (no_group s name ∷ [])
    (without_group s name) plain
outcome_of files s (form.DisposeWhole name) =
    unless (no_whole s name ∷ [])
    (without_whole s name) plain
outcome_of files s (form.Top name count offset) = unless (no_dimension s name ∷ []) s (top_at s name count offset)
outcome_of files s (form.Bottom name count offset) = unless (no_dimension s name ∷ []) s (bottom_at s name count offset)
outcome_of files s (form.Groups name) = unless (no_group s name ∷ []) s (entries_at s (group_id_of s name))
outcome_of files s (form.GroupTop name count) = unless (no_group s name ∷ []) s (tops_at s (group_id_of s name) count)
outcome_of files s (form.Value name key) = unless (no_group s name ∷ []) s (entry_at s (group_id_of s name) key)
outcome_of files s (form.Records names) = unless (map (no_dimension s) names) s (records_but s names)
outcome_of files s form.Size = accepted s (Number (length s.cross.rows))
outcome_of files s form.Passing = accepted s (Number (answer.passing_count keys_of_row stock_says s.cross))
outcome_of files s form.Events = accepted s (Counts s.cross.events)
outcome_of files s (form.Note words) = accepted s Nothing

-- ---- lines

-- why a line says no command; memory that was refused is no cause
abbrev pub cause_of_line : LineRefusal → Refusal
cause_of_line (line.TooLong length) = refusal.LineTooLong length
cause_of_line (line.NotText place) = refusal.NotText place
cause_of_line line.Verb = refusal.UnknownVerb
cause_of_line (line.Word number) = refusal.BadWord number
cause_of_line (line.TooDeep number) = refusal.TooDeep number
cause_of_line line.OutOfMemory = refusal.UnknownVerb

abbrev pub outcome_read : Files → Session → Read (Option CommandForm) → Outcome
outcome_read files s (Err cause) = refused (cause_of_line cause)
outcome_read files s (Ok None) = skipped
outcome_read files s (Ok (Some form)) = outcome_of files s form

-- what a line does in a state, where the files are these
abbrev pub command : Files → Session → List ℕ → Outcome
command files s line = outcome_read files s (form_of_line line)

-- a line is a `load` of a file
abbrev pub Loads : List ℕ → Name → Type 0
Loads line file = form_of_line line ≡ Ok (Some (form.Load file))

-- the files that a depot tells are these, or the line asks for none
abbrev pub Tells : Option Files → Files → List ℕ → Type 0
Tells told files line = (told ≡ Some files) ⊎ ((file : Name) → Loads line file → ⊥)

-- the same for a command
abbrev pub TellsFor : Option Files → Files → CommandForm → Type 0
TellsFor told files given = (told ≡ Some files) ⊎ ((file : Name) → given ≡ form.Load file → ⊥)
