-- The records of a sheet, added to the session that begins on the board of its columns.
use Rattle.std.proofs.Common.{◌≡◌, ℕ, suc, ◌+◌, ◌*◌, ◌≤◌, nat_lt, false, List, [], ◌∷◌, ◌++◌, length, map, sum_by, fold, Option, Some, None, option_map, option_to_list, slice_get, refl, sym, ap, subst, ◌∙◌, arith}
use Rattle.std.proofs.lemmas.Bool.Decides.{nat_tests}
use Rattle.std.proofs.lemmas.List.Sums.{sum_by-append, sum_by-cons}
use Rattle.std.specs.List.{AllByRecursion, enumerate_from}
use Rattle.xf_access.specs.Stock.{atom_of_cell, keys_of_row}
use Rattle.xf_access.specs.declared.stock_accessor.StockAccessor.TheVariants.{Column as ColumnOf}
use Rattle.xf_base.specs.Bounds.{Bounds}
use Rattle.xf_base.specs.Cell.{cell_bytes, row_bytes}
use Rattle.xf_base.specs.Form.{key_of_atom}
use Rattle.xf_base.specs.Schema.{IsCellOf, IsRowOf}
use Rattle.xf_base.specs.declared.cell.Cell.{Cell}
use Rattle.xf_base.specs.declared.cell.Cell.TheVariants as cell
use Rattle.xf_base.specs.declared.column.Column.{Column}
use Rattle.xf_base.specs.declared.column.ColumnKind.{ColumnKind}
use Rattle.xf_base.specs.declared.column.ColumnKind.TheVariants as kind
use Rattle.xf_base.specs.declared.form.AtomForm.TheVariants.{Fixed}
use Rattle.xf_base.specs.declared.form.KeyForm.{KeyForm}
use Rattle.xf_base.specs.declared.form.KeyForm.TheVariants.{One}
use Rattle.xf_board.specs.Board.{BoardParts}
use Rattle.xf_board.specs.declared.parts.DimensionSpec.{DimensionSpec}
use Rattle.xf_board.specs.declared.parts.GroupSpec.{GroupSpec}
use Rattle.xf_engine.specs.Refusals.{add_refusal_of, table_of}
use Rattle.xf_engine.specs.State.{dimension_ids, entries_by, entry_count}
use Rattle.xf_filter.specs.declared.filter.Filter.TheVariants.{All}
use Rattle.xf_reply.specs.declared.refusal.Refusal.{Refusal}
use Rattle.xf_session.proofs.Declared.{StandsAt, either-way, wholes-stand}
use Rattle.xf_session.proofs.Named.{StockDimension}
use Rattle.xf_session.specs.Command.{free_id, with_group}
use Rattle.xf_session.specs.Start.{bare_session, board_session, column_dimension, declare_dimension, declare_group, in_order, standard_board, with_dimensions, with_groups}
use Rattle.xf_session.specs.State.{Name, Session}
use Rattle.xf_sheet.specs.SheetParts.{IsInt}
use Rattle.xf_table.proofs.Refusals.{no_mismatch-from_rows}
use Rattle.xf_table.specs.Append.{mismatch_of, refusal_of}
use Rattle.xf_table.specs.Table.{text_of_rows}

-- ---- entries

-- an option is one at most
one-at-most : {X : Type 0} (o : Option X) → length (option_to_list o) ≤ 1
one-at-most None = omega arith
one-at-most (Some x) = omega arith

-- a column has an entry at most for each row
entries-few : (place : ℕ) (own : KeyForm) (rows : List (List Cell)) → entries_by keys_of_row rows (ColumnOf place own) ≤ length rows
entries-few place own [] = omega arith
entries-few place own (row ∷ rows) =
    omega (arith, sum_by-cons (λ (r : List Cell). length (keys_of_row (ColumnOf place own) r)) row rows, one-at-most (option_map key_of_atom (atom_of_cell (slice_get row place))), entries-few place own rows)

-- so dimensions of columns have one at most for each row and column
dimensions-few : (rows : List (List Cell)) (s : Session) (start : ℕ) (columns : List Column)
    → entry_count keys_of_row (fold declare_dimension s (map column_dimension (enumerate_from start columns))).cross rows ≤ entry_count keys_of_row s.cross rows + length rows * length columns
dimensions-few rows s start [] = omega arith
dimensions-few rows s start (column ∷ columns) =
    let next = declare_dimension s (column_dimension (start, column)) in
    let own = entries-few start (One (Fixed 0)) rows in
    let more : entry_count keys_of_row next.cross rows ≡ entry_count keys_of_row s.cross rows + entries_by keys_of_row rows (ColumnOf start (One (Fixed 0))) =
    omega (arith, sum_by-append (λ (live : StockDimension). entries_by keys_of_row rows live.accessor) s.cross.dimensions (record { id = free_id (dimension_ids s.cross.dimensions); accessor = ColumnOf start (One (Fixed 0)); filter = All } ∷ [])) in
    let rest : entry_count keys_of_row (fold declare_dimension next (map column_dimension (enumerate_from (start + 1) columns))).cross rows ≤ entry_count keys_of_row next.cross rows + length rows * length columns =
    dimensions-few rows next (start + 1) columns in
    at-most (entry_count keys_of_row (fold declare_dimension next (map column_dimension (enumerate_from (start + 1) columns))).cross rows) (entry_count keys_of_row next.cross rows) (entry_count keys_of_row s.cross rows)
    (entries_by keys_of_row rows (ColumnOf start (One (Fixed 0)))) (length rows) (length columns) rest more own
  where
    at-most : (all next now own n m : ℕ) → all ≤ next + n * m → next ≡ now + own → own ≤ n → all ≤ now + n * suc m
    at-most all next now own n m a b c = omega (arith, a, b, c)

-- groups add none
order-keeps : (s : Session) (name : Name) (field : ℕ) (dimensions : List StockDimension) → s.cross.dimensions ≡ dimensions → (in_order s name field).cross.dimensions ≡ dimensions
order-keeps s name field dimensions is = either-way (λ (t : Session). t.cross.dimensions ≡ dimensions) s _ _ _ is is

groups-keep : (s : Session) (groups : List GroupSpec) → (fold declare_group s groups).cross.dimensions ≡ s.cross.dimensions
groups-keep s [] = refl
groups-keep s (group ∷ groups) =
    groups-keep (declare_group s group) groups
    ∙ order-keeps (with_group s group.name group.of group.round group.reduce) group.name group.order s.cross.dimensions refl

-- ---- the records

-- a cell of whole numbers holds no text
cell-no_text : (own : ColumnKind) (value : Cell) → own ≡ kind.Int → IsCellOf own value → cell_bytes value ≡ 0
cell-no_text own (cell.Num number) int of = refl
cell-no_text own (cell.Text text) int of = absurd (subst (λ k. IsCellOf k (cell.Text text)) int of)
cell-no_text own (cell.Tags tags) int of = absurd (subst (λ k. IsCellOf k (cell.Tags tags)) int of)

-- nor does a row of them
row-no_text : (columns : List Column) (row : List Cell) → AllByRecursion IsInt columns → IsRowOf columns row → row_bytes row ≡ 0
row-no_text [] [] ints of = refl
row-no_text [] (value ∷ row) ints of = absurd of
row-no_text (column ∷ columns) [] ints of = refl
row-no_text (column ∷ columns) (value ∷ row) ints of =
    omega (arith, sum_by-cons cell_bytes value row, cell-no_text column.kind value ints.0 of.0, row-no_text columns row ints.1 of.1)

-- nor do such rows
rows-no_text : (columns : List Column) (rows : List (List Cell)) → AllByRecursion IsInt columns → AllByRecursion (IsRowOf columns) rows → sum_by row_bytes rows ≡ 0
rows-no_text columns [] ints of = refl
rows-no_text columns (row ∷ rows) ints of =
    omega (arith, sum_by-cons row_bytes row rows, row-no_text columns row ints of.0, rows-no_text columns rows ints of.1)

-- the rows of a sheet are not refused
pub rows-taken : (columns : List Column) (limits : Bounds) (rows : List (List Cell)) (s : Session) → s ≡ board_session limits (standard_board columns) → AllByRecursion IsInt columns → AllByRecursion (IsRowOf columns) rows
    → length rows ≤ limits.rows → length rows * length columns ≤ limits.entries → add_refusal_of keys_of_row s.cross rows ≡ None
rows-taken columns limits rows s is ints of few fits =
    let board : BoardParts = standard_board columns in
    let stands : StandsAt limits board board.dimensions board.groups board.wholes s = rw is (wholes-stand limits board board.wholes) in
    let dimensions : s.cross.dimensions ≡ (with_dimensions limits board board.dimensions).cross.dimensions =
    ap (λ (t : Session). t.cross.dimensions) is ∙ groups-keep (with_dimensions limits board board.dimensions) board.groups in
    let counted : (list : List (List Cell)) → entry_count keys_of_row s.cross list ≤ length list * length columns =
    λ list.
    let few : entry_count keys_of_row (with_dimensions limits board board.dimensions).cross list ≤ entry_count keys_of_row (bare_session limits board).cross list + length list * length columns =
    dimensions-few list (bare_session limits board) 0 columns in
    let none : entry_count keys_of_row (bare_session limits board).cross list ≡ 0 = refl in
    let fewer : entry_count keys_of_row (with_dimensions limits board board.dimensions).cross list ≤ length list * length columns = omega (arith, few, none) in
    subst (λ (lives : List StockDimension). sum_by (λ (live : StockDimension). entries_by keys_of_row list live.accessor) lives ≤ length list * length columns) (sym dimensions) fewer in
    let many : nat_lt s.cross.limits.rows (length s.cross.rows + length rows) ≡ false = rw (stands.limits, stands.rows) (grind (arith, nat_tests, few)) in
    let much : nat_lt s.cross.limits.text_bytes (text_of_rows s.cross.rows + text_of_rows rows) ≡ false = rw stands.rows (grind (arith, nat_tests, rows-no_text columns rows ints of)) in
    let mismatch : mismatch_of s.cross.columns (enumerate_from 0 rows) ≡ None = rw stands.columns (no_mismatch-from_rows columns rows 0 of) in
    let table : refusal_of (table_of s.cross) rows ≡ None = rw (many, much) mismatch in
    let none = counted [] in
    let count = counted rows in
    let entries : nat_lt s.cross.limits.entries (entry_count keys_of_row s.cross s.cross.rows + entry_count keys_of_row s.cross rows) ≡ false =
    rw (stands.rows, stands.limits) (grind (arith, nat_tests, none, count, fits)) in
    rw (table, entries) refl
