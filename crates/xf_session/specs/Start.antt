-- The session with which a board begins, and that with which a CSV file begins.
use Rattle.std.specs.Prelude.{ℕ, List, [], ◌∷◌, codes, fold, map, Some, Result}
use Rattle.std.specs.List.{enumerate_from}
use Rattle.std.specs.Result.{result_map_both}
use Rattle.xf_access.specs.declared.stock_accessor.StockAccessor.TheVariants.{Column as ColumnOf}
use Rattle.xf_access.specs.declared.stock_rounding.StockRounding.TheVariants.{Same}
use Rattle.xf_base.specs.Bounds.{Bounds}
use Rattle.xf_base.specs.declared.column.Column.{Column}
use Rattle.xf_base.specs.declared.form.AtomForm.TheVariants.{Fixed}
use Rattle.xf_base.specs.declared.form.KeyForm.TheVariants.{One}
use Rattle.xf_board.specs.Board.{BoardParts}
use Rattle.xf_board.specs.Walk.{usual_colours}
use Rattle.xf_board.specs.declared.parts.DimensionSpec.{DimensionSpec}
use Rattle.xf_board.specs.declared.parts.GroupSpec.{GroupSpec}
use Rattle.xf_board.specs.declared.parts.WholeSpec.{WholeSpec}
use Rattle.xf_engine.specs.State.{no_events}
use Rattle.xf_model.specs.Replay.{state_after}
use Rattle.xf_reduce.specs.declared.simple.Simple.TheVariants.{Count}
use Rattle.xf_reduce.specs.declared.stock_reducer.StockReducer.TheVariants.{One as OneReducer}
use Rattle.xf_reply.specs.declared.refusal.Refusal.{Refusal}
use Rattle.xf_reply.specs.declared.refusal.Refusal.TheVariants as refusal
use Rattle.xf_script.specs.declared.command.CommandForm.TheVariants.{Order}
use Rattle.xf_session.specs.Command.{with_dimension, with_group, with_rows, with_whole}
use Rattle.xf_session.specs.Does.{outcome_within}
use Rattle.xf_session.specs.State.{Name, Session}
use Rattle.xf_sheet.specs.Sheet.{sheet_of}
use Rattle.xf_sheet.specs.SheetParts.{SheetParts}
use Rattle.xf_sheet.specs.declared.sheet.SheetRefusal.{SheetRefusal}
use Rattle.xf_sheet.specs.declared.sheet.SheetRefusal.TheVariants as sheet

-- ---- the session of a board

-- without dimensions, groups, wholes and records
abbrev pub bare_session : Bounds → BoardParts → Session
bare_session limits board = record {
  board = board;
  cross = record { columns = board.columns; limits = limits; rows = []; dimensions = []; groups = []; wholes = []; events = no_events };
  dimensions = [];
  groups = [];
  wholes = [];
}

-- with a dimension more, as the command `dimension` makes it
abbrev pub declare_dimension : Session → DimensionSpec → Session
declare_dimension s dimension = with_dimension s dimension.name dimension.from

-- with a group in the order by a field, as the command `order` puts it
abbrev pub in_order : Session → Name → ℕ → Session
in_order s name field = state_after s (outcome_within s (Order name (Some field)))

-- with a group more, as the commands `group` and `order` make it
abbrev pub declare_group : Session → GroupSpec → Session
declare_group s group = in_order (with_group s group.name group.of group.round group.reduce) group.name group.order

-- with a whole more, as the command `whole` makes it
abbrev pub declare_whole : Session → WholeSpec → Session
declare_whole s whole = with_whole s whole.name whole.reduce

-- all that a board declares, in its order
abbrev pub with_dimensions : Bounds → BoardParts → List DimensionSpec → Session
with_dimensions limits board dimensions = fold declare_dimension (bare_session limits board) dimensions

abbrev pub with_groups : Bounds → BoardParts → List GroupSpec → Session
with_groups limits board groups = fold declare_group (with_dimensions limits board board.dimensions) groups

abbrev pub with_wholes : Bounds → BoardParts → List WholeSpec → Session
with_wholes limits board wholes = fold declare_whole (with_groups limits board board.groups) wholes

abbrev pub board_session : Bounds → BoardParts → Session
board_session limits board = with_wholes limits board board.wholes

-- ---- the session of a CSV file

-- a dimension of the column of whole numbers at a place, under the column's name, and a group of that dimension, which counts
-- and has the same name
abbrev pub column_dimension : ℕ × Column → DimensionSpec
column_dimension (place, column) = record { name = column.name; from = ColumnOf place (One (Fixed 0)) }

abbrev pub column_group : Column → GroupSpec
column_group column = record { name = column.name; of = column.name; round = Same; reduce = OneReducer Count; order = 0 }

-- the whole that counts
abbrev pub all_whole : WholeSpec
all_whole = record { name = codes "all"; reduce = OneReducer Count }

-- the board of columns alone: each has a dimension and a group, and all are counted
abbrev pub standard_board : List Column → BoardParts
standard_board columns = record {
  title = [];
  columns = columns;
  dimensions = map column_dimension (enumerate_from 0 columns);
  groups = map column_group columns;
  wholes = all_whole ∷ [];
  charts = [];
  colours = usual_colours;
}

-- the session of a sheet: that of its columns' board, and then its records
abbrev pub start_of : Bounds → SheetParts → Session
start_of limits sheet = with_rows (board_session limits (standard_board sheet.columns)) sheet.rows

-- why a file is no sheet; memory that was refused is no cause: no definition has it, and its equation stands for nothing
abbrev pub cause_of_sheet : SheetRefusal → Refusal
cause_of_sheet sheet.NoHeader = refusal.NoHeader
cause_of_sheet (sheet.UnevenRecord number) = refusal.UnevenRecord number
cause_of_sheet (sheet.TooManyRecords more limit) = refusal.TooManyRecords 0 more limit
cause_of_sheet (sheet.TooManyEntries more limit) = refusal.TooManyEntries 0 more limit
cause_of_sheet sheet.OutOfMemory = refusal.NoHeader

-- the session of a file, or why it has none
abbrev pub csv_session : Bounds → List ℕ → Result Session Refusal
csv_session limits bytes = result_map_both (start_of limits) cause_of_sheet (sheet_of bytes limits)
