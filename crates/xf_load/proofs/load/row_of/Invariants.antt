-- The cells are those of the columns so far, and cells of these columns.
use Rattle.std.proofs.Common.{◌≡◌, length, take, vec_len}
use Rattle.std.specs.List.{enumerate_from, zip}
use Rattle.csv.specs.Records.{fields_of}
use Rattle.xf_base.specs.Schema.{IsRowOf}
use Rattle.xf_load.specs.Load.{cell_at}
use Rattle.xf_load.proofs.FallibleFacts.{IsReadTo}
use Rattle.xf_load.proofs.load.row_of.Given as goal

abbrev pub invariant-loop-column : goal.invariant-loop-column
invariant-loop-column l = record {
  read : IsReadTo (cell_at l.number (fields_of l.fields)) (enumerate_from 0 (zip l.columns l.places)) l.cells.items (length l.yielded);
  count : vec_len l.cells ≡ length l.yielded;
  of_columns : IsRowOf (take (length l.yielded) l.columns) l.cells.items;
}
