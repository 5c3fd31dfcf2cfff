use Rattle.std.proofs.Common.{length, take}
use Rattle.std.specs.List.{enumerate_from, range_with_len, zip}
use Rattle.xf_base.specs.Schema.{IsRowOf}
use Rattle.xf_load.proofs.FallibleFacts.{IsReadTo}
use Rattle.xf_load.specs.Load.{cell_at}
use Rattle.xf_session.proofs.records.row_of.Given as goal

-- the cells are those of the columns so far, and cells of these columns
abbrev pub invariant-loop-place : goal.invariant-loop-place
invariant-loop-place l = record {
  read : IsReadTo (cell_at 1 l.words) (enumerate_from 0 (zip l.columns (range_with_len 0 (length l.columns)))) l.cells.items l.place;
  of_columns : IsRowOf (take l.place l.columns) l.cells.items;
}
