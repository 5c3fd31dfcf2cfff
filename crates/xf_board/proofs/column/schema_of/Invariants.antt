-- The schema has the columns that were taken.
use Rattle.std.proofs.Common.{◌≡◌}
use Rattle.xf_board.proofs.column.schema_of.Given as goal

abbrev pub invariant-loop-column : goal.invariant-loop-column
invariant-loop-column l = l.schema ≡ l.yielded
