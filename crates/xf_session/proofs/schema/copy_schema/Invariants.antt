-- The columns so far are copied.
use Rattle.std.proofs.Common.{◌≡◌, take}
use Rattle.xf_session.proofs.schema.copy_schema.Given as goal

abbrev pub invariant-loop-column : goal.invariant-loop-column
invariant-loop-column l = l.copy ≡ take l.column-index l.column-items
