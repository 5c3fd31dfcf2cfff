-- The columns so far have their groups.
use Rattle.std.proofs.Common.{◌≡◌, map, take}
use Rattle.xf_session.specs.Start.{column_group}
use Rattle.xf_session.proofs.standard.column_groups.Given as goal

abbrev pub invariant-loop-column : goal.invariant-loop-column
invariant-loop-column l = l.groups ≡ map column_group (take l.column-index l.column-items)
