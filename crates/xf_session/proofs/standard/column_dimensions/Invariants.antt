-- The columns so far have their dimensions.
use Rattle.std.proofs.Common.{◌≡◌, map, take}
use Rattle.std.specs.List.{enumerate_from}
use Rattle.xf_session.specs.Start.{column_dimension}
use Rattle.xf_session.proofs.standard.column_dimensions.Given as goal

abbrev pub invariant-loop-place : goal.invariant-loop-place
invariant-loop-place l = l.dimensions ≡ map column_dimension (enumerate_from 0 (take l.place l.schema))
