-- The row passes the dimensions so far.
use Rattle.std.proofs.Common.{◌≡◌, true, map, take}
use Rattle.xf_model.specs.Dimension.{passes_each}
use Rattle.xf_model.specs.Plain.{plain_dimension}
use Rattle.xf_model.proofs.dimension.passes_each.Given as goal

abbrev pub invariant-loop-dimension : goal.invariant-loop-dimension
invariant-loop-dimension l = passes_each (map plain_dimension (take l.dimension-index l.dimensions)) l.row ≡ true
