-- The row passes the dimensions so far.
use Rattle.std.proofs.Common.{◌≡◌, true, take}
use Rattle.xf_engine.specs.Held.{passes_each_at}
use Rattle.xf_engine.proofs.dimension.passes_each.Given as goal

abbrev pub invariant-loop-dimension : goal.invariant-loop-dimension
invariant-loop-dimension g l = passes_each_at g.P.Predicate.says_to (take l.dimension-index l.dimensions) l.place ≡ true
