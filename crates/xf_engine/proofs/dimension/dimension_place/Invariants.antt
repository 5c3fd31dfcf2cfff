-- None so far has the id.
use Rattle.std.proofs.Common.{◌≡◌, ℕ, ◌<◌, ◌==◌, false, get_or}
use Rattle.xf_engine.specs.declared.dimension.Dimension.{Dimension}
use Rattle.xf_engine.proofs.dimension.dimension_place.Given as goal

abbrev pub invariant-loop-place : goal.invariant-loop-place
invariant-loop-place g l = (d : Dimension g.row.A.Denot g.row.P.Denot) (k : ℕ) → k < l.place → ((get_or l.dimensions k d).id.0 == l.id.0) ≡ false
