-- None so far has the id.
use Rattle.std.proofs.Common.{◌≡◌, ℕ, ◌<◌, ◌==◌, false, get_or}
use Rattle.xf_engine.specs.declared.whole.Whole.{Whole}
use Rattle.xf_engine.proofs.whole.whole_place.Given as goal

abbrev pub invariant-loop-place : goal.invariant-loop-place
invariant-loop-place g l = (d : Whole g.row.R.Denot g.row.V.Denot) (k : ℕ) → k < l.place → ((get_or l.wholes k d).id.0 == l.id.0) ≡ false
