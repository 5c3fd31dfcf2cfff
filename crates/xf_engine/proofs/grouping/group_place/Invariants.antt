-- None so far has the id.
use Rattle.std.proofs.Common.{◌≡◌, ℕ, ◌<◌, ◌==◌, false, get_or}
use Rattle.xf_engine.specs.declared.grouping.Grouping.{Grouping}
use Rattle.xf_engine.proofs.grouping.group_place.Given as goal

abbrev pub invariant-loop-place : goal.invariant-loop-place
invariant-loop-place g l = (d : Grouping g.row.G.Denot g.row.T.Denot) (k : ℕ) → k < l.place → ((get_or l.groups k d).id.0 == l.id.0) ≡ false
