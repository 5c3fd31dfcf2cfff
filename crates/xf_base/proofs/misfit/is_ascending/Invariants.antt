use Rattle.std.proofs.Common.{◌≡◌, length}
use Rattle.xf_base.specs.Schema.{is_ascending}
use Rattle.xf_base.proofs.misfit.is_ascending.Given as goal

-- the texts ascend where those that are left do
abbrev pub invariant-loop-text : goal.invariant-loop-text
invariant-loop-text l = is_ascending l.rest ≡ is_ascending l.texts

abbrev pub decreases-loop-text : goal.decreases-loop-text
decreases-loop-text l = length l.rest
