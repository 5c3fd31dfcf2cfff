-- One key ascends.
use Rattle.xf_group_cases.proofs.Turning.{one_ascends}
use Rattle.xf_group_cases.proofs.groups.key_of.Goals as goal

pub returns : goal.returns
returns c = one_ascends _ _ _ c.new-keys.ensures c.in_ok-push.ensures.ok
