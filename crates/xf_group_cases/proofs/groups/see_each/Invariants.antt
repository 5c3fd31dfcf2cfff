-- The group has the places that it had.
use Rattle.std.proofs.Common.{◌≡◌}
use Rattle.xf_group_cases.proofs.groups.see_each.Given as goal

abbrev pub invariant-loop-seen : goal.invariant-loop-seen
invariant-loop-seen g l = l.group.places ≡ l.fn.group.places
