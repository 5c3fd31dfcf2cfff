-- What is found so far are the distinct keys so far, ascending.
use Rattle.std.proofs.Common.{◌≡◌, take}
use Rattle.std.specs.Ordering.{int_cmp}
use Rattle.xf_model.specs.Group.{distinct_keys}
use Rattle.xf_model.proofs.group.distinct_keys.Given as goal

abbrev pub invariant-loop-key : goal.invariant-loop-key
invariant-loop-key l = l.found.items ≡ distinct_keys int_cmp (take l.key-index l.keys)
