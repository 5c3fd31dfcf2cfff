-- What is found so far are the distinct pairs so far, ascending.
use Rattle.std.proofs.Common.{◌≡◌, take}
use Rattle.std.specs.Ordering.{int_cmp}
use Rattle.xf_model.specs.Bottom.{pair_cmp}
use Rattle.xf_model.specs.Group.{distinct_keys}
use Rattle.xf_model.proofs.bottom.ascending_pairs.Given as goal

abbrev pub invariant-loop-pair : goal.invariant-loop-pair
invariant-loop-pair l = l.found.items ≡ distinct_keys (pair_cmp int_cmp) (take l.pair-index l.pairs)
