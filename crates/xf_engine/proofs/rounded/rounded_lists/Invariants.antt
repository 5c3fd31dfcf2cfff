-- The rounded keys of the rows so far.
use Rattle.std.proofs.Common.{◌≡◌, drop, map, take}
use Rattle.xf_base.specs.Key.{key_cmp}
use Rattle.xf_model.specs.Group.{distinct_keys}
use Rattle.xf_engine.proofs.rounded.rounded_lists.Given as goal

abbrev pub invariant-loop-place : goal.invariant-loop-place
invariant-loop-place g l = l.rounded.items ≡ map (λ keys. distinct_keys key_cmp (map (g.G.Rounding.rounded l.rounding) keys)) (take l.place (drop l.from l.lists))
