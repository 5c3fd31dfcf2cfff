-- What is rounded so far are the distinct keys of the last ones.
use Rattle.std.proofs.Common.{◌≡◌, map, reverse}
use Rattle.xf_base.specs.Key.{key_cmp}
use Rattle.xf_model.specs.Group.{distinct_keys}
use Rattle.xf_engine.proofs.rounded.rounded_keys.Given as goal

abbrev pub invariant-loop-key : goal.invariant-loop-key
invariant-loop-key g l = l.rounded.items ≡ distinct_keys key_cmp (map (g.G.Rounding.rounded l.rounding) (reverse (map (λ key. key.now) l.yielded)))
