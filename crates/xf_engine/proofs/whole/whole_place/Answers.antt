-- The first place whose whole has the id, and none where no whole has it.
use Rattle.std.proofs.Common.{rules, ◌==◌, sym, arith}
use Rattle.xf_engine.proofs.Named.{position-found, position-none}
use Rattle.xf_engine.proofs.whole.whole_place.Goals as goal

pub returns-then-whole-id : goal.returns-then-whole-id
returns-then-whole-id g c =
    sym (position-found (λ x. x.id.0 == c.args.id.0) c.args.wholes.now c.loop-place.place c.index-wholes-place.result c.loop-place-test.true (c.loop-place.invariant c.index-wholes-place.result) (search rules))

pub returns : goal.returns
returns g c =
    sym (position-none (λ x. x.id.0 == c.args.id.0) c.args.wholes.now (λ d k e. c.loop-place.invariant d k (omega (arith, e))))
