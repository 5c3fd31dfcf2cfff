use Rattle.std.proofs.Common.{rules, ◌==◌, sym, ◌∙◌, arith}
use Rattle.xf_engine.proofs.Named.{position_live, position-found, position-none}
use Rattle.xf_engine.proofs.dimension.dimension_place.Goals as goal

pub returns-then-dimension-id : goal.returns-then-dimension-id
returns-then-dimension-id g c =
    sym (position_live c.args.id.0 c.args.dimensions.now ∙ position-found (λ x. x.id.0 == c.args.id.0) c.args.dimensions.now c.loop-place.place c.index-dimensions-place.result c.loop-place-test.true (c.loop-place.invariant c.index-dimensions-place.result) (search rules))

pub returns : goal.returns
returns g c =
    sym (position_live c.args.id.0 c.args.dimensions.now ∙ position-none (λ x. x.id.0 == c.args.id.0) c.args.dimensions.now (λ d k e. c.loop-place.invariant d k (omega (arith, e))))
