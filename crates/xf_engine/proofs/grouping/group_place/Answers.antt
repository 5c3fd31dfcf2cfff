-- The first place whose group has the id, and none where no group has it.
use Rattle.std.proofs.Common.{rules, ◌==◌, sym, arith}
use Rattle.xf_engine.proofs.Named.{position-found, position-none}
use Rattle.xf_engine.proofs.grouping.group_place.Goals as goal

pub returns-then-group-id : goal.returns-then-group-id
returns-then-group-id g c =
    sym (position-found (λ x. x.id.0 == c.args.id.0) c.args.groups.now c.loop-place.place c.index-groups-place.result c.loop-place-test.true (c.loop-place.invariant c.index-groups-place.result) (search rules))

pub returns : goal.returns
returns g c =
    sym (position-none (λ x. x.id.0 == c.args.id.0) c.args.groups.now (λ d k e. c.loop-place.invariant d k (omega (arith, e))))
