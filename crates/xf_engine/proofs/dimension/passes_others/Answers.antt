use Rattle.std.proofs.Common.{sym, ◌∙◌}
use Rattle.xf_engine.specs.Held.{passes_at}
use Rattle.xf_engine.proofs.Passes.{list_all-remove}
use Rattle.xf_engine.proofs.dimension.passes_others.Goals as goal

pub returns-then-passes_each : goal.returns-then-passes_each
returns-then-passes_each g c =
    let split = list_all-remove (passes_at g.P.Predicate.says_to c.args.place) c.args.dimensions.now c.args.but in
    let before = sym c.passes_each.ensures ∙ c.if-passes_each.true in
    rw (split, before) c.passes_each-then-passes_each.ensures

pub returns-else-passes_each : goal.returns-else-passes_each
returns-else-passes_each g c =
    let split = list_all-remove (passes_at g.P.Predicate.says_to c.args.place) c.args.dimensions.now c.args.but in
    let before = sym c.passes_each.ensures ∙ c.if-passes_each.false in
    rw (split, before) c.if-passes_each.false
