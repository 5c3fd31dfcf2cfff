use Rattle.std.proofs.Common.{sym, ◌∙◌}
use Rattle.xf_model.specs.Dimension.{passes}
use Rattle.xf_model.specs.Plain.{plain_dimension}
use Rattle.xf_model.proofs.Plain.{list_all-remove}
use Rattle.xf_model.proofs.dimension.passes_all_but.Goals as goal

pub returns-then-passes_each : goal.returns-then-passes_each
returns-then-passes_each c =
    let split = list_all-remove (λ dimension. passes dimension c.args.row.now) plain_dimension c.args.dimensions.now c.in-Some.place in
    let before = sym c.passes_each.ensures ∙ c.if-passes_each.true in
    rw (c.in-Some.is, split, before) c.passes_each-then-passes_each.ensures

pub returns-else-passes_each : goal.returns-else-passes_each
returns-else-passes_each c =
    let split = list_all-remove (λ dimension. passes dimension c.args.row.now) plain_dimension c.args.dimensions.now c.in-Some.place in
    let before = sym c.passes_each.ensures ∙ c.if-passes_each.false in
    rw (c.in-Some.is, split, before) c.if-passes_each.false
