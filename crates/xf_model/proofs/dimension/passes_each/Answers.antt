-- One dimension that a row does not pass settles the answer.
use Rattle.std.proofs.Common.{None, sym, ◌∙◌}
use Rattle.xf_model.specs.Dimension.{passes}
use Rattle.xf_model.specs.Plain.{plain_dimension}
use Rattle.xf_model.proofs.Plain.{list_all_fails}
use Rattle.xf_model.proofs.dimension.passes_each.Goals as goal

pub returns-then-not-passes : goal.returns-then-not-passes
returns-then-not-passes c =
    sym (list_all_fails (λ dimension. passes dimension c.args.row.now) plain_dimension c.args.dimensions.now c.loop-dimension.dimension-index (record { column = 0; range = None }) c.loop-dimension-test.true (sym c.passes.ensures ∙ c.if-not-passes.true))
