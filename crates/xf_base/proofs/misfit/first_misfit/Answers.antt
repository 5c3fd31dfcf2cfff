use Rattle.std.proofs.Common.{sym, ◌∙◌, arith}
use Rattle.xf_base.proofs.Misfits.{misfit-after}
use Rattle.xf_base.proofs.misfit.first_misfit.Goals as goal

pub returns : goal.returns
returns c =
    c.then_some.ensures ∙ sym (misfit-after c.args.columns.now c.args.cells.now c.loop-place.place (omega arith) (omega arith)) ∙ c.loop-place.invariant.left
