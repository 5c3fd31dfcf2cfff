use Rattle.xf_base.proofs.ReadNumbers.{units_of_by_steps}
use Rattle.xf_base.proofs.fixed.units_capped.Goals as goal

pub returns : goal.returns
returns c =
    units_of_by_steps 1000000000000001 c.args.whole.now c.args.fraction.now _ _ _ _ _ _ c.from-decimals.ensures c.min.ensures c.number_after_capped.ensures c.number_after_capped-front.ensures c.zeros_after_capped.ensures
