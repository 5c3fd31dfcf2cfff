use Rattle.std.proofs.Common.{arith}
use Rattle.std.proofs.lemmas.Grind.{common_steps}
use Rattle.xf_base.proofs.ReadNumbers.{drop-min}
use Rattle.xf_base.proofs.fixed.has_more_decimals.Goals as goal

pub returns : goal.returns
returns c = grind (arith, common_steps, drop-min c.args.fraction.now c.args.decimals)
