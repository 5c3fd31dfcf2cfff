use Rattle.std.proofs.Common.{arith}
use Rattle.xf_base.proofs.ReadDates.{number_after-few}
use Rattle.xf_base.proofs.date.number_of_digits.Goals as goal

pub overflow_cast-result : goal.overflow_cast-result
overflow_cast-result c = omega (arith, number_after-few c.args.digits.now c.requires.few c.requires.digits)

pub returns-clause-value : goal.returns-clause-value
returns-clause-value c = omega (arith, number_after-few c.args.digits.now c.requires.few c.requires.digits)

pub returns-clause-bound : goal.returns-clause-bound
returns-clause-bound c = omega (arith, number_after-few c.args.digits.now c.requires.few c.requires.digits)
