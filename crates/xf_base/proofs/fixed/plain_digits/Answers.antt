-- So few digits stay below the greatest number.
use Rattle.std.proofs.Common.{arith}
use Rattle.xf_base.proofs.ReadNumbers.{number_of_digits-small}
use Rattle.xf_base.proofs.fixed.plain_digits.Goals as goal

pub overflow_mul-number : goal.overflow_mul-number
overflow_mul-number c = omega (arith, number_of_digits-small c.loop-byte.byte-index c.loop-byte.number (omega arith) c.loop-byte.invariant.small)

pub overflow_add-number : goal.overflow_add-number
overflow_add-number c = omega (arith, number_of_digits-small c.loop-byte.byte-index c.loop-byte.number (omega arith) c.loop-byte.invariant.small)

pub returns-clause-small : goal.returns-clause-small
returns-clause-small c = number_of_digits-small c.loop-byte.byte-index c.loop-byte.number (omega arith) c.loop-byte.invariant.small
