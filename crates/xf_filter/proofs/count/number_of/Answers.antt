-- So few digits stay small.
use Rattle.std.proofs.Common.{arith}
use Rattle.xf_filter.proofs.Counts.{few_digits-small}
use Rattle.xf_filter.proofs.count.number_of.Goals as goal

pub overflow_mul-number : goal.overflow_mul-number
overflow_mul-number c = omega (arith, few_digits-small c.loop-byte.byte-index c.loop-byte.number (omega arith) c.loop-byte.invariant.small)

pub overflow_add-number : goal.overflow_add-number
overflow_add-number c = omega (arith, few_digits-small c.loop-byte.byte-index c.loop-byte.number (omega arith) c.loop-byte.invariant.small)

pub returns-clause-small : goal.returns-clause-small
returns-clause-small c = few_digits-small c.loop-byte.byte-index c.loop-byte.number (omega arith) c.loop-byte.invariant.small
