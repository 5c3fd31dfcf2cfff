-- A count is one of fewer rows than there may be.
use Rattle.std.proofs.Common.{arith}
use Rattle.xf_reduce.proofs.StockConditions.{count-before}
use Rattle.xf_reduce.proofs.count.CountPart.add.Goals as goal

pub overflow_add-value : goal.overflow_add-value
overflow_add-value c = omega (arith, count-before c.args.value.now c.args._row.now c.requires.folded)
