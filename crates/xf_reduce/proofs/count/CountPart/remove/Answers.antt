-- A count of rows of which one goes is at least one.
use Rattle.std.proofs.Common.{arith}
use Rattle.xf_reduce.proofs.StockConditions.{count-with}
use Rattle.xf_reduce.proofs.count.CountPart.remove.Goals as goal

pub overflow_sub-value : goal.overflow_sub-value
overflow_sub-value c = omega (arith, count-with c.args.value.now c.args._row.now c.requires.folded)
