-- A count is one of fewer rows than there may be.
use Rattle.std.proofs.Common.{arith}
use Rattle.xf_engine_cases.specs.Evens.{evens-before}
use Rattle.xf_engine_cases.proofs.own.EvensReducer.add.Goals as goal

pub overflow_add-value : goal.overflow_add-value
overflow_add-value g c = omega (arith, evens-before c.args.value.now c.args.row.now c.requires.folded, c.count_of.ensures)
