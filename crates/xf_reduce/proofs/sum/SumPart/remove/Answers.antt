-- So is what a sum was before.
use Rattle.std.proofs.Common.{arith}
use Rattle.xf_reduce.specs.Number.{number_at}
use Rattle.xf_reduce.proofs.StockConditions.{sum-with}
use Rattle.xf_reduce.proofs.WideSums.{read_number, taken, taken-fits}
use Rattle.xf_reduce.proofs.sum.SumPart.remove.Goals as goal

pub overflow_sub-value : goal.overflow_sub-value
overflow_sub-value c =
    let place = c.args.self.now.0 in
    let within = sum-with place c.args.value.now c.args.row.now c.requires.folded in
    let number = number_at place c.args.row.now in
    taken-fits c.args.value.now number c.from.result (read_number c.from.result c.number_at.result number c.from.ensures c.number_at.ensures within.1) (omega (arith, within.0)) (omega (arith, within.1))

pub returns-clause-meaning : goal.returns-clause-meaning
returns-clause-meaning c =
    let place = c.args.self.now.0 in
    let within = sum-with place c.args.value.now c.args.row.now c.requires.folded in
    let number = number_at place c.args.row.now in
    taken c.args.value.now number c.from.result (read_number c.from.result c.number_at.result number c.from.ensures c.number_at.ensures within.1) (omega (arith, within.0)) (omega (arith, within.1))
