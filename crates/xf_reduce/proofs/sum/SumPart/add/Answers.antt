-- A sum of so few numbers of cells is far from its bounds.
use Rattle.std.proofs.Common.{arith}
use Rattle.xf_reduce.specs.Number.{number_at}
use Rattle.xf_reduce.proofs.StockConditions.{sum-before}
use Rattle.xf_reduce.proofs.WideSums.{added, added-fits, read_number}
use Rattle.xf_reduce.proofs.sum.SumPart.add.Goals as goal

pub overflow_add-value : goal.overflow_add-value
overflow_add-value c =
    let place = c.args.self.now.0 in
    let within = sum-before place c.args.value.now c.args.row.now c.requires.folded in
    let number = number_at place c.args.row.now in
    added-fits c.args.value.now number c.from.result (read_number c.from.result c.number_at.result number c.from.ensures c.number_at.ensures within.1) (omega (arith, within.0)) (omega (arith, within.1))

pub returns-clause-meaning : goal.returns-clause-meaning
returns-clause-meaning c =
    let place = c.args.self.now.0 in
    let within = sum-before place c.args.value.now c.args.row.now c.requires.folded in
    let number = number_at place c.args.row.now in
    added c.args.value.now number c.from.result (read_number c.from.result c.number_at.result number c.from.ensures c.number_at.ensures within.1) (omega (arith, within.0)) (omega (arith, within.1))
