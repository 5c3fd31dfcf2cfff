-- Totals of so few numbers of cells are far from their bounds.
use Rattle.std.proofs.Common.{◌+◌, arith}
use Rattle.xf_reduce.specs.Number.{number_at}
use Rattle.xf_reduce.proofs.StockConditions.{totals-before}
use Rattle.xf_reduce.proofs.WideSums.{added-fits, added, read_number}
use Rattle.xf_reduce.proofs.sum_count.SumCountPart.add.Goals as goal

pub overflow_add-value : goal.overflow_add-value
overflow_add-value c =
    let place = c.args.self.now.0 in
    let within = totals-before place c.args.value.now c.args.row.now c.requires.folded in
    let number = number_at place c.args.row.now in
    added-fits c.args.value.now.sum number c.from.result (read_number c.from.result c.number_at.result number c.from.ensures c.number_at.ensures within.1) (omega (arith, within.0)) (omega (arith, within.1))

pub overflow_add-value-2 : goal.overflow_add-value-2
overflow_add-value-2 c = omega (arith, (totals-before c.args.self.now.0 c.args.value.now c.args.row.now c.requires.folded).2)

pub returns-clause-meaning : goal.returns-clause-meaning
returns-clause-meaning c =
    let place = c.args.self.now.0 in
    let within = totals-before place c.args.value.now c.args.row.now c.requires.folded in
    let number = number_at place c.args.row.now in
    let sum = added c.args.value.now.sum number c.from.result (read_number c.from.result c.number_at.result number c.from.ensures c.number_at.ensures within.1) (omega (arith, within.0)) (omega (arith, within.1)) in
    λ i. record { sum = sum i; count = c.args.value.now.count + 1 }
