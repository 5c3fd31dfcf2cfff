-- So are totals before the last of their rows.
use Rattle.std.proofs.Common.{◌-◌, arith}
use Rattle.xf_reduce.specs.Number.{number_at}
use Rattle.xf_reduce.proofs.StockConditions.{totals-with}
use Rattle.xf_reduce.proofs.WideSums.{taken-fits, taken, read_number}
use Rattle.xf_reduce.proofs.sum_count.SumCountPart.remove.Goals as goal

pub overflow_sub-value : goal.overflow_sub-value
overflow_sub-value c =
    let place = c.args.self.now.0 in
    let within = totals-with place c.args.value.now c.args.row.now c.requires.folded in
    let number = number_at place c.args.row.now in
    taken-fits c.args.value.now.sum number c.from.result (read_number c.from.result c.number_at.result number c.from.ensures c.number_at.ensures within.1) (omega (arith, within.0)) (omega (arith, within.1))

pub overflow_sub-value-2 : goal.overflow_sub-value-2
overflow_sub-value-2 c = omega (arith, (totals-with c.args.self.now.0 c.args.value.now c.args.row.now c.requires.folded).2)

pub returns-clause-meaning : goal.returns-clause-meaning
returns-clause-meaning c =
    let place = c.args.self.now.0 in
    let within = totals-with place c.args.value.now c.args.row.now c.requires.folded in
    let number = number_at place c.args.row.now in
    let sum = taken c.args.value.now.sum number c.from.result (read_number c.from.result c.number_at.result number c.from.ensures c.number_at.ensures within.1) (omega (arith, within.0)) (omega (arith, within.1)) in
    λ i. record { sum = sum i; count = c.args.value.now.count - 1 }
