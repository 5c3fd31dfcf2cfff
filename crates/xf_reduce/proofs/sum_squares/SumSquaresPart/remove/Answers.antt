-- So are squares before the last of their rows.
use Rattle.std.proofs.Common.{◌*ℤ◌, to_z, of_z, arith}
use mir.Syntax.{w128}
use Rattle.xf_reduce.specs.Number.{number_at}
use Rattle.xf_reduce.proofs.StockConditions.{squares-with, totals-with, totals-with_squares}
use Rattle.xf_reduce.proofs.WideSums.{taken-fits, taken, read_number, squared}
use Rattle.xf_reduce.proofs.sum_squares.SumSquaresPart.remove.Goals as goal

pub overflow_sub-value : goal.overflow_sub-value
overflow_sub-value c =
    let place = c.args.self.now.0 in
    let totals = totals-with place c.args.value.now.totals c.args.row.now (totals-with_squares place c.args.value.now c.args.row.now c.requires.folded) in
    let within = squares-with place c.args.value.now c.args.row.now c.requires.folded in
    let number = number_at place c.args.row.now in
    let read = read_number c.from-number.result c.number_at.result number c.from-number.ensures c.number_at.ensures totals.1 in
    let square = squared number c.from-number.result read totals.1 in
    taken-fits c.args.value.now.squares (number *ℤ number) (to_z w128 (of_z w128 c.from-number.result) *ℤ to_z w128 (of_z w128 c.from-number.result)) square (omega (arith, within.0)) (omega (arith, within.1))

pub remove-requires-clause-folded : goal.remove-requires-clause-folded
remove-requires-clause-folded c = totals-with_squares c.args.self.now.0 c.args.value.now c.args.row.now c.requires.folded

pub returns-clause-meaning : goal.returns-clause-meaning
returns-clause-meaning c =
    let place = c.args.self.now.0 in
    let totals = totals-with place c.args.value.now.totals c.args.row.now (totals-with_squares place c.args.value.now c.args.row.now c.requires.folded) in
    let within = squares-with place c.args.value.now c.args.row.now c.requires.folded in
    let number = number_at place c.args.row.now in
    let read = read_number c.from-number.result c.number_at.result number c.from-number.ensures c.number_at.ensures totals.1 in
    let square = squared number c.from-number.result read totals.1 in
    let squares = taken c.args.value.now.squares (number *ℤ number) (to_z w128 (of_z w128 c.from-number.result) *ℤ to_z w128 (of_z w128 c.from-number.result)) square (omega (arith, within.0)) (omega (arith, within.1)) in
    λ i. record { squares = squares i; totals = c.remove.ensures.meaning i }
