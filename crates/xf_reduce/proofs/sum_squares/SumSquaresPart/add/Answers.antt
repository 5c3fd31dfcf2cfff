-- Squares of so few numbers of cells are far from their bounds.
use Rattle.std.proofs.Common.{◌*ℤ◌, to_z, of_z, arith}
use mir.Syntax.{w128}
use Rattle.xf_reduce.specs.Number.{number_at}
use Rattle.xf_reduce.proofs.StockConditions.{squares-before, totals-before, totals-before_squares}
use Rattle.xf_reduce.proofs.WideSums.{added-fits, added, read_number, squared}
use Rattle.xf_reduce.proofs.sum_squares.SumSquaresPart.add.Goals as goal

pub overflow_add-value : goal.overflow_add-value
overflow_add-value c =
    let place = c.args.self.now.0 in
    let totals = totals-before place c.args.value.now.totals c.args.row.now (totals-before_squares place c.args.value.now c.args.row.now c.requires.folded) in
    let within = squares-before place c.args.value.now c.args.row.now c.requires.folded in
    let number = number_at place c.args.row.now in
    let read = read_number c.from-number.result c.number_at.result number c.from-number.ensures c.number_at.ensures totals.1 in
    let square = squared number c.from-number.result read totals.1 in
    added-fits c.args.value.now.squares (number *ℤ number) (to_z w128 (of_z w128 c.from-number.result) *ℤ to_z w128 (of_z w128 c.from-number.result)) square (omega (arith, within.0)) (omega (arith, within.1))

pub add-requires-clause-folded : goal.add-requires-clause-folded
add-requires-clause-folded c = totals-before_squares c.args.self.now.0 c.args.value.now c.args.row.now c.requires.folded

pub returns-clause-meaning : goal.returns-clause-meaning
returns-clause-meaning c =
    let place = c.args.self.now.0 in
    let totals = totals-before place c.args.value.now.totals c.args.row.now (totals-before_squares place c.args.value.now c.args.row.now c.requires.folded) in
    let within = squares-before place c.args.value.now c.args.row.now c.requires.folded in
    let number = number_at place c.args.row.now in
    let read = read_number c.from-number.result c.number_at.result number c.from-number.ensures c.number_at.ensures totals.1 in
    let square = squared number c.from-number.result read totals.1 in
    let squares = added c.args.value.now.squares (number *ℤ number) (to_z w128 (of_z w128 c.from-number.result) *ℤ to_z w128 (of_z w128 c.from-number.result)) square (omega (arith, within.0)) (omega (arith, within.1)) in
    λ i. record { squares = squares i; totals = c.add.ensures.meaning i }
