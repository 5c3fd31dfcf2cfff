-- Each part has what its own field asks.
use Rattle.xf_reduce.specs.SimpleReady.{simple_meaning}
use Rattle.xf_reduce.proofs.SimpleConditions.{count-with_simple, sum-with_simple, totals-with_simple, squares-with_simple, numbers-with_simple}
use Rattle.xf_reduce.proofs.simple.SimplePart.remove.Goals as goal

pub remove-requires-clause-folded : goal.remove-requires-clause-folded
remove-requires-clause-folded c = count-with_simple c.args.self.now (simple_meaning c.args.value.now) c.args.row.now c.in-Count.is c.requires.folded

pub remove-requires-in-Sum-clause-folded : goal.remove-requires-in-Sum-clause-folded
remove-requires-in-Sum-clause-folded c = sum-with_simple c.args.self.now (simple_meaning c.args.value.now) c.args.row.now c.in-Sum.place c.in-Sum.is c.requires.folded

pub remove-requires-in-SumCount-clause-folded : goal.remove-requires-in-SumCount-clause-folded
remove-requires-in-SumCount-clause-folded c = totals-with_simple c.args.self.now (simple_meaning c.args.value.now) c.args.row.now c.in-SumCount.place c.in-SumCount.is c.requires.folded

pub remove-requires-in-SumSquares-clause-folded : goal.remove-requires-in-SumSquares-clause-folded
remove-requires-in-SumSquares-clause-folded c = squares-with_simple c.args.self.now (simple_meaning c.args.value.now) c.args.row.now c.in-SumSquares.place c.in-SumSquares.is c.requires.folded

pub remove-requires-in-Spread-clause-folded : goal.remove-requires-in-Spread-clause-folded
remove-requires-in-Spread-clause-folded c = numbers-with_simple c.args.self.now (simple_meaning c.args.value.now) c.args.row.now c.in-Spread.place c.in-Spread.is c.requires.folded
