-- Each part has what its own field asks.
use Rattle.xf_reduce.specs.SimpleReady.{simple_meaning}
use Rattle.xf_reduce.proofs.SimpleConditions.{count-before_simple, sum-before_simple, totals-before_simple, squares-before_simple, numbers-before_simple}
use Rattle.xf_reduce.proofs.simple.SimplePart.add.Goals as goal

pub add-requires-clause-folded : goal.add-requires-clause-folded
add-requires-clause-folded c = count-before_simple c.args.self.now (simple_meaning c.args.value.now) c.args.row.now c.in-Count.is c.requires.folded

pub add-requires-in-Sum-clause-folded : goal.add-requires-in-Sum-clause-folded
add-requires-in-Sum-clause-folded c = sum-before_simple c.args.self.now (simple_meaning c.args.value.now) c.args.row.now c.in-Sum.place c.in-Sum.is c.requires.folded

pub add-requires-in-SumCount-clause-folded : goal.add-requires-in-SumCount-clause-folded
add-requires-in-SumCount-clause-folded c = totals-before_simple c.args.self.now (simple_meaning c.args.value.now) c.args.row.now c.in-SumCount.place c.in-SumCount.is c.requires.folded

pub add-requires-in-SumSquares-clause-folded : goal.add-requires-in-SumSquares-clause-folded
add-requires-in-SumSquares-clause-folded c = squares-before_simple c.args.self.now (simple_meaning c.args.value.now) c.args.row.now c.in-SumSquares.place c.in-SumSquares.is c.requires.folded

pub add-requires-in-Spread-clause-folded : goal.add-requires-in-Spread-clause-folded
add-requires-in-Spread-clause-folded c = numbers-before_simple c.args.self.now (simple_meaning c.args.value.now) c.args.row.now c.in-Spread.place c.in-Spread.is c.requires.folded
