-- One part has what it asks of the first of what is kept, and two have it as both.
use Rattle.std.proofs.Common.{subst}
use Rattle.xf_reduce.specs.Laws.{IsFoldBefore}
use Rattle.xf_reduce.specs.StockReducer.{stock_fits, stock_meaning, stock_of}
use Rattle.xf_reduce.specs.declared.stock_reducer.StockReducer.{StockReducer}
use Rattle.xf_reduce.proofs.StockReducerConditions.{before-one}
use Rattle.xf_reduce.proofs.stock_reducer.StockReducerReducer.add.Goals as goal

pub add-requires-clause-folded : goal.add-requires-clause-folded
add-requires-clause-folded g c =
    before-one c.in-One.part (stock_meaning c.args.value.now) c.args.row.now
    (subst (λ (reducer : StockReducer). IsFoldBefore (stock_fits reducer) (stock_of reducer) (stock_meaning c.args.value.now) c.args.row.now) c.in-One.is c.requires.folded)
