-- One part has what it asks of the first of what is kept, and two have it as both.
use Rattle.std.proofs.Common.{subst}
use Rattle.xf_reduce.specs.Laws.{IsFoldWith}
use Rattle.xf_reduce.specs.StockReducer.{stock_fits, stock_meaning, stock_of}
use Rattle.xf_reduce.specs.declared.stock_reducer.StockReducer.{StockReducer}
use Rattle.xf_reduce.proofs.StockReducerConditions.{with-one}
use Rattle.xf_reduce.proofs.stock_reducer.StockReducerReducer.remove.Goals as goal

pub remove-requires-clause-folded : goal.remove-requires-clause-folded
remove-requires-clause-folded g c =
    with-one c.in-One.part (stock_meaning c.args.value.now) c.args.row.now
    (subst (λ (reducer : StockReducer). IsFoldWith (stock_fits reducer) (stock_of reducer) (stock_meaning c.args.value.now) c.args.row.now) c.in-One.is c.requires.folded)
