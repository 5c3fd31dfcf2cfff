-- What holds of the value of one part of the stock holds of the first of what is kept.
use Rattle.std.proofs.Common.{List}
use Rattle.xf_base.specs.declared.cell.Cell.{Cell}
use Rattle.xf_reduce.specs.Laws.{IsFoldBefore, IsFoldWith}
use Rattle.xf_reduce.specs.Simple.{simple_fits, simple_of}
use Rattle.xf_reduce.specs.StockReducer.{stock_fits, stock_of}
use Rattle.xf_reduce.specs.StockReducerLaws.{first_of_one}
use Rattle.xf_reduce.specs.declared.simple.Simple.{Simple}
use Rattle.xf_reduce.specs.declared.simple.SimpleMeaning.{SimpleMeaning}
use Rattle.xf_reduce.specs.declared.stock_reducer.StockReducer.TheVariants as stock
use Rattle.xf_reduce.proofs.Conditions.{before_part, with_part}

module _ (part : Simple) (kept : SimpleMeaning × SimpleMeaning) (row : List Cell) where
  pub before-one : IsFoldBefore (stock_fits (stock.One part)) (stock_of (stock.One part)) kept row → IsFoldBefore (simple_fits part) (simple_of part) kept.0 row
  before-one = before_part (λ (kept : SimpleMeaning × SimpleMeaning). kept.0) (simple_fits part) (simple_fits part) (stock_of (stock.One part)) (simple_of part) (λ columns fit. fit) (first_of_one part) kept row

  pub with-one : IsFoldWith (stock_fits (stock.One part)) (stock_of (stock.One part)) kept row → IsFoldWith (simple_fits part) (simple_of part) kept.0 row
  with-one = with_part (λ (kept : SimpleMeaning × SimpleMeaning). kept.0) (simple_fits part) (simple_fits part) (stock_of (stock.One part)) (simple_of part) (λ columns fit. fit) (first_of_one part) kept row
