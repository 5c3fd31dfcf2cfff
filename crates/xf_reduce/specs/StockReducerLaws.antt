-- Only proofs need this file: the laws of the reducers of the stock: those of their parts.
use Rattle.std.proofs.Common.{◌≡◌, ◌≤◌, refl, sym, subst}
use Rattle.xf_model.specs.Group.{fold_of}
use Rattle.xf_reduce.specs.Folds.{IsPart, part-fold_of}
use Rattle.xf_reduce.specs.Laws.{IsRank, RanksWithin, Swaps, TakesBack}
use Rattle.xf_reduce.specs.PairLaws.{alone_few, both_few, both_swap, both_take_back, both_within}
use Rattle.xf_reduce.specs.Simple.{simple_field, simple_less, simple_of}
use Rattle.xf_reduce.specs.SimpleLaws.{simple_few, simple_swaps, simple_takes_back, simple_within}
use Rattle.xf_reduce.specs.StockReducer.{stock_field, stock_field_count, stock_fits, stock_less, stock_of}
use Rattle.xf_reduce.specs.declared.simple.Simple.{Simple}
use Rattle.xf_reduce.specs.declared.simple.SimpleMeaning.{SimpleMeaning}
use Rattle.xf_reduce.specs.declared.stock_reducer.StockReducer.{StockReducer}
use Rattle.xf_reduce.specs.declared.stock_reducer.StockReducer.TheVariants as stock

pub stock_few : (reducer : StockReducer) → (1 ≤ stock_field_count reducer) × (stock_field_count reducer ≤ 200)
stock_few (stock.One part) = alone_few (simple_few part)
stock_few (stock.Two first second) = both_few (simple_few first) (simple_few second)

-- one part is the first of what is kept
pub first_of_one : (part : Simple) → IsPart (λ (kept : SimpleMeaning × SimpleMeaning). kept.0) (stock_of (stock.One part)) (simple_of part)
first_of_one part = record { initial = refl; step = λ kept row. refl }

pub stock_swaps : (reducer : StockReducer) → Swaps (stock_fits reducer) (stock_of reducer)
stock_swaps (stock.One part) columns fit rows one other few all is_one is_other =
    let front = sym (part-fold_of (λ (kept : SimpleMeaning × SimpleMeaning). kept.0) (stock_of (stock.One part)) (simple_of part) (first_of_one part) rows) in
    let law = subst (λ (kept : SimpleMeaning). (simple_of part).step ((simple_of part).step kept one) other ≡ (simple_of part).step ((simple_of part).step kept other) one) front (simple_swaps part columns fit rows one other few all is_one is_other) in
    λ i. (law i, (fold_of (stock_of (stock.One part)) rows).1)
stock_swaps (stock.Two first second) columns fit rows one other few all is_one is_other =
    both_swap (simple_of first) (simple_of second) (simple_swaps first) (simple_swaps second) columns fit rows one other few all is_one is_other

pub stock_takes_back : (reducer : StockReducer) → TakesBack (stock_fits reducer) (stock_of reducer) (stock_less reducer)
stock_takes_back (stock.One part) columns fit rows row few all is =
    let front = sym (part-fold_of (λ (kept : SimpleMeaning × SimpleMeaning). kept.0) (stock_of (stock.One part)) (simple_of part) (first_of_one part) rows) in
    let law = subst (λ (kept : SimpleMeaning). simple_less part ((simple_of part).step kept row) row ≡ kept) front (simple_takes_back part columns fit rows row few all is) in
    λ i. (law i, (fold_of (stock_of (stock.One part)) rows).1)
stock_takes_back (stock.Two first second) columns fit rows row few all is =
    both_take_back (simple_of first) (simple_of second) (simple_less first) (simple_less second) (simple_takes_back first) (simple_takes_back second) columns fit rows row few all is

pub stock_within : (reducer : StockReducer) → RanksWithin (stock_fits reducer) (stock_of reducer) (stock_field reducer) (stock_field_count reducer)
stock_within (stock.One part) columns rows field fit all few within =
    let front = sym (part-fold_of (λ (kept : SimpleMeaning × SimpleMeaning). kept.0) (stock_of (stock.One part)) (simple_of part) (first_of_one part) rows) in
    subst (λ (kept : SimpleMeaning). IsRank (simple_field part kept field)) front (simple_within part columns rows field fit all few within)
stock_within (stock.Two first second) columns rows field fit all few within =
    both_within (simple_of first) (simple_of second) (simple_field first) (simple_field second) (simple_within first) (simple_within second) columns rows field fit all few within
