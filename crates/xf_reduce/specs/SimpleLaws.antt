-- Only proofs need this file: the laws of any part of the stock: those of the part that it is.
use Rattle.std.proofs.Common.{◌≡◌, ℕ, ◌≤◌, ℤ, List, refl, sym, subst, lit≤}
use Rattle.xf_base.specs.declared.cell.Cell.{Cell}
use Rattle.xf_model.specs.Group.{count, fold_of}
use Rattle.xf_reduce.specs.Folds.{IsPart, part-fold_of, swap_sum, back_sum}
use Rattle.xf_reduce.specs.Laws.{IsRank, RanksWithin, Swaps, TakesBack}
use Rattle.xf_reduce.specs.Number.{number_at}
use Rattle.xf_reduce.specs.NumbersLaws.{numbers_swap, numbers_take_back, numbers_within}
use Rattle.xf_reduce.specs.Simple.{simple_field, simple_field_count, simple_fits, simple_less, simple_of, with_totals}
use Rattle.xf_reduce.specs.Stock.{numbers_field, numbers_less, numbers_of, squares_of, sum_of, totals_of}
use Rattle.xf_reduce.specs.StockLaws.{one_is_few, three_are_few, back_count, count_within, sum_within, totals_within, squares_within, swap_totals, back_totals, swap_squares, back_squares}
use Rattle.xf_reduce.specs.declared.simple.Simple.{Simple}
use Rattle.xf_reduce.specs.declared.simple.Simple.TheVariants.{Count, Sum, SumCount, SumSquares, Spread}
use Rattle.xf_reduce.specs.declared.simple.SimpleMeaning.{SimpleMeaning}

pub simple_few : (part : Simple) → (1 ≤ simple_field_count part) × (simple_field_count part ≤ 100)
simple_few Count = one_is_few
simple_few (Sum place) = one_is_few
simple_few (SumCount place) = three_are_few
simple_few (SumSquares place) = three_are_few
simple_few (Spread place) = (lit≤ tt, lit≤ tt)

-- ---- what each part keeps is a part of the whole

pub count_of_simple : IsPart (λ (kept : SimpleMeaning). kept.squares.totals.count) (simple_of Count) count
count_of_simple = record { initial = refl; step = λ kept row. refl }

pub sum_of_simple : (place : ℕ) → IsPart (λ (kept : SimpleMeaning). kept.squares.totals.sum) (simple_of (Sum place)) (sum_of place)
sum_of_simple place = record { initial = refl; step = λ kept row. refl }

pub totals_of_simple : (place : ℕ) → IsPart (λ (kept : SimpleMeaning). kept.squares.totals) (simple_of (SumCount place)) (totals_of place)
totals_of_simple place = record { initial = refl; step = λ kept row. refl }

pub squares_of_simple : (place : ℕ) → IsPart (λ (kept : SimpleMeaning). kept.squares) (simple_of (SumSquares place)) (squares_of place)
squares_of_simple place = record { initial = refl; step = λ kept row. refl }

pub numbers_of_simple : (place : ℕ) → IsPart (λ (kept : SimpleMeaning). kept.numbers) (simple_of (Spread place)) (numbers_of place)
numbers_of_simple place = record { initial = refl; step = λ kept row. refl }

numbers_of_fold : (place : ℕ) (rows : List (List Cell)) → fold_of (numbers_of place) rows ≡ (fold_of (simple_of (Spread place)) rows).numbers
numbers_of_fold place rows = sym (part-fold_of (λ (kept : SimpleMeaning). kept.numbers) (simple_of (Spread place)) (numbers_of place) (numbers_of_simple place) rows)

-- ---- the laws

pub simple_swaps : (part : Simple) → Swaps (simple_fits part) (simple_of part)
simple_swaps Count columns fit rows one other few all is_one is_other = refl
simple_swaps (Sum place) columns fit rows one other few all is_one is_other =
    let kept = fold_of (simple_of (Sum place)) rows in
    λ i. with_totals kept (record kept.squares.totals { sum = swap_sum kept.squares.totals.sum (number_at place one) (number_at place other) i })
simple_swaps (SumCount place) columns fit rows one other few all is_one is_other =
    let kept = fold_of (simple_of (SumCount place)) rows in
    λ i. with_totals kept (swap_totals place kept.squares.totals one other i)
simple_swaps (SumSquares place) columns fit rows one other few all is_one is_other =
    let kept = fold_of (simple_of (SumSquares place)) rows in
    λ i. record kept { squares = swap_squares place kept.squares one other i }
simple_swaps (Spread place) columns fit rows one other few all is_one is_other =
    let kept = fold_of (simple_of (Spread place)) rows in
    let numbers = subst (λ (numbers : List ℤ). (numbers_of place).step ((numbers_of place).step numbers one) other ≡ (numbers_of place).step ((numbers_of place).step numbers other) one) (numbers_of_fold place rows) (numbers_swap place columns fit rows one other few all is_one is_other) in
    λ i. record kept { numbers = numbers i }

pub simple_takes_back : (part : Simple) → TakesBack (simple_fits part) (simple_of part) (simple_less part)
simple_takes_back Count columns fit rows row few all is =
    let kept = fold_of (simple_of Count) rows in
    λ i. with_totals kept (record kept.squares.totals { count = back_count kept.squares.totals.count i })
simple_takes_back (Sum place) columns fit rows row few all is =
    let kept = fold_of (simple_of (Sum place)) rows in
    λ i. with_totals kept (record kept.squares.totals { sum = back_sum kept.squares.totals.sum (number_at place row) i })
simple_takes_back (SumCount place) columns fit rows row few all is =
    let kept = fold_of (simple_of (SumCount place)) rows in
    λ i. with_totals kept (back_totals place kept.squares.totals row i)
simple_takes_back (SumSquares place) columns fit rows row few all is =
    let kept = fold_of (simple_of (SumSquares place)) rows in
    λ i. record kept { squares = back_squares place kept.squares row i }
simple_takes_back (Spread place) columns fit rows row few all is =
    let kept = fold_of (simple_of (Spread place)) rows in
    let numbers = subst (λ (numbers : List ℤ). numbers_less place ((numbers_of place).step numbers row) row ≡ numbers) (numbers_of_fold place rows) (numbers_take_back place columns fit rows row few all is) in
    λ i. record kept { numbers = numbers i }

pub simple_within : (part : Simple) → RanksWithin (simple_fits part) (simple_of part) (simple_field part) (simple_field_count part)
simple_within Count columns rows field fit all few within =
    rw (part-fold_of (λ (kept : SimpleMeaning). kept.squares.totals.count) (simple_of Count) count count_of_simple rows) (count_within columns rows field fit all few within)
simple_within (Sum place) columns rows field fit all few within =
    rw (part-fold_of (λ (kept : SimpleMeaning). kept.squares.totals.sum) (simple_of (Sum place)) (sum_of place) (sum_of_simple place) rows) (sum_within place columns rows field fit all few within)
simple_within (SumCount place) columns rows field fit all few within =
    rw (part-fold_of (λ (kept : SimpleMeaning). kept.squares.totals) (simple_of (SumCount place)) (totals_of place) (totals_of_simple place) rows) (totals_within place columns rows field fit all few within)
simple_within (SumSquares place) columns rows field fit all few within =
    rw (part-fold_of (λ (kept : SimpleMeaning). kept.squares) (simple_of (SumSquares place)) (squares_of place) (squares_of_simple place) rows) (squares_within place columns rows field fit all few within)
simple_within (Spread place) columns rows field fit all few within =
    subst (λ (numbers : List ℤ). IsRank (numbers_field numbers field)) (numbers_of_fold place rows) (numbers_within place columns rows field fit all few within)
