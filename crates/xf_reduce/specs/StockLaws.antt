-- Only proofs need this file: the laws of the parts of the stock that keep sums and counts.
use Rattle.std.proofs.Common.{◌≡◌, ℕ, zero, suc, ◌+◌, ◌-◌, ◌*◌, ◌^◌, ◌==◌, ◌≤◌, ℤ, pos, negsuc, nat_abs, ◌+ℤ◌, ◌*ℤ◌, true, false, if◌then◌else◌, List, length, refl, ◌∙◌, arith, lit≤}
use Rattle.std.specs.Int.{int_div_euclid}
use Rattle.std.proofs.lemmas.Bool.{cond_both}
use Rattle.std.proofs.lemmas.Bool.Decides.{nat_tests}
use Rattle.std.proofs.lemmas.Int.{ints}
use Rattle.std.specs.List.{AllByRecursion}
use Rattle.xf_base.specs.Schema.{IsRowOf}
use Rattle.xf_base.specs.declared.cell.Cell.{Cell}
use Rattle.xf_base.specs.declared.column.Column.{Column}
use Rattle.xf_base.specs.declared.fixed.TheConstants.{GREATEST_NUMBER}
use Rattle.xf_base.specs.declared.limits.TheConstants.Limits.{ROWS}
use Rattle.xf_model.specs.Group.{Reducer, count, fold_of}
use Rattle.xf_model.proofs.GroupValues.{fold_of-count}
use Rattle.xf_reduce.specs.Folds.{IsPart, part-fold_of, swap_sum, back_sum, abs-sum}
use Rattle.xf_reduce.specs.Laws.{IsRank, RanksWithin, Swaps, TakesBack}
use Rattle.xf_reduce.specs.Number.{fits_at, number_at}
use Rattle.xf_reduce.specs.CellNumbers.{abs-number_at, abs-square_at}
use Rattle.xf_reduce.specs.Stock.{count_less, mean, squares_field, squares_less, squares_of, sum_less, sum_of, totals_field, totals_less, totals_of}
use Rattle.xf_reduce.specs.declared.sum_count.Totals.{Totals}
use Rattle.xf_reduce.specs.declared.sum_squares.SquareTotals.{SquareTotals}

-- ---- how many fields

pub one_is_few : (1 ≤ 1) × (1 ≤ 100)
one_is_few = (lit≤ tt, lit≤ tt)

pub three_are_few : (1 ≤ 3) × (3 ≤ 100)
three_are_few = (lit≤ tt, lit≤ tt)

-- ---- numbers that are ranks

is_rank : (number : ℤ) → nat_abs number ≤ 10 ^ 36 → IsRank number
is_rank number within = (grind (arith, ints), grind (arith, ints))

-- a number of rows
count_is_rank : (number : ℕ) → number ≤ ROWS → IsRank (pos number)
count_is_rank number few = is_rank (pos number) (omega arith)

-- ---- the count

pub back_count : (number : ℕ) → number + 1 - 1 ≡ number
back_count number = omega arith

pub count_swaps : Swaps (λ _. true) count
count_swaps columns fit rows one other few all is_one is_other = refl

pub count_takes_back : TakesBack (λ _. true) count count_less
count_takes_back columns fit rows row few all is = back_count (fold_of count rows)

pub count_within : RanksWithin (λ _. true) count (λ meaning field. pos meaning) 1
count_within columns rows field fit all few within = count_is_rank (fold_of count rows) (rw (fold_of-count rows) few)

-- ---- the sum

pub sum_swaps : (place : ℕ) → Swaps (fits_at place) (sum_of place)
sum_swaps place columns fit rows one other few all is_one is_other = swap_sum (fold_of (sum_of place) rows) (number_at place one) (number_at place other)

pub sum_takes_back : (place : ℕ) → TakesBack (fits_at place) (sum_of place) (sum_less place)
sum_takes_back place columns fit rows row few all is = back_sum (fold_of (sum_of place) rows) (number_at place row)

pub abs-sum_of : (place : ℕ) (columns : List Column) (rows : List (List Cell)) → fits_at place columns ≡ true → AllByRecursion (IsRowOf columns) rows → nat_abs (fold_of (sum_of place) rows) ≤ length rows * GREATEST_NUMBER
abs-sum_of place columns rows fit all =
    let within = abs-sum (number_at place) GREATEST_NUMBER columns (λ row is. abs-number_at place columns row fit is) (pos 0) rows all in
    omega arith

pub sum_within : (place : ℕ) → RanksWithin (fits_at place) (sum_of place) (λ meaning field. meaning) 1
sum_within place columns rows field fit all few within =
    is_rank (fold_of (sum_of place) rows) (omega (arith, abs-sum_of place columns rows fit all))

-- ---- the sum and the count

pub sum_of_totals : (place : ℕ) → IsPart (λ (totals : Totals). totals.sum) (totals_of place) (sum_of place)
sum_of_totals place = record { initial = refl; step = λ totals row. refl }

pub count_of_totals : (place : ℕ) → IsPart (λ (totals : Totals). totals.count) (totals_of place) count
count_of_totals place = record { initial = refl; step = λ totals row. refl }

-- two rows change any totals alike in either order
pub swap_totals : (place : ℕ) (totals : Totals) (one other : List Cell) → (totals_of place).step ((totals_of place).step totals one) other ≡ (totals_of place).step ((totals_of place).step totals other) one
swap_totals place totals one other = λ i. record { sum = swap_sum totals.sum (number_at place one) (number_at place other) i; count = totals.count + 1 + 1 }

-- and a row that was added to any can be taken back
pub back_totals : (place : ℕ) (totals : Totals) (row : List Cell) → totals_less place ((totals_of place).step totals row) row ≡ totals
back_totals place totals row = λ i. record { sum = back_sum totals.sum (number_at place row) i; count = back_count totals.count i }

pub totals_swaps : (place : ℕ) → Swaps (fits_at place) (totals_of place)
totals_swaps place columns fit rows one other few all is_one is_other = swap_totals place (fold_of (totals_of place) rows) one other

pub totals_take_back : (place : ℕ) → TakesBack (fits_at place) (totals_of place) (totals_less place)
totals_take_back place columns fit rows row few all is = back_totals place (fold_of (totals_of place) rows) row

-- a mean is not beyond the sum
abs-mean : (sum : ℤ) (number : ℕ) → nat_abs (if number == 0 then pos 0 else int_div_euclid sum (pos number)) ≤ nat_abs sum
abs-mean sum zero = omega arith
abs-mean (pos sum) (suc number) = let some : (suc number == 0) ≡ false = grind (arith, nat_tests) in rw some (omega arith)
abs-mean (negsuc sum) (suc number) = let some : (suc number == 0) ≡ false = grind (arith, nat_tests) in rw some (omega arith)

-- how large the totals of rows of a schema may be
pub record AreTotalsWithin (totals : Totals) (rows : ℕ) : Type 0 where
  pub sum : nat_abs totals.sum ≤ rows * GREATEST_NUMBER
  pub count : totals.count ≡ rows

pub totals_of-within : (place : ℕ) (columns : List Column) (rows : List (List Cell)) → fits_at place columns ≡ true → AllByRecursion (IsRowOf columns) rows → AreTotalsWithin (fold_of (totals_of place) rows) (length rows)
totals_of-within place columns rows fit all = record {
  sum = rw (part-fold_of (λ (totals : Totals). totals.sum) (totals_of place) (sum_of place) (sum_of_totals place) rows) (abs-sum_of place columns rows fit all);
  count = part-fold_of (λ (totals : Totals). totals.count) (totals_of place) count (count_of_totals place) rows ∙ fold_of-count rows;
}

totals_field-within : (totals : Totals) (rows field : ℕ) → AreTotalsWithin totals rows → rows ≤ ROWS → IsRank (totals_field totals field)
totals_field-within totals rows field within few =
    let sum : IsRank totals.sum = is_rank totals.sum (omega (arith, within.sum)) in
    let number : IsRank (pos totals.count) = count_is_rank totals.count (omega (arith, within.count)) in
    let middle : IsRank (mean totals) = is_rank (mean totals) (omega (arith, within.sum, abs-mean totals.sum totals.count)) in
    cond_both (field == 0) totals.sum (if field == 1 then pos totals.count else mean totals) IsRank (λ _. sum)
    (λ _. cond_both (field == 1) (pos totals.count) (mean totals) IsRank (λ _. number) (λ _. middle))

pub totals_within : (place : ℕ) → RanksWithin (fits_at place) (totals_of place) totals_field 3
totals_within place columns rows field fit all few within =
    totals_field-within (fold_of (totals_of place) rows) (length rows) field (totals_of-within place columns rows fit all) few

-- ---- the sum of squares

-- the squares alone
abbrev pub square_sum_of : ℕ → Reducer (List Cell) ℤ
square_sum_of place = record { initial = pos 0; step = λ sum row. sum +ℤ number_at place row *ℤ number_at place row }

pub squares_of_squares : (place : ℕ) → IsPart (λ (kept : SquareTotals). kept.squares) (squares_of place) (square_sum_of place)
squares_of_squares place = record { initial = refl; step = λ kept row. refl }

pub totals_of_squares : (place : ℕ) → IsPart (λ (kept : SquareTotals). kept.totals) (squares_of place) (totals_of place)
totals_of_squares place = record { initial = refl; step = λ kept row. refl }

pub swap_squares : (place : ℕ) (kept : SquareTotals) (one other : List Cell) → (squares_of place).step ((squares_of place).step kept one) other ≡ (squares_of place).step ((squares_of place).step kept other) one
swap_squares place kept one other = λ i. record {
  squares = swap_sum kept.squares (number_at place one *ℤ number_at place one) (number_at place other *ℤ number_at place other) i;
  totals = swap_totals place kept.totals one other i;
}

pub back_squares : (place : ℕ) (kept : SquareTotals) (row : List Cell) → squares_less place ((squares_of place).step kept row) row ≡ kept
back_squares place kept row = λ i. record {
  squares = back_sum kept.squares (number_at place row *ℤ number_at place row) i;
  totals = back_totals place kept.totals row i;
}

pub squares_swap : (place : ℕ) → Swaps (fits_at place) (squares_of place)
squares_swap place columns fit rows one other few all is_one is_other = swap_squares place (fold_of (squares_of place) rows) one other

pub squares_take_back : (place : ℕ) → TakesBack (fits_at place) (squares_of place) (squares_less place)
squares_take_back place columns fit rows row few all is = back_squares place (fold_of (squares_of place) rows) row

-- how large the squares and totals of rows of a schema may be
pub record AreSquaresWithin (kept : SquareTotals) (rows : ℕ) : Type 0 where
  pub squares : nat_abs kept.squares ≤ rows * (GREATEST_NUMBER * GREATEST_NUMBER)
  pub totals : AreTotalsWithin kept.totals rows

pub squares_of-within : (place : ℕ) (columns : List Column) (rows : List (List Cell)) → fits_at place columns ≡ true → AllByRecursion (IsRowOf columns) rows → AreSquaresWithin (fold_of (squares_of place) rows) (length rows)
squares_of-within place columns rows fit all =
    let within = abs-sum (λ row. number_at place row *ℤ number_at place row) (GREATEST_NUMBER * GREATEST_NUMBER) columns (λ row is. abs-square_at place columns row fit is) (pos 0) rows all in
    record {
      squares = rw (part-fold_of (λ (kept : SquareTotals). kept.squares) (squares_of place) (square_sum_of place) (squares_of_squares place) rows) (omega arith);
      totals = rw (part-fold_of (λ (kept : SquareTotals). kept.totals) (squares_of place) (totals_of place) (totals_of_squares place) rows) (totals_of-within place columns rows fit all);
    }

squares_field-within : (kept : SquareTotals) (rows field : ℕ) → AreSquaresWithin kept rows → rows ≤ ROWS → IsRank (squares_field kept field)
squares_field-within kept rows field within few =
    let squares : IsRank kept.squares = is_rank kept.squares (omega (arith, within.squares)) in
    let sum : IsRank kept.totals.sum = is_rank kept.totals.sum (omega (arith, within.totals.sum)) in
    let number : IsRank (pos kept.totals.count) = count_is_rank kept.totals.count (omega (arith, within.totals.count)) in
    cond_both (field == 0) kept.squares (if field == 1 then kept.totals.sum else pos kept.totals.count) IsRank (λ _. squares)
    (λ _. cond_both (field == 1) kept.totals.sum (pos kept.totals.count) IsRank (λ _. sum) (λ _. number))

pub squares_within : (place : ℕ) → RanksWithin (fits_at place) (squares_of place) squares_field 3
squares_within place columns rows field fit all few within =
    squares_field-within (fold_of (squares_of place) rows) (length rows) field (squares_of-within place columns rows fit all) few
