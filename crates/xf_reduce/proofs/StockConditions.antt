-- No sum of the stock is too large for its type.
use Rattle.std.proofs.Common.{◌≡◌, ℕ, ◌*◌, ◌<◌, ◌≤◌, ℤ, true, nat_abs, ◌-ℤ◌, ◌*ℤ◌, List, length, refl, ap, ◌∙◌, arith, le_trans, mul-le-mul_right}
use Rattle.xf_base.specs.declared.cell.Cell.{Cell}
use Rattle.xf_base.specs.declared.fixed.TheConstants.{GREATEST_NUMBER}
use Rattle.xf_base.specs.declared.limits.TheConstants.Limits.{ROWS}
use Rattle.xf_model.specs.Group.{count, fold_of}
use Rattle.xf_model.proofs.GroupValues.{fold_of-count}
use Rattle.xf_reduce.specs.Folds.{back_sum}
use Rattle.xf_reduce.specs.Laws.{IsFoldBefore, IsFoldWith}
use Rattle.xf_reduce.specs.Number.{fits_at, number_at}
use Rattle.xf_reduce.specs.CellNumbers.{abs-number_at, abs-square_at}
use Rattle.xf_reduce.specs.Stock.{squares_of, sum_of, totals_of}
use Rattle.xf_reduce.specs.StockLaws.{abs-sum_of, count_of_totals, squares_of-within, sum_of_totals, totals_of_squares}
use Rattle.xf_reduce.proofs.Conditions.{before_part, with_part}
use Rattle.xf_reduce.specs.declared.sum_count.Totals.{Totals}
use Rattle.xf_reduce.specs.declared.sum_squares.SquareTotals.{SquareTotals}

-- a count to which a row comes
pub count-before : (value : ℕ) (row : List Cell) → IsFoldBefore (λ _. true) count value row → value < ROWS
count-before value row before = omega (arith, before.folded, before.few, fold_of-count before.rows)

-- a count from which a row goes
pub count-with : (value : ℕ) (row : List Cell) → IsFoldWith (λ _. true) count value row → (1 ≤ value) × (value ≤ ROWS)
count-with value row among = (omega (arith, among.folded), omega (arith, among.folded, among.few, fold_of-count among.rows))

-- a fold of fewer rows than there may be
few-rows : (number rows bound : ℕ) → number ≤ rows * bound → rows < ROWS → number ≤ ROWS * bound
few-rows number rows bound within few = le_trans within (mul-le-mul_right bound (omega arith))

-- a sum to which a number comes
pub sum-before : (place : ℕ) (value : ℤ) (row : List Cell) → IsFoldBefore (fits_at place) (sum_of place) value row → (nat_abs value ≤ ROWS * GREATEST_NUMBER) × (nat_abs (number_at place row) ≤ GREATEST_NUMBER)
sum-before place value row before = (
  few-rows (nat_abs value) (length before.rows) GREATEST_NUMBER (rw before.folded (abs-sum_of place before.columns before.rows before.fit before.of_schema)) before.few,
  abs-number_at place before.columns row before.fit before.of_columns,
)

-- a sum from which a number goes
pub sum-with : (place : ℕ) (value : ℤ) (row : List Cell) → IsFoldWith (fits_at place) (sum_of place) value row → (nat_abs (value -ℤ number_at place row) ≤ ROWS * GREATEST_NUMBER) × (nat_abs (number_at place row) ≤ GREATEST_NUMBER)
sum-with place value row among =
    let rest : value -ℤ number_at place row ≡ fold_of (sum_of place) among.rows = ap (λ sum. sum -ℤ number_at place row) among.folded ∙ back_sum (fold_of (sum_of place) among.rows) (number_at place row) in (
      few-rows (nat_abs (value -ℤ number_at place row)) (length among.rows) GREATEST_NUMBER (rw rest (abs-sum_of place among.columns among.rows among.fit among.of_schema)) among.few,
      abs-number_at place among.columns row among.fit among.of_columns,
    )

-- totals to which a number comes
pub totals-before : (place : ℕ) (value : Totals) (row : List Cell) → IsFoldBefore (fits_at place) (totals_of place) value row → (nat_abs value.sum ≤ ROWS * GREATEST_NUMBER) × (nat_abs (number_at place row) ≤ GREATEST_NUMBER) × (value.count < ROWS)
totals-before place value row before =
    let sum = sum-before place value.sum row (before_part (λ (totals : Totals). totals.sum) (fits_at place) (fits_at place) (totals_of place) (sum_of place) (λ columns fit. fit) (sum_of_totals place) value row before) in
    let number = count-before value.count row (before_part (λ (totals : Totals). totals.count) (fits_at place) (λ _. true) (totals_of place) count (λ columns fit. refl) (count_of_totals place) value row before) in
    (sum.0, sum.1, number)

-- totals from which a number goes
pub totals-with : (place : ℕ) (value : Totals) (row : List Cell) → IsFoldWith (fits_at place) (totals_of place) value row → (nat_abs (value.sum -ℤ number_at place row) ≤ ROWS * GREATEST_NUMBER) × (nat_abs (number_at place row) ≤ GREATEST_NUMBER) × (1 ≤ value.count)
totals-with place value row among =
    let sum = sum-with place value.sum row (with_part (λ (totals : Totals). totals.sum) (fits_at place) (fits_at place) (totals_of place) (sum_of place) (λ columns fit. fit) (sum_of_totals place) value row among) in
    let number = count-with value.count row (with_part (λ (totals : Totals). totals.count) (fits_at place) (λ _. true) (totals_of place) count (λ columns fit. refl) (count_of_totals place) value row among) in
    (sum.0, sum.1, number.0)

-- totals beside squares
pub totals-before_squares : (place : ℕ) (value : SquareTotals) (row : List Cell) → IsFoldBefore (fits_at place) (squares_of place) value row → IsFoldBefore (fits_at place) (totals_of place) value.totals row
totals-before_squares place value row before =
    before_part (λ (kept : SquareTotals). kept.totals) (fits_at place) (fits_at place) (squares_of place) (totals_of place) (λ columns fit. fit) (totals_of_squares place) value row before

pub totals-with_squares : (place : ℕ) (value : SquareTotals) (row : List Cell) → IsFoldWith (fits_at place) (squares_of place) value row → IsFoldWith (fits_at place) (totals_of place) value.totals row
totals-with_squares place value row among =
    with_part (λ (kept : SquareTotals). kept.totals) (fits_at place) (fits_at place) (squares_of place) (totals_of place) (λ columns fit. fit) (totals_of_squares place) value row among

-- squares to which one comes
pub squares-before : (place : ℕ) (value : SquareTotals) (row : List Cell) → IsFoldBefore (fits_at place) (squares_of place) value row → (nat_abs value.squares ≤ ROWS * (GREATEST_NUMBER * GREATEST_NUMBER)) × (nat_abs (number_at place row *ℤ number_at place row) ≤ GREATEST_NUMBER * GREATEST_NUMBER)
squares-before place value row before =
    let within = squares_of-within place before.columns before.rows before.fit before.of_schema in (
      few-rows (nat_abs value.squares) (length before.rows) (GREATEST_NUMBER * GREATEST_NUMBER) (rw before.folded within.squares) before.few,
      abs-square_at place before.columns row before.fit before.of_columns,
    )

-- squares from which one goes
pub squares-with : (place : ℕ) (value : SquareTotals) (row : List Cell) → IsFoldWith (fits_at place) (squares_of place) value row → (nat_abs (value.squares -ℤ number_at place row *ℤ number_at place row) ≤ ROWS * (GREATEST_NUMBER * GREATEST_NUMBER)) × (nat_abs (number_at place row *ℤ number_at place row) ≤ GREATEST_NUMBER * GREATEST_NUMBER)
squares-with place value row among =
    let square = number_at place row *ℤ number_at place row in
    let within = squares_of-within place among.columns among.rows among.fit among.of_schema in
    let rest : value.squares -ℤ square ≡ (fold_of (squares_of place) among.rows).squares = ap (λ (kept : SquareTotals). kept.squares -ℤ square) among.folded ∙ back_sum (fold_of (squares_of place) among.rows).squares square in (
      few-rows (nat_abs (value.squares -ℤ square)) (length among.rows) (GREATEST_NUMBER * GREATEST_NUMBER) (rw rest within.squares) among.few,
      abs-square_at place among.columns row among.fit among.of_columns,
    )
