-- What holds of the value of any part of the stock holds of what the part itself keeps.
use Rattle.std.proofs.Common.{◌≡◌, ℕ, true, List, subst}
use Rattle.xf_base.specs.declared.cell.Cell.{Cell}
use Rattle.xf_model.specs.Group.{count}
use Rattle.xf_reduce.specs.Laws.{IsFoldBefore, IsFoldWith}
use Rattle.xf_reduce.specs.Number.{fits_at}
use Rattle.xf_reduce.specs.Simple.{simple_fits, simple_of}
use Rattle.xf_reduce.specs.SimpleLaws.{count_of_simple, numbers_of_simple, squares_of_simple, sum_of_simple, totals_of_simple}
use Rattle.xf_reduce.specs.Stock.{numbers_of, squares_of, sum_of, totals_of}
use Rattle.xf_reduce.specs.declared.simple.Simple.{Simple}
use Rattle.xf_reduce.specs.declared.simple.Simple.TheVariants.{Count, Sum, SumCount, SumSquares, Spread}
use Rattle.xf_reduce.specs.declared.simple.SimpleMeaning.{SimpleMeaning}
use Rattle.xf_reduce.proofs.Conditions.{before_part, with_part}

module _ (part : Simple) (kept : SimpleMeaning) (row : List Cell) where
  pub count-before_simple : part ≡ Count → IsFoldBefore (simple_fits part) (simple_of part) kept row → IsFoldBefore (λ _. true) count kept.squares.totals.count row
  count-before_simple is before =
      before_part (λ (kept : SimpleMeaning). kept.squares.totals.count) (simple_fits Count) (λ _. true) (simple_of Count) count (λ columns fit. fit) count_of_simple kept row
      (subst (λ part. IsFoldBefore (simple_fits part) (simple_of part) kept row) is before)

  pub count-with_simple : part ≡ Count → IsFoldWith (simple_fits part) (simple_of part) kept row → IsFoldWith (λ _. true) count kept.squares.totals.count row
  count-with_simple is among =
      with_part (λ (kept : SimpleMeaning). kept.squares.totals.count) (simple_fits Count) (λ _. true) (simple_of Count) count (λ columns fit. fit) count_of_simple kept row
      (subst (λ part. IsFoldWith (simple_fits part) (simple_of part) kept row) is among)

  pub sum-before_simple : (place : ℕ) → part ≡ Sum place → IsFoldBefore (simple_fits part) (simple_of part) kept row → IsFoldBefore (fits_at place) (sum_of place) kept.squares.totals.sum row
  sum-before_simple place is before =
      before_part (λ (kept : SimpleMeaning). kept.squares.totals.sum) (simple_fits (Sum place)) (fits_at place) (simple_of (Sum place)) (sum_of place) (λ columns fit. fit) (sum_of_simple place) kept row
      (subst (λ part. IsFoldBefore (simple_fits part) (simple_of part) kept row) is before)

  pub sum-with_simple : (place : ℕ) → part ≡ Sum place → IsFoldWith (simple_fits part) (simple_of part) kept row → IsFoldWith (fits_at place) (sum_of place) kept.squares.totals.sum row
  sum-with_simple place is among =
      with_part (λ (kept : SimpleMeaning). kept.squares.totals.sum) (simple_fits (Sum place)) (fits_at place) (simple_of (Sum place)) (sum_of place) (λ columns fit. fit) (sum_of_simple place) kept row
      (subst (λ part. IsFoldWith (simple_fits part) (simple_of part) kept row) is among)

  pub totals-before_simple : (place : ℕ) → part ≡ SumCount place → IsFoldBefore (simple_fits part) (simple_of part) kept row → IsFoldBefore (fits_at place) (totals_of place) kept.squares.totals row
  totals-before_simple place is before =
      before_part (λ (kept : SimpleMeaning). kept.squares.totals) (simple_fits (SumCount place)) (fits_at place) (simple_of (SumCount place)) (totals_of place) (λ columns fit. fit) (totals_of_simple place) kept row
      (subst (λ part. IsFoldBefore (simple_fits part) (simple_of part) kept row) is before)

  pub totals-with_simple : (place : ℕ) → part ≡ SumCount place → IsFoldWith (simple_fits part) (simple_of part) kept row → IsFoldWith (fits_at place) (totals_of place) kept.squares.totals row
  totals-with_simple place is among =
      with_part (λ (kept : SimpleMeaning). kept.squares.totals) (simple_fits (SumCount place)) (fits_at place) (simple_of (SumCount place)) (totals_of place) (λ columns fit. fit) (totals_of_simple place) kept row
      (subst (λ part. IsFoldWith (simple_fits part) (simple_of part) kept row) is among)

  pub squares-before_simple : (place : ℕ) → part ≡ SumSquares place → IsFoldBefore (simple_fits part) (simple_of part) kept row → IsFoldBefore (fits_at place) (squares_of place) kept.squares row
  squares-before_simple place is before =
      before_part (λ (kept : SimpleMeaning). kept.squares) (simple_fits (SumSquares place)) (fits_at place) (simple_of (SumSquares place)) (squares_of place) (λ columns fit. fit) (squares_of_simple place) kept row
      (subst (λ part. IsFoldBefore (simple_fits part) (simple_of part) kept row) is before)

  pub squares-with_simple : (place : ℕ) → part ≡ SumSquares place → IsFoldWith (simple_fits part) (simple_of part) kept row → IsFoldWith (fits_at place) (squares_of place) kept.squares row
  squares-with_simple place is among =
      with_part (λ (kept : SimpleMeaning). kept.squares) (simple_fits (SumSquares place)) (fits_at place) (simple_of (SumSquares place)) (squares_of place) (λ columns fit. fit) (squares_of_simple place) kept row
      (subst (λ part. IsFoldWith (simple_fits part) (simple_of part) kept row) is among)

  pub numbers-before_simple : (place : ℕ) → part ≡ Spread place → IsFoldBefore (simple_fits part) (simple_of part) kept row → IsFoldBefore (fits_at place) (numbers_of place) kept.numbers row
  numbers-before_simple place is before =
      before_part (λ (kept : SimpleMeaning). kept.numbers) (simple_fits (Spread place)) (fits_at place) (simple_of (Spread place)) (numbers_of place) (λ columns fit. fit) (numbers_of_simple place) kept row
      (subst (λ part. IsFoldBefore (simple_fits part) (simple_of part) kept row) is before)

  pub numbers-with_simple : (place : ℕ) → part ≡ Spread place → IsFoldWith (simple_fits part) (simple_of part) kept row → IsFoldWith (fits_at place) (numbers_of place) kept.numbers row
  numbers-with_simple place is among =
      with_part (λ (kept : SimpleMeaning). kept.numbers) (simple_fits (Spread place)) (fits_at place) (simple_of (Spread place)) (numbers_of place) (λ columns fit. fit) (numbers_of_simple place) kept row
      (subst (λ part. IsFoldWith (simple_fits part) (simple_of part) kept row) is among)
