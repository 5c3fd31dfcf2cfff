-- A reducer that is not of the stock, with the proofs of its laws.
use Rattle.std.proofs.Common.{◌≡◌, ℕ, ◌+◌, ◌-◌, ◌≤◌, ℤ, pos, if◌then◌else◌, List, [], ◌∷◌, length, fold, Option, Some, None, slice_get, arith, lit≤}
use Rattle.std.proofs.lemmas.Int.{ints}
use Rattle.std.specs.Int.{int_rem_euclid}
use Rattle.std.specs.Ordering.{int_eq}
use Rattle.xf_base.specs.declared.cell.Cell.{Cell}
use Rattle.xf_base.specs.declared.cell.Cell.TheVariants as cell
use Rattle.xf_base.specs.declared.limits.TheConstants.Limits.{ROWS}
use Rattle.xf_model.specs.Group.{Reducer, fold_of}
use Rattle.xf_reduce.specs.Laws.{IsFoldBefore, IsRank, RanksWithin, Swaps, TakesBack}
use Rattle.xf_reduce.specs.Number.{fits_at}

-- 1 for a number that is even, and 0 for another
abbrev pub even_number : ℤ → ℕ
even_number number = if int_eq (int_rem_euclid number (pos 2)) (pos 0) then 1 else 0

-- the same of a cell; one without a number has 0
abbrev pub even_cell : Option Cell → ℕ
even_cell (Some (cell.Num number)) = even_number number
even_cell (Some (cell.Text text)) = 0
even_cell (Some (cell.Tags tags)) = 0
even_cell None = 0

-- and of the first cell of a row
abbrev pub even_first : List Cell → ℕ
even_first row = even_cell (slice_get row 0)

-- how many rows have an even number first
abbrev pub evens : Reducer (List Cell) ℕ
evens = record { initial = 0; step = λ count row. count + even_first row }

abbrev pub evens_less : ℕ → List Cell → ℕ
evens_less count row = count - even_first row

pub evens_few : (1 ≤ 1) × (1 ≤ 200)
evens_few = (lit≤ tt, lit≤ tt)

swap-sum : (count one other : ℕ) → count + one + other ≡ count + other + one
swap-sum count one other = omega arith

back-sum : (count one : ℕ) → count + one - one ≡ count
back-sum count one = omega arith

pub evens_swap : Swaps (fits_at 0) evens
evens_swap columns fit rows one other few all is_one is_other = swap-sum (fold_of evens rows) (even_first one) (even_first other)

pub evens_take_back : TakesBack (fits_at 0) evens evens_less
evens_take_back columns fit rows row few all is = back-sum (fold_of evens rows) (even_first row)

-- ---- no more rows have an even number first than there are

even_number-few : (number : ℤ) → even_number number ≤ 1
even_number-few number = grind arith

even_cell-few : (value : Option Cell) → even_cell value ≤ 1
even_cell-few (Some (cell.Num number)) = even_number-few number
even_cell-few (Some (cell.Text text)) = omega arith
even_cell-few (Some (cell.Tags tags)) = omega arith
even_cell-few None = omega arith

-- a row counts once at most
pub even_first-few : (row : List Cell) → even_first row ≤ 1
even_first-few row = even_cell-few (slice_get row 0)

fold-few : (start : ℕ) (rows : List (List Cell)) → fold (λ count row. count + even_first row) start rows ≤ start + length rows
fold-few start [] = omega arith
fold-few start (row ∷ rows) =
    let here = even_first-few row in
    let rest = fold-few (start + even_first row) rows in
    omega arith

evens-few : (rows : List (List Cell)) → fold_of evens rows ≤ length rows
evens-few rows = omega (arith, fold-few 0 rows)

count_is_rank : (count : ℕ) → count ≤ ROWS → IsRank (pos count)
count_is_rank count few = (grind (arith, ints), grind (arith, ints))

pub evens_within : RanksWithin (fits_at 0) evens (λ meaning field. pos meaning) 1
evens_within columns rows field fit all few within = count_is_rank (fold_of evens rows) (omega (arith, evens-few rows))

-- a count to which a row comes
pub evens-before : (value : ℕ) (row : List Cell) → IsFoldBefore (fits_at 0) evens value row → value + even_first row ≤ ROWS
evens-before value row before = omega (arith, before.folded, before.few, evens-few before.rows, even_first-few row)
