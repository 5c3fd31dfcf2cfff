-- What the parts of the stock mean: the fold of rows, how a row is taken back, and the fields.
use Rattle.std.specs.Prelude.{ℕ, ◌+◌, ◌-◌, ◌/◌, ◌==◌, ℤ, pos, ◌+ℤ◌, ◌-ℤ◌, ◌*ℤ◌, List, [], ◌∷◌, length, if◌then◌else◌, slice_index_or}
use Rattle.std.specs.Int.{int_div_euclid}
use Rattle.std.specs.Ordering.{int_cmp, is_eq, is_lt}
use Rattle.xf_base.specs.declared.cell.Cell.{Cell}
use Rattle.xf_model.specs.Group.{Reducer, distinct_keys}
use Rattle.xf_reduce.specs.Number.{number_at}
use Rattle.xf_reduce.specs.declared.sum_count.Totals.{Totals}
use Rattle.xf_reduce.specs.declared.sum_squares.SquareTotals.{SquareTotals}

-- ---- the count of rows, which the definitions have

abbrev pub count_less : ℕ → List Cell → ℕ
count_less count row = count - 1

-- ---- the sum of a column

abbrev pub sum_of : ℕ → Reducer (List Cell) ℤ
sum_of place = record { initial = pos 0; step = λ sum row. sum +ℤ number_at place row }

abbrev pub sum_less : ℕ → ℤ → List Cell → ℤ
sum_less place sum row = sum -ℤ number_at place row

-- ---- the sum, the count and the mean

abbrev pub totals_of : ℕ → Reducer (List Cell) Totals
totals_of place = record {
  initial = record { sum = pos 0; count = 0 };
  step = λ totals row. record { sum = totals.sum +ℤ number_at place row; count = totals.count + 1 };
}

abbrev pub totals_less : ℕ → Totals → List Cell → Totals
totals_less place totals row = record { sum = totals.sum -ℤ number_at place row; count = totals.count - 1 }

-- the sum divided by the count, rounded down; 0 over no rows
abbrev pub mean : Totals → ℤ
mean totals = if totals.count == 0 then pos 0 else int_div_euclid totals.sum (pos totals.count)

abbrev pub totals_field : Totals → ℕ → ℤ
totals_field totals field = if field == 0 then totals.sum else if field == 1 then pos totals.count else mean totals

-- ---- the sum of squares, the sum and the count

abbrev pub squares_of : ℕ → Reducer (List Cell) SquareTotals
squares_of place = record {
  initial = record { squares = pos 0; totals = (totals_of place).initial };
  step = λ kept row. record { squares = kept.squares +ℤ number_at place row *ℤ number_at place row; totals = (totals_of place).step kept.totals row };
}

abbrev pub squares_less : ℕ → SquareTotals → List Cell → SquareTotals
squares_less place kept row = record {
  squares = kept.squares -ℤ number_at place row *ℤ number_at place row;
  totals = totals_less place kept.totals row;
}

abbrev pub squares_field : SquareTotals → ℕ → ℤ
squares_field kept field = if field == 0 then kept.squares else if field == 1 then kept.totals.sum else pos kept.totals.count

-- ---- the numbers of a column, ascending

-- with a number more, before the first that is not below it
abbrev pub with_number : ℤ → List ℤ → List ℤ
with_number number [] = number ∷ []
with_number number (first ∷ later) = if is_lt (int_cmp first number) then first ∷ with_number number later else number ∷ first ∷ later

-- without the first that is this number
abbrev pub without_number : ℤ → List ℤ → List ℤ
without_number number [] = []
without_number number (first ∷ later) = if is_eq (int_cmp first number) then later else first ∷ without_number number later

abbrev pub numbers_of : ℕ → Reducer (List Cell) (List ℤ)
numbers_of place = record { initial = []; step = λ numbers row. with_number (number_at place row) numbers }

abbrev pub numbers_less : ℕ → List ℤ → List Cell → List ℤ
numbers_less place numbers row = without_number (number_at place row) numbers

-- the number at a place of the list, and 0 where it has none
abbrev pub number_in_place : List ℤ → ℕ → ℤ
number_in_place numbers place = slice_index_or numbers place (pos 0)

-- how many numbers differ, the least, the greatest, and the median: of two in the middle, the lower
abbrev pub numbers_field : List ℤ → ℕ → ℤ
numbers_field numbers field =
    if field == 0 then pos (length (distinct_keys int_cmp numbers))
    else if field == 1 then number_in_place numbers 0
    else if field == 2 then number_in_place numbers (length numbers - 1)
    else number_in_place numbers ((length numbers - 1) / 2)
