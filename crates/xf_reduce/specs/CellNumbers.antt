-- Only proofs need this file: the number in a column of numbers is one that a cell may hold.
use Rattle.std.proofs.Common.{◌≡◌, ℕ, ◌*◌, ◌≤◌, true, ℤ, nat_abs, ◌*ℤ◌, List, Option, Some, None, IsSomeAnd, MatchOption, slice_get, arith, mul-le-mul}
use Rattle.std.proofs.lemmas.Int.{ints, unsigned_abs-mul}
use Rattle.std.proofs.lemmas.Slice.Zip.{AllZip-left}
use Rattle.xf_base.specs.Schema.{IsCellNumber, IsCellOf, IsRowOf}
use Rattle.xf_base.specs.declared.cell.Cell.{Cell}
use Rattle.xf_base.specs.declared.cell.Cell.TheVariants as cell
use Rattle.xf_base.specs.declared.column.Column.{Column}
use Rattle.xf_base.specs.declared.column.ColumnKind.{ColumnKind}
use Rattle.xf_base.specs.declared.column.ColumnKind.TheVariants as kind
use Rattle.xf_base.specs.declared.fixed.TheConstants.{GREATEST_NUMBER}
use Rattle.xf_reduce.specs.Number.{fits_at, is_number_kind, is_of_numbers, number_at, number_in}

-- a number between two bounds
abs-cell : (number : ℤ) → IsCellNumber number → nat_abs number ≤ GREATEST_NUMBER
abs-cell number is = grind (arith, ints)

number_of_cell : (own : ColumnKind) (value : Cell) → IsCellOf own value → is_number_kind own ≡ true → nat_abs (number_in (Some value)) ≤ GREATEST_NUMBER
number_of_cell kind.Int (cell.Num number) is fits = abs-cell number is
number_of_cell (kind.Fixed decimals) (cell.Num number) is fits = abs-cell number is
number_of_cell _ _ is fits = absurd (first_of (cc, search is))

number_of_column : (column : Option Column) (value : Option Cell) → MatchOption column (Unit {0}) (λ column. IsSomeAnd value (IsCellOf column.kind)) → is_of_numbers column ≡ true → nat_abs (number_in value) ≤ GREATEST_NUMBER
number_of_column None value has fits = absurd cc
number_of_column (Some column) None has fits = absurd has
number_of_column (Some column) (Some value) has fits = number_of_cell column.kind value has fits

-- the number of a row in a column of numbers
pub abs-number_at : (place : ℕ) (columns : List Column) (row : List Cell) → fits_at place columns ≡ true → IsRowOf columns row → nat_abs (number_at place row) ≤ GREATEST_NUMBER
abs-number_at place columns row fits is =
    number_of_column (slice_get columns place) (slice_get row place) (AllZip-left (λ column value. IsCellOf column.kind value) columns row is place) fits

-- and its square
pub abs-square_at : (place : ℕ) (columns : List Column) (row : List Cell) → fits_at place columns ≡ true → IsRowOf columns row → nat_abs (number_at place row *ℤ number_at place row) ≤ GREATEST_NUMBER * GREATEST_NUMBER
abs-square_at place columns row fits is =
    let within : nat_abs (number_at place row) ≤ GREATEST_NUMBER = abs-number_at place columns row fits is in
    rw (unsigned_abs-mul (number_at place row) (number_at place row)) (mul-le-mul within within)
