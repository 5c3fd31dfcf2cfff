-- The number in a column, and the columns that have one.
use Rattle.std.specs.Prelude.{ℕ, ℤ, pos, Bool, true, false, List, Option, Some, None, slice_get}
use Rattle.xf_base.specs.declared.cell.Cell.{Cell}
use Rattle.xf_base.specs.declared.cell.Cell.TheVariants as cell
use Rattle.xf_base.specs.declared.column.Column.{Column}
use Rattle.xf_base.specs.declared.column.ColumnKind.{ColumnKind}
use Rattle.xf_base.specs.declared.column.ColumnKind.TheVariants as kind

-- a cell's number, and 0 where it has none
abbrev pub number_in : Option Cell → ℤ
number_in (Some (cell.Num number)) = number
number_in (Some (cell.Text text)) = pos 0
number_in (Some (cell.Tags tags)) = pos 0
number_in None = pos 0

-- the number of a row in the column at a place
abbrev pub number_at : ℕ → List Cell → ℤ
number_at place row = number_in (slice_get row place)

-- whether the cells of a column of this kind are whole numbers or decimals
abbrev pub is_number_kind : ColumnKind → Bool
is_number_kind kind.Int = true
is_number_kind (kind.Fixed decimals) = true
is_number_kind kind.Date = false
is_number_kind kind.Text = false
is_number_kind (kind.Tags separator) = false

-- whether a column is there and is one of those
abbrev pub is_of_numbers : Option Column → Bool
is_of_numbers None = false
is_of_numbers (Some column) = is_number_kind column.kind

-- whether the column at a place is one of numbers
abbrev pub fits_at : ℕ → List Column → Bool
fits_at place columns = is_of_numbers (slice_get columns place)
