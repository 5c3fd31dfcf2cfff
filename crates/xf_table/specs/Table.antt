-- What a table holds.
use Rattle.std.specs.Prelude.{ℕ, Bool, ◌-◌, ◌^◌, ◌≤◌, ◌≡◌, List, ◌++◌, length, sum_by, min}
use Rattle.std.specs.List.{AllByRecursion}
use Rattle.xf_base.specs.Bounds.{Bounds}
use Rattle.xf_base.specs.Cell.{row_bytes}
use Rattle.xf_base.specs.Gone.{kept}
use Rattle.xf_base.specs.Schema.{IsRowOf}
use Rattle.xf_base.specs.declared.cell.Cell.{Cell}
use Rattle.xf_base.specs.declared.column.Column.{Column}

-- the columns, how much the table may hold, and its rows in order
pub record Contents : Type 0 where
  pub columns : List Column
  pub limits : Bounds
  pub rows : List (List Cell)

-- the bytes of text of all rows, or the greatest 64-bit number where there are more
abbrev pub text_of_rows : List (List Cell) → ℕ
text_of_rows rows = min (sum_by row_bytes rows) (2 ^ 64 - 1)

-- the table with more rows at its end
abbrev pub with_rows : Contents → List (List Cell) → Contents
with_rows table rows = record { columns = table.columns; limits = table.limits; rows = table.rows ++ rows }

-- the table without the rows at the places that are removed
abbrev pub kept_rows : List Bool → Contents → Contents
kept_rows gone table = record { columns = table.columns; limits = table.limits; rows = kept gone table.rows }

-- what is true of every table: each row is of the columns, rows and text are within their limits, and the
-- text is counted
pub record IsTable (columns : List Column) (limits : Bounds) (rows : List (List Cell)) (text : ℕ) : Type 0 where
  pub of_schema : AllByRecursion (IsRowOf columns) rows
  pub few : length rows ≤ limits.rows
  pub small : text ≤ limits.text_bytes
  pub counted : text ≡ text_of_rows rows
