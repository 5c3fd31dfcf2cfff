-- When rows are not appended.
use Rattle.std.specs.Prelude.{ℕ, ◌+◌, nat_lt, List, length, Option, Some, option_map, slice_get, if◌then◌else◌}
use Rattle.std.specs.List.{enumerate_from, filter_map}
use Rattle.xf_base.specs.Schema.{misfit_of}
use Rattle.xf_base.specs.declared.cell.Cell.{Cell}
use Rattle.xf_base.specs.declared.column.Column.{Column}
use Rattle.xf_table.specs.Table.{Contents, text_of_rows}
use Rattle.xf_table.specs.declared.append_refusal.AppendRefusal.{AppendRefusal}
use Rattle.xf_table.specs.declared.append_refusal.AppendRefusal.TheVariants.{TooManyRecords, TooMuchText, KindMismatch}

-- the first of rows, each with its place, that is not of the columns
abbrev pub mismatch_of : List Column → List (ℕ × List Cell) → Option AppendRefusal
mismatch_of columns placed =
    slice_get (filter_map (λ (at : ℕ × List Cell). option_map (λ column. KindMismatch at.0 column) (misfit_of columns at.1)) placed) 0

-- the first cause for which rows are not appended, want of memory apart
abbrev pub refusal_of : Contents → List (List Cell) → Option AppendRefusal
refusal_of table rows =
    if nat_lt table.limits.rows (length table.rows + length rows)
    then Some (TooManyRecords (length table.rows) (length rows) table.limits.rows)
    else if nat_lt table.limits.text_bytes (text_of_rows table.rows + text_of_rows rows)
    then Some (TooMuchText (text_of_rows table.rows) (text_of_rows rows) table.limits.text_bytes)
    else mismatch_of table.columns (enumerate_from 0 rows)
