-- What a CSV file means as rows of a schema, or why it is refused.
use Rattle.std.specs.Prelude.{ℕ, ◌==◌, if◌then◌else◌, List, [], ◌∷◌, length, take, position, unwrap_or, slice_get, Result, Err}
use Rattle.std.specs.List.{enumerate_from, zip}
use Rattle.std.specs.Option.{ok_or}
use Rattle.std.specs.Result.{result_map_both}
use Rattle.std.specs.Str.{bytes_eq}
use Rattle.xf_base.specs.declared.cell.Cell.{Cell}
use Rattle.xf_base.specs.declared.column.Column.{Column}
use Rattle.xf_load.specs.Cell.{cell_of}
use Rattle.xf_load.specs.Fallible.{◌>>=◌, each_ok, map_err}
use Rattle.xf_load.specs.Records.{records_of}
use Rattle.xf_load.specs.declared.load.LoadRefusal.{LoadRefusal}
use Rattle.xf_load.specs.declared.load.LoadRefusal.TheVariants.{NoHeader, MissingColumn, UnevenRecord, BadCell}
use Rattle.xf_load.specs.declared.load.Loaded.{Loaded}

-- the place of a column of the schema, numbered from 0: the first at which the header has its name
abbrev pub place_of : List (List ℕ) → ℕ × Column → Result ℕ LoadRefusal
place_of header (index, column) = ok_or (position (bytes_eq column.name) header) (MissingColumn index)

abbrev pub places_of : List Column → List (List ℕ) → Result (List ℕ) LoadRefusal
places_of columns header = each_ok (place_of header) (enumerate_from 0 columns)

-- the cell of a column, whose field stands at this place of a record
abbrev pub cell_at : ℕ → List (List ℕ) → ℕ × (Column × ℕ) → Result Cell LoadRefusal
cell_at number fields (index, (column, place)) =
    map_err (BadCell number index) (cell_of column (unwrap_or (slice_get fields place) []))

-- the row of a record: it has as many fields as the header, and a cell for each column
abbrev pub row_of : List Column → List ℕ → ℕ → ℕ × List (List ℕ) → Result (List Cell) LoadRefusal
row_of columns places width (number, fields) =
    if length fields == width then each_ok (cell_at number fields) (enumerate_from 0 (zip columns places))
    else Err (UnevenRecord number)

-- the rows of the records after a header, numbered from 1
abbrev pub rows_after : List Column → List (List ℕ) → List (List (List ℕ)) → Result (List (List Cell)) LoadRefusal
rows_after columns header records = do
  places ← places_of columns header
  each_ok (row_of columns places (length header)) (enumerate_from 1 records)

abbrev pub rows_of_records : List Column → List (List (List ℕ)) → Result (List (List Cell)) LoadRefusal
rows_of_records columns [] = Err NoHeader
rows_of_records columns (header ∷ records) = rows_after columns header records

-- the rows of a file
abbrev pub rows_of : List Column → List ℕ → Result (List (List Cell)) LoadRefusal
rows_of columns bytes = rows_of_records columns (records_of bytes)

-- the number of rows, and the first so many of them
abbrev pub first_rows : ℕ → List (List Cell) → Loaded
first_rows limit rows = record { rows = take limit rows; count = length rows }

abbrev pub loaded_of : List Column → List ℕ → ℕ → Result Loaded LoadRefusal
loaded_of columns bytes limit = result_map_both (first_rows limit) (λ refusal. refusal) (rows_of columns bytes)
