-- What a CSV file means as a sheet, or why it is none.
use Rattle.std.specs.Prelude.{ℕ, ◌+◌, ◌*◌, ◌==◌, nat_lt, Bool, ◌&&◌, not, if◌then◌else◌, List, [], ◌∷◌, length, map, filter, take, position, unwrap_or, slice_get, Option, Some, None, Result, Ok, Err, is_ok}
use Rattle.std.specs.List.{enumerate_from, list_all, list_any}
use Rattle.std.specs.Result.{result_map_both, result_unwrap_or}
use Rattle.std.specs.Str.{bytes_eq, is_utf8}
use Rattle.xf_sheet.specs.SheetParts.{SheetParts}
use Rattle.xf_sheet.specs.declared.sheet.SheetRefusal.{SheetRefusal}
use Rattle.xf_sheet.specs.declared.sheet.SheetRefusal.TheVariants.{NoHeader, UnevenRecord, TooManyRecords, TooManyEntries}
use Rattle.xf_base.specs.Bounds.{Bounds}
use Rattle.xf_base.specs.Fixed.{number_of}
use Rattle.xf_base.specs.declared.column.Column.{Column}
use Rattle.xf_base.specs.declared.column.ColumnKind.TheVariants as kind
use Rattle.xf_base.specs.declared.limits.TheConstants.Limits.{DIMENSIONS}
use Rattle.xf_load.specs.Load.{rows_of}
use Rattle.xf_load.specs.Records.{records_of}

-- the place of the first record with another number of fields than the header
abbrev pub uneven_place : ℕ → List (List (List ℕ)) → Option ℕ
uneven_place width records = position (λ fields. not (length fields == width)) records

-- the field of a record at a place
abbrev pub field_of : List (List ℕ) → ℕ → List ℕ
field_of fields place = unwrap_or (slice_get fields place) []

-- a field is a whole number
abbrev pub is_number : List ℕ → Bool
is_number field = is_ok (number_of field 0)

-- every field at this place is a whole number
abbrev pub is_number_column : List (List (List ℕ)) → ℕ → Bool
is_number_column records place = list_all (λ fields. is_number (field_of fields place)) records

-- the name at this place of the header is UTF-8 and stands nowhere earlier in it
abbrev pub is_named : List (List ℕ) → ℕ × List ℕ → Bool
is_named header (place, name) = is_utf8 name && not (list_any (bytes_eq name) (take place header))

-- a column of the header is chosen: named, and every field below is a number
abbrev pub is_chosen : List (List ℕ) → List (List (List ℕ)) → ℕ × List ℕ → Bool
is_chosen header records (place, name) = is_named header (place, name) && is_number_column records place

-- a column of whole numbers
abbrev pub int_column : List ℕ → Column
int_column name = record { name = name; kind = kind.Int; blank = None }

-- the columns of the sheet: the first of those that are chosen, at most 32 whatever the limits
abbrev pub columns_of : List (List ℕ) → List (List (List ℕ)) → List Column
columns_of header records = map (λ (place, name). int_column name) (take DIMENSIONS (filter (is_chosen header records) (enumerate_from 0 header)))

-- the number of fields that the records have in the columns of the sheet
abbrev pub entries_of : List (List ℕ) → List (List (List ℕ)) → ℕ
entries_of header records = length records * length (columns_of header records)

-- the columns, unless a record is uneven, or there are more records or entries than the limits
abbrev pub columns_unless : List (List ℕ) → List (List (List ℕ)) → Bounds → Option ℕ → Result (List Column) SheetRefusal
columns_unless header records limits (Some place) = Err (UnevenRecord (place + 1))
columns_unless header records limits None =
    if nat_lt limits.rows (length records) then Err (TooManyRecords (length records) limits.rows)
    else if nat_lt limits.entries (entries_of header records) then Err (TooManyEntries (entries_of header records) limits.entries)
    else Ok (columns_of header records)

-- the columns of the sheet of these records, the first of which is the header
abbrev pub sheet_columns : List (List (List ℕ)) → Bounds → Result (List Column) SheetRefusal
sheet_columns [] limits = Err NoHeader
sheet_columns (header ∷ records) limits = columns_unless header records limits (uneven_place (length header) records)

-- a sheet of these columns, with the rows that a file has in them, which are never refused
abbrev pub sheet_with : List ℕ → List Column → SheetParts
sheet_with bytes columns = record { columns = columns; rows = result_unwrap_or (rows_of columns bytes) [] }

-- the sheet of a file within limits
abbrev pub sheet_of : List ℕ → Bounds → Result SheetParts SheetRefusal
sheet_of bytes limits = result_map_both (sheet_with bytes) (λ refusal. refusal) (sheet_columns (records_of bytes) limits)
