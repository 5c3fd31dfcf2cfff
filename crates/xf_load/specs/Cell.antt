-- What a field means as a cell of its column, or why it is refused.
use Rattle.std.specs.Prelude.{ℕ, ◌<◌, ◌==◌, nat_lt, not, if◌then◌else◌, List, length, filter, Result, Ok, Err, ⊤}
use Rattle.std.specs.List.{list_all, slice_split}
use Rattle.std.specs.Option.{option_map_or}
use Rattle.std.specs.Result.{result_map_both}
use Rattle.std.specs.Str.{is_utf8}
use Rattle.xf_base.specs.Date.{date_of}
use Rattle.xf_base.specs.Fixed.{is_blank, number_of}
use Rattle.xf_base.specs.Key.{text_cmp}
use Rattle.xf_base.specs.declared.cell.Cell.{Cell}
use Rattle.xf_base.specs.declared.cell.Cell.TheVariants as cell
use Rattle.xf_base.specs.declared.column.Column.{Column}
use Rattle.xf_base.specs.declared.column.ColumnKind.{ColumnKind}
use Rattle.xf_base.specs.declared.column.ColumnKind.TheVariants as kind
use Rattle.xf_base.specs.declared.date.DateRefusal.{DateRefusal}
use Rattle.xf_base.specs.declared.date.DateRefusal.TheVariants as date
use Rattle.xf_base.specs.declared.fixed.NumberRefusal.{NumberRefusal}
use Rattle.xf_base.specs.declared.fixed.NumberRefusal.TheVariants as number
use Rattle.xf_base.specs.declared.limits.TheConstants.Limits.{CELL_BYTES, CELL_VALUES}
use Rattle.xf_load.specs.declared.cell.CellRefusal.{CellRefusal}
use Rattle.xf_load.specs.declared.cell.CellRefusal.TheVariants.{NotUtf8, Empty, NotNumber, TooManyDecimals, OutOfRange, Form, NoSuchDay, TextTooLong, TooManyTags}
use Rattle.xf_model.specs.Group.{distinct_keys}

-- the separator of a column of tags is an ASCII byte
abbrev pub HasAsciiSeparator : ColumnKind → Type 0
HasAsciiSeparator (kind.Tags separator) = separator < 128
HasAsciiSeparator kind.Int = ⊤
HasAsciiSeparator (kind.Fixed decimals) = ⊤
HasAsciiSeparator kind.Date = ⊤
HasAsciiSeparator kind.Text = ⊤

abbrev pub number_refusal : NumberRefusal → CellRefusal
number_refusal number.Empty = Empty
number_refusal number.NotNumber = NotNumber
number_refusal number.TooManyDecimals = TooManyDecimals
number_refusal number.OutOfRange = OutOfRange

abbrev pub date_refusal : DateRefusal → CellRefusal
date_refusal date.Form = Form
date_refusal date.NoSuchDay = NoSuchDay

-- a number, in units of the last of so many decimals
abbrev pub number_cell : List ℕ → ℕ → Result Cell CellRefusal
number_cell field decimals = result_map_both cell.Num number_refusal (number_of field decimals)

-- a day
abbrev pub day_cell : List ℕ → Result Cell CellRefusal
day_cell field = if list_all is_blank field then Err Empty else result_map_both cell.Num date_refusal (date_of field)

-- a text is taken as it is
abbrev pub text_cell : List ℕ → Result Cell CellRefusal
text_cell field = if nat_lt CELL_BYTES (length field) then Err TextTooLong else Ok (cell.Text field)

-- what stands between the separators of a field, where something does
abbrev pub pieces_of : ℕ → List ℕ → List (List ℕ)
pieces_of separator field = filter (λ piece. not (length piece == 0)) (slice_split (λ byte. byte == separator) field)

-- the tags of a field: its distinct pieces, ordered by their bytes
abbrev pub tags_of : ℕ → List ℕ → List (List ℕ)
tags_of separator field = distinct_keys text_cmp (pieces_of separator field)

abbrev pub tags_cell : ℕ → List ℕ → Result Cell CellRefusal
tags_cell separator field =
    if nat_lt CELL_BYTES (length field) then Err TextTooLong
    else if nat_lt CELL_VALUES (length (tags_of separator field)) then Err TooManyTags
    else Ok (cell.Tags (tags_of separator field))

-- the cell of a field by the kind of its column
abbrev pub cell_of_kind : ColumnKind → List ℕ → Result Cell CellRefusal
cell_of_kind kind.Int field = number_cell field 0
cell_of_kind (kind.Fixed decimals) field = number_cell field decimals
cell_of_kind kind.Date field = day_cell field
cell_of_kind kind.Text field = text_cell field
cell_of_kind (kind.Tags separator) field = tags_cell separator field

-- the cell of a field: nothing but blanks gives the column's blank, where it has one
abbrev pub cell_of : Column → List ℕ → Result Cell CellRefusal
cell_of column field =
    if not (is_utf8 field) then Err NotUtf8
    else if list_all is_blank field then option_map_or Ok column.blank (cell_of_kind column.kind field)
    else cell_of_kind column.kind field
