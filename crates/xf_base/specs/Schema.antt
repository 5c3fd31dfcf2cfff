-- What a schema asks of its columns and of a row, and where a row does not fit.
use Rattle.std.specs.Prelude.{ℕ, ◌+◌, ◌-◌, ◌<◌, ◌≤◌, nat_le, Bool, true, false, ◌&&◌, if◌then◌else◌, ℤ, pos, neg_ℤ, nat_abs, int_le, ◌≤ℤ◌, List, [], ◌∷◌, length, sum_by, Option, Some, None, IfSome, option_map, position, ⊤}
use Rattle.std.specs.List.{AllZip}
use Rattle.std.specs.List.Sorted.{IsStrictlySortedBy}
use Rattle.std.specs.Str.{bytes_eq}
use Rattle.std.specs.Ordering.{is_lt}
use Rattle.xf_base.specs.Key.{text_cmp}
use Rattle.xf_base.specs.declared.date.TheConstants.{FIRST_DAY, LAST_DAY}
use Rattle.xf_base.specs.declared.fixed.TheConstants.{GREATEST_NUMBER}
use Rattle.xf_base.specs.declared.limits.TheConstants.Limits.{CELL_BYTES, CELL_VALUES}
use Rattle.xf_base.specs.declared.cell.Cell.{Cell}
use Rattle.xf_base.specs.declared.cell.Cell.TheVariants as cell
use Rattle.xf_base.specs.declared.column.ColumnKind.{ColumnKind}
use Rattle.xf_base.specs.declared.column.ColumnKind.TheVariants as kind
use Rattle.xf_base.specs.declared.column.Column.{Column}

-- a number that a cell may hold, in units of its column's last decimal
abbrev pub IsCellNumber : ℤ → Type 0
IsCellNumber number = (neg_ℤ (pos (GREATEST_NUMBER)) ≤ℤ number) × (number ≤ℤ pos (GREATEST_NUMBER))

-- a day of the years 0000 to 9999
abbrev pub IsDay : ℤ → Type 0
IsDay day = (FIRST_DAY ≤ℤ day) × (day ≤ℤ LAST_DAY)

-- at most 64 tags, ascending and distinct, of at most 4,096 bytes with a separator between each two
abbrev pub AreTags : List (List ℕ) → Type 0
AreTags tags = (length tags ≤ CELL_VALUES) × (sum_by length tags + (length tags - 1) ≤ CELL_BYTES) × IsStrictlySortedBy text_cmp tags

-- a cell of a column of this kind
abbrev pub IsCellOf : ColumnKind → Cell → Type 0
IsCellOf kind.Int (cell.Num number) = IsCellNumber number
IsCellOf kind.Int (cell.Text text) = ⊥
IsCellOf kind.Int (cell.Tags tags) = ⊥
IsCellOf (kind.Fixed decimals) (cell.Num number) = IsCellNumber number
IsCellOf (kind.Fixed decimals) (cell.Text text) = ⊥
IsCellOf (kind.Fixed decimals) (cell.Tags tags) = ⊥
IsCellOf kind.Date (cell.Num number) = IsDay number
IsCellOf kind.Date (cell.Text text) = ⊥
IsCellOf kind.Date (cell.Tags tags) = ⊥
IsCellOf kind.Text (cell.Num number) = ⊥
IsCellOf kind.Text (cell.Text text) = length text ≤ CELL_BYTES
IsCellOf kind.Text (cell.Tags tags) = ⊥
IsCellOf (kind.Tags separator) (cell.Num number) = ⊥
IsCellOf (kind.Tags separator) (cell.Text text) = ⊥
IsCellOf (kind.Tags separator) (cell.Tags tags) = AreTags tags

-- at most nine decimals, and a separator that is an ASCII byte
abbrev pub IsSoundKind : ColumnKind → Type 0
IsSoundKind kind.Int = ⊤
IsSoundKind (kind.Fixed decimals) = decimals ≤ 9
IsSoundKind kind.Date = ⊤
IsSoundKind kind.Text = ⊤
IsSoundKind (kind.Tags separator) = separator < 128

pub record IsColumn (column : Column) : Type 0 where
  pub kind : IsSoundKind column.kind
  pub blank : IfSome column.blank (IsCellOf column.kind)

-- the place of the first column of a name
abbrev pub place_of : List Column → List ℕ → Option ℕ
place_of columns name = position (λ column. bytes_eq column.name name) columns

-- a row with one cell for each column, each of its column's kind
abbrev pub IsRowOf : List Column → List Cell → Type 0
IsRowOf columns row = AllZip (λ column cell. IsCellOf column.kind cell) columns row

-- whether a number is one that a cell may hold
abbrev pub is_cell_number : ℤ → Bool
is_cell_number number = nat_le (nat_abs number) GREATEST_NUMBER

-- whether a number is a day of the years 0000 to 9999
abbrev pub is_day : ℤ → Bool
is_day day = int_le FIRST_DAY day && int_le day LAST_DAY

-- whether a text is below the first of others, where there is one
abbrev pub is_below_first : List ℕ → List (List ℕ) → Bool
is_below_first text [] = true
is_below_first text (next ∷ later) = is_lt (text_cmp text next)

-- whether each text is below the next
abbrev pub is_ascending : List (List ℕ) → Bool
is_ascending [] = true
is_ascending (text ∷ later) = is_below_first text later && is_ascending later

-- whether texts are the tags of a cell: few, short together with their separators, ascending and distinct
abbrev pub are_tags : List (List ℕ) → Bool
are_tags tags = nat_le (length tags) CELL_VALUES && nat_le (sum_by length tags + (length tags - 1)) CELL_BYTES && is_ascending tags

-- whether a cell is one of a column of this kind
abbrev pub is_cell_of : ColumnKind → Cell → Bool
is_cell_of kind.Int (cell.Num number) = is_cell_number number
is_cell_of kind.Int (cell.Text text) = false
is_cell_of kind.Int (cell.Tags tags) = false
is_cell_of (kind.Fixed decimals) (cell.Num number) = is_cell_number number
is_cell_of (kind.Fixed decimals) (cell.Text text) = false
is_cell_of (kind.Fixed decimals) (cell.Tags tags) = false
is_cell_of kind.Date (cell.Num number) = is_day number
is_cell_of kind.Date (cell.Text text) = false
is_cell_of kind.Date (cell.Tags tags) = false
is_cell_of kind.Text (cell.Num number) = false
is_cell_of kind.Text (cell.Text text) = nat_le (length text) CELL_BYTES
is_cell_of kind.Text (cell.Tags tags) = false
is_cell_of (kind.Tags separator) (cell.Num number) = false
is_cell_of (kind.Tags separator) (cell.Text text) = false
is_cell_of (kind.Tags separator) (cell.Tags tags) = are_tags tags

-- the first column for which a row has no cell or a cell of another kind; the number of columns where it has more cells
abbrev pub misfit_of : List Column → List Cell → Option ℕ
misfit_of [] [] = None
misfit_of [] (value ∷ row) = Some 0
misfit_of (column ∷ columns) [] = Some 0
misfit_of (column ∷ columns) (value ∷ row) =
    if is_cell_of column.kind value then option_map (λ place. place + 1) (misfit_of columns row) else Some 0
