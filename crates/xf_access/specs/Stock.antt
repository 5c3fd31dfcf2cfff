-- What the stock accessors mean: which columns they fit, and which keys they give.
use Rattle.std.specs.Prelude.{ℕ, ◌==◌, Bool, true, false, ◌&&◌, if◌then◌else◌, ℤ, pos, ◌+ℤ◌, List, [], map, Option, Some, None, option_map, option_to_list, slice_get}
use Rattle.std.specs.Int.{int_rem_euclid}
use Rattle.xf_base.specs.Date.{is_day, month_of}
use Rattle.xf_base.specs.Form.{key_of_atom}
use Rattle.xf_base.specs.declared.cell.Cell.{Cell}
use Rattle.xf_base.specs.declared.cell.Cell.TheVariants as cell
use Rattle.xf_base.specs.declared.column.Column.{Column}
use Rattle.xf_base.specs.declared.column.ColumnKind.{ColumnKind}
use Rattle.xf_base.specs.declared.column.ColumnKind.TheVariants as kind
use Rattle.xf_base.specs.declared.form.AtomForm.{AtomForm}
use Rattle.xf_base.specs.declared.form.AtomForm.TheVariants.{Fixed, Date, Text}
use Rattle.xf_base.specs.declared.form.KeyForm.{KeyForm}
use Rattle.xf_base.specs.declared.form.KeyForm.TheVariants.{One, Pair}
use Rattle.xf_base.specs.declared.key.Atom.{Atom}
use Rattle.xf_base.specs.declared.key.Atom.TheVariants as atom
use Rattle.xf_base.specs.declared.key.Key.{Key}
use Rattle.xf_base.specs.declared.key.Key.TheVariants as key
use Rattle.xf_access.specs.declared.stock_accessor.StockAccessor.{StockAccessor}
use Rattle.xf_access.specs.declared.stock_accessor.StockAccessor.TheVariants.{Column as ColumnOf, PairOf, Tags, Weekday, Month}

-- ---- columns

-- how its keys are written
abbrev pub form_of : StockAccessor → KeyForm
form_of (ColumnOf place form) = form
form_of (PairOf first second form) = form
form_of (Tags place) = One Text
form_of (Weekday place) = One (Fixed 0)
form_of (Month place) = One (Fixed 0)

-- only tags may be many
abbrev pub may_give_many : StockAccessor → Bool
may_give_many (ColumnOf place form) = false
may_give_many (PairOf first second form) = false
may_give_many (Tags place) = true
may_give_many (Weekday place) = false
may_give_many (Month place) = false

-- the kind of the column at a place, where there is one
abbrev pub kind_at : List Column → ℕ → Option ColumnKind
kind_at columns place = option_map (λ column. column.kind) (slice_get columns place)

-- the form of a column's cells as keys: whole numbers have no decimals, and tags have no such form
abbrev pub is_form_of : AtomForm → Option ColumnKind → Bool
is_form_of (Fixed decimals) (Some kind.Int) = decimals == 0
is_form_of (Fixed decimals) (Some (kind.Fixed own)) = decimals == own
is_form_of (Fixed decimals) (Some kind.Date) = false
is_form_of (Fixed decimals) (Some kind.Text) = false
is_form_of (Fixed decimals) (Some (kind.Tags separator)) = false
is_form_of Date (Some kind.Int) = false
is_form_of Date (Some (kind.Fixed own)) = false
is_form_of Date (Some kind.Date) = true
is_form_of Date (Some kind.Text) = false
is_form_of Date (Some (kind.Tags separator)) = false
is_form_of Text (Some kind.Int) = false
is_form_of Text (Some (kind.Fixed own)) = false
is_form_of Text (Some kind.Date) = false
is_form_of Text (Some kind.Text) = true
is_form_of Text (Some (kind.Tags separator)) = false
is_form_of form None = false

-- a column of dates, and one of tags
abbrev pub is_of_dates : Option ColumnKind → Bool
is_of_dates column = is_form_of Date column

abbrev pub is_of_tags : Option ColumnKind → Bool
is_of_tags (Some kind.Int) = false
is_of_tags (Some (kind.Fixed own)) = false
is_of_tags (Some kind.Date) = false
is_of_tags (Some kind.Text) = false
is_of_tags (Some (kind.Tags separator)) = true
is_of_tags None = false

-- the form of one column, or of a pair of them
abbrev pub is_form_of_one : KeyForm → Option ColumnKind → Bool
is_form_of_one (One form) column = is_form_of form column
is_form_of_one (Pair first second) column = false

abbrev pub is_form_of_pair : KeyForm → Option ColumnKind → Option ColumnKind → Bool
is_form_of_pair (One form) first second = false
is_form_of_pair (Pair front back) first second = is_form_of front first && is_form_of back second

-- whether its columns are there and are such as it takes, and its form is theirs
abbrev pub fits_columns : StockAccessor → List Column → Bool
fits_columns (ColumnOf place form) columns = is_form_of_one form (kind_at columns place)
fits_columns (PairOf first second form) columns = is_form_of_pair form (kind_at columns first) (kind_at columns second)
fits_columns (Tags place) columns = is_of_tags (kind_at columns place)
fits_columns (Weekday place) columns = is_of_dates (kind_at columns place)
fits_columns (Month place) columns = is_of_dates (kind_at columns place)

-- ---- cells

-- a cell as a part of a key: a number or a text
abbrev pub atom_of_cell : Option Cell → Option Atom
atom_of_cell (Some (cell.Num number)) = Some (atom.Num number)
atom_of_cell (Some (cell.Text text)) = Some (atom.Text text)
atom_of_cell (Some (cell.Tags tags)) = None
atom_of_cell None = None

-- a cell as a number
abbrev pub number_of_cell : Option Cell → Option ℤ
number_of_cell (Some (cell.Num number)) = Some number
number_of_cell (Some (cell.Text text)) = None
number_of_cell (Some (cell.Tags tags)) = None
number_of_cell None = None

-- a pair of two parts
abbrev pub pair_of : Option Atom → Option Atom → Option Key
pair_of (Some first) (Some second) = Some (key.Pair first second)
pair_of (Some first) None = None
pair_of None second = None

-- the day of the week, from 0 for Sunday: day 0 was a Thursday
abbrev pub weekday_of : ℤ → ℤ
weekday_of day = int_rem_euclid (day +ℤ pos 4) (pos 7)

-- the month of a day, from 1
abbrev pub month_key : Option ℤ → Option Key
month_key (Some day) = if is_day day then Some (key.Num (pos (month_of day))) else None
month_key None = None

-- each tag
abbrev pub tag_keys : Option Cell → List Key
tag_keys (Some (cell.Num number)) = []
tag_keys (Some (cell.Text text)) = []
tag_keys (Some (cell.Tags tags)) = map key.Text tags
tag_keys None = []

-- the keys of a row
abbrev pub keys_of_row : StockAccessor → List Cell → List Key
keys_of_row (ColumnOf place form) row = option_to_list (option_map key_of_atom (atom_of_cell (slice_get row place)))
keys_of_row (PairOf first second form) row = option_to_list (pair_of (atom_of_cell (slice_get row first)) (atom_of_cell (slice_get row second)))
keys_of_row (Tags place) row = tag_keys (slice_get row place)
keys_of_row (Weekday place) row = option_to_list (option_map (λ day. key.Num (weekday_of day)) (number_of_cell (slice_get row place)))
keys_of_row (Month place) row = option_to_list (month_key (number_of_cell (slice_get row place)))
