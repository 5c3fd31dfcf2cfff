-- What the words for accessors, roundings and reducers name, and which columns they take.
use Rattle.std.specs.Prelude.{ℕ, ◌<◌, ◌^◌, ⊤, Bool, true, false, List, Option, Some, None, unwrap_or, is_none, is_some, pos, if◌then◌else◌}
use Rattle.std.specs.Option.{option_or}
use Rattle.xf_access.specs.Stock.{is_of_dates, is_of_tags, kind_at}
use Rattle.xf_access.specs.declared.stock_accessor.StockAccessor.{StockAccessor}
use Rattle.xf_access.specs.declared.stock_accessor.StockAccessor.TheVariants as stock
use Rattle.xf_access.specs.declared.stock_rounding.StockRounding.{StockRounding}
use Rattle.xf_access.specs.declared.stock_rounding.StockRounding.TheVariants.{Same, Floor, MonthOf, YearOf, FirstLetters}
use Rattle.xf_base.specs.Schema.{place_of}
use Rattle.xf_base.specs.declared.column.Column.{Column}
use Rattle.xf_base.specs.declared.column.ColumnKind.{ColumnKind}
use Rattle.xf_base.specs.declared.column.ColumnKind.TheVariants as kind
use Rattle.xf_base.specs.declared.form.AtomForm.{AtomForm}
use Rattle.xf_base.specs.declared.form.AtomForm.TheVariants as atom
use Rattle.xf_base.specs.declared.form.KeyForm.{KeyForm}
use Rattle.xf_base.specs.declared.form.KeyForm.TheVariants.{One, Pair}
use Rattle.xf_columns.specs.declared.column_refusal.ColumnRefusal.TheVariants.{NoColumn, WrongColumn}
use Rattle.xf_columns.specs.declared.column_refusal.ColumnRefusal.{ColumnRefusal}
use Rattle.xf_columns.specs.declared.words.AccessorWords.TheVariants as accessor
use Rattle.xf_columns.specs.declared.words.AccessorWords.{AccessorWords}
use Rattle.xf_columns.specs.declared.words.ReducerWords.TheVariants as reducer
use Rattle.xf_columns.specs.declared.words.ReducerWords.{ReducerWords}
use Rattle.xf_columns.specs.declared.words.RoundingWords.TheVariants as rounding
use Rattle.xf_columns.specs.declared.words.RoundingWords.{RoundingWords}
use Rattle.xf_columns.specs.declared.words.SimpleWords.TheVariants as words
use Rattle.xf_columns.specs.declared.words.SimpleWords.{SimpleWords}
use Rattle.xf_reduce.specs.Number.{is_number_kind}
use Rattle.xf_reduce.specs.declared.simple.Simple.{Simple}
use Rattle.xf_reduce.specs.declared.simple.Simple.TheVariants as part
use Rattle.xf_reduce.specs.declared.stock_reducer.StockReducer.{StockReducer}
use Rattle.xf_reduce.specs.declared.stock_reducer.StockReducer.TheVariants as stock_reducer

-- the form of a column's cells as keys; tags are many
abbrev pub form_of_column : Option ColumnKind → Option AtomForm
form_of_column (Some kind.Int) = Some (atom.Fixed 0)
form_of_column (Some (kind.Fixed decimals)) = Some (atom.Fixed decimals)
form_of_column (Some kind.Date) = Some atom.Date
form_of_column (Some kind.Text) = Some atom.Text
form_of_column (Some (kind.Tags separator)) = None
form_of_column None = None

-- ---- accessors

-- the place of a column of a name; 0 where there is none
abbrev pub column_at : List Column → List ℕ → ℕ
column_at columns name = unwrap_or (place_of columns name) 0

abbrev pub kind_named : List Column → List ℕ → Option ColumnKind
kind_named columns name = kind_at columns (column_at columns name)

abbrev pub form_named : List Column → List ℕ → AtomForm
form_named columns name = unwrap_or (form_of_column (kind_named columns name)) atom.Text

-- the accessor that words name
abbrev pub accessor_of : List Column → AccessorWords → StockAccessor
accessor_of columns (accessor.Column name) = stock.Column (column_at columns name) (One (form_named columns name))
accessor_of columns (accessor.Pair first second) =
    stock.PairOf (column_at columns first) (column_at columns second) (Pair (form_named columns first) (form_named columns second))
accessor_of columns (accessor.Tags name) = stock.Tags (column_at columns name)
accessor_of columns (accessor.Weekday name) = stock.Weekday (column_at columns name)
accessor_of columns (accessor.Month name) = stock.Month (column_at columns name)

-- why a column does not fit: it is not there, or it is not such as is taken
abbrev pub column_refusal : (Option ColumnKind → Bool) → List Column → List ℕ → Option ColumnRefusal
column_refusal takes columns name =
    if is_none (place_of columns name) then Some (NoColumn name) else if takes (kind_named columns name) then None else Some (WrongColumn name)

-- a column whose cells are keys
abbrev pub is_plain : Option ColumnKind → Bool
is_plain column = is_some (form_of_column column)

-- why an accessor does not fit, its columns from left to right
abbrev pub accessor_refusal : List Column → AccessorWords → Option ColumnRefusal
accessor_refusal columns (accessor.Column name) = column_refusal is_plain columns name
accessor_refusal columns (accessor.Pair first second) = option_or (column_refusal is_plain columns first) (column_refusal is_plain columns second)
accessor_refusal columns (accessor.Tags name) = column_refusal is_of_tags columns name
accessor_refusal columns (accessor.Weekday name) = column_refusal is_of_dates columns name
accessor_refusal columns (accessor.Month name) = column_refusal is_of_dates columns name

-- ---- roundings

-- a width of 15 digits at most
abbrev pub IsWidth : RoundingWords → Type 0
IsWidth rounding.Same = ⊤
IsWidth (rounding.Floor width) = width < 10 ^ 15
IsWidth rounding.Month = ⊤
IsWidth rounding.Year = ⊤
IsWidth (rounding.Letters count) = ⊤

abbrev pub rounding_of : RoundingWords → StockRounding
rounding_of rounding.Same = Same
rounding_of (rounding.Floor width) = Floor (pos width)
rounding_of rounding.Month = MonthOf
rounding_of rounding.Year = YearOf
rounding_of (rounding.Letters count) = FirstLetters count

abbrev pub is_fixed : KeyForm → Bool
is_fixed (One (atom.Fixed decimals)) = true
is_fixed (One atom.Date) = false
is_fixed (One atom.Text) = false
is_fixed (Pair first second) = false

abbrev pub is_date : KeyForm → Bool
is_date (One (atom.Fixed decimals)) = false
is_date (One atom.Date) = true
is_date (One atom.Text) = false
is_date (Pair first second) = false

abbrev pub is_text : KeyForm → Bool
is_text (One (atom.Fixed decimals)) = false
is_text (One atom.Date) = false
is_text (One atom.Text) = true
is_text (Pair first second) = false

-- whether a rounding applies to keys of a form
abbrev pub applies : StockRounding → KeyForm → Bool
applies Same form = true
applies (Floor width) form = is_fixed form
applies MonthOf form = is_date form
applies YearOf form = is_date form
applies (FirstLetters count) form = is_text form

-- ---- reducers

-- a column of whole numbers or decimals
abbrev pub is_of_numbers : Option ColumnKind → Bool
is_of_numbers (Some own) = is_number_kind own
is_of_numbers None = false

-- the part that words name
abbrev pub simple_of : List Column → SimpleWords → Simple
simple_of columns words.Count = part.Count
simple_of columns (words.Sum name) = part.Sum (column_at columns name)
simple_of columns (words.SumCount name) = part.SumCount (column_at columns name)
simple_of columns (words.SumSquares name) = part.SumSquares (column_at columns name)
simple_of columns (words.Spread name) = part.Spread (column_at columns name)

-- why the column of a part does not fit
abbrev pub simple_refusal : List Column → SimpleWords → Option ColumnRefusal
simple_refusal columns words.Count = None
simple_refusal columns (words.Sum name) = column_refusal is_of_numbers columns name
simple_refusal columns (words.SumCount name) = column_refusal is_of_numbers columns name
simple_refusal columns (words.SumSquares name) = column_refusal is_of_numbers columns name
simple_refusal columns (words.Spread name) = column_refusal is_of_numbers columns name

-- the reducer that words name, and why a column of it does not fit, from left to right
abbrev pub reducer_of : List Column → ReducerWords → StockReducer
reducer_of columns (reducer.One first) = stock_reducer.One (simple_of columns first)
reducer_of columns (reducer.Both first second) = stock_reducer.Two (simple_of columns first) (simple_of columns second)

abbrev pub reducer_refusal : List Column → ReducerWords → Option ColumnRefusal
reducer_refusal columns (reducer.One first) = simple_refusal columns first
reducer_refusal columns (reducer.Both first second) = option_or (simple_refusal columns first) (simple_refusal columns second)
