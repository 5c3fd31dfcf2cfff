-- How a board is printed: the JSON value of each of its parts, with all members, defaults too, in the order of the bytes of
-- their names, and the compact text of the board's.
use Rattle.std.specs.Prelude.{ℕ, ℤ, Bool, if◌then◌else◌, List, [], ◌∷◌, ◌++◌, map, codes, Option, Some, None, option_map, slice_get, IfSome, IsUtf8}
use Rattle.std.specs.Option.{option_map_or}
use Rattle.serde_json.specs.Data.{Data, Members, array, member, no_members, number, object, string, unsigned}
use Rattle.serde_json.specs.Find.{of_integer}
use Rattle.serde_json.specs.View.{items_of}
use Rattle.serde_json.specs.Written.{compact_text}
use Rattle.std.specs.Char.{encode_utf8}
use Rattle.xf_access.specs.declared.stock_accessor.StockAccessor.{StockAccessor}
use Rattle.xf_access.specs.declared.stock_accessor.StockAccessor.TheVariants as accessor
use Rattle.xf_access.specs.declared.stock_rounding.StockRounding.{StockRounding}
use Rattle.xf_access.specs.declared.stock_rounding.StockRounding.TheVariants as rounding
use Rattle.xf_base.specs.Date.{day_text}
use Rattle.xf_base.specs.Fixed.{fixed_text}
use Rattle.xf_base.specs.declared.cell.Cell.{Cell}
use Rattle.xf_base.specs.declared.cell.Cell.TheVariants as cell
use Rattle.xf_base.specs.declared.column.Column.{Column}
use Rattle.xf_base.specs.declared.column.ColumnKind.{ColumnKind}
use Rattle.xf_base.specs.declared.column.ColumnKind.TheVariants as kind
use Rattle.xf_reduce.specs.declared.simple.Simple.{Simple}
use Rattle.xf_reduce.specs.declared.simple.Simple.TheVariants as part
use Rattle.xf_reduce.specs.declared.stock_reducer.StockReducer.{StockReducer}
use Rattle.xf_reduce.specs.declared.stock_reducer.StockReducer.TheVariants as reducer
use Rattle.xf_board.specs.Board.{BoardParts}
use Rattle.xf_board.specs.declared.parts.ChartBody.{ChartBody}
use Rattle.xf_board.specs.declared.parts.ChartBody.TheVariants as body
use Rattle.xf_board.specs.declared.parts.ChartSpec.{ChartSpec}
use Rattle.xf_board.specs.declared.parts.DimensionSpec.{DimensionSpec}
use Rattle.xf_board.specs.declared.parts.GroupSpec.{GroupSpec}
use Rattle.xf_board.specs.declared.parts.WholeSpec.{WholeSpec}

-- ---- objects, arrays and numbers

-- members, each its name and its value
abbrev pub members_of : List (List ℕ × Data) → Members
members_of [] = no_members
members_of (named ∷ more) = member named.0 named.1 (members_of more)

abbrev pub object_of : List (List ℕ × Data) → Data
object_of members = object (members_of members)

abbrev pub elements_of : List Data → Data
elements_of elements = array (items_of elements)

abbrev pub count_of : ℕ → Data
count_of n = number (unsigned n)

-- a member that is there where it has a value
abbrev pub if_some : List ℕ → Option Data → List (List ℕ × Data)
if_some name None = []
if_some name (Some value) = (name, value) ∷ []

-- an array of words
abbrev pub words_of : List (List ℕ) → Data
words_of words = elements_of (map string words)

-- ---- accessors, roundings and reducers

-- the name of the column at a place
abbrev pub name_at : List Column → ℕ → List ℕ
name_at columns place = option_map_or (λ column. column.name) (slice_get columns place) []

abbrev pub accessor_value : List Column → StockAccessor → Data
accessor_value columns (accessor.Column place form) = words_of (codes "column" ∷ name_at columns place ∷ [])
accessor_value columns (accessor.PairOf first second form) = words_of (codes "pair" ∷ name_at columns first ∷ name_at columns second ∷ [])
accessor_value columns (accessor.Tags place) = words_of (codes "tags" ∷ name_at columns place ∷ [])
accessor_value columns (accessor.Weekday place) = words_of (codes "weekday" ∷ name_at columns place ∷ [])
accessor_value columns (accessor.Month place) = words_of (codes "month" ∷ name_at columns place ∷ [])

abbrev pub rounding_value : StockRounding → Data
rounding_value rounding.Same = words_of (codes "same" ∷ [])
rounding_value (rounding.Floor width) = elements_of (string (codes "floor") ∷ number (of_integer width) ∷ [])
rounding_value rounding.MonthOf = words_of (codes "month" ∷ [])
rounding_value rounding.YearOf = words_of (codes "year" ∷ [])
rounding_value (rounding.FirstLetters count) = elements_of (string (codes "letters") ∷ count_of count ∷ [])

abbrev pub part_value : List Column → Simple → Data
part_value columns part.Count = words_of (codes "count" ∷ [])
part_value columns (part.Sum place) = words_of (codes "sum" ∷ name_at columns place ∷ [])
part_value columns (part.SumCount place) = words_of (codes "sumcount" ∷ name_at columns place ∷ [])
part_value columns (part.SumSquares place) = words_of (codes "sumsquares" ∷ name_at columns place ∷ [])
part_value columns (part.Spread place) = words_of (codes "spread" ∷ name_at columns place ∷ [])

abbrev pub reducer_value : List Column → StockReducer → Data
reducer_value columns (reducer.One first) = part_value columns first
reducer_value columns (reducer.Two first second) = elements_of (string (codes "both") ∷ part_value columns first ∷ part_value columns second ∷ [])

-- ---- columns

abbrev pub kind_word : ColumnKind → List ℕ
kind_word kind.Int = codes "int"
kind_word (kind.Fixed decimals) = codes "fixed"
kind_word kind.Date = codes "date"
kind_word kind.Text = codes "text"
kind_word (kind.Tags separator) = codes "tags"

-- a number as its column writes it
abbrev pub number_text : ColumnKind → ℤ → List ℕ
number_text kind.Int n = fixed_text n 0
number_text (kind.Fixed decimals) n = fixed_text n decimals
number_text kind.Date n = day_text n
number_text kind.Text n = fixed_text n 0
number_text (kind.Tags separator) n = fixed_text n 0

-- a blank as a field of its column, whose kind has no tags
abbrev pub blank_text : ColumnKind → Cell → List ℕ
blank_text kind (cell.Num n) = number_text kind n
blank_text kind (cell.Text text) = text
blank_text kind (cell.Tags tags) = []

-- what only some columns have: a blank, decimals, a separator
abbrev pub blank_of : ColumnKind → Option Cell → Option Data
blank_of kind blank = option_map (λ value. string (blank_text kind value)) blank

abbrev pub decimals_of : ColumnKind → Option Data
decimals_of kind.Int = None
decimals_of (kind.Fixed decimals) = Some (count_of decimals)
decimals_of kind.Date = None
decimals_of kind.Text = None
decimals_of (kind.Tags separator) = None

abbrev pub separator_of : ColumnKind → Option Data
separator_of kind.Int = None
separator_of (kind.Fixed decimals) = None
separator_of kind.Date = None
separator_of kind.Text = None
separator_of (kind.Tags separator) = Some (string (encode_utf8 separator))

abbrev pub column_members : List ℕ → ColumnKind → Option Cell → List (List ℕ × Data)
column_members name kind blank =
    if_some (codes "blank") (blank_of kind blank)
    ++ (if_some (codes "decimals") (decimals_of kind)
    ++ ((codes "kind", string (kind_word kind)) ∷ (codes "name", string name) ∷ if_some (codes "separator") (separator_of kind)))

abbrev pub column_value : Column → Data
column_value column = object_of (column_members column.name column.kind column.blank)

-- what is printed for a blank is UTF-8, as all texts are
abbrev pub HasTextBlank : Column → Type 0
HasTextBlank column = IfSome column.blank (λ blank. IsUtf8 (blank_text column.kind blank))

-- ---- dimensions, groups and wholes

abbrev pub dimension_value : List Column → DimensionSpec → Data
dimension_value columns dimension = object_of ((codes "from", accessor_value columns dimension.from) ∷ (codes "name", string dimension.name) ∷ [])

-- a group with the values of its reducer and its rounding
abbrev pub group_with : GroupSpec → Data → Data → Data
group_with group reduce round =
    object_of
    ((codes "name", string group.name) ∷ (codes "of", string group.of) ∷ (codes "order", count_of group.order) ∷ (codes "reduce", reduce)
    ∷ (codes "round", round) ∷ [])

abbrev pub group_value : List Column → GroupSpec → Data
group_value columns group = group_with group (reducer_value columns group.reduce) (rounding_value group.round)

abbrev pub whole_value : List Column → WholeSpec → Data
whole_value columns whole = object_of ((codes "name", string whole.name) ∷ (codes "reduce", reducer_value columns whole.reduce) ∷ [])

-- ---- charts

-- a chart of bars or a line, by its kind
abbrev pub fill_value : ChartSpec → List ℕ → List ℕ → ℕ → List ℕ → Data
fill_value chart kind group field fill =
    object_of
    ((codes "field", count_of field) ∷ (codes "fill", string fill) ∷ (codes "group", string group) ∷ (codes "height", count_of chart.height)
    ∷ (codes "kind", string kind) ∷ (codes "title", string chart.title) ∷ (codes "width", count_of chart.width) ∷ [])

abbrev pub row_value : ChartSpec → List ℕ → ℕ → List ℕ → Option ℕ → List ℕ → Data
row_value chart group field fill cap others =
    object_of
    (if_some (codes "cap") (option_map count_of cap)
    ++ ((codes "field", count_of field) ∷ (codes "fill", string fill) ∷ (codes "group", string group) ∷ (codes "height", count_of chart.height)
    ∷ (codes "kind", string (codes "row")) ∷ (codes "others", string others) ∷ (codes "title", string chart.title) ∷ (codes "width", count_of chart.width) ∷ []))

abbrev pub heat_value : ChartSpec → List ℕ → ℕ → Data
heat_value chart group field =
    object_of
    ((codes "field", count_of field) ∷ (codes "group", string group) ∷ (codes "height", count_of chart.height) ∷ (codes "kind", string (codes "heat"))
    ∷ (codes "title", string chart.title) ∷ (codes "width", count_of chart.width) ∷ [])

abbrev pub count_value : ChartSpec → Data
count_value chart =
    object_of
    ((codes "height", count_of chart.height) ∷ (codes "kind", string (codes "count")) ∷ (codes "title", string chart.title) ∷ (codes "width", count_of chart.width)
    ∷ [])

abbrev pub number_value : ChartSpec → List ℕ → ℕ → Data
number_value chart whole field =
    object_of
    ((codes "field", count_of field) ∷ (codes "height", count_of chart.height) ∷ (codes "kind", string (codes "number")) ∷ (codes "title", string chart.title)
    ∷ (codes "whole", string whole) ∷ (codes "width", count_of chart.width) ∷ [])

abbrev pub order_word : Bool → List ℕ
order_word descending = if descending then codes "descending" else codes "ascending"

abbrev pub table_value : ChartSpec → List ℕ → List (List ℕ) → ℕ → Bool → Data
table_value chart dimension columns size descending =
    object_of
    ((codes "columns", elements_of (map string columns)) ∷ (codes "dimension", string dimension) ∷ (codes "height", count_of chart.height)
    ∷ (codes "kind", string (codes "table")) ∷ (codes "order", string (order_word descending)) ∷ (codes "size", count_of size)
    ∷ (codes "title", string chart.title) ∷ (codes "width", count_of chart.width) ∷ [])

-- a chart by what it draws
abbrev pub body_value : ChartSpec → ChartBody → Data
body_value chart (body.Bar group field fill) = fill_value chart (codes "bar") group field fill
body_value chart (body.Line group field fill) = fill_value chart (codes "line") group field fill
body_value chart (body.Row group field fill cap others) = row_value chart group field fill cap others
body_value chart (body.Heat group field) = heat_value chart group field
body_value chart body.Count = count_value chart
body_value chart (body.Number whole field) = number_value chart whole field
body_value chart (body.Table dimension columns size descending) = table_value chart dimension columns size descending

abbrev pub chart_value : ChartSpec → Data
chart_value chart = body_value chart chart.body

-- ---- the board

-- a board by the values of its lists
abbrev pub board_with : List ℕ → Data → Data → Data → Data → Data → Data → Data
board_with title charts colours columns dimensions groups wholes =
    object_of
    ((codes "charts", charts) ∷ (codes "colours", colours) ∷ (codes "columns", columns) ∷ (codes "dimensions", dimensions) ∷ (codes "groups", groups)
    ∷ (codes "title", string title) ∷ (codes "version", count_of 1) ∷ (codes "wholes", wholes) ∷ [])

abbrev pub board_value : BoardParts → Data
board_value board =
    board_with board.title (elements_of (map chart_value board.charts)) (words_of board.colours) (elements_of (map column_value board.columns))
    (elements_of (map (dimension_value board.columns) board.dimensions)) (elements_of (map (group_value board.columns) board.groups))
    (elements_of (map (whole_value board.columns) board.wholes))

-- what is printed for a board
abbrev pub board_text : BoardParts → List ℕ
board_text board = compact_text (board_value board)
