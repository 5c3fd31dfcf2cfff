-- What the text of a board means, or the first refusal: of each object the unknown members, and then its members in the order
-- in which they are tested, each with its default and its rule.
use Rattle.std.specs.Prelude.{ℕ, ◌+◌, ◌==◌, Bool, ◌&&◌, true, false, ⊤, if◌then◌else◌, List, [], ◌∷◌, length, bytes_eq, codes, Option, Some, None, is_none, is_some, option_map, option_and_then, Ok, Err}
use Rattle.std.specs.Map.{lookup}
use Rattle.std.specs.Result.{result_ok}
use Rattle.std.specs.Str.{is_utf8}
use Rattle.serde_json.specs.Data.{Data}
use Rattle.serde_json.specs.Find.{as_str, get}
use Rattle.serde_json.specs.Read.{read}
use Rattle.xf_access.specs.Stock.{form_of}
use Rattle.xf_access.specs.declared.stock_accessor.StockAccessor.{StockAccessor}
use Rattle.xf_access.specs.declared.stock_rounding.StockRounding.{StockRounding}
use Rattle.xf_access.specs.declared.stock_rounding.StockRounding.TheVariants as rounding
use Rattle.xf_base.specs.Schema.{place_of}
use Rattle.xf_base.specs.declared.cell.Cell.{Cell}
use Rattle.xf_base.specs.declared.column.Column.{Column}
use Rattle.xf_base.specs.declared.column.ColumnKind.{ColumnKind}
use Rattle.xf_base.specs.declared.column.ColumnKind.TheVariants as kind
use Rattle.xf_base.specs.declared.form.KeyForm.{KeyForm}
use Rattle.xf_base.specs.declared.limits.TheConstants.Limits.{CHARTS, COLUMNS, DIMENSIONS, GROUPS}
use Rattle.xf_columns.specs.Columns.{accessor_of, accessor_refusal, applies, reducer_of, reducer_refusal}
use Rattle.xf_load.specs.Cell.{cell_of}
use Rattle.xf_reduce.specs.StockReducer.{stock_field_count}
use Rattle.xf_reduce.specs.declared.stock_reducer.StockReducer.{StockReducer}
use Rattle.xf_board.specs.Board.{BoardParts, dimension_named, form_of_group, group_named, is_heat_form, is_line_form, whole_named}
use Rattle.xf_members.specs.Members.{chart_kind_of, column_word_of}
use Rattle.xf_members.specs.Reading.{Read, ◌>>=◌, absent, colour, declared, each, ensured, few, filled_array, fitting, if_within, known, member, needed, number, number_below, only_members, optional, unless_taken, word}
use Rattle.xf_members.specs.Values.{array_of, is_object, whole_number}
use Rattle.xf_members.specs.Words.{accessor_rule, reducer_rule, rounding_rule}
use Rattle.xf_members.specs.declared.board_refusal.BoardRefusal.TheVariants as refusal
use Rattle.xf_members.specs.declared.object_sort.ChartKind.{ChartKind}
use Rattle.xf_members.specs.declared.object_sort.ChartKind.TheVariants as chart
use Rattle.xf_members.specs.declared.object_sort.ColumnWord.{ColumnWord}
use Rattle.xf_members.specs.declared.object_sort.ColumnWord.TheVariants as column
use Rattle.xf_members.specs.declared.object_sort.ObjectSort.TheVariants as sort
use Rattle.xf_board.specs.declared.parts.ChartBody.{ChartBody}
use Rattle.xf_board.specs.declared.parts.ChartBody.TheVariants as body
use Rattle.xf_board.specs.declared.parts.ChartSpec.{ChartSpec}
use Rattle.xf_board.specs.declared.parts.DimensionSpec.{DimensionSpec}
use Rattle.xf_board.specs.declared.parts.GroupSpec.{GroupSpec}
use Rattle.xf_board.specs.declared.parts.WholeSpec.{WholeSpec}
use Rattle.xf_board.specs.Ranges.{greatest_cap, greatest_side, greatest_table, least_height, least_width, most_colours, most_table_columns, usual_height, usual_table, usual_width}

-- ---- columns

-- of decimals alone, and required there
abbrev pub decimals_at : ColumnWord → List ℕ → Data → Read ℕ
decimals_at column.Int path value = absent path (codes "decimals") value >>= λ none. Ok 0
decimals_at column.Fixed path value = needed (number 0 9) path (codes "decimals") value
decimals_at column.Date path value = absent path (codes "decimals") value >>= λ none. Ok 0
decimals_at column.Text path value = absent path (codes "decimals") value >>= λ none. Ok 0
decimals_at column.Tags path value = absent path (codes "decimals") value >>= λ none. Ok 0

-- one printable character of ASCII
abbrev pub separator_of : List ℕ → Option ℕ
separator_of [] = None
separator_of (byte ∷ []) = if_within 32 126 byte
separator_of (byte ∷ second ∷ more) = None

-- of tags alone; `;` where it is left out
abbrev pub separator_at : ColumnWord → List ℕ → Data → Read ℕ
separator_at column.Int path value = absent path (codes "separator") value >>= λ none. Ok 59
separator_at column.Fixed path value = absent path (codes "separator") value >>= λ none. Ok 59
separator_at column.Date path value = absent path (codes "separator") value >>= λ none. Ok 59
separator_at column.Text path value = absent path (codes "separator") value >>= λ none. Ok 59
separator_at column.Tags path value = optional 59 (word separator_of) path (codes "separator") value

abbrev pub kind_of : ColumnWord → ℕ → ℕ → ColumnKind
kind_of column.Int decimals separator = kind.Int
kind_of column.Fixed decimals separator = kind.Fixed decimals
kind_of column.Date decimals separator = kind.Date
kind_of column.Text decimals separator = kind.Text
kind_of column.Tags decimals separator = kind.Tags separator

-- a text that is read as a field of the column
abbrev pub blank_rule : Column → Data → Option (Option Cell)
blank_rule column value = option_and_then (λ text. option_map Some (result_ok (cell_of column text))) (as_str value)

-- not of tags; no blank where it is left out
abbrev pub blank_at : ColumnWord → Column → List ℕ → Data → Read (Option Cell)
blank_at column.Int plain path value = optional None (blank_rule plain) path (codes "blank") value
blank_at column.Fixed plain path value = optional None (blank_rule plain) path (codes "blank") value
blank_at column.Date plain path value = optional None (blank_rule plain) path (codes "blank") value
blank_at column.Text plain path value = optional None (blank_rule plain) path (codes "blank") value
blank_at column.Tags plain path value = absent path (codes "blank") value >>= λ none. Ok None

abbrev pub column_of : List Column → List ℕ → Data → Read Column
column_of before path value = do
  object ← ensured path (is_object value)
  members ← only_members sort.Column path value
  name ← needed as_str path (codes "name") value
  new ← unless_taken (is_some (place_of before name)) (member path (codes "name")) name
  word ← needed (word column_word_of) path (codes "kind") value
  decimals ← decimals_at word path value
  separator ← separator_at word path value
  blank ← blank_at word (record { name = name; kind = kind_of word decimals separator; blank = None }) path value
  Ok (record { name = name; kind = kind_of word decimals separator; blank = blank })

-- ---- dimensions, groups and wholes

abbrev pub accessor_at : List Column → List ℕ → Data → Read StockAccessor
accessor_at columns path value = do
  words ← needed accessor_rule path (codes "from") value
  fitting (member path (codes "from")) (accessor_refusal columns words) (accessor_of columns words)

abbrev pub dimension_of : List Column → List DimensionSpec → List ℕ → Data → Read DimensionSpec
dimension_of columns before path value = do
  object ← ensured path (is_object value)
  members ← only_members sort.Dimension path value
  name ← needed as_str path (codes "name") value
  new ← unless_taken (is_some (dimension_named before name)) (member path (codes "name")) name
  from ← accessor_at columns path value
  Ok (record { name = name; from = from })

-- a rounding that applies to the keys of a form
abbrev pub rounding_at : KeyForm → List ℕ → Data → Read StockRounding
rounding_at form path value = do
  rounding ← optional rounding.Same rounding_rule path (codes "round") value
  applied ← ensured (member path (codes "round")) (applies rounding form)
  Ok rounding

abbrev pub reducer_at : List Column → List ℕ → Data → Read StockReducer
reducer_at columns path value = do
  words ← needed reducer_rule path (codes "reduce") value
  fitting (member path (codes "reduce")) (reducer_refusal columns words) (reducer_of columns words)

abbrev pub group_of : List Column → List DimensionSpec → List GroupSpec → List ℕ → Data → Read GroupSpec
group_of columns dimensions before path value = do
  object ← ensured path (is_object value)
  members ← only_members sort.Group path value
  name ← needed as_str path (codes "name") value
  new ← unless_taken (is_some (group_named before name)) (member path (codes "name")) name
  of ← needed as_str path (codes "of") value
  dimension ← declared (member path (codes "of")) of (dimension_named dimensions of)
  round ← rounding_at (form_of dimension.from) path value
  reduce ← reducer_at columns path value
  order ← optional 0 (number_below (stock_field_count reduce)) path (codes "order") value
  Ok (record { name = name; of = of; round = round; reduce = reduce; order = order })

abbrev pub whole_of : List Column → List WholeSpec → List ℕ → Data → Read WholeSpec
whole_of columns before path value = do
  object ← ensured path (is_object value)
  members ← only_members sort.Whole path value
  name ← needed as_str path (codes "name") value
  new ← unless_taken (is_some (whole_named before name)) (member path (codes "name")) name
  reduce ← reducer_at columns path value
  Ok (record { name = name; reduce = reduce })

-- ---- charts

-- the group that a chart is of
abbrev pub group_at : List GroupSpec → List ℕ → List ℕ → Read GroupSpec
group_at groups path name = declared (member path (codes "group")) name (group_named groups name)

-- a field of a reducer
abbrev pub field_at : StockReducer → List ℕ → Data → Read ℕ
field_at reduce path value = optional 0 (number_below (stock_field_count reduce)) path (codes "field") value

abbrev pub fill_at : List ℕ → Data → Read (List ℕ)
fill_at path value = optional (codes "#336699") colour path (codes "fill") value

abbrev pub bar_at : List GroupSpec → List ℕ → Data → Read ChartBody
bar_at groups path value = do
  name ← needed as_str path (codes "group") value
  group ← group_at groups path name
  field ← field_at group.reduce path value
  fill ← fill_at path value
  Ok (body.Bar name field fill)

abbrev pub line_at : List DimensionSpec → List GroupSpec → List ℕ → Data → Read ChartBody
line_at dimensions groups path value = do
  name ← needed as_str path (codes "group") value
  group ← group_at groups path name
  form ← ensured (member path (codes "group")) (is_line_form (form_of_group dimensions group))
  field ← field_at group.reduce path value
  fill ← fill_at path value
  Ok (body.Line name field fill)

-- a number of rows, or none where it is left out
abbrev pub cap_rule : Data → Option (Option ℕ)
cap_rule value = option_map Some (number 1 greatest_cap value)

abbrev pub row_at : List GroupSpec → List ℕ → Data → Read ChartBody
row_at groups path value = do
  name ← needed as_str path (codes "group") value
  group ← group_at groups path name
  field ← field_at group.reduce path value
  fill ← fill_at path value
  cap ← optional None cap_rule path (codes "cap") value
  others ← optional (codes "Others") as_str path (codes "others") value
  Ok (body.Row name field fill cap others)

abbrev pub heat_at : List DimensionSpec → List GroupSpec → List ℕ → Data → Read ChartBody
heat_at dimensions groups path value = do
  name ← needed as_str path (codes "group") value
  group ← group_at groups path name
  form ← ensured (member path (codes "group")) (is_heat_form (form_of_group dimensions group))
  field ← field_at group.reduce path value
  Ok (body.Heat name field)

abbrev pub number_at : List WholeSpec → List ℕ → Data → Read ChartBody
number_at wholes path value = do
  name ← needed as_str path (codes "whole") value
  whole ← declared (member path (codes "whole")) name (whole_named wholes name)
  field ← field_at whole.reduce path value
  Ok (body.Number name field)

-- the name of a column in a table; it may stand there twice
abbrev pub table_column : List Column → List (List ℕ) → List ℕ → Data → Read (List ℕ)
table_column columns before path value = do
  name ← known path (as_str value)
  place ← declared path name (place_of columns name)
  Ok name

abbrev pub descending_of : List ℕ → Option Bool
descending_of order = lookup (bytes_eq order) ((codes "ascending", false) ∷ (codes "descending", true) ∷ [])

abbrev pub table_at : List Column → List DimensionSpec → List ℕ → Data → Read ChartBody
table_at columns dimensions path value = do
  name ← needed as_str path (codes "dimension") value
  dimension ← declared (member path (codes "dimension")) name (dimension_named dimensions name)
  elements ← needed filled_array path (codes "columns") value
  short ← few (member path (codes "columns")) most_table_columns (length elements)
  names ← each (table_column columns) (member path (codes "columns")) [] elements
  size ← optional usual_table (number 1 greatest_table) path (codes "size") value
  descending ← optional false (word descending_of) path (codes "order") value
  Ok (body.Table name names size descending)

abbrev pub body_at : ChartKind → List Column → List DimensionSpec → List GroupSpec → List WholeSpec → List ℕ → Data → Read ChartBody
body_at chart.Bar columns dimensions groups wholes path value = bar_at groups path value
body_at chart.Line columns dimensions groups wholes path value = line_at dimensions groups path value
body_at chart.Row columns dimensions groups wholes path value = row_at groups path value
body_at chart.Heat columns dimensions groups wholes path value = heat_at dimensions groups path value
body_at chart.Count columns dimensions groups wholes path value = Ok body.Count
body_at chart.Number columns dimensions groups wholes path value = number_at wholes path value
body_at chart.Table columns dimensions groups wholes path value = table_at columns dimensions path value

-- a chart's kind says which members it has, and is tried before them
abbrev pub chart_of : List Column → List DimensionSpec → List GroupSpec → List WholeSpec → List ChartSpec → List ℕ → Data → Read ChartSpec
chart_of columns dimensions groups wholes before path value = do
  object ← ensured path (is_object value)
  kind ← needed (word chart_kind_of) path (codes "kind") value
  members ← only_members (sort.Chart kind) path value
  title ← optional [] as_str path (codes "title") value
  width ← optional usual_width (number least_width greatest_side) path (codes "width") value
  height ← optional usual_height (number least_height greatest_side) path (codes "height") value
  body ← body_at kind columns dimensions groups wholes path value
  Ok (record { title = title; width = width; height = height; body = body })

-- ---- the board

abbrev pub version_at : Data → Read ⊤
version_at value = do
  found ← needed whole_number [] (codes "version") value
  if found == 1 then Ok tt else Err (refusal.Version found)

abbrev pub columns_at : Data → Read (List Column)
columns_at value = do
  elements ← needed array_of [] (codes "columns") value
  short ← few (codes "/columns") COLUMNS (length elements)
  each column_of (codes "/columns") [] elements

abbrev pub dimensions_at : List Column → Data → Read (List DimensionSpec)
dimensions_at columns value = do
  elements ← needed array_of [] (codes "dimensions") value
  short ← few (codes "/dimensions") DIMENSIONS (length elements)
  each (dimension_of columns) (codes "/dimensions") [] elements

abbrev pub groups_at : List Column → List DimensionSpec → Data → Read (List GroupSpec)
groups_at columns dimensions value = do
  elements ← optional [] array_of [] (codes "groups") value
  short ← few (codes "/groups") GROUPS (length elements)
  each (group_of columns dimensions) (codes "/groups") [] elements

-- groups and wholes are counted together
abbrev pub wholes_at : List Column → List GroupSpec → Data → Read (List WholeSpec)
wholes_at columns groups value = do
  elements ← optional [] array_of [] (codes "wholes") value
  short ← few (codes "/wholes") GROUPS (length groups + length elements)
  each (whole_of columns) (codes "/wholes") [] elements

abbrev pub charts_at : List Column → List DimensionSpec → List GroupSpec → List WholeSpec → Data → Read (List ChartSpec)
charts_at columns dimensions groups wholes value = do
  elements ← optional [] array_of [] (codes "charts") value
  short ← few (codes "/charts") CHARTS (length elements)
  each (chart_of columns dimensions groups wholes) (codes "/charts") [] elements

abbrev pub usual_colours : List (List ℕ)
usual_colours = codes "#e8eef4" ∷ codes "#b9cbdd" ∷ codes "#7d9cbc" ∷ codes "#40688f" ∷ codes "#16324f" ∷ []

abbrev pub colour_of : List (List ℕ) → List ℕ → Data → Read (List ℕ)
colour_of before path value = known path (colour value)

abbrev pub given_colours : Data → Read (List (List ℕ))
given_colours value = do
  elements ← needed filled_array [] (codes "colours") value
  short ← few (codes "/colours") most_colours (length elements)
  each colour_of (codes "/colours") [] elements

abbrev pub colours_at : Data → Read (List (List ℕ))
colours_at value = if is_none (get (codes "colours") value) then Ok usual_colours else given_colours value

abbrev pub board_of : Data → Read BoardParts
board_of value = do
  version ← version_at value
  members ← only_members sort.Board [] value
  title ← optional [] as_str [] (codes "title") value
  columns ← columns_at value
  dimensions ← dimensions_at columns value
  groups ← groups_at columns dimensions value
  wholes ← wholes_at columns groups value
  charts ← charts_at columns dimensions groups wholes value
  colours ← colours_at value
  Ok (record { title = title; columns = columns; dimensions = dimensions; groups = groups; wholes = wholes; charts = charts; colours = colours })

-- ---- texts

abbrev pub is_mark : ℕ → ℕ → ℕ → Bool
is_mark a b c = (a == 239) && (b == 187) && (c == 191)

-- one byte order mark in front is skipped
abbrev pub without_mark : List ℕ → List ℕ
without_mark [] = []
without_mark (a ∷ []) = a ∷ []
without_mark (a ∷ b ∷ []) = a ∷ b ∷ []
without_mark (a ∷ b ∷ c ∷ rest) = if is_mark a b c then rest else a ∷ b ∷ c ∷ rest

-- the value that a text of UTF-8 is as JSON
abbrev pub json_of : List ℕ → Option Data
json_of bytes = if is_utf8 bytes then read bytes else None

abbrev pub board_of_json : Option Data → Read BoardParts
board_of_json None = Err refusal.Syntax
board_of_json (Some value) = if is_object value then board_of value else Err refusal.Syntax

-- what bytes mean as a board
abbrev pub board_in : List ℕ → Read BoardParts
board_in bytes = board_of_json (json_of (without_mark bytes))
