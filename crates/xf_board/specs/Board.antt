-- What a board is: its parts, and what they keep.
use Rattle.std.specs.Prelude.{◌≡◌, ℕ, ◌+◌, ◌<◌, ◌≤◌, nat_le, Bool, true, false, ◌&&◌, ⊤, List, [], length, find, Option, Some, None, is_some, option_map, option_and_then, IfSome, IsNone}
use Rattle.std.specs.List.{AllByRecursion}
use Rattle.std.specs.Option.{option_map_or}
use Rattle.std.specs.Str.{bytes_eq}
use Rattle.xf_access.specs.Stock.{fits_columns, form_of}
use Rattle.xf_access.specs.declared.stock_rounding.StockRounding.{StockRounding}
use Rattle.xf_base.specs.Bounds.{Bounds}
use Rattle.xf_base.specs.Schema.{IsColumn, place_of}
use Rattle.xf_base.specs.declared.column.Column.{Column}
use Rattle.xf_base.specs.declared.column.ColumnKind.{ColumnKind}
use Rattle.xf_base.specs.declared.column.ColumnKind.TheVariants as kind
use Rattle.xf_base.specs.declared.form.AtomForm.TheVariants as atom
use Rattle.xf_base.specs.declared.form.KeyForm.{KeyForm}
use Rattle.xf_base.specs.declared.form.KeyForm.TheVariants.{One, Pair}
use Rattle.xf_base.specs.declared.cell.Cell.{Cell}
use Rattle.xf_base.specs.declared.limits.TheConstants.Limits.{CHARTS, COLUMNS, DIMENSIONS, GROUPS}
use Rattle.xf_columns.specs.Columns.{applies}
use Rattle.xf_reduce.specs.StockReducer.{stock_field_count, stock_fits}
use Rattle.xf_members.specs.Reading.{is_colour}
pub use Rattle.xf_members.specs.Reading.{AllAfter}
pub use Rattle.xf_members.specs.Words.{is_sound_rounding}
use Rattle.xf_board.specs.declared.parts.ChartBody.{ChartBody}
use Rattle.xf_board.specs.declared.parts.ChartBody.TheVariants as body
use Rattle.xf_board.specs.declared.parts.ChartSpec.{ChartSpec}
use Rattle.xf_board.specs.declared.parts.DimensionSpec.{DimensionSpec}
use Rattle.xf_board.specs.declared.parts.GroupSpec.{GroupSpec}
use Rattle.xf_board.specs.declared.parts.WholeSpec.{WholeSpec}
use Rattle.xf_board.specs.Ranges.{greatest_cap, greatest_side, greatest_table, least_height, least_width, most_colours, most_table_columns}

-- a board's title, its columns, its dimensions, groups and wholes in order, its charts and its colours
pub record BoardParts : Type 0 where
  pub title : List ℕ
  pub columns : List Column
  pub dimensions : List DimensionSpec
  pub groups : List GroupSpec
  pub wholes : List WholeSpec
  pub charts : List ChartSpec
  pub colours : List (List ℕ)

-- ---- what a name was declared for

abbrev pub dimension_named : List DimensionSpec → List ℕ → Option DimensionSpec
dimension_named dimensions name = find (λ dimension. bytes_eq dimension.name name) dimensions

abbrev pub group_named : List GroupSpec → List ℕ → Option GroupSpec
group_named groups name = find (λ group. bytes_eq group.name name) groups

abbrev pub whole_named : List WholeSpec → List ℕ → Option WholeSpec
whole_named wholes name = find (λ whole. bytes_eq whole.name name) wholes

-- the form of a dimension's keys, and so of its groups' keys
abbrev pub form_named : List DimensionSpec → List ℕ → Option KeyForm
form_named dimensions name = option_map (λ dimension. form_of dimension.from) (dimension_named dimensions name)

abbrev pub form_of_group : List DimensionSpec → GroupSpec → Option KeyForm
form_of_group dimensions group = form_named dimensions group.of

-- the form of the keys of the group of a name
abbrev pub group_form : List DimensionSpec → List GroupSpec → List ℕ → Option KeyForm
group_form dimensions groups name = option_and_then (form_of_group dimensions) (group_named groups name)

-- how many fields the group or the whole of a name has; none where there is none
abbrev pub group_fields : List GroupSpec → List ℕ → ℕ
group_fields groups name = option_map_or (λ group. stock_field_count group.reduce) (group_named groups name) 0

abbrev pub whole_fields : List WholeSpec → List ℕ → ℕ
whole_fields wholes name = option_map_or (λ whole. stock_field_count whole.reduce) (whole_named wholes name) 0

-- a line is drawn over numbers and dates, a heat map over pairs
abbrev pub is_line_form : Option KeyForm → Bool
is_line_form (Some (One (atom.Fixed decimals))) = true
is_line_form (Some (One atom.Date)) = true
is_line_form (Some (One atom.Text)) = false
is_line_form (Some (Pair first second)) = false
is_line_form None = false

abbrev pub is_heat_form : Option KeyForm → Bool
is_heat_form (Some (One form)) = false
is_heat_form (Some (Pair first second)) = true
is_heat_form None = false

-- a rounding applies to the keys of a form
abbrev pub rounds : StockRounding → Option KeyForm → Bool
rounds rounding (Some form) = applies rounding form
rounds rounding None = false

-- ---- what each part keeps, beside those before it

-- tags are cut at a printable character and have no blank
abbrev pub IsPlainTags : ColumnKind → Option Cell → Type 0
IsPlainTags kind.Int blank = ⊤
IsPlainTags (kind.Fixed decimals) blank = ⊤
IsPlainTags kind.Date blank = ⊤
IsPlainTags kind.Text blank = ⊤
IsPlainTags (kind.Tags separator) blank = (32 ≤ separator) × (separator ≤ 126) × IsNone blank

-- a column of a new name
abbrev pub IsNewColumn : List Column → Column → Type 0
IsNewColumn before column = (is_some (place_of before column.name) ≡ false) × IsPlainTags column.kind column.blank

-- a column of a new name, with decimals or a separator and a blank that do for its kind
abbrev pub IsSoundNewColumn : List Column → Column → Type 0
IsSoundNewColumn before column = IsColumn column × IsNewColumn before column

-- a dimension of a new name, over columns
pub record IsNewDimension (columns : List Column) (before : List DimensionSpec) (dimension : DimensionSpec) : Type 0 where
  pub new : is_some (dimension_named before dimension.name) ≡ false
  pub fits : fits_columns dimension.from columns ≡ true

-- a group of a new name, of a dimension whose keys it rounds, over columns, in the order of one of its fields
pub record IsNewGroup (columns : List Column) (dimensions : List DimensionSpec) (before : List GroupSpec) (group : GroupSpec) : Type 0 where
  pub new : is_some (group_named before group.name) ≡ false
  pub rounds : rounds group.round (form_named dimensions group.of) ≡ true
  pub sound : is_sound_rounding group.round ≡ true
  pub fits : stock_fits group.reduce columns ≡ true
  pub order : group.order < stock_field_count group.reduce

-- a whole of a new name, over columns
pub record IsNewWhole (columns : List Column) (before : List WholeSpec) (whole : WholeSpec) : Type 0 where
  pub new : is_some (whole_named before whole.name) ≡ false
  pub fits : stock_fits whole.reduce columns ≡ true

-- a column is declared
abbrev pub IsColumnName : List Column → List ℕ → Type 0
IsColumnName columns name = is_some (place_of columns name) ≡ true

-- what a chart draws is declared, and its numbers are of their ranges
abbrev pub IsBody : List Column → List DimensionSpec → List GroupSpec → List WholeSpec → ChartBody → Type 0
IsBody columns dimensions groups wholes (body.Bar group field fill) = (field < group_fields groups group) × (is_colour fill ≡ true)
IsBody columns dimensions groups wholes (body.Line group field fill) =
    (field < group_fields groups group) × (is_colour fill ≡ true) × (is_line_form (group_form dimensions groups group) ≡ true)
IsBody columns dimensions groups wholes (body.Row group field fill cap others) =
    (field < group_fields groups group) × (is_colour fill ≡ true) × IfSome cap (λ most. (1 ≤ most) × (most ≤ greatest_cap))
IsBody columns dimensions groups wholes (body.Heat group field) =
    (field < group_fields groups group) × (is_heat_form (group_form dimensions groups group) ≡ true)
IsBody columns dimensions groups wholes body.Count = ⊤
IsBody columns dimensions groups wholes (body.Number whole field) = field < whole_fields wholes whole
IsBody columns dimensions groups wholes (body.Table dimension names size descending) =
    (is_some (dimension_named dimensions dimension) ≡ true) × AllByRecursion (IsColumnName columns) names
    × (0 < length names) × (length names ≤ most_table_columns) × (1 ≤ size) × (size ≤ greatest_table)

pub record IsChart (columns : List Column) (dimensions : List DimensionSpec) (groups : List GroupSpec) (wholes : List WholeSpec) (chart : ChartSpec) : Type 0 where
  pub wide : least_width ≤ chart.width
  pub width : chart.width ≤ greatest_side
  pub high : least_height ≤ chart.height
  pub height : chart.height ≤ greatest_side
  pub body : IsBody columns dimensions groups wholes chart.body

abbrev pub IsColour : List ℕ → Type 0
IsColour text = is_colour text ≡ true

-- what a board keeps
pub record IsBoard (board : BoardParts) : Type 0 where
  pub few_columns : length board.columns ≤ COLUMNS
  pub columns : AllAfter IsNewColumn [] board.columns
  pub few_dimensions : length board.dimensions ≤ DIMENSIONS
  pub dimensions : AllAfter (IsNewDimension board.columns) [] board.dimensions
  pub groups : AllAfter (IsNewGroup board.columns board.dimensions) [] board.groups
  pub few_groups : length board.groups + length board.wholes ≤ GROUPS
  pub wholes : AllAfter (IsNewWhole board.columns) [] board.wholes
  pub few_charts : length board.charts ≤ CHARTS
  pub charts : AllByRecursion (IsChart board.columns board.dimensions board.groups board.wholes) board.charts
  pub some_colours : 0 < length board.colours
  pub few_colours : length board.colours ≤ most_colours
  pub colours : AllByRecursion IsColour board.colours

-- within limits: few enough dimensions, and groups and wholes together
abbrev pub is_within : BoardParts → Bounds → Bool
is_within board limits =
    nat_le (length board.dimensions) limits.dimensions && nat_le (length board.groups + length board.wholes) limits.groups
