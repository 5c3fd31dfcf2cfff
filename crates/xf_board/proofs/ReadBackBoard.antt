-- What is printed for a board is read as the board.
use Rattle.std.proofs.Common.{◌≡◌, ◌∙◌, ◌+◌, ◌<◌, ◌≤◌, ◌∷◌, [], ℕ, List, Some, Ok, IsUtf8, codes, length, map, ap, refl, arith}
use Rattle.std.specs.List.{AllByRecursion}
use Rattle.serde_json.specs.Data.{Data, string}
use Rattle.serde_json.specs.Find.{as_str, get}
use Rattle.serde_json.specs.Read.{read}
use Rattle.xf_base.specs.Schema.{IsColumn}
use Rattle.xf_base.specs.declared.column.Column.{Column}
use Rattle.xf_base.specs.declared.limits.TheConstants.Limits.{CHARTS, COLUMNS, DIMENSIONS, GROUPS}
use Rattle.xf_board.specs.Board.{AllAfter, BoardParts, IsBoard, IsChart, IsColour, IsNewColumn, IsNewDimension, IsNewGroup, IsNewWhole}
use Rattle.xf_board.specs.Print.{HasTextBlank, board_text, board_value, chart_value, column_value, dimension_value, elements_of, group_value, whole_value, words_of}
use Rattle.xf_members.specs.Reading.{filled_array, if_filled, only_members, optional}
use Rattle.xf_board.specs.Walk.{board_in, board_of, board_of_json, charts_at, colour_of, colours_at, column_of, columns_at, dimension_of, dimensions_at, group_of, groups_at, chart_of, json_of, version_at, whole_of, wholes_at, without_mark}
use Rattle.xf_members.specs.declared.object_sort.ObjectSort.TheVariants as sort
use Rattle.xf_board.specs.declared.parts.ChartSpec.{ChartSpec}
use Rattle.xf_board.specs.declared.parts.DimensionSpec.{DimensionSpec}
use Rattle.xf_board.specs.declared.parts.GroupSpec.{GroupSpec}
use Rattle.xf_board.specs.declared.parts.WholeSpec.{WholeSpec}
use Rattle.xf_board.specs.Ranges.{most_colours}
use Rattle.xf_members.proofs.Lists.{list_of-items}
use Rattle.xf_board.proofs.ReadBackCharts.{chart-again}
use Rattle.xf_board.proofs.ReadBackColumns.{column-again}
use Rattle.xf_board.proofs.ReadBackLists.{after-both, after-each, all-both, each-again, few-again, few-more}
use Rattle.xf_board.proofs.ReadBackParts.{dimension-again, group-again, whole-again}
use Rattle.xf_board.proofs.Texts.{json-some}

-- ---- the lists of a board

columns-again : (value : Data) (columns : List Column) → get (codes "columns") value ≡ Some (elements_of (map column_value columns)) → length columns ≤ COLUMNS
    → AllAfter IsNewColumn [] columns → AllByRecursion IsColumn columns → AllByRecursion HasTextBlank columns → columns_at value ≡ Ok columns
columns-again value columns is few new sound texts =
    let Own = λ (column : Column). IsColumn column × HasTextBlank column in
    let Keeps = λ (before : List Column) (column : Column). IsNewColumn before column × Own column in
    let each = each-again column_of column_value (codes "/columns") Keeps
    (λ before path column own. column-again before path column own.0 own.1.0.kind own.1.0.blank own.1.1)
    [] columns (after-both IsNewColumn Own [] columns new (all-both IsColumn HasTextBlank columns sound texts)) in
    rw (is, list_of-items (map column_value columns), few-again column_value COLUMNS columns few) each

dimensions-again : (value : Data) (columns : List Column) (dimensions : List DimensionSpec) → get (codes "dimensions") value ≡ Some (elements_of (map (dimension_value columns) dimensions))
    → AllAfter IsNewColumn [] columns → length dimensions ≤ DIMENSIONS → AllAfter (IsNewDimension columns) [] dimensions → dimensions_at columns value ≡ Ok dimensions
dimensions-again value columns dimensions is distinct few new =
    let each = each-again (dimension_of columns) (dimension_value columns) (codes "/dimensions") (IsNewDimension columns) (dimension-again columns distinct) [] dimensions new in
    rw (is, list_of-items (map (dimension_value columns) dimensions), few-again (dimension_value columns) DIMENSIONS dimensions few) each

groups-again : (value : Data) (columns : List Column) (dimensions : List DimensionSpec) (groups : List GroupSpec)
    → get (codes "groups") value ≡ Some (elements_of (map (group_value columns) groups)) → AllAfter IsNewColumn [] columns → length groups ≤ GROUPS
    → AllAfter (IsNewGroup columns dimensions) [] groups → groups_at columns dimensions value ≡ Ok groups
groups-again value columns dimensions groups is distinct few new =
    let each = each-again (group_of columns dimensions) (group_value columns) (codes "/groups") (IsNewGroup columns dimensions) (group-again columns distinct dimensions) [] groups new in
    rw (is, list_of-items (map (group_value columns) groups), few-again (group_value columns) GROUPS groups few) each

wholes-again : (value : Data) (columns : List Column) (groups : List GroupSpec) (wholes : List WholeSpec)
    → get (codes "wholes") value ≡ Some (elements_of (map (whole_value columns) wholes)) → AllAfter IsNewColumn [] columns → length groups + length wholes ≤ GROUPS
    → AllAfter (IsNewWhole columns) [] wholes → wholes_at columns groups value ≡ Ok wholes
wholes-again value columns groups wholes is distinct few new =
    let each = each-again (whole_of columns) (whole_value columns) (codes "/wholes") (IsNewWhole columns) (whole-again columns distinct) [] wholes new in
    rw (is, list_of-items (map (whole_value columns) wholes), few-more (whole_value columns) GROUPS (length groups) wholes few) each

charts-again : (value : Data) (columns : List Column) (dimensions : List DimensionSpec) (groups : List GroupSpec) (wholes : List WholeSpec) (charts : List ChartSpec)
    → get (codes "charts") value ≡ Some (elements_of (map chart_value charts)) → length charts ≤ CHARTS
    → AllByRecursion (IsChart columns dimensions groups wholes) charts → charts_at columns dimensions groups wholes value ≡ Ok charts
charts-again value columns dimensions groups wholes charts is few own =
    let Keeps = λ (before : List ChartSpec) (chart : ChartSpec). IsChart columns dimensions groups wholes chart in
    let each = each-again (chart_of columns dimensions groups wholes) chart_value (codes "/charts") Keeps (chart-again columns dimensions groups wholes) [] charts
    (after-each (IsChart columns dimensions groups wholes) [] charts own) in
    rw (is, list_of-items (map chart_value charts), few-again chart_value CHARTS charts few) each

colour-again : (before : List (List ℕ)) (path text : List ℕ) → IsColour text → colour_of before path (string text) ≡ Ok text
colour-again before path text is = rw is refl

filled-again : (colours : List (List ℕ)) → 0 < length colours → filled_array (words_of colours) ≡ Some (map string colours)
filled-again [] some = absurd (omega arith)
filled-again (first ∷ more) some = ap if_filled (list_of-items (map string (first ∷ more)))

colours-again : (value : Data) (colours : List (List ℕ)) → get (codes "colours") value ≡ Some (words_of colours) → 0 < length colours → length colours ≤ most_colours
    → AllByRecursion IsColour colours → colours_at value ≡ Ok colours
colours-again value colours is some few own =
    let Keeps = λ (before : List (List ℕ)) (colour : List ℕ). IsColour colour in
    let each = each-again colour_of string (codes "/colours") Keeps colour-again [] colours (after-each IsColour [] colours own) in
    rw (is, filled-again colours some, few-again string most_colours colours few) each

-- ---- the board

board-by : (value : Data) (board : BoardParts) → version_at value ≡ Ok tt → only_members sort.Board [] value ≡ Ok tt → optional [] as_str [] (codes "title") value ≡ Ok board.title
    → columns_at value ≡ Ok board.columns → dimensions_at board.columns value ≡ Ok board.dimensions → groups_at board.columns board.dimensions value ≡ Ok board.groups
    → wholes_at board.columns board.groups value ≡ Ok board.wholes → charts_at board.columns board.dimensions board.groups board.wholes value ≡ Ok board.charts
    → colours_at value ≡ Ok board.colours → board_of value ≡ Ok board
board-by value board version members title columns dimensions groups wholes charts colours =
    rw (version, members, title, columns, dimensions, groups, wholes, charts, colours) refl

pub board-again : (board : BoardParts) → IsBoard board → AllByRecursion IsColumn board.columns → AllByRecursion HasTextBlank board.columns → board_of (board_value board) ≡ Ok board
board-again board own sound texts =
    let value : Data = board_value board in
    let few : length board.groups ≤ GROUPS = omega (arith, own.few_groups) in
    board-by value board refl refl refl
    (columns-again value board.columns refl own.few_columns own.columns sound texts)
    (dimensions-again value board.columns board.dimensions refl own.columns own.few_dimensions own.dimensions)
    (groups-again value board.columns board.dimensions board.groups refl own.columns few own.groups)
    (wholes-again value board.columns board.groups board.wholes refl own.columns own.few_groups own.wholes)
    (charts-again value board.columns board.dimensions board.groups board.wholes board.charts refl own.few_charts own.charts)
    (colours-again value board.colours refl own.some_colours own.few_colours own.colours)

-- ---- its text

-- an object's text has no byte order mark
open-again : (rest : List ℕ) → without_mark (123 ∷ rest) ≡ 123 ∷ rest
open-again [] = refl
open-again (first ∷ []) = refl
open-again (first ∷ second ∷ more) = refl

pub unmarked-again : (board : BoardParts) (text : List ℕ) → text ≡ board_text board → without_mark text ≡ text
unmarked-again board text is = rw is (open-again _)

pub text-again : (board : BoardParts) (text : List ℕ) → text ≡ board_text board → IsUtf8 text → read text ≡ Some (board_value board) → IsBoard board
    → AllByRecursion IsColumn board.columns → AllByRecursion HasTextBlank board.columns → board_in text ≡ Ok board
text-again board text is utf8 reads own sound texts =
    ap (λ bytes. board_of_json (json_of bytes)) (unmarked-again board text is) ∙ ap board_of_json (json-some text (board_value board) utf8 reads) ∙ board-again board own sound texts
