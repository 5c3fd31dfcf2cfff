-- The lists are those of the board.
use Rattle.std.proofs.Common.{◌≡◌, ◌∙◌, ℕ, List, map, ap, refl}
use Rattle.std.proofs.lemmas.Result.{IfOk-weaker}
use Rattle.serde_json.specs.Data.{Data, string}
use Rattle.serde_json.specs.View.{view}
use Rattle.serde_json.specs.declared.value.Value.{Value}
use Rattle.xf_base.specs.declared.column.Column.{Column}
use Rattle.xf_board.specs.Print.{board_value, board_with, chart_value, column_value, dimension_value, elements_of, group_value, whole_value, words_of}
use Rattle.xf_board.specs.declared.parts.ChartSpec.{ChartSpec}
use Rattle.xf_board.proofs.print.board_value.Goals as goal

-- two boards of the same lists
same-with : (title title' : List ℕ) (a a' b b' c c' d d' e e' f f' : Data) → title ≡ title' → a ≡ a' → b ≡ b' → c ≡ c' → d ≡ d' → e ≡ e' → f ≡ f'
    → board_with title a b c d e f ≡ board_with title' a' b' c' d' e' f'
same-with title title' a a' b b' c c' d d' e e' f f' is_title is_a is_b is_c is_d is_e is_f = rw (is_title, is_a, is_b, is_c, is_d, is_e, is_f) refl

-- a list of parts that are printed with columns
same-list : {A : Type 0} (printed : List Column → A → Data) (value : Data) (columns columns' : List Column) (parts parts' : List A) → value ≡ elements_of (map (printed columns) parts)
    → columns ≡ columns' → parts ≡ parts' → value ≡ elements_of (map (printed columns') parts')
same-list printed value columns columns' parts parts' is same_columns same_parts =
    is ∙ ap (λ all. elements_of (map (printed all) parts)) same_columns ∙ ap (λ all. elements_of (map (printed columns') all)) same_parts

pub returns-clause-exact : goal.returns-clause-exact
returns-clause-exact c =
    let board = c.args.board.now in
    let columns = c.schema-schema.ensures in
    let charts : view c.in_ok-charts.charts ≡ elements_of (map chart_value board.charts) =
    same-list (λ (all : List Column) (chart : ChartSpec). chart_value chart) _ _ _ _ _ c.in_ok-charts.ensures.exact columns c.charts.ensures in
    let colours : view c.in_ok-colours.colours ≡ words_of board.colours =
    same-list (λ (all : List Column) (text : List ℕ). string text) _ _ _ _ _ c.in_ok-colours.ensures.exact columns c.colours.ensures in
    let own_columns : view c.in_ok-columns.columns ≡ elements_of (map column_value board.columns) =
    same-list (λ (all : List Column) (column : Column). column_value column) _ _ _ _ _ c.in_ok-columns.ensures.exact columns (c.as_slice.ensures.value ∙ columns) in
    let dimensions : view c.in_ok-dimensions.dimensions ≡ elements_of (map (dimension_value board.columns) board.dimensions) =
    same-list dimension_value _ _ _ _ _ c.in_ok-dimensions.ensures.exact columns c.dimensions.ensures in
    let groups : view c.in_ok-groups.groups ≡ elements_of (map (group_value board.columns) board.groups) =
    same-list group_value _ _ _ _ _ c.in_ok-groups.ensures.exact columns c.groups.ensures in
    let wholes : view c.in_ok-wholes.wholes ≡ elements_of (map (whole_value board.columns) board.wholes) =
    same-list whole_value _ _ _ _ _ c.in_ok-wholes.ensures.exact columns c.wholes.ensures in
    let same = same-with _ _ _ _ _ _ _ _ _ _ _ _ _ _ c.title-title.ensures charts colours own_columns dimensions groups wholes in
    IfOk-weaker c.board_with.result _ (λ (value : Value). view value ≡ board_value board) (λ value is. is ∙ same) c.board_with.ensures
