-- Which members the objects of a board have.
use Rattle.std.specs.Prelude.{ℕ, Bool, ◌||◌, not, List, [], ◌∷◌, codes, Option, find}
use Rattle.std.specs.List.{list_any}
use Rattle.std.specs.Map.{lookup}
use Rattle.std.specs.Str.{bytes_eq}
use Rattle.xf_members.specs.declared.object_sort.ChartKind.{ChartKind}
use Rattle.xf_members.specs.declared.object_sort.ChartKind.TheVariants as chart
use Rattle.xf_members.specs.declared.object_sort.ColumnWord.{ColumnWord}
use Rattle.xf_members.specs.declared.object_sort.ColumnWord.TheVariants as column
use Rattle.xf_members.specs.declared.object_sort.ObjectSort.{ObjectSort}
use Rattle.xf_members.specs.declared.object_sort.ObjectSort.TheVariants as sort

-- the members that every chart has
abbrev pub members_of_charts : List (List ℕ)
members_of_charts = codes "kind" ∷ codes "title" ∷ codes "width" ∷ codes "height" ∷ []

-- the members of charts of one kind
abbrev pub members_of_kind : ChartKind → List (List ℕ)
members_of_kind chart.Bar = codes "group" ∷ codes "field" ∷ codes "fill" ∷ []
members_of_kind chart.Line = codes "group" ∷ codes "field" ∷ codes "fill" ∷ []
members_of_kind chart.Row = codes "group" ∷ codes "field" ∷ codes "fill" ∷ codes "cap" ∷ codes "others" ∷ []
members_of_kind chart.Heat = codes "group" ∷ codes "field" ∷ []
members_of_kind chart.Count = []
members_of_kind chart.Number = codes "whole" ∷ codes "field" ∷ []
members_of_kind chart.Table = codes "dimension" ∷ codes "columns" ∷ codes "size" ∷ codes "order" ∷ []

abbrev pub is_one_of : List (List ℕ) → List ℕ → Bool
is_one_of names name = list_any (bytes_eq name) names

-- whether an object of a sort has a member of a name
abbrev pub is_member : ObjectSort → List ℕ → Bool
is_member sort.Board name =
    is_one_of (codes "version" ∷ codes "title" ∷ codes "columns" ∷ codes "dimensions" ∷ codes "groups" ∷ codes "wholes" ∷ codes "charts" ∷ codes "colours" ∷ []) name
is_member sort.Column name = is_one_of (codes "name" ∷ codes "kind" ∷ codes "decimals" ∷ codes "separator" ∷ codes "blank" ∷ []) name
is_member sort.Dimension name = is_one_of (codes "name" ∷ codes "from" ∷ []) name
is_member sort.Group name = is_one_of (codes "name" ∷ codes "of" ∷ codes "round" ∷ codes "reduce" ∷ codes "order" ∷ []) name
is_member sort.Whole name = is_one_of (codes "name" ∷ codes "reduce" ∷ []) name
is_member (sort.Chart kind) name = is_one_of members_of_charts name || is_one_of (members_of_kind kind) name

-- the first of some names that an object of a sort does not have
abbrev pub first_unknown : ObjectSort → List (List ℕ) → Option (List ℕ)
first_unknown sort names = find (λ name. not (is_member sort name)) names

-- ---- the words for kinds

abbrev pub column_word_of : List ℕ → Option ColumnWord
column_word_of word =
    lookup (bytes_eq word)
    ((codes "int", column.Int) ∷ (codes "fixed", column.Fixed) ∷ (codes "date", column.Date) ∷ (codes "text", column.Text) ∷ (codes "tags", column.Tags) ∷ [])

abbrev pub chart_kind_of : List ℕ → Option ChartKind
chart_kind_of word =
    lookup (bytes_eq word)
    ((codes "bar", chart.Bar) ∷ (codes "line", chart.Line) ∷ (codes "row", chart.Row) ∷ (codes "heat", chart.Heat)
    ∷ (codes "count", chart.Count) ∷ (codes "number", chart.Number) ∷ (codes "table", chart.Table) ∷ [])
