-- The value of a board is no deeper than is read, and has no float.
use Rattle.std.proofs.Common.{◌≡◌, ◌≤◌, ◌∷◌, ◌||◌, [], ℕ, suc, pos, negsuc, List, Bool, false, Option, Some, None, map, refl, arith}
use Rattle.std.specs.List.{AllByRecursion}
use Rattle.serde_json.specs.Data.{Data, depth, string}
use Rattle.serde_json.specs.Written.{has_float}
use Rattle.xf_access.specs.declared.stock_accessor.StockAccessor.{StockAccessor}
use Rattle.xf_access.specs.declared.stock_accessor.StockAccessor.TheVariants as accessor
use Rattle.xf_access.specs.declared.stock_rounding.StockRounding.{StockRounding}
use Rattle.xf_access.specs.declared.stock_rounding.StockRounding.TheVariants as rounding
use Rattle.xf_base.specs.declared.column.Column.{Column}
use Rattle.xf_base.specs.declared.cell.Cell.{Cell}
use Rattle.xf_base.specs.declared.column.ColumnKind.{ColumnKind}
use Rattle.xf_base.specs.declared.column.ColumnKind.TheVariants as kind
use Rattle.xf_reduce.specs.declared.simple.Simple.{Simple}
use Rattle.xf_reduce.specs.declared.simple.Simple.TheVariants as part
use Rattle.xf_reduce.specs.declared.stock_reducer.StockReducer.{StockReducer}
use Rattle.xf_reduce.specs.declared.stock_reducer.StockReducer.TheVariants as reducer
use Rattle.xf_board.specs.Board.{BoardParts}
use Rattle.xf_board.specs.Print.{accessor_value, board_value, body_value, chart_value, column_members, column_value, dimension_value, elements_of, group_value, object_of, part_value, reducer_value, rounding_value, whole_value}
use Rattle.xf_board.specs.declared.parts.ChartBody.{ChartBody}
use Rattle.xf_board.specs.declared.parts.ChartBody.TheVariants as body
use Rattle.xf_board.specs.declared.parts.ChartSpec.{ChartSpec}
use Rattle.xf_board.specs.declared.parts.DimensionSpec.{DimensionSpec}
use Rattle.xf_board.specs.declared.parts.GroupSpec.{GroupSpec}
use Rattle.xf_board.specs.declared.parts.WholeSpec.{WholeSpec}

pub record IsShallow (most : ℕ) (value : Data) : Type 0 where
  pub deep : depth value ≤ most
  pub plain : has_float value ≡ false

-- texts and numbers
leaf : (most : ℕ) (text : List ℕ) → IsShallow most (string text)
leaf most text = record { deep = omega arith; plain = refl }

neither : (one other : Bool) → one ≡ false → other ≡ false → (one || other) ≡ false
neither one other is_one is_other = rw (is_one, is_other) refl

-- an array is one deeper than its elements
elements-shallow : (most : ℕ) (values : List Data) → AllByRecursion (IsShallow most) values → IsShallow (suc most) (elements_of values)
elements-shallow most [] all = record { deep = omega arith; plain = refl }
elements-shallow most (value ∷ values) all =
    let rest = elements-shallow most values all.1 in
    record { deep = omega (arith, all.0.deep, rest.deep); plain = neither _ _ all.0.plain rest.plain }

all-shallow : {A : Type 0} (most : ℕ) (printed : A → Data) → ((x : A) → IsShallow most (printed x)) → (xs : List A) → AllByRecursion (IsShallow most) (map printed xs)
all-shallow most printed each [] = tt
all-shallow most printed each (x ∷ xs) = (each x, all-shallow most printed each xs)

list-shallow : {A : Type 0} (most : ℕ) (printed : A → Data) → ((x : A) → IsShallow most (printed x)) → (xs : List A) → IsShallow (suc most) (elements_of (map printed xs))
list-shallow most printed each xs = elements-shallow most (map printed xs) (all-shallow most printed each xs)

deeper : (most more : ℕ) (value : Data) → most ≤ more → IsShallow most value → IsShallow more value
deeper most more value le own = record { deep = omega (arith, own.deep); plain = own.plain }

-- ---- the parts

accessor-shallow : (columns : List Column) (from : StockAccessor) → IsShallow 1 (accessor_value columns from)
accessor-shallow columns (accessor.Column place form) = record { deep = omega arith; plain = refl }
accessor-shallow columns (accessor.PairOf first second form) = record { deep = omega arith; plain = refl }
accessor-shallow columns (accessor.Tags place) = record { deep = omega arith; plain = refl }
accessor-shallow columns (accessor.Weekday place) = record { deep = omega arith; plain = refl }
accessor-shallow columns (accessor.Month place) = record { deep = omega arith; plain = refl }

rounding-shallow : (round : StockRounding) → IsShallow 1 (rounding_value round)
rounding-shallow rounding.Same = record { deep = omega arith; plain = refl }
rounding-shallow (rounding.Floor (pos width)) = record { deep = omega arith; plain = refl }
rounding-shallow (rounding.Floor (negsuc width)) = record { deep = omega arith; plain = refl }
rounding-shallow rounding.MonthOf = record { deep = omega arith; plain = refl }
rounding-shallow rounding.YearOf = record { deep = omega arith; plain = refl }
rounding-shallow (rounding.FirstLetters count) = record { deep = omega arith; plain = refl }

part-shallow : (columns : List Column) (one : Simple) → IsShallow 1 (part_value columns one)
part-shallow columns part.Count = record { deep = omega arith; plain = refl }
part-shallow columns (part.Sum place) = record { deep = omega arith; plain = refl }
part-shallow columns (part.SumCount place) = record { deep = omega arith; plain = refl }
part-shallow columns (part.SumSquares place) = record { deep = omega arith; plain = refl }
part-shallow columns (part.Spread place) = record { deep = omega arith; plain = refl }

reducer-shallow : (columns : List Column) (reduce : StockReducer) → IsShallow 2 (reducer_value columns reduce)
reducer-shallow columns (reducer.One first) = deeper 1 2 _ (omega arith) (part-shallow columns first)
reducer-shallow columns (reducer.Two first second) =
    let one = part-shallow columns first in
    let two = part-shallow columns second in
    record { deep = omega (arith, one.deep, two.deep); plain = neither _ _ one.plain (neither _ _ two.plain refl) }

members-of-column : (name : List ℕ) (kind : ColumnKind) (blank : Option Cell) → IsShallow 1 (object_of (column_members name kind blank))
members-of-column name kind.Int None = record { deep = omega arith; plain = refl }
members-of-column name kind.Int (Some blank) = record { deep = omega arith; plain = refl }
members-of-column name (kind.Fixed decimals) None = record { deep = omega arith; plain = refl }
members-of-column name (kind.Fixed decimals) (Some blank) = record { deep = omega arith; plain = refl }
members-of-column name kind.Date None = record { deep = omega arith; plain = refl }
members-of-column name kind.Date (Some blank) = record { deep = omega arith; plain = refl }
members-of-column name kind.Text None = record { deep = omega arith; plain = refl }
members-of-column name kind.Text (Some blank) = record { deep = omega arith; plain = refl }
members-of-column name (kind.Tags separator) None = record { deep = omega arith; plain = refl }
members-of-column name (kind.Tags separator) (Some blank) = record { deep = omega arith; plain = refl }

column-shallow : (column : Column) → IsShallow 1 (column_value column)
column-shallow column = members-of-column column.name column.kind column.blank

dimension-shallow : (columns : List Column) (dimension : DimensionSpec) → IsShallow 2 (dimension_value columns dimension)
dimension-shallow columns dimension =
    let from = accessor-shallow columns dimension.from in
    record { deep = omega (arith, from.deep); plain = neither _ _ from.plain refl }

group-shallow : (columns : List Column) (group : GroupSpec) → IsShallow 3 (group_value columns group)
group-shallow columns group =
    let reduce = reducer-shallow columns group.reduce in
    let round = rounding-shallow group.round in
    record { deep = omega (arith, reduce.deep, round.deep); plain = neither _ _ reduce.plain (neither _ _ round.plain refl) }

whole-shallow : (columns : List Column) (whole : WholeSpec) → IsShallow 3 (whole_value columns whole)
whole-shallow columns whole =
    let reduce = reducer-shallow columns whole.reduce in
    record { deep = omega (arith, reduce.deep); plain = neither _ _ reduce.plain refl }

body-shallow : (chart : ChartSpec) (drawn : ChartBody) → IsShallow 2 (body_value chart drawn)
body-shallow chart (body.Bar group field fill) = record { deep = omega arith; plain = refl }
body-shallow chart (body.Line group field fill) = record { deep = omega arith; plain = refl }
body-shallow chart (body.Row group field fill None others) = record { deep = omega arith; plain = refl }
body-shallow chart (body.Row group field fill (Some most) others) = record { deep = omega arith; plain = refl }
body-shallow chart (body.Heat group field) = record { deep = omega arith; plain = refl }
body-shallow chart body.Count = record { deep = omega arith; plain = refl }
body-shallow chart (body.Number whole field) = record { deep = omega arith; plain = refl }
body-shallow chart (body.Table dimension columns size descending) =
    let names = list-shallow 0 string (leaf 0) columns in
    record { deep = omega (arith, names.deep); plain = neither _ _ names.plain refl }

chart-shallow : (chart : ChartSpec) → IsShallow 2 (chart_value chart)
chart-shallow chart = body-shallow chart chart.body

pub board-shallow : (board : BoardParts) → IsShallow 5 (board_value board)
board-shallow board =
    let charts = list-shallow 2 chart_value chart-shallow board.charts in
    let colours = list-shallow 0 string (leaf 0) board.colours in
    let columns = list-shallow 1 column_value column-shallow board.columns in
    let dimensions = list-shallow 2 (dimension_value board.columns) (dimension-shallow board.columns) board.dimensions in
    let groups = list-shallow 3 (group_value board.columns) (group-shallow board.columns) board.groups in
    let wholes = list-shallow 3 (whole_value board.columns) (whole-shallow board.columns) board.wholes in
    record {
      deep = omega (arith, charts.deep, colours.deep, columns.deep, dimensions.deep, groups.deep, wholes.deep);
      plain = neither _ _ charts.plain (neither _ _ colours.plain (neither _ _ columns.plain (neither _ _ dimensions.plain (neither _ _ groups.plain (neither _ _ wholes.plain refl)))));
    }
