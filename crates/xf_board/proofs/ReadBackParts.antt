-- What is printed for a dimension, a group or a whole is read as it.
use Rattle.std.proofs.Common.{◌≡◌, ◌<◌, [], ℕ, List, true, Option, Some, None, Ok, nat_lt, option_map, sym, refl, arith, true≢false}
use Rattle.std.proofs.lemmas.Bool.Decides.{nat_tests}
use Rattle.xf_access.specs.Stock.{form_of}
use Rattle.xf_base.specs.declared.column.Column.{Column}
use Rattle.xf_columns.specs.Columns.{applies}
use Rattle.xf_reduce.specs.StockReducer.{stock_field_count}
use Rattle.xf_board.specs.Board.{AllAfter, IsNewColumn, IsNewDimension, IsNewGroup, IsNewWhole, dimension_named, rounds}
use Rattle.xf_board.specs.Print.{dimension_value, group_value, whole_value}
use Rattle.xf_board.specs.Walk.{dimension_of, group_of, whole_of}
use Rattle.xf_board.specs.declared.parts.DimensionSpec.{DimensionSpec}
use Rattle.xf_board.specs.declared.parts.GroupSpec.{GroupSpec}
use Rattle.xf_board.specs.declared.parts.WholeSpec.{WholeSpec}
use Rattle.xf_board.proofs.ReadBackWords.{accessor-again, accessor-said, reducer-again, reducer-said, rounding-again}

pub dimension-again : (columns : List Column) → AllAfter IsNewColumn [] columns → (before : List DimensionSpec) (path : List ℕ) (dimension : DimensionSpec)
    → IsNewDimension columns before dimension → dimension_of columns before path (dimension_value columns dimension) ≡ Ok dimension
dimension-again columns distinct before path dimension own =
    let names = accessor-again columns dimension.from distinct own.fits in
    rw (own.new, accessor-said columns dimension.from, names.fits, names.same) refl

group-of : (columns : List Column) → AllAfter IsNewColumn [] columns → (dimensions : List DimensionSpec) (before : List GroupSpec) (path : List ℕ) (group : GroupSpec)
    → IsNewGroup columns dimensions before group → (found : Option DimensionSpec) → dimension_named dimensions group.of ≡ found
    → rounds group.round (option_map (λ dimension. form_of dimension.from) found) ≡ true
    → group_of columns dimensions before path (group_value columns group) ≡ Ok group
group-of columns distinct dimensions before path group own None is rounded = absurd (true≢false (sym rounded))
group-of columns distinct dimensions before path group own (Some dimension) is rounded =
    let names = reducer-again columns group.reduce distinct own.fits in
    let applied : applies group.round (form_of dimension.from) ≡ true = rounded in
    let within : group.order < stock_field_count group.reduce = own.order in
    let below : nat_lt group.order (stock_field_count group.reduce) ≡ true = grind (arith, nat_tests) in
    rw (own.new, is, rounding-again group.round own.sound, applied, reducer-said columns group.reduce, names.fits, names.same, below) refl

pub group-again : (columns : List Column) → AllAfter IsNewColumn [] columns → (dimensions : List DimensionSpec) (before : List GroupSpec) (path : List ℕ) (group : GroupSpec)
    → IsNewGroup columns dimensions before group → group_of columns dimensions before path (group_value columns group) ≡ Ok group
group-again columns distinct dimensions before path group own =
    group-of columns distinct dimensions before path group own (dimension_named dimensions group.of) refl own.rounds

pub whole-again : (columns : List Column) → AllAfter IsNewColumn [] columns → (before : List WholeSpec) (path : List ℕ) (whole : WholeSpec)
    → IsNewWhole columns before whole → whole_of columns before path (whole_value columns whole) ≡ Ok whole
whole-again columns distinct before path whole own =
    let names = reducer-again columns whole.reduce distinct own.fits in
    rw (own.new, reducer-said columns whole.reduce, names.fits, names.same) refl
