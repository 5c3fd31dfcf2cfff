-- What is printed for a chart is read as the chart.
use Rattle.std.proofs.Common.{◌≡◌, ◌<◌, ◌≤◌, ◌∷◌, ◌&&◌, [], ℕ, List, Bool, true, false, Option, Some, None, Ok, codes, is_some, nat_lt, nat_le, length, map, sym, ap, refl, arith, true≢false}
use Rattle.std.specs.List.{AllByRecursion}
use Rattle.std.specs.Option.{option_map_or}
use Rattle.std.proofs.lemmas.Bool.Decides.{nat_tests}
use Rattle.serde_json.specs.Data.{Data, string}
use Rattle.serde_json.specs.Find.{get}
use Rattle.xf_base.specs.Schema.{place_of}
use Rattle.xf_base.specs.declared.column.Column.{Column}
use Rattle.xf_reduce.specs.StockReducer.{stock_field_count}
use Rattle.xf_board.specs.Board.{IsBody, IsChart, IsColumnName, dimension_named, form_of_group, group_named, is_heat_form, is_line_form, whole_named}
use Rattle.xf_board.specs.Print.{chart_value, count_of, elements_of, order_word, table_value}
use Rattle.xf_members.specs.Reading.{each, filled_array, if_filled, member, word}
use Rattle.xf_board.specs.Walk.{chart_of, descending_of, table_at, table_column}
use Rattle.xf_board.specs.declared.parts.ChartBody.{ChartBody}
use Rattle.xf_board.specs.declared.parts.ChartBody.TheVariants as body
use Rattle.xf_board.specs.declared.parts.ChartSpec.{ChartSpec}
use Rattle.xf_board.specs.declared.parts.DimensionSpec.{DimensionSpec}
use Rattle.xf_board.specs.declared.parts.GroupSpec.{GroupSpec}
use Rattle.xf_board.specs.declared.parts.WholeSpec.{WholeSpec}
use Rattle.xf_board.specs.Ranges.{greatest_cap, greatest_side, greatest_table, least_height, least_width, most_table_columns}
use Rattle.xf_members.proofs.Lists.{list_of-items}
use Rattle.xf_board.proofs.ReadBackLists.{after-each, each-again, few-again}

-- ---- what a chart is of

record IsGroupOf (groups : List GroupSpec) (name : List ℕ) (field : ℕ) : Type 0 where
  group : GroupSpec
  named : group_named groups name ≡ Some group
  below : nat_lt field (stock_field_count group.reduce) ≡ true

group-found : (groups : List GroupSpec) (name : List ℕ) (field : ℕ) (found : Option GroupSpec) → group_named groups name ≡ found
    → field < option_map_or (λ group. stock_field_count group.reduce) found 0 → IsGroupOf groups name field
group-found groups name field None is below = absurd (omega arith)
group-found groups name field (Some group) is below = record { group = group; named = is; below = grind (arith, nat_tests) }

record IsWholeOf (wholes : List WholeSpec) (name : List ℕ) (field : ℕ) : Type 0 where
  whole : WholeSpec
  named : whole_named wholes name ≡ Some whole
  below : nat_lt field (stock_field_count whole.reduce) ≡ true

whole-found : (wholes : List WholeSpec) (name : List ℕ) (field : ℕ) (found : Option WholeSpec) → whole_named wholes name ≡ found
    → field < option_map_or (λ whole. stock_field_count whole.reduce) found 0 → IsWholeOf wholes name field
whole-found wholes name field None is below = absurd (omega arith)
whole-found wholes name field (Some whole) is below = record { whole = whole; named = is; below = grind (arith, nat_tests) }

-- ---- the columns of a table

column-found : (columns : List Column) (before : List (List ℕ)) (path name : List ℕ) (found : Option ℕ) → place_of columns name ≡ found → is_some found ≡ true
    → table_column columns before path (string name) ≡ Ok name
column-found columns before path name None is some = absurd (true≢false (sym some))
column-found columns before path name (Some place) is some = rw is refl

columns-again : (columns : List Column) (path : List ℕ) (names : List (List ℕ)) → AllByRecursion (IsColumnName columns) names
    → each (table_column columns) path [] (map string names) ≡ Ok names
columns-again columns path names all =
    each-again (table_column columns) string path (λ (ys : List (List ℕ)) (x : List ℕ). IsColumnName columns x)
    (λ before place name own. column-found columns before place name (place_of columns name) refl own) [] names (after-each (IsColumnName columns) [] names all)

filled-again : (names : List (List ℕ)) → 0 < length names → filled_array (elements_of (map string names)) ≡ Some (map string names)
filled-again [] some = absurd (omega arith)
filled-again (first ∷ more) some = ap if_filled (list_of-items (map string (first ∷ more)))

order-again : (descending : Bool) → word descending_of (string (order_word descending)) ≡ Some descending
order-again true = refl
order-again false = refl

-- a table by its members
table-again : (columns : List Column) (dimensions : List DimensionSpec) (path : List ℕ) (value : Data) (dimension : List ℕ) (names : List (List ℕ)) (size : ℕ)
    (descending : Bool) (found : Option DimensionSpec) → get (codes "dimension") value ≡ Some (string dimension) → get (codes "columns") value ≡ Some (elements_of (map string names))
    → get (codes "size") value ≡ Some (count_of size) → get (codes "order") value ≡ Some (string (order_word descending)) → dimension_named dimensions dimension ≡ found
    → is_some found ≡ true → AllByRecursion (IsColumnName columns) names → 0 < length names → length names ≤ most_table_columns → 1 ≤ size → size ≤ greatest_table
    → table_at columns dimensions path value ≡ Ok (body.Table dimension names size descending)
table-again columns dimensions path value dimension names size descending None its_dimension its_columns its_size its_order is some declared filled few least most =
    absurd (true≢false (sym some))
table-again columns dimensions path value dimension names size descending (Some given) its_dimension its_columns its_size its_order is some declared filled few least most =
    let within : (nat_le 1 size && nat_le size greatest_table) ≡ true = grind (arith, nat_tests) in
    rw (
      its_dimension,
      is,
      its_columns,
      filled-again names filled,
      few-again string most_table_columns names few,
      columns-again columns (member path (codes "columns")) names declared,
      its_size,
      within,
      its_order,
      order-again descending,
    ) refl

-- ---- charts

-- the sides of a chart
record HasSides (width height : ℕ) : Type 0 where
  wide : (nat_le least_width width && nat_le width greatest_side) ≡ true
  high : (nat_le least_height height && nat_le height greatest_side) ≡ true

body-again : (columns : List Column) (dimensions : List DimensionSpec) (groups : List GroupSpec) (wholes : List WholeSpec) (before : List ChartSpec) (path title : List ℕ)
    (width height : ℕ) (drawn : ChartBody) → HasSides width height → IsBody columns dimensions groups wholes drawn
    → chart_of columns dimensions groups wholes before path (chart_value (record { title = title; width = width; height = height; body = drawn }))
    ≡ Ok (record { title = title; width = width; height = height; body = drawn })
body-again columns dimensions groups wholes before path title width height (body.Bar group field fill) sides own =
    let found = group-found groups group field (group_named groups group) refl own.0 in
    rw (sides.wide, sides.high, found.named, found.below, own.1) refl
body-again columns dimensions groups wholes before path title width height (body.Line group field fill) sides own =
    let found = group-found groups group field (group_named groups group) refl own.0 in
    let form : is_line_form (form_of_group dimensions found.group) ≡ true = rw found.named at own.2 in
    rw (sides.wide, sides.high, found.named, form, found.below, own.1) refl
body-again columns dimensions groups wholes before path title width height (body.Row group field fill None others) sides own =
    let found = group-found groups group field (group_named groups group) refl own.0 in
    rw (sides.wide, sides.high, found.named, found.below, own.1) refl
body-again columns dimensions groups wholes before path title width height (body.Row group field fill (Some most) others) sides own =
    let found = group-found groups group field (group_named groups group) refl own.0 in
    let some : 1 ≤ most = own.2.0 in
    let few : most ≤ greatest_cap = own.2.1 in
    let within : (nat_le 1 most && nat_le most greatest_cap) ≡ true = grind (arith, nat_tests) in
    rw (sides.wide, sides.high, found.named, found.below, own.1, within) refl
body-again columns dimensions groups wholes before path title width height (body.Heat group field) sides own =
    let found = group-found groups group field (group_named groups group) refl own.0 in
    let form : is_heat_form (form_of_group dimensions found.group) ≡ true = rw found.named at own.1 in
    rw (sides.wide, sides.high, found.named, form, found.below) refl
body-again columns dimensions groups wholes before path title width height body.Count sides own = rw (sides.wide, sides.high) refl
body-again columns dimensions groups wholes before path title width height (body.Number whole field) sides own =
    let found = whole-found wholes whole field (whole_named wholes whole) refl own in
    rw (sides.wide, sides.high, found.named, found.below) refl
body-again columns dimensions groups wholes before path title width height (body.Table dimension names size descending) sides own =
    let chart : ChartSpec = record { title = title; width = width; height = height; body = body.Table dimension names size descending } in
    let read = table-again columns dimensions path (table_value chart dimension names size descending) dimension names size descending (dimension_named dimensions dimension) refl refl refl
    refl refl own.0 own.1 own.2 own.3 own.4 own.5 in
    rw (sides.wide, sides.high, read) refl

pub chart-again : (columns : List Column) (dimensions : List DimensionSpec) (groups : List GroupSpec) (wholes : List WholeSpec) (before : List ChartSpec) (path : List ℕ)
    (chart : ChartSpec) → IsChart columns dimensions groups wholes chart → chart_of columns dimensions groups wholes before path (chart_value chart) ≡ Ok chart
chart-again columns dimensions groups wholes before path chart own =
    let wide = own.wide in
    let width = own.width in
    let high = own.high in
    let height = own.height in
    body-again columns dimensions groups wholes before path chart.title chart.width chart.height chart.body
    (record { wide = grind (arith, nat_tests); high = grind (arith, nat_tests) }) own.body
