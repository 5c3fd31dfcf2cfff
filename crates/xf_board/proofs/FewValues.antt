-- What is printed for a board has few enough values to be read.
use Rattle.std.proofs.Common.{◌≡◌, ◌∙◌, ◌+◌, ◌*◌, ◌<◌, ◌≤◌, ◌/◌, ◌%◌, ◌∷◌, ◌++◌, ◌==◌, ◌||◌, [], ℕ, zero, suc, pos, negsuc, List, Bool, true, false, cond, nat_lt, decimal, length, map, Option, Some, None, sym, ap, refl, arith, append_assoc, append-nil, true≢false}
use Rattle.std.specs.Char.{digit_char}
use Rattle.std.specs.Fmt.{digits, digits_onto}
use Rattle.std.specs.List.{AllByRecursion}
use Rattle.std.proofs.lemmas.Bool.Decides.{nat_tests}
use Rattle.json.specs.Print.{escape, escape_byte, escape_letter, quoted}
use Rattle.serde_json.specs.Data.{Data, Items, Members, array, boolean, float, item, member, negative, no_items, no_members, null, number, object, string, unsigned}
use Rattle.serde_json.specs.Written.{compact_text, items_text, members_text}
use Rattle.xf_access.specs.declared.stock_accessor.StockAccessor.{StockAccessor}
use Rattle.xf_access.specs.declared.stock_accessor.StockAccessor.TheVariants as accessor
use Rattle.xf_access.specs.declared.stock_rounding.StockRounding.{StockRounding}
use Rattle.xf_access.specs.declared.stock_rounding.StockRounding.TheVariants as rounding
use Rattle.xf_base.specs.declared.cell.Cell.{Cell}
use Rattle.xf_base.specs.declared.column.Column.{Column}
use Rattle.xf_base.specs.declared.column.ColumnKind.{ColumnKind}
use Rattle.xf_base.specs.declared.column.ColumnKind.TheVariants as kind
use Rattle.xf_reduce.specs.declared.simple.Simple.{Simple}
use Rattle.xf_reduce.specs.declared.simple.Simple.TheVariants as part
use Rattle.xf_reduce.specs.declared.stock_reducer.StockReducer.{StockReducer}
use Rattle.xf_reduce.specs.declared.stock_reducer.StockReducer.TheVariants as reducer
use Rattle.xf_board.specs.Board.{BoardParts, IsBody, IsBoard, IsChart}
use Rattle.xf_members.specs.Count.{openers}
use Rattle.xf_board.specs.Print.{accessor_value, board_text, board_value, body_value, chart_value, column_members, column_value, dimension_value, elements_of, group_value, object_of, part_value, reducer_value, rounding_value, whole_value}
use Rattle.xf_board.specs.Walk.{without_mark}
use Rattle.xf_board.specs.declared.read.TheConstants.{MOST_OPENERS}
use Rattle.xf_members.specs.declared.count.TextState.TheVariants.{InText, Outside}
use Rattle.xf_board.specs.declared.parts.ChartBody.{ChartBody}
use Rattle.xf_board.specs.declared.parts.ChartBody.TheVariants as body
use Rattle.xf_board.specs.declared.parts.ChartSpec.{ChartSpec}
use Rattle.xf_board.specs.declared.parts.DimensionSpec.{DimensionSpec}
use Rattle.xf_board.specs.declared.parts.GroupSpec.{GroupSpec}
use Rattle.xf_board.specs.declared.parts.WholeSpec.{WholeSpec}
use Rattle.xf_board.proofs.ReadBackBoard.{unmarked-again}

-- ---- texts that open nothing

abbrev IsQuiet : List ℕ → Type 0
IsQuiet text = (rest : List ℕ) → openers Outside (text ++ rest) ≡ openers Outside rest

quiet-digit : (digit : ℕ) (rest : List ℕ) → digit < 10 → openers Outside ((48 + digit) ∷ rest) ≡ openers Outside rest
quiet-digit digit rest few =
    let comma : ((48 + digit) == 44) ≡ false = grind (arith, nat_tests) in
    let array : ((48 + digit) == 91) ≡ false = grind (arith, nat_tests) in
    let object : ((48 + digit) == 123) ≡ false = grind (arith, nat_tests) in
    let text : ((48 + digit) == 34) ≡ false = grind (arith, nat_tests) in
    rw (comma, array, object, text) (omega arith)

quiet-digits : (k n : ℕ) (done : List ℕ) → IsQuiet done → IsQuiet (digits_onto k 10 false n done)
quiet-digits zero n done own rest = own rest
quiet-digits (suc k) n done own rest =
    let few : n % 10 < 10 = omega arith in
    let below : nat_lt (n % 10) 10 ≡ true = grind (arith, nat_tests) in
    let more = λ (later : List ℕ). quiet-digit (n % 10) (done ++ later) few ∙ own later in
    rw below (either (n / 10 == 0) more (quiet-digits k (n / 10) ((48 + n % 10) ∷ done) more rest))
  where
    either : (test : Bool) → IsQuiet ((48 + n % 10) ∷ done) → openers Outside (digits_onto k 10 false (n / 10) ((48 + n % 10) ∷ done) ++ rest) ≡ openers Outside rest
        → openers Outside (cond test ((48 + n % 10) ∷ done) (digits_onto k 10 false (n / 10) ((48 + n % 10) ∷ done)) ++ rest) ≡ openers Outside rest
    either true more on = more rest
    either false more on = on

quiet-decimal : (n : ℕ) → IsQuiet (decimal n)
unfolding digits
quiet-decimal n rest = quiet-digits 64 n [] (λ later. refl) rest

-- what has no escape of its own is neither `"` nor `\`
plain-byte : (x : ℕ) (test : Bool) → ((x == 34) || (x == 92)) ≡ test → nat_lt 0 (escape_letter x) ≡ false → ((x == 34) || (x == 92)) ≡ false
plain-byte x true is none =
    let letter : nat_lt 0 x ≡ false = rw is at none in
    absurd (true≢false (sym is ∙ grind (arith, nat_tests)))
plain-byte x false is none = is

hexadecimal-plain : (digit : ℕ) → ((digit_char digit == 34) ≡ false) × ((digit_char digit == 92) ≡ false)
hexadecimal-plain digit = (grind (arith, nat_tests), grind (arith, nat_tests))

in-escape : (x : ℕ) (rest : List ℕ) → openers InText (escape_byte x ++ rest) ≡ openers InText rest
unfolding escape_byte
in-escape x rest = either (nat_lt 0 (escape_letter x)) (nat_lt x 32) refl
  where
    either : (has small : Bool) → nat_lt 0 (escape_letter x) ≡ has
        → openers InText (cond has (92 ∷ escape_letter x ∷ []) (cond small (92 ∷ 117 ∷ 48 ∷ 48 ∷ digit_char (x / 16) ∷ digit_char (x % 16) ∷ []) (x ∷ [])) ++ rest) ≡ openers InText rest
    either true small is = omega arith
    either false true is =
        let one = hexadecimal-plain (x / 16) in
        let two = hexadecimal-plain (x % 16) in
        rw (one.0, one.1, two.0, two.1) (omega arith)
    either false false is =
        let plain = plain-byte x ((x == 34) || (x == 92)) refl is in
        let quote : (x == 34) ≡ false = grind (arith, nat_tests) in
        let slash : (x == 92) ≡ false = grind (arith, nat_tests) in
        rw (quote, slash) (omega arith)

in-text : (text rest : List ℕ) → openers InText (escape text ++ rest) ≡ openers InText rest
in-text [] rest = refl
in-text (x ∷ text) rest = ap (openers InText) (append_assoc (escape_byte x) (escape text) rest) ∙ in-escape x (escape text ++ rest) ∙ in-text text rest

quiet-quoted : (text : List ℕ) → IsQuiet (quoted text)
quiet-quoted text rest =
    let inner = ap (openers InText) (append_assoc (escape text) (34 ∷ []) rest) ∙ in-text text (34 ∷ rest) in
    omega (arith, inner)

-- ---- values

-- a bound on the commas and brackets of a value
abbrev mutual
  weight : Data → ℕ
  weight null = 0
  weight (boolean b) = 0
  weight (number n) = 0
  weight (string s) = 0
  weight (array ds) = suc (items_weight ds)
  weight (object ms) = suc (members_weight ms)

  items_weight : Items → ℕ
  items_weight no_items = 0
  items_weight (item d ds) = suc (weight d + items_weight ds)

  members_weight : Members → ℕ
  members_weight no_members = 0
  members_weight (member k d ms) = suc (weight d + members_weight ms)

mutual
  opens-value : (d : Data) (rest : List ℕ) → openers Outside (compact_text d ++ rest) ≤ weight d + openers Outside rest
  opens-value null rest = omega arith
  opens-value (boolean true) rest = omega arith
  opens-value (boolean false) rest = omega arith
  opens-value (number (unsigned n)) rest = omega (arith, quiet-decimal n rest)
  opens-value (number (negative (pos n))) rest = omega (arith, quiet-decimal n rest)
  opens-value (number (negative (negsuc n))) rest = omega (arith, quiet-decimal (suc n) rest)
  opens-value (number (float x)) rest = omega arith
  opens-value (string s) rest = omega (arith, quiet-quoted s rest)
  opens-value (array ds) rest = omega (arith, opens-items false ds rest)
  opens-value (object ms) rest = omega (arith, opens-members false ms rest)

  opens-items : (later : Bool) (ds : Items) (rest : List ℕ) → openers Outside (items_text later ds ++ rest) ≤ items_weight ds + openers Outside rest
  opens-items later no_items rest = omega arith
  opens-items true (item d ds) rest =
      let joined = ap (openers Outside) (append_assoc (compact_text d) (items_text true ds) rest) in
      omega (arith, joined, opens-value d (items_text true ds ++ rest), opens-items true ds rest)
  opens-items false (item d ds) rest =
      let joined = ap (openers Outside) (append_assoc (compact_text d) (items_text true ds) rest) in
      omega (arith, joined, opens-value d (items_text true ds ++ rest), opens-items true ds rest)

  opens-members : (later : Bool) (ms : Members) (rest : List ℕ) → openers Outside (members_text later ms ++ rest) ≤ members_weight ms + openers Outside rest
  opens-members later no_members rest = omega arith
  opens-members true (member k d ms) rest =
      let named = ap (openers Outside) (append_assoc (quoted k) (58 ∷ (compact_text d ++ members_text true ms)) rest) ∙ quiet-quoted k (58 ∷ ((compact_text d ++ members_text true ms) ++ rest)) in
      let joined = ap (openers Outside) (append_assoc (compact_text d) (members_text true ms) rest) in
      omega (arith, named, joined, opens-value d (members_text true ms ++ rest), opens-members true ms rest)
  opens-members false (member k d ms) rest =
      let named = ap (openers Outside) (append_assoc (quoted k) (58 ∷ (compact_text d ++ members_text true ms)) rest) ∙ quiet-quoted k (58 ∷ ((compact_text d ++ members_text true ms) ++ rest)) in
      let joined = ap (openers Outside) (append_assoc (compact_text d) (members_text true ms) rest) in
      omega (arith, named, joined, opens-value d (members_text true ms ++ rest), opens-members true ms rest)

-- ---- the parts

list-weight : {A : Type 0} (most : ℕ) (printed : A → Data) (xs : List A) → AllByRecursion (λ (x : A). weight (printed x) < most) xs
    → weight (elements_of (map printed xs)) ≤ suc (length xs * most)
list-weight most printed [] all = omega arith
list-weight most printed (x ∷ xs) all = omega (arith, all.0, list-weight most printed xs all.1)

all-light : {A : Type 0} (most : ℕ) (printed : A → Data) → ((x : A) → weight (printed x) < most) → (xs : List A) → AllByRecursion (λ (x : A). weight (printed x) < most) xs
all-light most printed each [] = tt
all-light most printed each (x ∷ xs) = (each x, all-light most printed each xs)

accessor-weight : (columns : List Column) (from : StockAccessor) → weight (accessor_value columns from) ≤ 4
accessor-weight columns (accessor.Column place form) = omega arith
accessor-weight columns (accessor.PairOf first second form) = omega arith
accessor-weight columns (accessor.Tags place) = omega arith
accessor-weight columns (accessor.Weekday place) = omega arith
accessor-weight columns (accessor.Month place) = omega arith

rounding-weight : (round : StockRounding) → weight (rounding_value round) ≤ 3
rounding-weight rounding.Same = omega arith
rounding-weight (rounding.Floor width) = omega arith
rounding-weight rounding.MonthOf = omega arith
rounding-weight rounding.YearOf = omega arith
rounding-weight (rounding.FirstLetters count) = omega arith

part-weight : (columns : List Column) (one : Simple) → weight (part_value columns one) ≤ 3
part-weight columns part.Count = omega arith
part-weight columns (part.Sum place) = omega arith
part-weight columns (part.SumCount place) = omega arith
part-weight columns (part.SumSquares place) = omega arith
part-weight columns (part.Spread place) = omega arith

reducer-weight : (columns : List Column) (reduce : StockReducer) → weight (reducer_value columns reduce) ≤ 10
reducer-weight columns (reducer.One first) = omega (arith, part-weight columns first)
reducer-weight columns (reducer.Two first second) = omega (arith, part-weight columns first, part-weight columns second)

members-of-column : (name : List ℕ) (kind : ColumnKind) (blank : Option Cell) → weight (object_of (column_members name kind blank)) < 20
members-of-column name kind.Int None = omega arith
members-of-column name kind.Int (Some blank) = omega arith
members-of-column name (kind.Fixed decimals) None = omega arith
members-of-column name (kind.Fixed decimals) (Some blank) = omega arith
members-of-column name kind.Date None = omega arith
members-of-column name kind.Date (Some blank) = omega arith
members-of-column name kind.Text None = omega arith
members-of-column name kind.Text (Some blank) = omega arith
members-of-column name (kind.Tags separator) None = omega arith
members-of-column name (kind.Tags separator) (Some blank) = omega arith

column-weight : (column : Column) → weight (column_value column) < 20
column-weight column = members-of-column column.name column.kind column.blank

dimension-weight : (columns : List Column) (dimension : DimensionSpec) → weight (dimension_value columns dimension) < 20
dimension-weight columns dimension = omega (arith, accessor-weight columns dimension.from)

group-weight : (columns : List Column) (group : GroupSpec) → weight (group_value columns group) < 20
group-weight columns group = omega (arith, reducer-weight columns group.reduce, rounding-weight group.round)

whole-weight : (columns : List Column) (whole : WholeSpec) → weight (whole_value columns whole) < 20
whole-weight columns whole = omega (arith, reducer-weight columns whole.reduce)

text-weight : (text : List ℕ) → weight (string text) < 1
text-weight text = omega arith

body-weight : (columns : List Column) (dimensions : List DimensionSpec) (groups : List GroupSpec) (wholes : List WholeSpec) (chart : ChartSpec) (drawn : ChartBody)
    → IsBody columns dimensions groups wholes drawn → weight (body_value chart drawn) < 100
body-weight columns dimensions groups wholes chart (body.Bar group field fill) own = omega arith
body-weight columns dimensions groups wholes chart (body.Line group field fill) own = omega arith
body-weight columns dimensions groups wholes chart (body.Row group field fill None others) own = omega arith
body-weight columns dimensions groups wholes chart (body.Row group field fill (Some most) others) own = omega arith
body-weight columns dimensions groups wholes chart (body.Heat group field) own = omega arith
body-weight columns dimensions groups wholes chart body.Count own = omega arith
body-weight columns dimensions groups wholes chart (body.Number whole field) own = omega arith
body-weight columns dimensions groups wholes chart (body.Table dimension names size descending) own =
    omega (arith, own.3, list-weight 1 string names (all-light 1 string text-weight names))

charts-light : (columns : List Column) (dimensions : List DimensionSpec) (groups : List GroupSpec) (wholes : List WholeSpec) (charts : List ChartSpec)
    → AllByRecursion (IsChart columns dimensions groups wholes) charts → AllByRecursion (λ (chart : ChartSpec). weight (chart_value chart) < 100) charts
charts-light columns dimensions groups wholes [] all = tt
charts-light columns dimensions groups wholes (chart ∷ charts) all =
    (body-weight columns dimensions groups wholes chart chart.body all.0.body, charts-light columns dimensions groups wholes charts all.1)

-- ---- the board

board-weight : (board : BoardParts) → IsBoard board → weight (board_value board) ≤ 10000
board-weight board own =
    let charts = list-weight 100 chart_value board.charts (charts-light board.columns board.dimensions board.groups board.wholes board.charts own.charts) in
    let colours = list-weight 1 string board.colours (all-light 1 string text-weight board.colours) in
    let columns = list-weight 20 column_value board.columns (all-light 20 column_value column-weight board.columns) in
    let dimensions = list-weight 20 (dimension_value board.columns) board.dimensions (all-light 20 (dimension_value board.columns) (dimension-weight board.columns) board.dimensions) in
    let groups = list-weight 20 (group_value board.columns) board.groups (all-light 20 (group_value board.columns) (group-weight board.columns) board.groups) in
    let wholes = list-weight 20 (whole_value board.columns) board.wholes (all-light 20 (whole_value board.columns) (whole-weight board.columns) board.wholes) in
    omega (arith, charts, colours, columns, dimensions, groups, wholes, own.few_charts, own.few_colours, own.few_columns, own.few_dimensions, own.few_groups)

few-of : (text : List ℕ) (value : Data) → text ≡ compact_text value → weight value ≤ 10000 → openers Outside text ≤ MOST_OPENERS
few-of text value is few =
    let all = opens-value value [] in
    let whole = ap (openers Outside) (is ∙ sym (append-nil (compact_text value))) in
    omega (arith, whole, all)

pub few-values : (board : BoardParts) (text : List ℕ) → text ≡ board_text board → IsBoard board → openers Outside (without_mark text) ≤ MOST_OPENERS
few-values board text is own =
    ap_few (few-of text (board_value board) is (board-weight board own)) (unmarked-again board text is)
  where
    ap_few : openers Outside text ≤ MOST_OPENERS → without_mark text ≡ text → openers Outside (without_mark text) ≤ MOST_OPENERS
    ap_few few same = rw same few
