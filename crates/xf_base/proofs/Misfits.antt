-- A row is of a schema exactly where it has no misfit.
use Rattle.std.proofs.Common.{◌≡◌, ◌≤◌, ◌+◌, ◌-◌, ℕ, ℤ, nat_le, nat_lt, Bool, true, false, ◌&&◌, cond, List, [], ◌∷◌, length, sum_by, drop, Option, Some, None, IsNone, option_map, refl, sym, ap, arith, Decides, length-drop}
use Rattle.std.proofs.lemmas.Int.{ints}
use Rattle.std.proofs.lemmas.Bool.Decides.{nat_tests, Decides-and}
use Rattle.std.proofs.lemmas.Cmp.{nat_list_cmp_total}
use Rattle.std.proofs.lemmas.List.{drop_all}
use Rattle.std.specs.Bool.{then_some}
use Rattle.std.specs.List.{AllByRecursion}
use Rattle.std.specs.List.Sorted.{IsStrictlySortedBy}
use Rattle.std.specs.Ordering.{is_lt}
use Rattle.std.specs.declared.cmp.Ordering.{Ordering}
use Rattle.std.specs.declared.cmp.Ordering.TheVariants.{Less, Equal, Greater}
use Rattle.xf_base.specs.Key.{text_cmp}
use Rattle.xf_base.specs.Schema.{AreTags, IsCellNumber, IsCellOf, IsDay, IsRowOf, are_tags, is_ascending, is_below_first, is_cell_number, is_cell_of, is_day, misfit_of}
use Rattle.xf_base.specs.declared.limits.TheConstants.Limits.{CELL_BYTES, CELL_VALUES}
use Rattle.xf_base.specs.declared.cell.Cell.{Cell}
use Rattle.xf_base.specs.declared.cell.Cell.TheVariants as cell
use Rattle.xf_base.specs.declared.column.ColumnKind.{ColumnKind}
use Rattle.xf_base.specs.declared.column.ColumnKind.TheVariants as kind
use Rattle.xf_base.specs.declared.column.Column.{Column}

-- the test of a number
number-decides : (number : ℤ) → Decides (is_cell_number number) (IsCellNumber number)
number-decides number = (λ h. (grind (arith, ints, nat_tests), grind (arith, ints, nat_tests)), λ h. grind (arith, ints, nat_tests))

-- the test of a day
day-decides : (day : ℤ) → Decides (is_day day) (IsDay day)
day-decides day = (λ h. (grind (arith, ints, nat_tests), grind (arith, ints, nat_tests)), λ h. grind (arith, ints, nat_tests))

-- the test of an order of numbers
le-decides : (a b : ℕ) → Decides (nat_le a b) (a ≤ b)
le-decides a b = (λ h. grind (arith, nat_tests), λ h. grind (arith, nat_tests))

-- a test never met, of what never holds
never-decides : Decides false ⊥
never-decides = (λ h. absurd cc, λ h. absurd h)

-- the test of Less
less-decides : (order : Ordering) → Decides (is_lt order) (order ≡ Less)
less-decides Less = (λ h. refl, λ h. refl)
less-decides Equal = (λ h. absurd cc, λ h. absurd cc)
less-decides Greater = (λ h. absurd cc, λ h. absurd cc)

-- a text below another is below all that the other is below
below-all : (text next : List ℕ) (later : List (List ℕ)) → text_cmp text next ≡ Less → AllByRecursion (λ other. text_cmp next other ≡ Less) later → AllByRecursion (λ other. text_cmp text other ≡ Less) later
below-all text next [] below all = tt
below-all text next (other ∷ later) below all = (nat_list_cmp_total.trans text next other below all.0, below-all text next later below all.1)

-- a text below the first of those that ascend is below all of them
first-decides : (text : List ℕ) (later : List (List ℕ)) → IsStrictlySortedBy text_cmp later → Decides (is_below_first text later) (AllByRecursion (λ other. text_cmp text other ≡ Less) later)
unfolding IsStrictlySortedBy
first-decides text [] up = (λ h. tt, λ h. refl)
first-decides text (next ∷ later) up =
    let first = less-decides (text_cmp text next) in
    (λ h. (first.0 h, below-all text next later (first.0 h) up.0), λ h. first.1 h.0)

-- two tests that hold together hold each
both : (a b : Bool) → (a && b) ≡ true → (a ≡ true) × (b ≡ true)
both true b h = (refl, h)
both false b h = absurd cc

-- the test of an order of texts
ascending-decides : (texts : List (List ℕ)) → Decides (is_ascending texts) (IsStrictlySortedBy text_cmp texts)
unfolding IsStrictlySortedBy
ascending-decides [] = (λ h. tt, λ h. refl)
ascending-decides (text ∷ later) =
    let rest : Decides (is_ascending later) (IsStrictlySortedBy text_cmp later) = ascending-decides later in (
      λ h. let parts = both (is_below_first text later) (is_ascending later) h in
          let up : IsStrictlySortedBy text_cmp later = rest.0 parts.1 in
          ((first-decides text later up).0 parts.0, up),
      λ h. rw ((first-decides text later h.1).1 h.0, rest.1 h.1) refl,
    )

-- the test of tags
tags-decides : (tags : List (List ℕ)) → Decides (are_tags tags) (AreTags tags)
tags-decides tags =
    let few : Decides (nat_le (length tags) CELL_VALUES) (length tags ≤ CELL_VALUES) = le-decides (length tags) CELL_VALUES in
    let short : Decides (nat_le (sum_by length tags + (length tags - 1)) CELL_BYTES) (sum_by length tags + (length tags - 1) ≤ CELL_BYTES) = le-decides (sum_by length tags + (length tags - 1)) CELL_BYTES in
    let up : Decides (is_ascending tags) (IsStrictlySortedBy text_cmp tags) = ascending-decides tags in
    let all = Decides-and _ _ (Decides-and _ _ few short) up in
    (λ h. ((all.0 h).0.0, (all.0 h).0.1, (all.0 h).1), λ h. all.1 ((h.0, h.1), h.2))

-- the test of a cell
cell-decides : (own : ColumnKind) (value : Cell) → Decides (is_cell_of own value) (IsCellOf own value)
cell-decides kind.Int (cell.Num number) = number-decides number
cell-decides kind.Int (cell.Text text) = never-decides
cell-decides kind.Int (cell.Tags tags) = never-decides
cell-decides (kind.Fixed decimals) (cell.Num number) = number-decides number
cell-decides (kind.Fixed decimals) (cell.Text text) = never-decides
cell-decides (kind.Fixed decimals) (cell.Tags tags) = never-decides
cell-decides kind.Date (cell.Num number) = day-decides number
cell-decides kind.Date (cell.Text text) = never-decides
cell-decides kind.Date (cell.Tags tags) = never-decides
cell-decides kind.Text (cell.Num number) = never-decides
cell-decides kind.Text (cell.Text text) = le-decides (length text) CELL_BYTES
cell-decides kind.Text (cell.Tags tags) = never-decides
cell-decides (kind.Tags separator) (cell.Num number) = never-decides
cell-decides (kind.Tags separator) (cell.Text text) = never-decides
cell-decides (kind.Tags separator) (cell.Tags tags) = tags-decides tags

-- none where the first cell is of its column and none among the others
none-parts : (first : Bool) (later : Option ℕ) → cond first (option_map (λ place. place + 1) later) (Some 0) ≡ None → (first ≡ true) × (later ≡ None)
none-parts true None h = (refl, refl)
none-parts true (Some place) h = absurd cc
none-parts false later h = absurd cc

-- a row without a misfit is of the columns
pub row-from_no_misfit : (columns : List Column) (row : List Cell) → misfit_of columns row ≡ None → IsRowOf columns row
row-from_no_misfit [] [] none = tt
row-from_no_misfit [] (value ∷ row) none = absurd cc
row-from_no_misfit (column ∷ columns) [] none = absurd cc
row-from_no_misfit (column ∷ columns) (value ∷ row) none =
    let parts = none-parts (is_cell_of column.kind value) (misfit_of columns row) none in
    ((cell-decides column.kind value).0 parts.0, row-from_no_misfit columns row parts.1)

-- a row of the columns has no misfit
pub no_misfit-from_row : (columns : List Column) (row : List Cell) → IsRowOf columns row → misfit_of columns row ≡ None
no_misfit-from_row [] [] of = refl
no_misfit-from_row [] (value ∷ row) of = absurd of
no_misfit-from_row (column ∷ columns) [] of = absurd of
no_misfit-from_row (column ∷ columns) (value ∷ row) of =
    rw ((cell-decides column.kind value).1 of.0, no_misfit-from_row columns row of.1) refl

-- the same of what was found
pub none_where_row : (columns : List Column) (row : List Cell) (found : Option ℕ) → found ≡ misfit_of columns row → (IsNone found → IsRowOf columns row) × (IsRowOf columns row → IsNone found)
none_where_row columns row None same = (λ h. row-from_no_misfit columns row (sym same), λ h. refl)
none_where_row columns row (Some place) same = (λ h. absurd cc, λ h. absurd (cc (no_misfit-from_row columns row h)))

-- beyond no columns there is one cell too many where there is a cell
misfit-more : (row : List Cell) (place : ℕ) → option_map (λ own. own + place) (misfit_of [] row) ≡ then_some (nat_lt 0 (length row)) place
misfit-more [] place = refl
misfit-more (value ∷ row) place =
    let more : nat_lt 0 (length (value ∷ row)) ≡ true = grind (arith, nat_tests) in
    rw more (ap Some (omega arith))

-- where the cells are of all columns, only one too many is left to find
pub misfit-after : (columns : List Column) (row : List Cell) (place : ℕ) → place ≡ length columns → place ≤ length row → option_map (λ own. own + place) (misfit_of (drop place columns) (drop place row)) ≡ then_some (nat_lt (length columns) (length row)) (length columns)
misfit-after columns row place same enough =
    let all : length columns ≤ place = omega arith in
    let over : nat_lt 0 (length (drop place row)) ≡ nat_lt (length columns) (length row) = grind (arith, nat_tests, length-drop place row) in
    rw (drop_all place columns all, misfit-more (drop place row) place, over, same) refl
