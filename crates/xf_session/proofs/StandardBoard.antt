-- The board of columns alone is a board, and within limits that have room for a dimension and a group of each column.
use Rattle.std.proofs.Common.{◌≡◌, ℕ, zero, suc, ◌+◌, ◌<◌, ◌≤◌, nat_lt, Bool, true, false, cond, ◌||◌, List, [], ◌∷◌, ◌++◌, length, map, take, get_or, find, slice_get, Option, Some, None, is_some, option_map, refl, sym, ap, subst, ◌∙◌, arith, append_assoc, length-append}
use Rattle.std.proofs.lemmas.Bool.Decides.{nat_tests}
use Rattle.std.proofs.lemmas.Cmp.{nat_list_eq_equiv}
use Rattle.std.proofs.lemmas.List.{length-map, map-append}
use Rattle.std.proofs.lemmas.List.Folds.{list_any-append}
use Rattle.std.proofs.lemmas.List.FromFn.{length-enumerate_from}
use Rattle.std.proofs.lemmas.Slice.Eq.{bytes_eq-Decides}
use Rattle.std.specs.List.{AllByRecursion, enumerate_from, list_any, position_or_len}
use Rattle.std.specs.Str.{bytes_eq}
use Rattle.xf_access.specs.Stock.{fits_columns, form_of, is_form_of_one, kind_at}
use Rattle.xf_access.specs.declared.stock_rounding.StockRounding.TheVariants.{Same}
use Rattle.xf_base.specs.Bounds.{Bounds}
use Rattle.xf_base.specs.Schema.{place_of}
use Rattle.xf_base.specs.declared.cell.Cell.{Cell}
use Rattle.xf_base.specs.declared.column.Column.{Column}
use Rattle.xf_base.specs.declared.column.ColumnKind.{ColumnKind}
use Rattle.xf_base.specs.declared.column.ColumnKind.TheVariants as kind
use Rattle.xf_base.specs.declared.form.AtomForm.TheVariants.{Fixed}
use Rattle.xf_base.specs.declared.form.KeyForm.TheVariants.{One}
use Rattle.xf_board.specs.Board.{AllAfter, IsBoard, IsNewColumn, IsNewDimension, IsNewGroup, IsPlainTags, dimension_named, form_named, is_within, rounds}
use Rattle.xf_board.specs.declared.parts.DimensionSpec.{DimensionSpec}
use Rattle.xf_board.specs.declared.parts.GroupSpec.{GroupSpec}
use Rattle.xf_session.proofs.Declared.{found-any}
use Rattle.xf_session.specs.Start.{column_dimension, column_group, standard_board}
use Rattle.xf_session.specs.State.{Name}
use Rattle.xf_sheet.specs.SheetParts.{AreDistinctNames, IsInt, column_names}

-- a name that stands after others is none of them
name-new : (before : List Name) (name : Name) (after : List Name) → AreDistinctNames (before ++ name ∷ after) → list_any (bytes_eq name) before ≡ false
name-new [] name after distinct = refl
name-new (first ∷ before) name after distinct =
    let parts : (list_any (bytes_eq first) before || (bytes_eq first name || list_any (bytes_eq first) after)) ≡ false = sym (list_any-append (bytes_eq first) before (name ∷ after)) ∙ distinct.0 in
    let other : bytes_eq name first ≡ false = nat_list_eq_equiv.symm name first ∙ middle (list_any (bytes_eq first) before) (bytes_eq first name) (list_any (bytes_eq first) after) parts in
    rw (other, name-new before name after distinct.1) refl
  where
    middle : (a b c : Bool) → (a || (b || c)) ≡ false → b ≡ false
    middle a false c e = refl
    middle true true c e = cc e
    middle false true c e = cc e

-- parts whose names differ keep what follows for each from a new name and a fact of its own
all-after : {A : Type 0} (name_of : A → Name) (Own : A → Type 0) (Keeps : List A → A → Type 0)
    → ((before : List A) (x : A) → list_any (bytes_eq (name_of x)) (map name_of before) ≡ false → Own x → Keeps before x)
    → (before xs : List A) → AreDistinctNames (map name_of (before ++ xs)) → AllByRecursion Own xs → AllAfter Keeps before xs
all-after name_of Own Keeps keeps before [] distinct own = tt
all-after name_of Own Keeps keeps before (x ∷ xs) distinct own =
    let new = name-new (map name_of before) (name_of x) (map name_of xs) (subst AreDistinctNames (map-append name_of before (x ∷ xs)) distinct) in
    (keeps before x new own.0, all-after name_of Own Keeps keeps (before ++ x ∷ []) xs (subst (λ ys. AreDistinctNames (map name_of ys)) (sym (append_assoc before (x ∷ []) xs)) distinct) own.1)

-- a fact of each of some is one of each of what they are made from
all-map : {A B : Type 0} (f : A → B) (P : A → Type 0) (Q : B → Type 0) → ((x : A) → P x → Q (f x)) → (xs : List A) → AllByRecursion P xs → AllByRecursion Q (map f xs)
all-map f P Q gives [] all = tt
all-map f P Q gives (x ∷ xs) all = (gives x all.0, all-map f P Q gives xs all.1)

-- ---- columns

plain-tags : (own : ColumnKind) (blank : Option Cell) → own ≡ kind.Int → IsPlainTags own blank
plain-tags own blank is = subst (λ k. IsPlainTags k blank) (sym is) tt

-- no column of another name is found
none-before : (columns : List Column) (name : Name) → list_any (bytes_eq name) (column_names columns) ≡ false → position_or_len (λ (column : Column). bytes_eq column.name name) columns ≡ length columns
none-before [] name other = refl
none-before (column ∷ columns) name other =
    let first : bytes_eq column.name name ≡ false = nat_list_eq_equiv.symm column.name name ∙ left-of (bytes_eq name column.name) (list_any (bytes_eq name) (column_names columns)) other in
    let rest : position_or_len (λ (own : Column). bytes_eq own.name name) columns ≡ length columns = none-before columns name (right-of (bytes_eq name column.name) (list_any (bytes_eq name) (column_names columns)) other) in
    rw first (omega (arith, rest))
  where
    left-of : (a b : Bool) → (a || b) ≡ false → a ≡ false
    left-of false b e = refl
    left-of true b e = cc e

    right-of : (a b : Bool) → (a || b) ≡ false → b ≡ false
    right-of false b e = e
    right-of true b e = cc e

place-none : (columns : List Column) (name : Name) → list_any (bytes_eq name) (column_names columns) ≡ false → is_some (place_of columns name) ≡ false
place-none columns name other =
    let at = none-before columns name other in
    let past : nat_lt (length columns) (length columns) ≡ false = grind (arith, nat_tests) in
    rw (at, past) refl

columns-new : (columns : List Column) → AllByRecursion IsInt columns → AreDistinctNames (column_names columns) → AllAfter IsNewColumn [] columns
columns-new columns ints distinct =
    all-after (λ (column : Column). column.name) IsInt IsNewColumn
    (λ before column new int. (place-none before column.name new, plain-tags column.kind column.blank int)) [] columns distinct ints

-- ---- dimensions

-- the dimensions of columns have their names
dimension-names : (start : ℕ) (columns : List Column) → map (λ (d : DimensionSpec). d.name) (map column_dimension (enumerate_from start columns)) ≡ column_names columns
dimension-names start [] = refl
dimension-names start (column ∷ columns) = ap (λ names. column.name ∷ names) (dimension-names (start + 1) columns)

slice-at : {X : Type 0} (before : List X) (x : X) (xs : List X) → slice_get (before ++ x ∷ xs) (length before) ≡ Some x
slice-at [] x xs = refl
slice-at (y ∷ before) x xs = slice-at before x xs

-- they are over columns of whole numbers
dimensions-fit : (before columns all : List Column) → before ++ columns ≡ all → AllByRecursion IsInt columns
    → AllByRecursion (λ (d : DimensionSpec). fits_columns d.from all ≡ true) (map column_dimension (enumerate_from (length before) columns))
dimensions-fit before [] all are ints = tt
dimensions-fit before (column ∷ columns) all are ints =
    let at : kind_at all (length before) ≡ Some kind.Int =
    ap (λ list. kind_at list (length before)) (sym are) ∙ ap (option_map (λ (c : Column). c.kind)) (slice-at before column columns) ∙ ap Some ints.0 in
    let count : length (before ++ column ∷ []) ≡ length before + 1 = omega (arith, length-append before (column ∷ [])) in (
      ap (is_form_of_one (One (Fixed 0))) at,
      subst (λ n. AllByRecursion (λ (d : DimensionSpec). fits_columns d.from all ≡ true) (map column_dimension (enumerate_from n columns))) count
          (dimensions-fit (before ++ column ∷ []) columns all (append_assoc before (column ∷ []) columns ∙ are) ints.1),
    )

dimensions-new : (columns : List Column) → AllByRecursion IsInt columns → AreDistinctNames (column_names columns)
    → AllAfter (IsNewDimension columns) [] (map column_dimension (enumerate_from 0 columns))
dimensions-new columns ints distinct =
    all-after (λ (d : DimensionSpec). d.name) (λ (d : DimensionSpec). fits_columns d.from columns ≡ true) (IsNewDimension columns)
    (λ before dimension new fits. record { new = found-any (λ (d : DimensionSpec). d.name) before dimension.name ∙ new; fits = fits })
    [] (map column_dimension (enumerate_from 0 columns)) (subst AreDistinctNames (sym (dimension-names 0 columns)) distinct) (dimensions-fit [] columns columns refl ints)

-- ---- groups

-- the names of some are among those of all
names-among : (before columns all : List Column) → before ++ columns ≡ all → AllByRecursion (λ (column : Column). list_any (bytes_eq column.name) (column_names all) ≡ true) columns
names-among before [] all are = tt
names-among before (column ∷ columns) all are =
    let own : bytes_eq column.name column.name ≡ true = (bytes_eq-Decides column.name column.name).1 refl in
    let there : list_any (bytes_eq column.name) (column_names (before ++ column ∷ columns)) ≡ true =
    ap (list_any (bytes_eq column.name)) (map-append (λ (c : Column). c.name) before (column ∷ columns)) ∙ list_any-append (bytes_eq column.name) (column_names before) (column.name ∷ column_names columns) ∙ rw own (or-true (list_any (bytes_eq column.name) (column_names before))) in (
      ap (λ list. list_any (bytes_eq column.name) (column_names list)) (sym are) ∙ there,
      names-among (before ++ column ∷ []) columns all (append_assoc before (column ∷ []) columns ∙ are),
    )
  where
    or-true : (b : Bool) → (b || true) ≡ true
    or-true true = refl
    or-true false = refl

-- a dimension of a column's name is declared, and its keys are rounded to themselves
rounds-same : (columns : List Column) (name : Name) → list_any (bytes_eq name) (column_names columns) ≡ true → rounds Same (form_named (map column_dimension (enumerate_from 0 columns)) name) ≡ true
rounds-same columns name among =
    let dimensions = map column_dimension (enumerate_from 0 columns) in
    some-rounds (dimension_named dimensions name) (found-any (λ (d : DimensionSpec). d.name) dimensions name ∙ ap (list_any (bytes_eq name)) (dimension-names 0 columns) ∙ among)
  where
    some-rounds : (o : Option DimensionSpec) → is_some o ≡ true → rounds Same (option_map (λ dimension. form_of dimension.from) o) ≡ true
    some-rounds None e = cc e
    some-rounds (Some dimension) e = refl

group-names : (columns : List Column) → map (λ (group : GroupSpec). group.name) (map column_group columns) ≡ column_names columns
group-names [] = refl
group-names (column ∷ columns) = ap (λ names. column.name ∷ names) (group-names columns)

-- a group of a column
record IsOfColumn (columns : List Column) (group : GroupSpec) : Type 0 where
  column : Column
  is : group ≡ column_group column
  among : list_any (bytes_eq column.name) (column_names columns) ≡ true

groups-new : (columns : List Column) → AreDistinctNames (column_names columns)
    → AllAfter (IsNewGroup columns (map column_dimension (enumerate_from 0 columns))) [] (map column_group columns)
groups-new columns distinct =
    all-after (λ (group : GroupSpec). group.name) (IsOfColumn columns) (IsNewGroup columns (map column_dimension (enumerate_from 0 columns)))
    (λ before group new of. record {
      new = found-any (λ (g : GroupSpec). g.name) before group.name ∙ new;
      rounds = subst (λ (g : GroupSpec). rounds g.round (form_named (map column_dimension (enumerate_from 0 columns)) g.of) ≡ true) (sym of.is) (rounds-same columns of.column.name of.among);
      sound = rw of.is refl;
      fits = rw of.is refl;
      order = rw of.is (omega arith);
    })
    [] (map column_group columns) (subst AreDistinctNames (sym (group-names columns)) distinct)
    (all-map column_group (λ (column : Column). list_any (bytes_eq column.name) (column_names columns) ≡ true) (IsOfColumn columns)
    (λ column among. record { column = column; is = refl; among = among }) columns (names-among [] columns columns refl))

-- ---- the board

-- the dimension of one column more
pub column-next : (start : ℕ) (columns : List Column) (place at : ℕ) (d : Column) → at ≡ start + place → place < length columns
    → map column_dimension (enumerate_from start (take (place + 1) columns)) ≡ map column_dimension (enumerate_from start (take place columns)) ++ column_dimension (at, get_or columns place d) ∷ []
column-next start [] place at d is within = absurd (omega (arith, within))
column-next start (column ∷ columns) zero at d is within = let same : start ≡ at = omega (arith, is) in ap (λ n. column_dimension (n, column) ∷ []) same
column-next start (column ∷ columns) (suc place) at d is within =
    let more : suc place + 1 ≡ suc (place + 1) = omega arith in
    ap (λ n. map column_dimension (enumerate_from start (take n (column ∷ columns)))) more
    ∙ ap (λ rest. column_dimension (start, column) ∷ rest) (column-next (start + 1) columns place at d (omega (arith, is)) (omega (arith, within)))

count-dimensions : (columns : List Column) → length (map column_dimension (enumerate_from 0 columns)) ≡ length columns
count-dimensions columns = length-map (enumerate_from 0 columns) column_dimension ∙ length-enumerate_from 0 columns

pub standard-sound : (columns : List Column) → length columns ≤ 32 → AllByRecursion IsInt columns → AreDistinctNames (column_names columns) → IsBoard (standard_board columns)
standard-sound columns few ints distinct = record {
  few_columns = omega (arith, few);
  columns = columns-new columns ints distinct;
  few_dimensions = omega (arith, few, count-dimensions columns);
  dimensions = dimensions-new columns ints distinct;
  groups = groups-new columns distinct;
  few_groups = omega (arith, few, length-map columns column_group);
  wholes = (record { new = refl; fits = refl }, tt);
  few_charts = omega arith;
  charts = tt;
  some_colours = omega arith;
  few_colours = omega arith;
  colours = (refl, (refl, (refl, (refl, (refl, tt)))));
}

pub standard-within : (columns : List Column) (limits : Bounds) → length columns ≤ 32 → 32 ≤ limits.dimensions → 33 ≤ limits.groups → is_within (standard_board columns) limits ≡ true
standard-within columns limits few dimensions groups =
    rw (count-dimensions columns, length-map columns column_group) (grind (arith, nat_tests, few, dimensions, groups))
