-- The keys that a stock accessor gives for a row of a schema that it fits.
use Rattle.std.proofs.Common.{◌≡◌, ℕ, ℤ, true, false, List, [], ◌∷◌, map, Option, Some, None, IsSomeAnd, MatchOption, option_map, option_to_list, slice_get, refl, ap}
use Rattle.std.proofs.lemmas.Bool.{and_parts}
use Rattle.std.proofs.lemmas.List.{length-map}
use Rattle.std.proofs.lemmas.Slice.Zip.{AllZip-left}
use Rattle.std.specs.List.{AllByRecursion}
use Rattle.std.specs.List.Sorted.{IsStrictlySortedBy}
use Rattle.std.specs.declared.cmp.Ordering.TheVariants.{Less}
use Rattle.xf_base.specs.Form.{key_of_atom}
use Rattle.xf_base.specs.Key.{text_cmp, key_cmp}
use Rattle.xf_base.specs.Kind.{kind_of_atom, kind_of_key, kind_of_atom_form, kind_of_one, kind_of_key_form}
use Rattle.xf_base.specs.Schema.{IsCellOf, IsRowOf}
use Rattle.xf_base.specs.Date.{is_day}
use Rattle.xf_base.proofs.DayParts.{is_day-true}
use Rattle.xf_base.specs.declared.cell.Cell.{Cell}
use Rattle.xf_base.specs.declared.cell.Cell.TheVariants as cell
use Rattle.xf_base.specs.declared.column.Column.{Column}
use Rattle.xf_base.specs.declared.column.ColumnKind.{ColumnKind}
use Rattle.xf_base.specs.declared.column.ColumnKind.TheVariants as kind
use Rattle.xf_base.specs.declared.form.AtomForm.{AtomForm}
use Rattle.xf_base.specs.declared.form.AtomForm.TheVariants.{Fixed, Date, Text}
use Rattle.xf_base.specs.declared.form.KeyForm.{KeyForm}
use Rattle.xf_base.specs.declared.form.KeyForm.TheVariants.{One, Pair}
use Rattle.xf_base.specs.declared.key.Atom.{Atom}
use Rattle.xf_base.specs.declared.key.Atom.TheVariants as atom
use Rattle.xf_base.specs.declared.key.Key.TheVariants as key
use Rattle.xf_base.specs.declared.kind.KeyKind.TheVariants as key_kind
use Rattle.xf_access.specs.Keys.{AreKeysOf}
use Rattle.xf_access.specs.OneKey.{one_key}
use Rattle.xf_access.specs.Stock.{form_of, may_give_many, is_form_of, is_of_dates, is_of_tags, is_form_of_one, is_form_of_pair, fits_columns, atom_of_cell, number_of_cell, pair_of, weekday_of, month_key, tag_keys, keys_of_row}
use Rattle.xf_access.specs.declared.stock_accessor.StockAccessor.{StockAccessor}
use Rattle.xf_access.specs.declared.stock_accessor.StockAccessor.TheVariants.{Column as ColumnOf, PairOf, Tags, Weekday, Month}

-- where a column is at a place, the row has a cell of it there
abbrev pub HasCell : Option Column → Option Cell → Type 0
HasCell column value = MatchOption column (Unit {0}) (λ column. IsSomeAnd value (IsCellOf column.kind))

-- the cell of a column of a form is a part of the form's kind
part_of_kind : (form : AtomForm) (column : ColumnKind) (value : Cell) → IsCellOf column value → is_form_of form (Some column) ≡ true → IsSomeAnd (atom_of_cell (Some value)) (λ own. kind_of_atom own ≡ kind_of_atom_form form)
part_of_kind (Fixed decimals) kind.Int (cell.Num number) is fits = refl
part_of_kind (Fixed decimals) (kind.Fixed own) (cell.Num number) is fits = refl
part_of_kind Date kind.Date (cell.Num number) is fits = refl
part_of_kind Text kind.Text (cell.Text text) is fits = refl
part_of_kind _ _ _ is fits = absurd (first_of (cc, search is))

pub part_of_column : (form : AtomForm) (column : Option Column) (value : Option Cell) → HasCell column value → is_form_of form (option_map (λ column. column.kind) column) ≡ true → IsSomeAnd (atom_of_cell value) (λ own. kind_of_atom own ≡ kind_of_atom_form form)
part_of_column form None value has fits = absurd cc
part_of_column form (Some column) None has fits = absurd has
part_of_column form (Some column) (Some value) has fits = part_of_kind form column.kind value has fits

-- a part by itself
key_of_part : (form : AtomForm) (part : Option Atom) → IsSomeAnd part (λ own. kind_of_atom own ≡ kind_of_atom_form form) → AreKeysOf (kind_of_one (kind_of_atom_form form)) false (option_to_list (option_map key_of_atom part))
key_of_part form None is = absurd is
key_of_part form (Some (atom.Num number)) is = one_key _ _ (ap kind_of_one is)
key_of_part form (Some (atom.Text text)) is = one_key _ _ (ap kind_of_one is)

-- a pair of parts
key_of_pair : (front back : AtomForm) (first second : Option Atom) → IsSomeAnd first (λ own. kind_of_atom own ≡ kind_of_atom_form front) → IsSomeAnd second (λ own. kind_of_atom own ≡ kind_of_atom_form back) → AreKeysOf (key_kind.Pair (kind_of_atom_form front) (kind_of_atom_form back)) false (option_to_list (pair_of first second))
key_of_pair front back None second is_first is_second = absurd is_first
key_of_pair front back (Some first) None is_first is_second = absurd is_second
key_of_pair front back (Some first) (Some second) is_first is_second = one_key _ _ (cc)

column_keys : (form : KeyForm) (column : Option Column) (value : Option Cell) → HasCell column value → is_form_of_one form (option_map (λ column. column.kind) column) ≡ true → AreKeysOf (kind_of_key_form form) false (option_to_list (option_map key_of_atom (atom_of_cell value)))
column_keys (One form) column value has fits = key_of_part form (atom_of_cell value) (part_of_column form column value has fits)
column_keys (Pair front back) column value has fits = absurd cc

pair_keys : (form : KeyForm) (first second : Option Column) (one two : Option Cell) → HasCell first one → HasCell second two → is_form_of_pair form (option_map (λ column. column.kind) first) (option_map (λ column. column.kind) second) ≡ true → AreKeysOf (kind_of_key_form form) false (option_to_list (pair_of (atom_of_cell one) (atom_of_cell two)))
pair_keys (One form) first second one two has_first has_second fits = absurd cc
pair_keys (Pair front back) first second one two has_first has_second fits =
    let parts = and_parts (is_form_of front (option_map (λ column. column.kind) first)) (is_form_of back (option_map (λ column. column.kind) second)) fits in
    key_of_pair front back (atom_of_cell one) (atom_of_cell two) (part_of_column front first one has_first parts.0) (part_of_column back second two has_second parts.1)

-- the cell of a column of dates is a day
day_of_kind : (column : ColumnKind) (value : Cell) → IsCellOf column value → is_of_dates (Some column) ≡ true → IsSomeAnd (number_of_cell (Some value)) (λ day. is_day day ≡ true)
day_of_kind kind.Date (cell.Num day) is fits = is_day-true day is
day_of_kind _ _ is fits = absurd (first_of (cc, search is))

day_of_column : (column : Option Column) (value : Option Cell) → HasCell column value → is_of_dates (option_map (λ column. column.kind) column) ≡ true → IsSomeAnd (number_of_cell value) (λ day. is_day day ≡ true)
day_of_column None value has fits = absurd cc
day_of_column (Some column) None has fits = absurd has
day_of_column (Some column) (Some value) has fits = day_of_kind column.kind value has fits

weekday_keys : (number : Option ℤ) → IsSomeAnd number (λ day. is_day day ≡ true) → AreKeysOf key_kind.Num false (option_to_list (option_map (λ day. key.Num (weekday_of day)) number))
weekday_keys None is = absurd is
weekday_keys (Some day) is = one_key _ _ refl

month_keys : (number : Option ℤ) → IsSomeAnd number (λ day. is_day day ≡ true) → AreKeysOf key_kind.Num false (option_to_list (month_key number))
month_keys None is = absurd is
month_keys (Some day) is = rw is (one_key _ _ refl)

-- texts in order are keys in order
below_texts : (text : List ℕ) (later : List (List ℕ)) → AllByRecursion (λ other. text_cmp text other ≡ Less) later → AllByRecursion (λ other. key_cmp (key.Text text) other ≡ Less) (map key.Text later)
below_texts text [] all = tt
below_texts text (other ∷ later) all = (all.0, below_texts text later all.1)

ascending_texts : (texts : List (List ℕ)) → IsStrictlySortedBy text_cmp texts → IsStrictlySortedBy key_cmp (map key.Text texts)
unfolding IsStrictlySortedBy
ascending_texts [] up = tt
ascending_texts (text ∷ later) up = (below_texts text later up.0, ascending_texts later up.1)

texts_of_kind : (texts : List (List ℕ)) → AllByRecursion (λ own. kind_of_key own ≡ key_kind.Text) (map key.Text texts)
texts_of_kind [] = tt
texts_of_kind (text ∷ later) = (refl, texts_of_kind later)

keys_of_tags : (column : ColumnKind) (value : Cell) → IsCellOf column value → is_of_tags (Some column) ≡ true → AreKeysOf key_kind.Text true (tag_keys (Some value))
keys_of_tags (kind.Tags separator) (cell.Tags tags) is fits =
    record { ascending = ascending_texts tags is.2; of_kind = texts_of_kind tags; one = λ h. absurd cc; few = rw length-map is.0 }
keys_of_tags _ _ is fits = absurd (first_of (cc, search is))

tag_column_keys : (column : Option Column) (value : Option Cell) → HasCell column value → is_of_tags (option_map (λ column. column.kind) column) ≡ true → AreKeysOf key_kind.Text true (tag_keys value)
tag_column_keys None value has fits = absurd cc
tag_column_keys (Some column) None has fits = absurd has
tag_column_keys (Some column) (Some value) has fits = keys_of_tags column.kind value has fits

pub cell_at : (columns : List Column) (row : List Cell) (place : ℕ) → IsRowOf columns row → HasCell (slice_get columns place) (slice_get row place)
cell_at columns row place is = AllZip-left (λ column value. IsCellOf column.kind value) columns row is place

-- the keys of a row of columns that the accessor fits
pub are_keys_of_row : (accessor : StockAccessor) (columns : List Column) (row : List Cell) → fits_columns accessor columns ≡ true → IsRowOf columns row → AreKeysOf (kind_of_key_form (form_of accessor)) (may_give_many accessor) (keys_of_row accessor row)
are_keys_of_row (ColumnOf place form) columns row fits is =
    column_keys form (slice_get columns place) (slice_get row place) (cell_at columns row place is) fits
are_keys_of_row (PairOf first second form) columns row fits is =
    pair_keys form (slice_get columns first) (slice_get columns second) (slice_get row first) (slice_get row second) (cell_at columns row first is) (cell_at columns row second is) fits
are_keys_of_row (Tags place) columns row fits is =
    tag_column_keys (slice_get columns place) (slice_get row place) (cell_at columns row place is) fits
are_keys_of_row (Weekday place) columns row fits is =
    weekday_keys (number_of_cell (slice_get row place)) (day_of_column (slice_get columns place) (slice_get row place) (cell_at columns row place is) fits)
are_keys_of_row (Month place) columns row fits is =
    month_keys (number_of_cell (slice_get row place)) (day_of_column (slice_get columns place) (slice_get row place) (cell_at columns row place is) fits)
