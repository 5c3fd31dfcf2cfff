-- The rows of a sheet are never refused: each column stands in the header, and takes each field below.
use Rattle.std.proofs.Common.{◌≡◌, ◌⊎◌, inl, inr, ℕ, zero, suc, ◌+◌, ◌*◌, ◌<◌, ◌≤◌, ◌==◌, nat_lt, Bool, true, false, cond, not, ◌||◌, List, [], ◌∷◌, length, map, filter, take, get_or, slice_get, position, Option, Some, None, Result, Ok, Err, is_ok, refl, sym, ap, ◌∙◌, ⊎_elim, arith, one-add, rules, tests}
use Rattle.std.specs.List.{All, AllByRecursion, enumerate_from, list_any, position_or_len, zip}
use Rattle.std.specs.Result.{result_map_both}
use Rattle.std.specs.Str.{bytes_eq}
use Rattle.std.proofs.lemmas.Bool.{and_parts, cases_lt, eq-eqb, eqb-true, lt-ltb}
use Rattle.std.proofs.lemmas.List.Elements.{All-filter, All-take, filter_passes, recursion_from_All}
use Rattle.std.proofs.lemmas.List.FromFn.{length-enumerate_from}
use Rattle.std.proofs.lemmas.List.Sums.{AllPass-from_list_all, fails_before_first}
use Rattle.std.proofs.lemmas.Slice.Eq.{bytes_eq-Decides}
use Rattle.xf_sheet.specs.Sheet.{sheet_columns, columns_of, columns_unless, field_of, int_column, is_chosen, is_named, is_number, is_number_column, uneven_place}
use Rattle.xf_sheet.specs.SheetParts.{AreDistinctNames, IsSheet, IsInt, column_names}
use Rattle.xf_sheet.specs.declared.sheet.SheetRefusal.{SheetRefusal}
use Rattle.xf_sheet.proofs.SheetFacts.{IsPlaced, columns-few, is_uneven, placed}
use Rattle.xf_sheet.proofs.NumberText.{number-text}
use Rattle.xf_base.specs.Bounds.{AreLimits, Bounds}
use Rattle.xf_base.specs.Fixed.{number_of}
use Rattle.xf_base.specs.Schema.{IsRowOf}
use Rattle.xf_base.specs.declared.cell.Cell.{Cell}
use Rattle.xf_base.specs.declared.column.Column.{Column}
use Rattle.xf_base.specs.declared.limits.TheConstants.Limits.{DIMENSIONS}
use Rattle.xf_load.specs.Cell.{cell_of}
use Rattle.xf_load.specs.Fallible.{◌>>=◌, each_ok}
use Rattle.xf_load.specs.Load.{cell_at, place_of, row_of, rows_of}
use Rattle.xf_load.specs.Records.{records_of}
use Rattle.xf_load.specs.declared.load.LoadRefusal.{LoadRefusal}
use Rattle.xf_load.proofs.CellFacts.{cell_of-kind}
use Rattle.xf_load.proofs.FallibleFacts.{each_ok-length}

-- ---- values that are all there

ok-step : {X E : Type 0} (first : Result X E) (rest : Result (List X) E) → is_ok first ≡ true → is_ok rest ≡ true → is_ok (first >>= (λ value. rest >>= (λ values. Ok (value ∷ values)))) ≡ true
ok-step (Ok value) (Ok values) p q = refl
ok-step (Ok value) (Err e) p q = cc q
ok-step (Err e) rest p q = cc p

each_ok-all : {X Y E : Type 0} (value_of : X → Result Y E) (xs : List X) → AllByRecursion (λ x. is_ok (value_of x) ≡ true) xs → is_ok (each_ok value_of xs) ≡ true
each_ok-all value_of [] all = refl
each_ok-all value_of (x ∷ xs) all = ok-step (value_of x) (each_ok value_of xs) all.0 (each_ok-all value_of xs all.1)

ok-both : {X Y E F : Type 0} (f : X → Y) (g : E → F) (read : Result X E) → is_ok read ≡ true → is_ok (result_map_both f g read) ≡ true
ok-both f g (Ok value) ok = refl
ok-both f g (Err e) ok = cc ok

-- ---- the places of the columns

or-false : (a b : Bool) → (a || b) ≡ false → (a ≡ false) × (b ≡ false)
or-false true b h = cc h
or-false false b h = (refl, h)

-- a name that stands nowhere earlier is found at its own place
place-found : (header : List (List ℕ)) (place : ℕ) (name : List ℕ) → slice_get header place ≡ Some name → list_any (bytes_eq name) (take place header) ≡ false
    → (place < length header) × (position_or_len (bytes_eq name) header ≡ place)
place-found [] place name at new = cc at
place-found (x ∷ header) zero name at new =
    let same : name ≡ x = cc at in
    let here : bytes_eq name x ≡ true = (bytes_eq-Decides name x).1 same in
    (omega arith, rw here refl)
place-found (x ∷ header) (suc place) name at new =
    let parts = or-false (bytes_eq name x) (list_any (bytes_eq name) (take place header)) new in
    let more = place-found header place name at parts.1 in
    (omega arith, rw (parts.0, more.1, one-add place) refl)

not-true : (b : Bool) → not b ≡ true → b ≡ false
not-true true h = cc h
not-true false h = refl

position-named : (header : List (List ℕ)) (column : ℕ × List ℕ) → is_named header column ≡ true → IsPlaced header column → position (bytes_eq column.1) header ≡ Some column.0
position-named header column named at =
    let new = not-true (list_any (bytes_eq column.1) (take column.0 header)) (and_parts _ _ named).1 in
    let found = place-found header column.0 column.1 at new in
    rw (found.1, lt-ltb column.0 (length header) found.0) refl

-- the places of columns are found in the header
places-found : (header : List (List ℕ)) (n : ℕ) (columns : List (ℕ × List ℕ)) → AllByRecursion (λ column. position (bytes_eq column.1) header ≡ Some column.0) columns
    → each_ok (place_of header) (enumerate_from n (map (λ (place, name). int_column name) columns)) ≡ Ok (map (λ column. column.0) columns)
places-found header n [] all = refl
places-found header n (column ∷ columns) all = rw (all.0, places-found header (n + 1) columns all.1) refl

not-false : (b : Bool) → not b ≡ false → b ≡ true
not-false true h = refl
not-false false h = cc h

-- ---- the rows

cell-ok : (name field : List ℕ) → is_number field ≡ true → is_ok (cell_of (int_column name) field) ≡ true
cell-ok name field is =
    rw (cell_of-kind (int_column name) field (number-text field 0 is) (inl refl)) (ok-both _ _ (number_of field 0) is)

cells-ok : (number : ℕ) (fields : List (List ℕ)) (n : ℕ) (columns : List (ℕ × List ℕ)) → AllByRecursion (λ column. is_number (field_of fields column.0) ≡ true) columns
    → AllByRecursion (λ x. is_ok (cell_at number fields x) ≡ true) (enumerate_from n (zip (map (λ (place, name). int_column name) columns) (map (λ column. column.0) columns)))
cells-ok number fields n [] all = tt
cells-ok number fields n (column ∷ columns) all = (ok-both _ _ (cell_of (int_column column.1) (field_of fields column.0)) (cell-ok column.1 (field_of fields column.0) all.0), cells-ok number fields (n + 1) columns all.1)

-- a record that is even and has a number in each column
abbrev IsTaken : ℕ → List (ℕ × List ℕ) → List (List ℕ) → Type 0
IsTaken width columns fields = (length fields ≡ width) × AllByRecursion (λ column. is_number (field_of fields column.0) ≡ true) columns

rows-ok : (width : ℕ) (columns : List (ℕ × List ℕ)) (n : ℕ) (records : List (List (List ℕ))) → AllByRecursion (IsTaken width columns) records
    → AllByRecursion (λ x. is_ok (row_of (map (λ (place, name). int_column name) columns) (map (λ column. column.0) columns) width x) ≡ true) (enumerate_from n records)
rows-ok width columns n [] all = tt
rows-ok width columns n (fields ∷ records) all =
    (rw (eq-eqb (length fields) width all.0.0) (each_ok-all (cell_at n fields) _ (cells-ok n fields 0 columns all.0.1)), rows-ok width columns (n + 1) records all.1)

-- no record is uneven
even-all : (width : ℕ) (records : List (List (List ℕ))) → uneven_place width records ≡ None → All (λ fields. length fields ≡ width) records
even-all width records none k d within = ⊎_elim even past (cases_lt k (position_or_len (is_uneven width) records))
  where
    even : k < position_or_len (is_uneven width) records → length (get_or records k d) ≡ width
    even before = eqb-true (length (get_or records k d)) width (not-false (length (get_or records k d) == width) (fails_before_first (is_uneven width) records k d before))

    past : position_or_len (is_uneven width) records ≤ k → length (get_or records k d) ≡ width
    past after =
        let found : nat_lt (position_or_len (is_uneven width) records) (length records) ≡ true = lt-ltb (position_or_len (is_uneven width) records) (length records) (omega arith) in
        cc (rw found at none)

-- a chosen column is found in the header at its own place, and has a number in each field
abbrev IsChosen : List (List ℕ) → List (List (List ℕ)) → ℕ × List ℕ → Type 0
IsChosen header records column = (position (bytes_eq column.1) header ≡ Some column.0) × (is_number_column records column.0 ≡ true)

all-chosen : (header : List (List ℕ)) (records : List (List (List ℕ))) → All (IsChosen header records) (take DIMENSIONS (filter (is_chosen header records) (enumerate_from 0 header)))
all-chosen header records = All-take (IsChosen header records) DIMENSIONS (filter (is_chosen header records) (enumerate_from 0 header)) all
  where
    all : All (IsChosen header records) (filter (is_chosen header records) (enumerate_from 0 header))
    all = λ k d within.
        let at = All-filter (is_chosen header records) (IsPlaced header) (enumerate_from 0 header) (placed header) k d within in
        let passes = and_parts _ _ (filter_passes (is_chosen header records) (enumerate_from 0 header) k d within) in
        (position-named header (get_or (filter (is_chosen header records) (enumerate_from 0 header)) k d) passes.0 at, passes.1)

all-taken : (width : ℕ) (columns : List (ℕ × List ℕ)) (records : List (List (List ℕ))) → uneven_place width records ≡ None → All (λ column. is_number_column records column.0 ≡ true) columns
    → AllByRecursion (IsTaken width columns) records
all-taken width columns records even numbers = recursion_from_All (IsTaken width columns) records taken
  where
    taken : All (IsTaken width columns) records
    taken = λ k d within. (
      even-all width records even k d within,
      recursion_from_All (λ column. is_number (field_of (get_or records k d) column.0) ≡ true) columns (λ j e inside. AllPass-from_list_all (λ fields. is_number (field_of fields (get_or columns j e).0)) records (numbers j e inside) k d within),
    )

-- the rows of the sheet's columns are those of each record
rows_of-header : (bytes : List ℕ) (header : List (List ℕ)) (records : List (List (List ℕ))) → records_of bytes ≡ header ∷ records
    → rows_of (columns_of header records) bytes ≡ each_ok (row_of (columns_of header records) (map (λ column. column.0) (take DIMENSIONS (filter (is_chosen header records) (enumerate_from 0 header)))) (length header)) (enumerate_from 1 records)
rows_of-header bytes header records is =
    let columns = take DIMENSIONS (filter (is_chosen header records) (enumerate_from 0 header)) in
    let found = recursion_from_All (λ (column : ℕ × List ℕ). position (bytes_eq column.1) header ≡ Some column.0) columns (λ k d within. (all-chosen header records k d within).0) in
    rw (is, places-found header 0 columns found) refl

ok-value : {X E : Type 0} (read : Result X E) → is_ok read ≡ true → (value : X) × (read ≡ Ok value)
ok-value (Ok value) ok = (value, refl)
ok-value (Err e) ok = cc ok

-- so there is a row for each record
pub rows-there : (bytes : List ℕ) (header : List (List ℕ)) (records : List (List (List ℕ))) → records_of bytes ≡ header ∷ records → uneven_place (length header) records ≡ None
    → (rows : List (List Cell)) × (rows_of (columns_of header records) bytes ≡ Ok rows) × (length rows ≡ length records)
rows-there bytes header records is even =
    let columns = take DIMENSIONS (filter (is_chosen header records) (enumerate_from 0 header)) in
    let taken = all-taken (length header) columns records even (λ k d within. (all-chosen header records k d within).1) in
    let ok = each_ok-all (row_of (columns_of header records) (map (λ column. column.0) columns) (length header)) (enumerate_from 1 records) (rows-ok (length header) columns 1 records taken) in
    let (rows, there) = ok-value (each_ok (row_of (columns_of header records) (map (λ column. column.0) columns) (length header)) (enumerate_from 1 records)) ok in (
      rows,
      rows_of-header bytes header records is ∙ there,
      each_ok-length (row_of (columns_of header records) (map (λ column. column.0) columns) (length header)) (enumerate_from 1 records) rows there ∙ length-enumerate_from 1 records,
    )

-- ---- the sheet

-- where a file has columns they are those of its header and records, which are even and within the limits
pub record HasColumns (records_all : List (List (List ℕ))) (limits : Bounds) (columns : List Column) : Type 0 where
  pub header : List (List ℕ)
  pub records : List (List (List ℕ))
  pub are : records_all ≡ header ∷ records
  pub even : uneven_place (length header) records ≡ None
  pub chosen : columns ≡ columns_of header records
  pub fits : length records ≤ limits.rows
  pub entries : length records * length columns ≤ limits.entries

pub has-columns : (all : List (List (List ℕ))) (limits : Bounds) (columns : List Column) → sheet_columns all limits ≡ Ok columns → HasColumns all limits columns
has-columns [] limits columns is = cc is
has-columns (header ∷ records) limits columns is = go (uneven_place (length header) records) refl is
  where
    within : (many more : Bool) (a b : SheetRefusal) → nat_lt limits.rows (length records) ≡ many → nat_lt limits.entries (length records * length (columns_of header records)) ≡ more
        → ◌≡◌ {A = Result (List Column) SheetRefusal} (cond many (Err a) (cond more (Err b) (Ok (columns_of header records)))) (Ok columns) → uneven_place (length header) records ≡ None → HasColumns (header ∷ records) limits columns
    within true more a b rows entries given even = cc given
    within false true a b rows entries given even = cc given
    within false false a b rows entries given even =
        let same : columns_of header records ≡ columns = cc given in
        let few : length records ≤ limits.rows = search (tests, rules, rows) in
        let fit : length records * length (columns_of header records) ≤ limits.entries = search (tests, rules, entries) in
        record { header = header; records = records; are = refl; even = even; chosen = sym same; fits = few; entries = rw (← same) fit }

    go : (place : Option ℕ) → uneven_place (length header) records ≡ place → columns_unless header records limits place ≡ Ok columns → HasColumns (header ∷ records) limits columns
    go (Some place) even given = cc given
    go None even given = within _ _ _ _ refl refl given even

all-int : (columns : List (ℕ × List ℕ)) → AllByRecursion IsInt (map (λ (place, name). int_column name) columns)
all-int [] = tt
all-int (column ∷ columns) = (refl, all-int columns)

-- ---- the names

-- columns that stand in a header from a place on, in order
abbrev AreFrom : ℕ → List (ℕ × List ℕ) → Type 0
AreFrom first [] = Unit {0}
AreFrom first (column ∷ columns) = (first ≤ column.0) × AreFrom (column.0 + 1) columns

from-earlier : (earlier first : ℕ) (columns : List (ℕ × List ℕ)) → earlier ≤ first → AreFrom first columns → AreFrom earlier columns
from-earlier earlier first [] before are = tt
from-earlier earlier first (column ∷ columns) before are = (omega (arith, before, are.0), are.1)

from-header : (first : ℕ) (header : List (List ℕ)) → AreFrom first (enumerate_from first header)
from-header first [] = tt
from-header first (name ∷ header) = (omega arith, from-header (first + 1) header)

from-filter : (test : ℕ × List ℕ → Bool) (first : ℕ) (columns : List (ℕ × List ℕ)) → AreFrom first columns → AreFrom first (filter test columns)
from-filter test first [] are = tt
from-filter test first (column ∷ columns) are = go (from-filter test (column.0 + 1) columns are.1) (test column)
  where
    go : AreFrom (column.0 + 1) (filter test columns) → (b : Bool) → AreFrom first (cond b (column ∷ filter test columns) (filter test columns))
    go later true = (are.0, later)
    go later false = from-earlier first (column.0 + 1) (filter test columns) (omega (arith, are.0)) later

from-take : (count first : ℕ) (columns : List (ℕ × List ℕ)) → AreFrom first columns → AreFrom first (take count columns)
from-take zero first columns are = tt
from-take (suc count) first [] are = tt
from-take (suc count) first (column ∷ columns) are = (are.0, from-take count (column.0 + 1) columns are.1)

-- a column is the first of its name in the header
abbrev IsFirst : List (List ℕ) → ℕ × List ℕ → Type 0
IsFirst header column = position (bytes_eq column.1) header ≡ Some column.0

-- a name that stands first before a place is none of those that stand first from there on
name-absent : (header : List (List ℕ)) (place first : ℕ) (name : List ℕ) (columns : List (ℕ × List ℕ)) → IsFirst header (place, name) → place < first → AreFrom first columns → AllByRecursion (IsFirst header) columns
    → list_any (bytes_eq name) (column_names (map (λ (at, own). int_column own) columns)) ≡ false
name-absent header place first name [] here before are all = refl
name-absent header place first name (column ∷ columns) here before are all =
    go (name-absent header place (column.0 + 1) name columns here (omega (arith, before, are.0)) are.1 all.1) (bytes_eq name column.1) refl
  where
    go : list_any (bytes_eq name) (column_names (map (λ (at, own). int_column own) columns)) ≡ false → (b : Bool) → bytes_eq name column.1 ≡ b
        → (b || list_any (bytes_eq name) (column_names (map (λ (at, own). int_column own) columns))) ≡ false
    go later true e =
        let same : name ≡ column.1 = (bytes_eq-Decides name column.1).0 e in
        let there : ◌≡◌ {A = Option ℕ} (Some place) (Some column.0) = sym here ∙ ap (λ own. position (bytes_eq own) header) same ∙ all.0 in
        let place_same : place ≡ column.0 = cc there in
        absurd (omega (arith, place_same, before, are.0))
    go later false e = later

names-differ : (header : List (List ℕ)) (first : ℕ) (columns : List (ℕ × List ℕ)) → AreFrom first columns → AllByRecursion (IsFirst header) columns → AreDistinctNames (column_names (map (λ (at, own). int_column own) columns))
names-differ header first [] are all = tt
names-differ header first (column ∷ columns) are all =
    (name-absent header column.0 (column.0 + 1) column.1 columns all.0 (omega arith) are.1 all.1, names-differ header (column.0 + 1) columns are.1 all.1)

-- the names of the columns of a header differ
all-distinct : (header : List (List ℕ)) (records : List (List (List ℕ))) → AreDistinctNames (column_names (columns_of header records))
all-distinct header records =
    let columns = take DIMENSIONS (filter (is_chosen header records) (enumerate_from 0 header)) in
    names-differ header 0 columns (from-take DIMENSIONS 0 (filter (is_chosen header records) (enumerate_from 0 header)) (from-filter (is_chosen header records) 0 (enumerate_from 0 header) (from-header 0 header)))
    (recursion_from_All (IsFirst header) columns (λ k d within. (all-chosen header records k d within).0))

-- columns that were chosen have a row for each record, so the rows are within the limits too
pub rows-within : (bytes : List ℕ) (limits : Bounds) (columns : List Column) (rows : List (List Cell)) → sheet_columns (records_of bytes) limits ≡ Ok columns → rows_of columns bytes ≡ Ok rows
    → (length rows ≤ limits.rows) × (length rows * length columns ≤ limits.entries)
rows-within bytes limits columns rows chosen read =
    let has = has-columns (records_of bytes) limits columns chosen in
    let (there, is, long) = rows-there bytes has.header has.records has.are has.even in
    let same : ◌≡◌ {A = Result (List (List Cell)) LoadRefusal} (Ok rows) (Ok there) = sym read ∙ ap (λ own. rows_of own bytes) has.chosen ∙ is in
    let rows_same : rows ≡ there = cc same in
    let count : length rows ≡ length has.records = ap length rows_same ∙ long in
    (rw count has.fits, rw count has.entries)

-- columns that were chosen, and rows that were read for them, are those of a sheet
pub sheet-is : (bytes : List ℕ) (limits : Bounds) (columns : List Column) (rows : List (List Cell)) → AreLimits limits → sheet_columns (records_of bytes) limits ≡ Ok columns → rows_of columns bytes ≡ Ok rows
    → AllByRecursion (IsRowOf columns) rows → IsSheet columns rows
sheet-is bytes limits columns rows sound chosen read of_schema =
    let has = has-columns (records_of bytes) limits columns chosen in
    let within = rows-within bytes limits columns rows chosen read in
    record {
      few = rw has.chosen (columns-few has.header has.records);
      all_int = rw has.chosen (all-int (take DIMENSIONS (filter (is_chosen has.header has.records) (enumerate_from 0 has.header))));
      distinct = rw has.chosen (all-distinct has.header has.records);
      fits = omega (arith, within.0, sound.rows);
      entries = omega (arith, within.1, sound.entries);
      of_schema = of_schema;
    }

-- a value is told where memory was not refused
pub told-Ok : {X E : Type 0} (value : X) (none : E) (told : Result X E) → ◌≡◌ {A = Result X E} (Ok value) (Err none) ⊎ (Ok value ≡ told) → told ≡ Ok value
told-Ok value none told (inl clash) = cc clash
told-Ok value none told (inr same) = sym same
