-- The places of columns and the rows of records, one at a time.
use Rattle.std.proofs.Common.{◌≡◌, ◌⊎◌, inl, inr, ℕ, ◌+◌, ◌-◌, ◌<◌, ◌≤◌, List, [], ◌∷◌, ◌++◌, length, get_or, take, position, Some, None, Result, Ok, Err, refl, sym, ap, ◌∙◌, arith, zero-add, add-zero, suc}
use Rattle.std.specs.List.{AllByRecursion, enumerate_from, zip}
use Rattle.std.specs.Str.{bytes_eq}
use Rattle.std.proofs.lemmas.Bool.{eq-eqb}
use Rattle.std.proofs.Math.Nat.{sub-zero}
use Rattle.std.proofs.Math.Seq.{take-nil}
use Rattle.std.proofs.lemmas.List.{append-nil, append_assoc, take_all, take_more}
use Rattle.std.proofs.lemmas.List.FromFn.{get_or-enumerate_from, length-enumerate_from}
use Rattle.std.proofs.lemmas.Slice.Zip.{all_zipped_more, get_or-zip, length-zip}
use Rattle.xf_base.specs.Schema.{IsCellOf, IsRowOf}
use Rattle.xf_base.specs.declared.cell.Cell.{Cell}
use Rattle.xf_base.specs.declared.column.Column.{Column}
use Rattle.xf_load.specs.Fallible.{◌>>=◌, each_ok}
use Rattle.xf_load.specs.Load.{cell_at, first_rows, loaded_of, place_of, places_of, row_of, rows_of}
use Rattle.xf_load.specs.Records.{records_of}
use Rattle.std.specs.Result.{result_map_both}
use Rattle.xf_load.specs.declared.load.Loaded.{Loaded}
use Rattle.xf_load.specs.declared.load.LoadRefusal.{LoadRefusal}
use Rattle.xf_load.specs.declared.load.LoadRefusal.TheVariants.{MissingColumn, OutOfMemory}

-- an element with its number
pub numbered-at : {X : Type 0} (xs : List X) (i : ℕ) (x : X) → i < length xs → x ≡ get_or xs i x → (i, x) ≡ get_or (enumerate_from 0 xs) i (i, x)
numbered-at xs i x within at =
    let there = get_or-enumerate_from 0 xs i (i, x) within in
    rw (there, zero-add i, ← at) refl

-- a column that the header has
pub place_of-found : (header : List (List ℕ)) (index : ℕ) (column : Column) (name : List ℕ) (place : ℕ) → name ≡ column.name → Some place ≡ position (bytes_eq name) header → place_of header (index, column) ≡ Ok place
place_of-found header index column name place same found = rw (← same, ← found) refl

-- one that it lacks
pub place_of-missing : (header : List (List ℕ)) (index : ℕ) (column : Column) (name : List ℕ) → name ≡ column.name → None ≡ position (bytes_eq name) header → place_of header (index, column) ≡ Err (MissingColumn index)
place_of-missing header index column name same missing = rw (← same, ← missing) refl

-- a column and the place of its field, with their number
pub placed-at : (columns : List Column) (places : List ℕ) (n : ℕ) (column : Column) (place : ℕ) → n < length columns → n < length places → column ≡ get_or columns n column → place ≡ get_or places n place
    → (n < length (enumerate_from 0 (zip columns places))) × ((n, (column, place)) ≡ get_or (enumerate_from 0 (zip columns places)) n (n, (column, place)))
placed-at columns places n column place in_columns in_places at_column at_place =
    let within : n < length (zip columns places) = omega (arith, length-zip columns places) in
    let there : (column, place) ≡ get_or (zip columns places) n (column, place) = rw (get_or-zip columns places n (column, place) in_columns in_places, ← at_column, ← at_place) refl in
    (omega (arith, length-enumerate_from 0 (zip columns places)), numbered-at (zip columns places) n (column, place) within there)

-- a record with as many fields as the header is asked for its cells
pub row_of-even : (columns : List Column) (places : List ℕ) (width number : ℕ) (fields : List (List ℕ)) → length fields ≡ width → row_of columns places width (number, fields) ≡ each_ok (cell_at number fields) (enumerate_from 0 (zip columns places))
row_of-even columns places width number fields even = rw (eq-eqb (length fields) width even) refl

-- a cell more of a row
pub IsRowOf-more : (columns : List Column) (cells : List Cell) (n : ℕ) (column : Column) (cell : Cell) → n < length columns → column ≡ get_or columns n column → IsRowOf (take n columns) cells → IsCellOf column.kind cell
    → IsRowOf (take (n + 1) columns) (cells ++ cell ∷ [])
IsRowOf-more columns cells n column cell within at row is =
    rw (take_more columns n column within, ← at) (all_zipped_more (λ (column : Column) (cell : Cell). IsCellOf column.kind cell) (take n columns) cells column cell row is)

-- an answer that may want memory, and the value or the refusal that it otherwise tells
abbrev pub Tells : {Y : Type 0} → Result Y LoadRefusal → Result Y LoadRefusal → Type 0
Tells answer read = (answer ≡ Err OutOfMemory) ⊎ (answer ≡ read)

pub Tells-Ok : {Y : Type 0} (value : Y) (read : Result Y LoadRefusal) → Tells (Ok value) read → read ≡ Ok value
Tells-Ok value read (inl none) = cc none
Tells-Ok value read (inr told) = sym told

-- a refusal that is passed on
pub Tells-Err : {Y Z : Type 0} (refusal : LoadRefusal) (read : Result Y LoadRefusal) (answer : Result Z LoadRefusal) (all : Result Z LoadRefusal) → Tells (Err refusal) read → answer ≡ Err refusal → (read ≡ Err refusal → all ≡ Err refusal) → Tells answer all
Tells-Err refusal read answer all (inl none) is passes = let same : refusal ≡ OutOfMemory = cc none in inl (is ∙ ap (λ r. Err r) same)
Tells-Err refusal read answer all (inr told) is passes = inr (is ∙ sym (passes (sym told)))

-- rows with their number
abbrev loaded : List (List Cell) → ℕ → Loaded
loaded rows count = record { rows = rows; count = count }

-- the rows that are kept and counted, and those of the records that are left
abbrev pub loaded_from : (ℕ × List (List ℕ) → Result (List Cell) LoadRefusal) → ℕ → List (List Cell) → ℕ → List (List (List ℕ)) → Result Loaded LoadRefusal
loaded_from row limit rows count records =
    result_map_both (λ more. loaded (rows ++ take (limit - count) more) (count + length more)) (λ refusal. refusal) (each_ok row (enumerate_from (count + 1) records))

-- at first these are the rows of all records
pub loaded_from-start : (row : ℕ × List (List ℕ) → Result (List Cell) LoadRefusal) (limit : ℕ) (records : List (List (List ℕ)))
    → loaded_from row limit [] 0 records ≡ result_map_both (first_rows limit) (λ refusal. refusal) (each_ok row (enumerate_from 1 records))
loaded_from-start row limit records = go (each_ok row (enumerate_from 1 records))
  where
    go : (all : Result (List (List Cell)) LoadRefusal) → result_map_both (λ more. loaded ([] ++ take (limit - 0) more) (0 + length more)) (λ refusal. refusal) all ≡ result_map_both (first_rows limit) (λ refusal. refusal) all
    go (Ok more) = rw (zero-add (length more), sub-zero limit) refl
    go (Err refusal) = refl

-- at the end they are those that are kept
pub loaded_from-end : (row : ℕ × List (List ℕ) → Result (List Cell) LoadRefusal) (limit : ℕ) (rows : List (List Cell)) (count : ℕ) (records : List (List (List ℕ))) → records ≡ []
    → loaded_from row limit rows count records ≡ Ok (loaded rows count)
loaded_from-end row limit rows count records none =
    rw (none, take-nil {A = List Cell} (limit - count), append-nil rows, add-zero count) refl

-- a row that is refused
pub loaded_from-refused : (row : ℕ × List (List ℕ) → Result (List Cell) LoadRefusal) (limit : ℕ) (rows : List (List Cell)) (count : ℕ) (fields : List (List ℕ)) (before after : List (List (List ℕ))) (refusal : LoadRefusal)
    → before ≡ fields ∷ after → row (count + 1, fields) ≡ Err refusal → loaded_from row limit rows count before ≡ Err refusal
loaded_from-refused row limit rows count fields before after refusal next refused = rw (next, refused) refl

-- a row more
loaded_from-more : (row : ℕ × List (List ℕ) → Result (List Cell) LoadRefusal) (limit : ℕ) (rows others : List (List Cell)) (count : ℕ) (fields : List (List ℕ)) (after : List (List (List ℕ))) (cells : List Cell)
    → row (count + 1, fields) ≡ Ok cells → ((more : List (List Cell)) → rows ++ take (limit - count) (cells ∷ more) ≡ others ++ take (limit - (count + 1)) more)
    → loaded_from row limit rows count (fields ∷ after) ≡ loaded_from row limit others (count + 1) after
loaded_from-more row limit rows others count fields after cells is kept = rw is (go (each_ok row (enumerate_from (count + 1 + 1) after)))
  where
    go : (all : Result (List (List Cell)) LoadRefusal) → result_map_both (λ more. loaded (rows ++ take (limit - count) more) (count + length more)) (λ refusal. refusal) (all >>= (λ more. Ok (cells ∷ more)))
        ≡ result_map_both (λ more. loaded (others ++ take (limit - (count + 1)) more) (count + 1 + length more)) (λ refusal. refusal) all
    go (Ok more) =
        let number : count + length (cells ∷ more) ≡ count + 1 + length more = omega arith in
        rw (kept more, number) refl
    go (Err refusal) = refl

-- a row more that is kept
pub loaded_from-kept : (row : ℕ × List (List ℕ) → Result (List Cell) LoadRefusal) (limit : ℕ) (rows : List (List Cell)) (count : ℕ) (fields : List (List ℕ)) (before after : List (List (List ℕ))) (cells : List Cell)
    → before ≡ fields ∷ after → row (count + 1, fields) ≡ Ok cells → count + 1 ≤ limit → loaded_from row limit rows count before ≡ loaded_from row limit (rows ++ cells ∷ []) (count + 1) after
loaded_from-kept row limit rows count fields before after cells next is within =
    ap (loaded_from row limit rows count) next
    ∙ loaded_from-more row limit rows (rows ++ cells ∷ []) count fields after cells is (λ more.
    let left : limit - count ≡ suc (limit - (count + 1)) = omega arith in
    rw left (sym (append_assoc rows (cells ∷ []) (take (limit - (count + 1)) more))))

-- what holds of each of a list and of one more
pub all-push : {X : Type 0} (P : X → Type 0) (xs : List X) (x : X) → AllByRecursion P xs → P x → AllByRecursion P (xs ++ x ∷ [])
all-push P [] x all here = (here, tt)
all-push P (y ∷ xs) x all here = (all.0, all-push P xs x all.1 here)

-- the rows of a file, by its header and the places of the columns in it
pub loaded_of-header : (schema columns : List Column) (bytes : List ℕ) (limit : ℕ) (header : List (List ℕ)) (records : List (List (List ℕ))) (places shown : List ℕ) (width : ℕ) → columns ≡ schema → shown ≡ places → width ≡ length header
    → records_of bytes ≡ header ∷ records → places_of columns header ≡ Ok places → loaded_from (row_of columns shown width) limit [] 0 records ≡ loaded_of schema bytes limit
loaded_of-header schema columns bytes limit header records places shown width same are wide is placed =
    rw (are, wide) (loaded_from-start (row_of columns places (length header)) limit records ∙ sym (rw (← same, is, placed) refl))

kept-all : (limit : ℕ) (all : Result (List (List Cell)) LoadRefusal) (whole : Loaded) → result_map_both (first_rows limit) (λ refusal. refusal) all ≡ Ok whole → whole.count ≤ limit → all ≡ Ok whole.rows
kept-all limit (Ok rows) whole is within =
    let same : first_rows limit rows ≡ whole = cc is in
    let count : length rows ≡ whole.count = ap (λ (l : Loaded). l.count) same in
    let kept : take limit rows ≡ whole.rows = ap (λ (l : Loaded). l.rows) same in
    ap Ok (sym (take_all limit rows (omega arith)) ∙ kept)
kept-all limit (Err refusal) whole is within = cc is

-- where the limit is not reached all rows are kept
pub rows_of-loaded : (columns : List Column) (bytes : List ℕ) (limit : ℕ) (whole : Loaded) → Tells (Ok whole) (loaded_of columns bytes limit) → whole.count ≤ limit → rows_of columns bytes ≡ Ok whole.rows
rows_of-loaded columns bytes limit whole told within = kept-all limit (rows_of columns bytes) whole (Tells-Ok whole (loaded_of columns bytes limit) told) within
