-- Facts about the columns that a sheet is made of.
use Rattle.std.proofs.Common.{◌≡◌, ℕ, suc, ◌+◌, ◌*◌, ◌^◌, ◌<◌, ◌≤◌, ◌==◌, nat_lt, nat_eq, Bool, true, false, cond, not, ◌&&◌, ◌||◌, List, [], ◌∷◌, ◌++◌, length, map, filter, take, get_or, min, slice_get, unwrap_or, Some, None, Result, Ok, Err, is_ok, MatchResult, Bor, refl, sym, ap, ◌∙◌, arith, mul-le-mul, zero-add}
use Rattle.std.specs.Cmp.Lexicographic.{nat_list_eq_equiv, pointwise}
use Rattle.std.specs.List.{All, enumerate_from, list_any, position_or_len}
use Rattle.std.specs.Str.{IsUtf8, bytes_eq, is_utf8}
use Rattle.std.proofs.lemmas.Bool.{and_parts, eq-eqb, false_from_ne_true, le-ltb, lt-ltb}
use Rattle.std.proofs.lemmas.List.{length-map, length-take, map-append, take-map, take_all, take_min}
use Rattle.std.proofs.lemmas.List.Elements.{All-filter, All-map, All-take, filter_more, filter_passes}
use Rattle.std.proofs.lemmas.List.Folds.{list_any_more}
use Rattle.std.proofs.lemmas.List.FromFn.{get_or-enumerate_from, length-enumerate_from}
use Rattle.std.proofs.lemmas.Option.{slice_get-get_or}
use Rattle.std.proofs.lemmas.Str.{IsUtf8-from_is_utf8, is_utf8-from_IsUtf8}
use Rattle.xf_sheet.specs.Sheet.{sheet_columns, columns_of, field_of, int_column, is_chosen, is_named, is_number, is_number_column, uneven_place}
use Rattle.xf_sheet.specs.declared.sheet.SheetRefusal.TheVariants.{TooManyEntries}
use Rattle.xf_base.specs.Bounds.{Bounds}
use Rattle.xf_base.specs.declared.column.Column.{Column}
use Rattle.xf_base.specs.declared.limits.TheConstants.Limits.{DIMENSIONS, ROWS}

-- ---- the records

-- a record has another number of fields than the header
abbrev pub is_uneven : ℕ → List (List ℕ) → Bool
is_uneven width fields = not (length fields == width)

-- a record more that is even
pub even-next : (width number : ℕ) (fields : List (List ℕ)) (before after : List (List (List ℕ))) → before ≡ fields ∷ after → length fields ≡ width
    → number + 1 + position_or_len (is_uneven width) after ≡ number + position_or_len (is_uneven width) before
even-next width number fields before after next even =
    let here : position_or_len (is_uneven width) before ≡ 1 + position_or_len (is_uneven width) after = rw (next, eq-eqb (length fields) width even) refl in
    omega (arith, here)

-- of what one test keeps another keeps what passes both
filter_twice : {X : Type 0} (p q : X → Bool) (xs : List X) → filter p (filter q xs) ≡ filter (λ x. q x && p x) xs
filter_twice p q [] = refl
filter_twice p q (x ∷ xs) = go (q x) ∙ ap (λ ys. cond (q x && p x) (x ∷ ys) ys) (filter_twice p q xs)
  where
    go : (b : Bool) → filter p (cond b (x ∷ filter q xs) (filter q xs)) ≡ cond (b && p x) (x ∷ filter p (filter q xs)) (filter p (filter q xs))
    go true = refl
    go false = refl

-- a record more, of which the places of numbers are kept
pub kept-next : (fields : List (List ℕ)) (before after : List (List (List ℕ))) (places kept : List ℕ) → before ≡ fields ∷ after → kept ≡ filter (λ place. is_number (field_of fields place)) places
    → filter (is_number_column after) kept ≡ filter (is_number_column before) places
kept-next fields before after places kept next is =
    ap (filter (is_number_column after)) is ∙ filter_twice (is_number_column after) (λ place. is_number (field_of fields place)) places ∙ ap (λ records. filter (is_number_column records) places) (sym next)

-- at the end all that are left are kept
pub kept-end : (before : List (List (List ℕ))) (places : List ℕ) → before ≡ [] → filter (is_number_column before) places ≡ places
kept-end before places none = ap (λ records. filter (is_number_column records) places) none ∙ go places
  where
    go : (xs : List ℕ) → filter (is_number_column []) xs ≡ xs
    go [] = refl
    go (x ∷ xs) = ap (λ ys. x ∷ ys) (go xs)

-- ---- the names of a header

-- a name with its place in the header
abbrev pub IsPlaced : List (List ℕ) → ℕ × List ℕ → Type 0
IsPlaced header column = slice_get header column.0 ≡ Some column.1

-- each column of a header is numbered by its place
pub placed : (header : List (List ℕ)) → All (IsPlaced header) (enumerate_from 0 header)
placed header = λ k d within.
    let inside : k < length header = omega (arith, length-enumerate_from 0 header) in
    let at = get_or-enumerate_from 0 header k d inside in
    rw (at, zero-add k) (slice_get-get_or header k d.1 inside)

-- one name more
pub named-more : (header : List (List ℕ)) (i : ℕ) (name : List ℕ) → i < length header → name ≡ field_of header i
    → map (λ column. column.0) (filter (is_named header) (take (i + 1) (enumerate_from 0 header)))
    ≡ map (λ column. column.0) (filter (is_named header) (take i (enumerate_from 0 header))) ++ cond (is_named header (i, name)) (i ∷ []) []
named-more header i name within is =
    let there : field_of header i ≡ get_or header i name = ap (λ o. unwrap_or o []) (slice_get-get_or header i name within) in
    let at : get_or (enumerate_from 0 header) i (i, name) ≡ (i, name) = get_or-enumerate_from 0 header i (i, name) within ∙ rw (zero-add i, ← there, ← is) refl in
    let more = filter_more (is_named header) (enumerate_from 0 header) i (i, name) (omega (arith, length-enumerate_from 0 header)) in
    ap (map (λ column. column.0)) (more ∙ ap (λ c. filter (is_named header) (take i (enumerate_from 0 header)) ++ cond (is_named header c) (c ∷ []) []) at)
    ∙ map-append (λ column. column.0) (filter (is_named header) (take i (enumerate_from 0 header))) (cond (is_named header (i, name)) ((i, name) ∷ []) [])
    ∙ ap (λ ys. map (λ column. column.0) (filter (is_named header) (take i (enumerate_from 0 header))) ++ ys) (go (is_named header (i, name)))
  where
    go : (b : Bool) → map (λ (c : ℕ × List ℕ). c.0) (cond b ((i, name) ∷ []) []) ≡ cond b (i ∷ []) []
    go true = refl
    go false = refl

-- whether a text was read tells whether it is one
pub text-test : {E : Type 0} (Q : E → Type 0) (read : Result (Bor (List ℕ)) E) (name : List ℕ) (answer : Bool)
    → MatchResult read (λ s. (s.now ≡ name) × IsUtf8 name) (λ e. (IsUtf8 name → ⊥) × Q e) → answer ≡ is_ok read → is_utf8 name ≡ answer
text-test Q (Ok s) name answer told is = is_utf8-from_IsUtf8 name told.1 ∙ sym is
text-test Q (Err e) name answer told is = false_from_ne_true (is_utf8 name) (λ t. told.0 (IsUtf8-from_is_utf8 name t)) ∙ sym is

-- the set of names has one more
pub names-more : (header : List (List ℕ)) (i : ℕ) (key name : Bor (List ℕ)) (before after : Bool) → i < length header → key.now ≡ field_of header i
    → before ≡ list_any (bytes_eq name.now) (take i header) → after ≡ cond (pointwise nat_eq key.now name.now) true before
    → after ≡ list_any (bytes_eq name.now) (take (i + 1) header)
names-more header i key name before after within is old new =
    let there : field_of header i ≡ get_or header i [] = ap (λ o. unwrap_or o []) (slice_get-get_or header i [] within) in
    new ∙ ap (λ b. cond (pointwise nat_eq key.now name.now) true b) old ∙ go (pointwise nat_eq key.now name.now) (list_any (bytes_eq name.now) (take i header))
    ∙ ap (λ b. list_any (bytes_eq name.now) (take i header) || b) (nat_list_eq_equiv.symm key.now name.now ∙ ap (bytes_eq name.now) (is ∙ there))
    ∙ sym (list_any_more (bytes_eq name.now) header i [] within)
  where
    go : (e b : Bool) → cond e true b ≡ (b || e)
    go true true = refl
    go true false = refl
    go false true = refl
    go false false = refl

-- ---- the columns

-- what is kept of the places is what is kept of the columns
places-filter : (p : ℕ × List ℕ → Bool) (q : ℕ → Bool) (xs : List (ℕ × List ℕ)) → filter q (map (λ column. column.0) (filter p xs)) ≡ map (λ column. column.0) (filter (λ c. p c && q c.0) xs)
places-filter p q [] = refl
places-filter p q (x ∷ xs) = go (p x) ∙ ap (λ ys. cond (p x && q x.0) (x.0 ∷ ys) ys) (places-filter p q xs) ∙ sym (out (p x && q x.0))
  where
    go : (a : Bool) → filter q (map (λ (c : ℕ × List ℕ). c.0) (cond a (x ∷ filter p xs) (filter p xs))) ≡ cond (a && q x.0) (x.0 ∷ filter q (map (λ (c : ℕ × List ℕ). c.0) (filter p xs))) (filter q (map (λ (c : ℕ × List ℕ). c.0) (filter p xs)))
    go true = refl
    go false = refl

    out : (a : Bool) → map (λ (c : ℕ × List ℕ). c.0) (cond a (x ∷ filter (λ c. p c && q c.0) xs) (filter (λ c. p c && q c.0) xs)) ≡ cond a (x.0 ∷ map (λ (c : ℕ × List ℕ). c.0) (filter (λ c. p c && q c.0) xs)) (map (λ (c : ℕ × List ℕ). c.0) (filter (λ c. p c && q c.0) xs))
    out true = refl
    out false = refl

-- the names of the places are those of the columns
named : (header : List (List ℕ)) (xs : List (ℕ × List ℕ)) → All (IsPlaced header) xs → map (λ place. int_column (field_of header place)) (map (λ column. column.0) xs) ≡ map (λ (place, name). int_column name) xs
named header [] at = refl
named header (x ∷ xs) at =
    let here : slice_get header x.0 ≡ Some x.1 = at 0 x (omega arith) in
    let first : int_column (field_of header x.0) ≡ int_column x.1 = ap (λ o. int_column (unwrap_or o [])) here in
    let rest = named header xs (λ k d within. at (suc k) d (omega arith)) in
    rw (first, rest) refl

-- so the columns of the places that are kept are those of the sheet
pub columns-are : (header : List (List ℕ)) (records : List (List (List ℕ))) (places : List ℕ)
    → places ≡ filter (is_number_column records) (map (λ column. column.0) (filter (is_named header) (enumerate_from 0 header)))
    → map (λ place. int_column (field_of header place)) (take DIMENSIONS places) ≡ columns_of header records
columns-are header records places is =
    let chosen = filter (is_chosen header records) (enumerate_from 0 header) in
    let all : places ≡ map (λ column. column.0) chosen = is ∙ places-filter (is_named header) (is_number_column records) (enumerate_from 0 header) in
    ap (λ xs. map (λ place. int_column (field_of header place)) (take DIMENSIONS xs)) all
    ∙ ap (map (λ place. int_column (field_of header place))) (take-map (λ column. column.0) DIMENSIONS chosen)
    ∙ named header (take DIMENSIONS chosen) (All-take (IsPlaced header) DIMENSIONS chosen (All-filter (is_chosen header records) (IsPlaced header) (enumerate_from 0 header) (placed header)))

-- the name at each place is a text
pub places-text : (header : List (List ℕ)) (records : List (List (List ℕ))) (places : List ℕ)
    → places ≡ filter (is_number_column records) (map (λ column. column.0) (filter (is_named header) (enumerate_from 0 header)))
    → All (λ place. IsUtf8 (field_of header place)) places
places-text header records places is =
    let IsNamed : ℕ → Type 0 = λ place. IsUtf8 (field_of header place) in
    rw is (All-filter (is_number_column records) IsNamed (map (λ column. column.0) (filter (is_named header) (enumerate_from 0 header))) (All-map IsNamed (λ (column : ℕ × List ℕ). column.0) (filter (is_named header) (enumerate_from 0 header)) texts))
  where
    texts : All (λ c. IsUtf8 (field_of header c.0)) (filter (is_named header) (enumerate_from 0 header))
    texts = λ k d within.
        let at = All-filter (is_named header) (IsPlaced header) (enumerate_from 0 header) (placed header) k d within in
        let passes = filter_passes (is_named header) (enumerate_from 0 header) k d within in
        rw at (IsUtf8-from_is_utf8 _ (and_parts _ _ passes).0)

-- at most as many columns as a sheet has
pub columns-few : (header : List (List ℕ)) (records : List (List (List ℕ))) → length (columns_of header records) ≤ DIMENSIONS
columns-few header records =
    let chosen = filter (is_chosen header records) (enumerate_from 0 header) in
    omega (arith, length-map (take DIMENSIONS chosen) (λ (column : ℕ × List ℕ). int_column column.1), length-take DIMENSIONS chosen)

-- ---- the causes

pub sheet_columns-even : (all : List (List (List ℕ))) (header : List (List ℕ)) (records : List (List (List ℕ))) (limits : Bounds) (columns : List Column) → all ≡ header ∷ records → uneven_place (length header) records ≡ None
    → columns ≡ columns_of header records → length records ≤ limits.rows → length records * length columns ≤ limits.entries → sheet_columns all limits ≡ Ok columns
sheet_columns-even all header records limits columns is even are rows entries =
    let rows_fit = le-ltb limits.rows (length records) rows in
    let entries_fit : nat_lt limits.entries (length records * length (columns_of header records)) ≡ false = rw are at (le-ltb limits.entries (length records * length columns) entries) in
    rw (is, even, rows_fit, entries_fit, are) refl

pub sheet_columns-entries : (all : List (List (List ℕ))) (header : List (List ℕ)) (records : List (List (List ℕ))) (limits : Bounds) (columns : List Column) (entries : ℕ) → all ≡ header ∷ records → uneven_place (length header) records ≡ None
    → columns ≡ columns_of header records → length records ≤ limits.rows → entries ≡ length records * length columns → limits.entries < entries → sheet_columns all limits ≡ Err (TooManyEntries entries limits.entries)
sheet_columns-entries all header records limits columns entries is even are rows same more =
    let rows_fit = le-ltb limits.rows (length records) rows in
    let many : nat_lt limits.entries (length records * length (columns_of header records)) ≡ true = rw (same, are) at (lt-ltb limits.entries entries more) in
    rw (is, even, rows_fit, many, same, are) refl

-- all columns of a header
pub named-all : (header : List (List ℕ)) (i : ℕ) → length header ≤ i
    → map (λ column. column.0) (filter (is_named header) (take i (enumerate_from 0 header))) ≡ map (λ column. column.0) (filter (is_named header) (enumerate_from 0 header))
named-all header i past = ap (λ (xs : List (ℕ × List ℕ)). map (λ column. column.0) (filter (is_named header) xs)) (take_all i (enumerate_from 0 header) (omega (arith, length-enumerate_from 0 header)))

-- no more places are there than all
pub take-min : (places : List ℕ) (count most : ℕ) → count ≡ min (length places) most → take count places ≡ take most places
take-min places count most is = ap (λ n. take n places) (is ∙ omega arith) ∙ take_min most places

-- within the limits the number of entries is small
pub entries-fit : (count columns : ℕ) → count ≤ ROWS → columns ≤ DIMENSIONS → count * columns < 2 ^ 64
entries-fit count columns rows few = omega (arith, mul-le-mul {n₁ = count} {m₁ = columns} {n₂ = ROWS} {m₂ = DIMENSIONS} rows few)
