-- What is folded from nothing, by rows: the rows that count and have a key, and the entries of groups over some of the rows, over those that stay, and over one row more.
use Rattle.std.proofs.Common.{◌≡◌, ℕ, ◌+◌, ◌<◌, ◌≤◌, Bool, true, false, not, ◌&&◌, ◌||◌, cond, List, [], ◌∷◌, ◌++◌, append-nil, get_or, length, length-take, map, Some, take, zip, refl, sym, ap, ◌∙◌, arith}
use Rattle.std.proofs.lemmas.Bool.{true≢false}
use Rattle.std.proofs.lemmas.List.{take_more}
use Rattle.std.proofs.lemmas.List.Folds.{list_any-append}
use Rattle.std.proofs.lemmas.List.Sums.{fold-append}
use Rattle.std.specs.List.{AllByRecursion, filter, flat_map}
use Rattle.std.specs.List.Sorted.{IsStrictlySortedBy}
use Rattle.std.specs.Ordering.{is_eq}
use Rattle.std.specs.declared.cmp.Ordering.{Ordering}
use Rattle.std.specs.declared.cmp.Ordering.TheVariants.{Less, Equal, Greater}
use Rattle.xf_base.proofs.EqualKeys.{key_cmp-equal}
use Rattle.xf_base.specs.Gone.{kept}
use Rattle.xf_base.specs.Key.{key_cmp}
use Rattle.xf_base.specs.KeyOrder.{key_cmp_total}
use Rattle.xf_base.specs.declared.cell.Cell.{Cell}
use Rattle.xf_base.specs.declared.key.Key.{Key}
use Rattle.xf_model.proofs.AscendingKeys.{same_from_ties, sorted-distinct_keys, ties-distinct_keys}
use Rattle.xf_model.specs.Dimension.{Dimension, all_but, passes_each}
use Rattle.xf_model.specs.Group.{Reducer, distinct_keys, fold_of, group_entries, group_keys, has_key}
use Rattle.xf_model.specs.Laws.{is_among}
use Rattle.xf_engine.specs.Folding.{counted, counted_with, folded_entries}

-- ---- entries over keys

map_same : {X Y : Type 0} (f g : X → Y) → ((x : X) → f x ≡ g x) → (xs : List X) → map f xs ≡ map g xs
map_same f g same [] = refl
map_same f g same (x ∷ xs) = let first : f x ≡ g x = same x in let rest : map f xs ≡ map g xs = map_same f g same xs in cc

-- an entry
abbrev entry : {Meaning : Type 0} → Key → Meaning → Key × Meaning
entry key value = (key, value)

-- values that agree make the same entries
entries-same : {Meaning : Type 0} (value other : Key → Meaning) → ((key : Key) → value key ≡ other key) → (keys : List Key) → map (λ key. entry key (value key)) keys ≡ map (λ key. entry key (other key)) keys
entries-same value other same keys = map_same (λ key. entry key (value key)) (λ key. entry key (other key)) (λ key. ap (entry key) (same key)) keys

-- ---- joined rows

-- of joined rows those count that do of each
pub counted-append : {Row : Type 0} (xs ys : List Row) (early late : List Bool) → length early ≡ length xs → counted (xs ++ ys) (early ++ late) ≡ counted xs early ++ counted ys late
counted-append [] ys [] late long = refl
counted-append [] ys (counts ∷ early) late long = absurd (omega (arith, long))
counted-append (row ∷ xs) ys [] late long = absurd (omega (arith, long))
counted-append (row ∷ xs) ys (counts ∷ early) late long =
    let rest = counted-append xs ys early late (omega (arith, long)) in
    elim counts as (λ b. cond b (row ∷ counted (xs ++ ys) (early ++ late)) (counted (xs ++ ys) (early ++ late)) ≡ cond b (row ∷ counted xs early) (counted xs early) ++ counted ys late) [
      | true ↦ ap (λ rows. row ∷ rows) rest
      | false ↦ rest
    ]

-- of joined rows those count and have a key that do of each
pub counted_with-append : {Row : Type 0} (key : Key) (xs ys : List Row) (own others : List (List Key)) (early late : List Bool) → length own ≡ length xs → length early ≡ length xs
    → counted_with key (xs ++ ys) (own ++ others) (early ++ late) ≡ counted_with key xs own early ++ counted_with key ys others late
counted_with-append key [] ys [] others [] late long also = refl
counted_with-append key [] ys [] others (counts ∷ early) late long also = absurd (omega (arith, also))
counted_with-append key [] ys (keys ∷ own) others early late long also = absurd (omega (arith, long))
counted_with-append key (row ∷ xs) ys [] others early late long also = absurd (omega (arith, long))
counted_with-append key (row ∷ xs) ys (keys ∷ own) others [] late long also = absurd (omega (arith, also))
counted_with-append {Row} key (row ∷ xs) ys (keys ∷ own) others (counts ∷ early) late long also =
    let rest = counted_with-append key xs ys own others early late (omega (arith, long)) (omega (arith, also)) in
    let all : List Row = counted_with key (xs ++ ys) (own ++ others) (early ++ late) in
    let some : List Row = counted_with key xs own early in
    elim (counts && is_among key_cmp keys key) as (λ b. cond b (row ∷ all) all ≡ cond b (row ∷ some) some ++ counted_with key ys others late) [
      | true ↦ ap (λ rows. row ∷ rows) rest
      | false ↦ rest
    ]

-- ---- rows that pass a test

-- those that count are those that pass
pub counted-filter : {Row : Type 0} (passes : Row → Bool) (rows : List Row) → counted rows (map passes rows) ≡ filter passes rows
counted-filter passes [] = refl
counted-filter passes (row ∷ rows) = ap (λ rest. cond (passes row) (row ∷ rest) rest) (counted-filter passes rows)

filter_next : {Row : Type 0} (passes : Bool) (test : Row → Bool) (row : Row) (some all : List Row) → some ≡ filter test all → cond (passes && test row) (row ∷ some) some ≡ filter test (cond passes (row ∷ all) all)
filter_next true test row some all same = ap (λ rest. cond (test row) (row ∷ rest) rest) same
filter_next false test row some all same = same

-- those that count and have a key are those that pass and have it
pub counted_with-filter : {Row : Type 0} (key : Key) (keys : Row → List Key) (passes : Row → Bool) (rows : List Row) → counted_with key rows (map keys rows) (map passes rows) ≡ filter (has_key key_cmp keys key) (filter passes rows)
counted_with-filter key keys passes [] = refl
counted_with-filter key keys passes (row ∷ rows) = filter_next (passes row) (has_key key_cmp keys key) row _ (filter passes rows) (counted_with-filter key keys passes rows)

flat_map-map : {X : Type 0} (keys : X → List Key) (xs : List X) → flat_map (λ own. own) (map keys xs) ≡ flat_map keys xs
flat_map-map keys [] = refl
flat_map-map keys (x ∷ xs) = ap (λ rest. keys x ++ rest) (flat_map-map keys xs)

-- the entries are those of the rows that pass
pub folded_entries-filter : {Meaning : Type 0} (reducer : Reducer (List Cell) Meaning) (keys : List Cell → List Key) (passes : List Cell → Bool) (rows : List (List Cell))
    → folded_entries reducer rows (map keys rows) (map passes rows) ≡ map (λ key. (key, fold_of reducer (filter (has_key key_cmp keys key) (filter passes rows)))) (group_keys key_cmp keys rows)
folded_entries-filter reducer keys passes rows =
    entries-same (λ key. fold_of reducer (counted_with key rows (map keys rows) (map passes rows))) (λ key. fold_of reducer (filter (has_key key_cmp keys key) (filter passes rows)))
    (λ key. ap (fold_of reducer) (counted_with-filter key keys passes rows)) (distinct_keys key_cmp (flat_map (λ own. own) (map keys rows)))
    ∙ ap (λ all. map (λ key. entry key (fold_of reducer (filter (has_key key_cmp keys key) (filter passes rows)))) (distinct_keys key_cmp all)) (flat_map-map keys rows)

-- where the rows count that pass every dimension but a group's own, the entries are the group's
pub folded_entries-group : {Meaning : Type 0} (reducer : Reducer (List Cell) Meaning) (keys : List Cell → List Key) (dimensions : List (Dimension (List Cell) Key)) (own : ℕ) (rows : List (List Cell))
    → folded_entries reducer rows (map keys rows) (map (passes_each (all_but (Some own) dimensions)) rows) ≡ group_entries key_cmp keys reducer dimensions own rows
folded_entries-group reducer keys dimensions own rows = folded_entries-filter reducer keys (passes_each (all_but (Some own) dimensions)) rows

-- ---- rows that stay

-- what is made of those that are kept is kept of what is made of all
pub kept-map : {X Y : Type 0} (f : X → Y) (gone : List Bool) (xs : List X) → kept gone (map f xs) ≡ map f (kept gone xs)
kept-map f [] xs = refl
kept-map f (mark ∷ gone) [] = refl
kept-map f (mark ∷ gone) (x ∷ xs) =
    elim mark as (λ b. cond b (kept gone (map f xs)) (f x ∷ kept gone (map f xs)) ≡ map f (cond b (kept gone xs) (x ∷ kept gone xs))) [
      | true ↦ kept-map f gone xs
      | false ↦ ap (λ rest. f x ∷ rest) (kept-map f gone xs)
    ]

kept_next : {Row : Type 0} (passes gone : Bool) (test : Row → Bool) (row : Row) (some : List Row) (all : List Row) (p : Row → Bool) → p row ≡ passes → some ≡ filter test (filter p all)
    → cond ((passes && not gone) && test row) (row ∷ some) some ≡ filter test (filter p (cond gone all (row ∷ all)))
kept_next true true test row some all p is same = same
kept_next false true test row some all p is same = same
kept_next true false test row some all p is same = rw is (ap (λ rest. cond (test row) (row ∷ rest) rest) same)
kept_next false false test row some all p is same = rw is same

-- of the rows that pass and are not gone, those that have a key
pub counted_with-kept : {Row : Type 0} (key : Key) (keys : Row → List Key) (passes : Row → Bool) (gone : List Bool) (rows : List Row)
    → counted_with key rows (map keys rows) (map (λ at. passes at.0 && not at.1) (zip rows gone)) ≡ filter (has_key key_cmp keys key) (filter passes (kept gone rows))
counted_with-kept key keys passes [] [] = refl
counted_with-kept key keys passes (mark ∷ gone) [] = refl
counted_with-kept key keys passes [] (row ∷ rows) = refl
counted_with-kept key keys passes (mark ∷ gone) (row ∷ rows) =
    kept_next (passes row) mark (has_key key_cmp keys key) row _ (kept gone rows) passes refl (counted_with-kept key keys passes gone rows)

-- of the rows that pass and are not gone
pub counted-kept : {Row : Type 0} (passes : Row → Bool) (gone : List Bool) (rows : List Row) → counted rows (map (λ at. passes at.0 && not at.1) (zip rows gone)) ≡ filter passes (kept gone rows)
counted-kept passes [] [] = refl
counted-kept passes (mark ∷ gone) [] = refl
counted-kept passes [] (row ∷ rows) = refl
counted-kept {Row} passes (mark ∷ gone) (row ∷ rows) = step mark (passes row) refl (counted-kept passes gone rows)
  where
    step : (mark passed : Bool) → passes row ≡ passed → {some : List Row} → some ≡ filter passes (kept gone rows) → cond (passed && not mark) (row ∷ some) some ≡ filter passes (cond mark (kept gone rows) (row ∷ kept gone rows))
    step true true is same = same
    step true false is same = same
    step false true is same = rw is (ap (λ rest. row ∷ rest) same)
    step false false is same = rw is same

-- what is left of strictly ascending keys ascends strictly
all-filter : {X : Type 0} (P : X → Type 0) (test : X → Bool) (xs : List X) → AllByRecursion P xs → AllByRecursion P (filter test xs)
all-filter P test [] all = tt
all-filter P test (x ∷ xs) all =
    elim (test x) as (λ b. AllByRecursion P (cond b (x ∷ filter test xs) (filter test xs))) [
      | true ↦ (all.0, all-filter P test xs all.1)
      | false ↦ all-filter P test xs all.1
    ]

sorted-filter : (test : Key → Bool) (keys : List Key) → IsStrictlySortedBy key_cmp keys → IsStrictlySortedBy key_cmp (filter test keys)
unfolding IsStrictlySortedBy
sorted-filter test [] sorted = tt
sorted-filter test (key ∷ keys) sorted =
    elim (test key) as (λ b. IsStrictlySortedBy key_cmp (cond b (key ∷ filter test keys) (filter test keys))) [
      | true ↦ (all-filter (λ y. key_cmp key y ≡ Less) test keys sorted.0, sorted-filter test keys sorted.1)
      | false ↦ sorted-filter test keys sorted.1
    ]

equal_from_test : (r : Ordering) → is_eq r ≡ true → r ≡ Equal
equal_from_test Less test = absurd (true≢false (sym test))
equal_from_test Equal test = refl
equal_from_test Greater test = absurd (true≢false (sym test))

-- a key ties with one of those that pass a test where it ties with one of all and passes the test itself
ties_next : (tied passed own rest all : Bool) → (tied ≡ true → own ≡ passed) → rest ≡ (all && passed) → cond own (tied || rest) rest ≡ ((tied || all) && passed)
ties_next true true true rest all same more = refl
ties_next true false true rest all same more = absurd (true≢false (same refl))
ties_next true true false rest all same more = absurd (true≢false (sym (same refl)))
ties_next true false false rest true same more = more
ties_next true false false rest false same more = more
ties_next false passed true rest all same more = more
ties_next false passed false rest all same more = more

among_filter : (test : Key → Bool) (q : Key) (keys : List Key) → is_among key_cmp (filter test keys) q ≡ (is_among key_cmp keys q && test q)
among_filter test q [] = refl
among_filter test q (key ∷ keys) =
    choice (test key) ∙ ties_next (is_eq (key_cmp q key)) (test q) (test key) (is_among key_cmp (filter test keys) q) (is_among key_cmp keys q) (λ tied. ap test (sym (key_cmp-equal q key (equal_from_test (key_cmp q key) tied)))) (among_filter test q keys)
  where
    choice : (own : Bool) → is_among key_cmp (cond own (key ∷ filter test keys) (filter test keys)) q ≡ cond own (is_eq (key_cmp q key) || is_among key_cmp (filter test keys) q) (is_among key_cmp (filter test keys) q)
    choice true = refl
    choice false = refl

-- a key that is among the keys of the lists that stay is among those of all
among_next : (mark first left all : Bool) → (left ≡ true → all ≡ true) → cond mark left (first || left) ≡ true → (first || all) ≡ true
among_next true true left all rest here = refl
among_next true false left all rest here = rest here
among_next false true left all rest here = refl
among_next false false left all rest here = rest here

among_kept : (q : Key) (gone : List Bool) (lists : List (List Key)) → is_among key_cmp (flat_map (λ own. own) (kept gone lists)) q ≡ true → is_among key_cmp (flat_map (λ own. own) lists) q ≡ true
among_kept q [] lists among = absurd (true≢false (sym among))
among_kept q (mark ∷ gone) [] among = absurd (true≢false (sym among))
among_kept q (mark ∷ gone) (keys ∷ lists) among =
    let test : Key → Bool = λ own. is_eq (key_cmp q own) in
    list_any-append test keys (flat_map (λ own. own) lists)
    ∙ among_next mark (is_among key_cmp keys q) (is_among key_cmp (flat_map (λ own. own) (kept gone lists)) q) (is_among key_cmp (flat_map (λ own. own) lists) q) (among_kept q gone lists) (sym (choice mark) ∙ among)
  where
    choice : (mark : Bool) → is_among key_cmp (flat_map (λ own. own) (cond mark (kept gone lists) (keys ∷ kept gone lists))) q ≡ cond mark (is_among key_cmp (flat_map (λ own. own) (kept gone lists)) q) (is_among key_cmp keys q || is_among key_cmp (flat_map (λ own. own) (kept gone lists)) q)
    choice true = refl
    choice false = list_any-append (λ own. is_eq (key_cmp q own)) keys (flat_map (λ own. own) (kept gone lists))

under : (all left : Bool) → (left ≡ true → all ≡ true) → (all && left) ≡ left
under true left within = refl
under false true within = within refl
under false false within = refl

-- of the keys of all lists, those that some list has that stays
pub distinct_keys-kept : (gone : List Bool) (lists : List (List Key))
    → filter (is_among key_cmp (flat_map (λ own. own) (kept gone lists))) (distinct_keys key_cmp (flat_map (λ own. own) lists)) ≡ distinct_keys key_cmp (flat_map (λ own. own) (kept gone lists))
distinct_keys-kept gone lists =
    let all : List Key = flat_map (λ own. own) lists in
    let left : List Key = flat_map (λ own. own) (kept gone lists) in
    let keys : List Key = distinct_keys key_cmp all in
    let has : Key → Bool = is_among key_cmp left in
    same_from_ties key_cmp_total key_cmp-equal (filter has keys) (distinct_keys key_cmp left) (sorted-filter has keys (sorted-distinct_keys key_cmp_total all)) (sorted-distinct_keys key_cmp_total left)
    (λ q. among_filter has q keys
    ∙ ap (λ b. b && has q) (ties-distinct_keys key_cmp_total q all)
    ∙ under (is_among key_cmp all q) (has q) (among_kept q gone lists)
    ∙ sym (ties-distinct_keys key_cmp_total q left))

-- of entries those are left whose key is
entries-filter : {Meaning : Type 0} (test : Key → Bool) (value : Key → Meaning) (keys : List Key) → filter (λ one. test one.0) (map (λ key. entry key (value key)) keys) ≡ map (λ key. entry key (value key)) (filter test keys)
entries-filter test value [] = refl
entries-filter {Meaning} test value (key ∷ keys) = step (test key) (entries-filter test value keys)
  where
    step : (own : Bool) → {some : List (Key × Meaning)} → some ≡ map (λ key. entry key (value key)) (filter test keys) → cond own (entry key (value key) ∷ some) some ≡ map (λ key. entry key (value key)) (cond own (key ∷ filter test keys) (filter test keys))
    step true same = ap (λ rest. entry key (value key) ∷ rest) same
    step false same = same

-- the entries of the rows that pass and are not gone, without the keys that no row has any more, are those of the rows that stay
pub folded_entries-kept : {Meaning : Type 0} (reducer : Reducer (List Cell) Meaning) (keys : List Cell → List Key) (passes : List Cell → Bool) (gone : List Bool) (rows : List (List Cell))
    → filter (λ one. is_among key_cmp (flat_map (λ own. own) (kept gone (map keys rows))) one.0) (folded_entries reducer rows (map keys rows) (map (λ at. passes at.0 && not at.1) (zip rows gone)))
    ≡ map (λ key. (key, fold_of reducer (filter (has_key key_cmp keys key) (filter passes (kept gone rows))))) (group_keys key_cmp keys (kept gone rows))
folded_entries-kept {Meaning} reducer keys passes gone rows =
    let lists : List (List Key) = map keys rows in
    let all : List Key = distinct_keys key_cmp (flat_map (λ own. own) lists) in
    let has : Key → Bool = is_among key_cmp (flat_map (λ own. own) (kept gone lists)) in
    let value : Key → Meaning = λ key. fold_of reducer (counted_with key rows lists (map (λ at. passes at.0 && not at.1) (zip rows gone))) in
    let left : Key → Meaning = λ key. fold_of reducer (filter (has_key key_cmp keys key) (filter passes (kept gone rows))) in
    entries-filter has value all
    ∙ entries-same value left (λ key. ap (fold_of reducer) (counted_with-kept key keys passes gone rows)) (filter has all)
    ∙ ap (map (λ key. entry key (left key))) (distinct_keys-kept gone lists ∙ ap (λ own. distinct_keys key_cmp (flat_map (λ one. one) own)) (kept-map keys gone rows) ∙ ap (distinct_keys key_cmp) (flat_map-map keys (kept gone rows)))

-- so they are the group's
pub folded_entries-kept_group : {Meaning : Type 0} (reducer : Reducer (List Cell) Meaning) (keys : List Cell → List Key) (dimensions : List (Dimension (List Cell) Key)) (own : ℕ) (gone : List Bool) (rows : List (List Cell))
    → filter (λ one. is_among key_cmp (flat_map (λ own. own) (kept gone (map keys rows))) one.0) (folded_entries reducer rows (map keys rows) (map (λ at. passes_each (all_but (Some own) dimensions) at.0 && not at.1) (zip rows gone)))
    ≡ group_entries key_cmp keys reducer dimensions own (kept gone rows)
folded_entries-kept_group reducer keys dimensions own gone rows = folded_entries-kept reducer keys (passes_each (all_but (Some own) dimensions)) gone rows

-- ---- one row more

within-take : {X : Type 0} (n m : ℕ) (xs : List X) → length xs ≡ m → n ≤ m → length (take n xs) ≡ n
within-take n m xs long within = length-take n xs ∙ omega (arith, long)

-- the next row counts, or it does not
pub counted-next : {Row : Type 0} (rows : List Row) (counts : List Bool) (n : ℕ) (row : Row) → n < length rows → length counts ≡ length rows → row ≡ get_or rows n row
    → counted (take (n + 1) rows) (take (n + 1) counts) ≡ counted (take n rows) (take n counts) ++ cond (get_or counts n false) (row ∷ []) []
counted-next {Row} rows counts n row within long here =
    let front : List Row = take n rows in
    let early : List Bool = take n counts in
    let size : length front ≡ n = within-take n (length rows) rows refl (omega arith) in
    let also : length early ≡ n = within-take n (length rows) counts long (omega arith) in
    ap (λ xs. counted xs (take (n + 1) counts)) (take_more rows n row within ∙ ap (λ x. front ++ x ∷ []) (sym here))
    ∙ ap (counted (front ++ row ∷ [])) (take_more counts n false (omega arith))
    ∙ counted-append front (row ∷ []) early (get_or counts n false ∷ []) (also ∙ sym size)

-- it counts and has a key, or it does not
pub counted_with-next : {Row : Type 0} (key : Key) (rows : List Row) (keys : List (List Key)) (counts : List Bool) (n : ℕ) (row : Row) → n < length rows → length keys ≡ length rows → length counts ≡ length rows → row ≡ get_or rows n row
    → counted_with key (take (n + 1) rows) (take (n + 1) keys) (take (n + 1) counts) ≡ counted_with key (take n rows) (take n keys) (take n counts) ++ cond (get_or counts n false && is_among key_cmp (get_or keys n []) key) (row ∷ []) []
counted_with-next {Row} key rows keys counts n row within each long here =
    let front : List Row = take n rows in
    let own : List (List Key) = take n keys in
    let early : List Bool = take n counts in
    let size : length front ≡ n = within-take n (length rows) rows refl (omega arith) in
    let listed : length own ≡ n = within-take n (length rows) keys each (omega arith) in
    let also : length early ≡ n = within-take n (length rows) counts long (omega arith) in
    ap (λ xs. counted_with key xs (take (n + 1) keys) (take (n + 1) counts)) (take_more rows n row within ∙ ap (λ x. front ++ x ∷ []) (sym here))
    ∙ ap (λ lists. counted_with key (front ++ row ∷ []) lists (take (n + 1) counts)) (take_more keys n [] (omega arith))
    ∙ ap (counted_with key (front ++ row ∷ []) (own ++ get_or keys n [] ∷ [])) (take_more counts n false (omega arith))
    ∙ counted_with-append key front (row ∷ []) own (get_or keys n [] ∷ []) early (get_or counts n false ∷ []) (listed ∙ sym size) (also ∙ sym size)

-- a fold with one row more, or with none
pub fold_of-next : {Row Meaning : Type 0} (reducer : Reducer Row Meaning) (rows : List Row) (row : Row) (counts : Bool) → fold_of reducer (rows ++ cond counts (row ∷ []) []) ≡ cond counts (reducer.step (fold_of reducer rows) row) (fold_of reducer rows)
fold_of-next reducer rows row true = fold-append reducer.step reducer.initial rows (row ∷ [])
fold_of-next reducer rows row false = ap (fold_of reducer) (append-nil rows)

map-map : {X Y Z : Type 0} (f : Y → Z) (g : X → Y) (xs : List X) → map f (map g xs) ≡ map (λ x. f (g x)) xs
map-map f g [] = refl
map-map f g (x ∷ xs) = ap (λ rest. f (g x) ∷ rest) (map-map f g xs)

-- entries with a row more in each of its keys, if it counts
abbrev pub with_row : {Meaning : Type 0} → Reducer (List Cell) Meaning → List Cell → List Key → Bool → List (Key × Meaning) → List (Key × Meaning)
with_row {Meaning = Meaning} reducer row own counts entries = map {B = Key × Meaning} (λ one. (one.0, cond (counts && is_among key_cmp own one.0) (reducer.step one.1 row) one.1)) entries

-- the entries of any keys over one row more: those of its keys take one step, if it counts
pub entries-next : {Meaning : Type 0} (reducer : Reducer (List Cell) Meaning) (all : List Key) (rows : List (List Cell)) (keys : List (List Key)) (counts : List Bool) (n : ℕ) (row : List Cell)
    → n < length rows → length keys ≡ length rows → length counts ≡ length rows → row ≡ get_or rows n row
    → map (λ key. (key, fold_of reducer (counted_with key (take (n + 1) rows) (take (n + 1) keys) (take (n + 1) counts)))) all
    ≡ with_row reducer row (get_or keys n []) (get_or counts n false) (map (λ key. (key, fold_of reducer (counted_with key (take n rows) (take n keys) (take n counts)))) all)
entries-next {Meaning} reducer all rows keys counts n row within each long here =
    let value : Key → Meaning = λ key. fold_of reducer (counted_with key (take n rows) (take n keys) (take n counts)) in
    let more : Key → Meaning = λ key. fold_of reducer (counted_with key (take (n + 1) rows) (take (n + 1) keys) (take (n + 1) counts)) in
    let next : Key → Meaning → Meaning = λ key value. cond (get_or counts n false && is_among key_cmp (get_or keys n []) key) (reducer.step value row) value in
    entries-same more (λ key. next key (value key)) (λ key. ap (fold_of reducer) (counted_with-next key rows keys counts n row within each long here)
    ∙ fold_of-next reducer (counted_with key (take n rows) (take n keys) (take n counts)) row (get_or counts n false && is_among key_cmp (get_or keys n []) key)) all
    ∙ sym (map-map (λ (one : Key × Meaning). entry one.0 (next one.0 one.1)) (λ key. entry key (value key)) all)
