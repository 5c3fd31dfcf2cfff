-- What a group and a whole have once they are folded over the rows that count: the entries, and the value, of the dimensions and rows as they are then.
use Rattle.std.proofs.Common.{Result, Ok, Err, IfOk, ◌≡◌, ℕ, zero, suc, ◌+◌, ◌<◌, ◌==◌, Bool, true, false, not, ◌&&◌, cond, nat_lt, List, [], ◌∷◌, ◌++◌, Option, Some, None, drop, length, get_or, map, slice_get, slice_index_or, take, refl, sym, ap, subst, ◌∙◌}
use Rattle.std.proofs.lemmas.List.{length-map, map-append, take_more}
use Rattle.std.proofs.lemmas.List.Quantifiers.{position-Some}
use Rattle.std.proofs.lemmas.Option.{slice_get-map}
use Rattle.std.specs.List.{AllByRecursion, AllZip, filter, flat_map, position, position_or_len, range_with_len}
use Rattle.std.specs.Option.{option_map}
use Rattle.xf_base.specs.Gone.{kept}
use Rattle.xf_base.specs.Key.{key_cmp}
use Rattle.xf_base.specs.declared.cell.Cell.{Cell}
use Rattle.xf_base.specs.declared.key.Key.{Key}
use Rattle.xf_engine.specs.Answers.{keys_under}
use Rattle.xf_engine.specs.Changes.{unfiltered}
use Rattle.xf_engine.specs.Folding.{HasMarks, counted, counts_at, dimensions_then, folded_entries, passes_but_at, rows_then}
use Rattle.xf_engine.specs.Held.{HoldsKeysOf, live_dimension, live_dimensions, places_under}
use Rattle.xf_engine.specs.State.{LiveDimension, dimensions_of, has_id}
use Rattle.xf_engine.specs.declared.dimension.Dimension.{Dimension}
use Rattle.xf_engine.specs.declared.folding.Counting.{Counting}
use Rattle.xf_engine.specs.declared.folding.Counting.TheVariants.{Passing, Every, Staying}
use Rattle.xf_engine.proofs.FoldedEntries.{counted-filter, counted-kept, folded_entries-group, folded_entries-kept_group, kept-map}
use Rattle.xf_engine.proofs.FoldingCounts.{marks-every, marks-passing, marks-staying}
use Rattle.xf_group.specs.Group.{meanings}
use Rattle.xf_group.specs.declared.entry.Entry.{Entry}
use Rattle.xf_model.specs.Dimension.{passes_each, selected}
use Rattle.xf_model.specs.Group.{Reducer, distinct_keys, group_entries, rounded_keys}
use Rattle.xf_model.specs.Laws.{is_among}

-- ---- the keys of rows

map_twice : {X Y Z : Type 0} (f : Y → Z) (g : X → Y) (xs : List X) → map f (map g xs) ≡ map (λ x. f (g x)) xs
map_twice f g [] = refl
map_twice f g (x ∷ xs) = ap (λ rest. f (g x) ∷ rest) (map_twice f g xs)

all-found : {X : Type 0} (Q : X → Type 0) (xs : List X) (i : ℕ) (x : X) → AllByRecursion Q xs → slice_get xs i ≡ Some x → Q x
all-found Q [] i x all there = absurd cc
all-found Q (y ∷ xs) zero x all there = let same : y ≡ x = cc in subst Q same all.0
all-found Q (y ∷ xs) (suc i) x all there = all-found Q xs i x all.1 there

-- the keys of each row, as a rounding rounds them
abbrev pub lists_of : (Key → Key) → List (List Key) → List (List Key)
lists_of round keys = map (λ own. distinct_keys key_cmp (map round own)) keys

-- what rounds the keys that a dimension holds rounds those of the rows
lists-rows : {A P : Type 0} (keys_of : A → List Cell → List Key) (rows : List (List Cell)) (round : Key → Key) (one : Dimension A P) (live : LiveDimension A P) (found : Option (LiveDimension A P)) → HoldsKeysOf keys_of rows one → found ≡ Some live → live.accessor ≡ one.accessor
    → lists_of round one.keys ≡ map (rounded_keys key_cmp round (keys_under keys_of found)) rows
lists-rows keys_of rows round one live found holds there same =
    ap (lists_of round) holds
    ∙ map_twice (λ own. distinct_keys key_cmp (map round own)) (keys_of one.accessor) rows
    ∙ ap (λ accessor. map (rounded_keys key_cmp round (keys_of accessor)) rows) (sym same)
    ∙ ap (λ at. map (rounded_keys key_cmp round (keys_under keys_of at)) rows) (sym there)

-- the dimension at a place is live there
live-there : {A P : Type 0} (held : List (Dimension A P)) (own : ℕ) (one : Dimension A P) → slice_get held own ≡ Some one → slice_get (live_dimensions held) own ≡ Some (live_dimension one)
live-there held own one there = slice_get-map live_dimension held own ∙ ap (option_map live_dimension) there

-- what is left of rows that are joined with others once as many are cut off
drop-map : {X Y : Type 0} (f : X → Y) (xs more : List X) → drop (length xs) (map f (xs ++ more)) ≡ map f more
drop-map f [] more = refl
drop-map f (x ∷ xs) more = drop-map f xs more

-- the places of the rows that are held, and the rounded keys of those that are added, are the places of all
pub places-joined : {A P : Type 0} (keys_of : A → List Cell → List Key) (rows more : List (List Cell)) (round : Key → Key) (held : List (Dimension A P)) (own : ℕ) (one : Dimension A P) → AllByRecursion (HoldsKeysOf keys_of (rows ++ more)) held → slice_get held own ≡ Some one
    → places_under keys_of round (slice_get (live_dimensions held) own) rows ++ lists_of round (drop (length rows) one.keys) ≡ places_under keys_of round (slice_get (live_dimensions held) own) (rows ++ more)
places-joined {A} {P} keys_of rows more round held own one hold there =
    let found = slice_get (live_dimensions held) own in
    let later : Dimension A P = record one { keys = drop (length rows) one.keys } in
    let holds : HoldsKeysOf keys_of more later = ap (drop (length rows)) (all-found (HoldsKeysOf keys_of (rows ++ more)) held own one hold there) ∙ drop-map (keys_of one.accessor) rows more in
    ap (λ lists. places_under keys_of round found rows ++ lists) (lists-rows keys_of more round later (live_dimension one) found holds (live-there held own one there) refl)
    ∙ sym (map-append (rounded_keys key_cmp round (keys_under keys_of found)) rows more)

-- a dimension holds the keys of as many rows
pub keys-long : {A P : Type 0} (keys_of : A → List Cell → List Key) (rows : List (List Cell)) (held : List (Dimension A P)) (own : ℕ) (one : Dimension A P) → AllByRecursion (HoldsKeysOf keys_of rows) held → slice_get held own ≡ Some one → length one.keys ≡ length rows
keys-long keys_of rows held own one hold there = ap length (all-found (HoldsKeysOf keys_of rows) held own one hold there) ∙ length-map rows (keys_of one.accessor)

-- the dimension at a place gives the same keys without its filter
keys-unfiltered : {A P : Type 0} (keys_of : A → List Cell → List Key) (found : Option (LiveDimension A P)) → keys_under keys_of (option_map unfiltered found) ≡ keys_under keys_of found
keys-unfiltered keys_of None = refl
keys-unfiltered keys_of (Some live) = refl

pub keys-then : {A P : Type 0} (keys_of : A → List Cell → List Key) (counting : Counting) (lives : List (LiveDimension A P)) (own : ℕ) → keys_under keys_of (slice_get (dimensions_then counting lives) own) ≡ keys_under keys_of (slice_get lives own)
keys-then keys_of Passing lives own = refl
keys-then keys_of Every lives own = ap (keys_under keys_of) (slice_get-map unfiltered lives own) ∙ keys-unfiltered keys_of (slice_get lives own)
keys-then keys_of (Staying gone) lives own = refl

-- ---- the entries of a group

-- where the rows count that pass
pub entries-passing : {A P Meaning : Type 0} (keys_of : A → List Cell → List Key) (says : P → Key → Bool) (rows : List (List Cell)) (held : List (Dimension A P)) (own : ℕ) (keys : List Cell → List Key) (reducer : Reducer (List Cell) Meaning) → AllByRecursion (HoldsKeysOf keys_of rows) held
    → folded_entries reducer rows (map keys rows) (map (counts_at says Passing held (Some own)) (range_with_len 0 (length rows))) ≡ group_entries key_cmp keys reducer (dimensions_of keys_of says (live_dimensions held)) own rows
entries-passing keys_of says rows held own keys reducer hold =
    ap (folded_entries reducer rows (map keys rows)) (marks-passing keys_of says rows held (Some own) hold) ∙ folded_entries-group reducer keys (dimensions_of keys_of says (live_dimensions held)) own rows

-- where every row counts
pub entries-every : {A P Meaning : Type 0} (keys_of : A → List Cell → List Key) (says : P → Key → Bool) (rows : List (List Cell)) (held : List (Dimension A P)) (own : ℕ) (keys : List Cell → List Key) (reducer : Reducer (List Cell) Meaning)
    → folded_entries reducer rows (map keys rows) (map (counts_at says Every held (Some own)) (range_with_len 0 (length rows))) ≡ group_entries key_cmp keys reducer (dimensions_of keys_of says (map unfiltered (live_dimensions held))) own rows
entries-every keys_of says rows held own keys reducer =
    ap (folded_entries reducer rows (map keys rows)) (marks-every keys_of says rows (live_dimensions held) (Some own)) ∙ folded_entries-group reducer keys (dimensions_of keys_of says (map unfiltered (live_dimensions held))) own rows

-- the meanings of entries some of which are taken away
meanings-filter : {V Meaning : Type 0} (meaning_of : V → Meaning) (test : Key → Bool) (entries : List (Entry V)) → meanings meaning_of (filter (λ entry. test entry.key) entries) ≡ filter (λ one. test one.0) (meanings meaning_of entries)
meanings-filter meaning_of test [] = refl
meanings-filter {V} {Meaning} meaning_of test (entry ∷ entries) =
    step (test entry.key) (filter (λ entry. test entry.key) entries) (filter (λ one. test one.0) (meanings meaning_of entries)) (meanings-filter meaning_of test entries)
  where
    step : (own : Bool) (some : List (Entry V)) (left : List (Key × Meaning)) → meanings meaning_of some ≡ left → meanings meaning_of (cond own (entry ∷ some) some) ≡ cond own ((entry.key, meaning_of entry.value) ∷ left) left
    step true some left same = ap (λ rest. (entry.key, meaning_of entry.value) ∷ rest) same
    step false some left same = same

-- where the rows count that pass and are not gone, once the keys that no row has any more are taken away
pub entries-staying : {A P V Meaning : Type 0} (keys_of : A → List Cell → List Key) (says : P → Key → Bool) (rows : List (List Cell)) (held : List (Dimension A P)) (own : ℕ) (keys : List Cell → List Key) (reducer : Reducer (List Cell) Meaning) (meaning_of : V → Meaning) (gone : List Bool) (before after : List (Entry V)) (places : List (List Key)) (marks : List Bool) → AllByRecursion (HoldsKeysOf keys_of rows) held → length gone ≡ length rows
    → places ≡ map keys rows
    → marks ≡ map (λ place. not (slice_index_or gone place true) && passes_but_at says held (Some own) place) (range_with_len 0 (length rows))
    → meanings meaning_of before ≡ folded_entries reducer rows places marks
    → after ≡ filter (λ entry. is_among key_cmp (flat_map (λ keys. keys) (kept gone places)) entry.key) before
    → meanings meaning_of after ≡ group_entries key_cmp keys reducer (dimensions_of keys_of says (live_dimensions held)) own (kept gone rows)
entries-staying keys_of says rows held own keys reducer meaning_of gone before after places marks hold long lists marked folded left =
    let lives = live_dimensions held in
    let has : List (List Key) → Key → Bool = λ all. is_among key_cmp (flat_map (λ keys. keys) (kept gone all)) in
    let made = folded ∙ ap (λ all. folded_entries reducer rows all marks) lists ∙ ap (folded_entries reducer rows (map keys rows)) (marked ∙ marks-staying keys_of says rows held (Some own) gone hold long) in
    ap (meanings meaning_of) left
    ∙ meanings-filter meaning_of (has places) before
    ∙ ap (λ all. filter (λ one. has all one.0) (meanings meaning_of before)) lists
    ∙ ap (filter (λ one. has (map keys rows) one.0)) made
    ∙ folded_entries-kept_group reducer keys (dimensions_of keys_of says lives) own gone rows

-- the places of the rows that stay are those of the places that stay
pub places-kept : (keys : List Cell → List Key) (counting : Counting) (rows : List (List Cell)) → rows_then counting (map keys rows) ≡ map keys (rows_then counting rows)
places-kept keys Passing rows = refl
places-kept keys Every rows = refl
places-kept keys (Staying gone) rows = kept-map keys gone.now rows

-- ---- the value of a whole

-- the rows that count are those that are selected then
pub counted-then : {A P : Type 0} (keys_of : A → List Cell → List Key) (says : P → Key → Bool) (rows : List (List Cell)) (held : List (Dimension A P)) (counting : Counting) → AllByRecursion (HoldsKeysOf keys_of rows) held → HasMarks counting (length rows)
    → counted rows (map (counts_at says counting held None) (range_with_len 0 (length rows))) ≡ selected (dimensions_of keys_of says (dimensions_then counting (live_dimensions held))) None (rows_then counting rows)
counted-then keys_of says rows held Passing hold marks =
    ap (counted rows) (marks-passing keys_of says rows held None hold) ∙ counted-filter (passes_each (dimensions_of keys_of says (live_dimensions held))) rows
counted-then keys_of says rows held Every hold marks =
    ap (counted rows) (marks-every keys_of says rows (live_dimensions held) None) ∙ counted-filter (passes_each (dimensions_of keys_of says (map unfiltered (live_dimensions held)))) rows
counted-then keys_of says rows held (Staying gone) hold marks =
    ap (counted rows) (marks-staying keys_of says rows held None gone.now hold marks) ∙ counted-kept (passes_each (dimensions_of keys_of says (live_dimensions held))) gone.now rows

-- ---- the place of a group's dimension

position_or_len-unfiltered : {A P : Type 0} (id : ℕ) (lives : List (LiveDimension A P)) → position_or_len (has_id id) (map unfiltered lives) ≡ position_or_len (has_id id) lives
position_or_len-unfiltered id [] = refl
position_or_len-unfiltered id (live ∷ lives) = ap (λ later. cond (not (live.id == id)) (1 + later) 0) (position_or_len-unfiltered id lives)

-- it is where it was
pub position-then : {A P : Type 0} (id : ℕ) (counting : Counting) (lives : List (LiveDimension A P)) → position (has_id id) (dimensions_then counting lives) ≡ position (has_id id) lives
position-then id Passing lives = refl
position-then id Every lives =
    ap (λ at. cond (nat_lt at (length (map unfiltered lives))) (Some at) None) (position_or_len-unfiltered id lives)
    ∙ ap (λ n. cond (nat_lt (position_or_len (has_id id) lives) n) (Some (position_or_len (has_id id) lives)) None) (length-map lives unfiltered)
position-then id (Staying gone) lives = refl

pub placed-within : {X : Type 0} (test : X → Bool) (xs : List X) (i : ℕ) → position test xs ≡ Some i → i < length xs
placed-within test [] i told = absurd cc
placed-within test (x ∷ xs) i told = (position-Some test (x ∷ xs) i x told).0

-- ---- one more of what is folded

pub all_zip-next : {X Y : Type 0} (R : X → Y → Type 0) (xs : List X) (i : ℕ) (x : X) (done more : List Y) (y : Y) → x ≡ get_or xs i x → i < length xs → AllZip R (take i xs) done → R x y → more ≡ done ++ y ∷ [] → AllZip R (take (i + 1) xs) more
all_zip-next {X} {Y} R xs i x done more y here within so_far next pushed =
    subst (AllZip R (take (i + 1) xs)) (sym pushed) (subst (λ front. AllZip R front (done ++ y ∷ [])) (sym (take_more xs i x within ∙ ap (λ own. take i xs ++ own ∷ []) (sym here))) (push (take i xs) done so_far))
  where
    push : (front : List X) (made : List Y) → AllZip R front made → AllZip R (front ++ x ∷ []) (made ++ y ∷ [])
    push [] [] all = (next, tt)
    push [] (one ∷ made) all = absurd all
    push (one ∷ front) [] all = absurd all
    push (one ∷ front) (own ∷ made) all = (all.0, push front made all.1)

-- what three facts on a value say together
pub if_ok-three : {T E : Type 0} (result : Result T E) (P Q R S : T → Type 0) → ((value : T) → P value → Q value → R value → S value) → IfOk result P → IfOk result Q → IfOk result R → IfOk result S
if_ok-three (Ok value) P Q R S all p q r = all value p q r
if_ok-three (Err cause) P Q R S all p q r = tt
