-- The places of rows that pass the dimensions that are not ignored.
use Rattle.std.proofs.Common.{◌≡◌, ℕ, zero, suc, ◌+◌, ◌<◌, Bool, true, false, not, ◌||◌, ◌&&◌, cond, List, [], ◌∷◌, ◌++◌, Option, Some, None, length, map, take, get_or, slice_get, refl, sym, ap, subst, ◌∙◌, arith}
use Rattle.std.proofs.lemmas.List.{append-nil, take_more}
use Rattle.std.proofs.lemmas.List.Folds.{list_any-append}
use Rattle.std.specs.List.{AllByRecursion, enumerate_from, filter, find, flat_map, list_all, list_any, range_with_len}
use Rattle.xf_base.specs.declared.cell.Cell.{Cell}
use Rattle.xf_base.specs.declared.key.Key.{Key}
use Rattle.xf_engine.specs.Answers.{places_where, without_ignored}
use Rattle.xf_engine.specs.Held.{HoldsKeysOf, live_dimension, live_dimensions, passes_at}
use Rattle.xf_engine.specs.Listing.{passes_unless, place_at}
use Rattle.xf_engine.specs.State.{LiveDimension, dimensions_of, is_taken}
use Rattle.xf_engine.specs.declared.dimension.Dimension.{Dimension}
use Rattle.xf_engine.proofs.ById.{all-filter}
use Rattle.xf_engine.proofs.Passes.{passes_each_at-row}
use Rattle.xf_engine.proofs.Places.{flat_map-places, flat_map-range_next}
use Rattle.xf_model.specs.Dimension.{passes_each}

-- all pass or are ignored where all pass that are not ignored
unless-counted : {X : Type 0} (ignored passing : X → Bool) (xs : List X) → list_all (λ x. ignored x || passing x) xs ≡ list_all passing (filter (λ x. not (ignored x)) xs)
unless-counted ignored passing [] = refl
unless-counted {X} ignored passing (x ∷ xs) =
    let rest : List X = filter (λ y. not (ignored y)) xs in
    elim (ignored x) as (λ b. ((b || passing x) && list_all (λ y. ignored y || passing y) xs) ≡ list_all passing (cond (not b) (x ∷ rest) rest)) [
      | true ↦ unless-counted ignored passing xs
      | false ↦ ap (λ later. passing x && later) (unless-counted ignored passing xs)
    ]

-- the dimensions that are not ignored, as they are seen
counted-live : {A P : Type 0} (ignored : List ℕ) (held : List (Dimension A P)) → live_dimensions (filter (λ one. not (is_taken ignored one.id.0)) held) ≡ without_ignored ignored (live_dimensions held)
counted-live ignored [] = refl
counted-live {A} {P} ignored (one ∷ held) =
    let kept : List (Dimension A P) = filter (λ other. not (is_taken ignored other.id.0)) held in
    let lives : List (LiveDimension A P) = without_ignored ignored (live_dimensions held) in
    elim (is_taken ignored one.id.0) as (λ b. live_dimensions (cond (not b) (one ∷ kept) kept) ≡ cond (not b) (live_dimension one ∷ lives) lives) [
      | true ↦ counted-live ignored held
      | false ↦ ap (λ later. live_dimension one ∷ later) (counted-live ignored held)
    ]

-- a place is listed where its row passes each dimension that is not ignored
counted-row : {A P : Type 0} (keys_of : A → List Cell → List Key) (says : P → Key → Bool) (rows : List (List Cell)) (held : List (Dimension A P)) (ignored : List ℕ) (place : ℕ) (row : List Cell) → AllByRecursion (HoldsKeysOf keys_of rows) held → slice_get rows place ≡ Some row → list_all (passes_unless says ignored place) held ≡ passes_each (dimensions_of keys_of says (without_ignored ignored (live_dimensions held))) row
counted-row {A} {P} keys_of says rows held ignored place row hold there =
    let counted : Dimension A P → Bool = λ one. not (is_taken ignored one.id.0) in
    unless-counted (λ (one : Dimension A P). is_taken ignored one.id.0) (passes_at says place) held
    ∙ passes_each_at-row keys_of says rows (filter counted held) place row (all-filter (HoldsKeysOf keys_of rows) counted held hold) there
    ∙ ap (λ lives. passes_each (dimensions_of keys_of says lives) row) (counted-live ignored held)

-- the places of pairs that pass, one by one
places-each : {Row : Type 0} (test : Row → Bool) (pairs : List (ℕ × Row)) → flat_map (λ (at : ℕ × Row). cond (test at.1) (at.0 ∷ []) []) pairs ≡ map (λ (at : ℕ × Row). at.0) (filter (λ (at : ℕ × Row). test at.1) pairs)
places-each test [] = refl
places-each {Row} test (pair ∷ pairs) =
    let rest : List (ℕ × Row) = filter (λ (at : ℕ × Row). test at.1) pairs in
    elim (test pair.1) as (λ b. cond b (pair.0 ∷ []) [] ++ flat_map (λ (at : ℕ × Row). cond (test at.1) (at.0 ∷ []) []) pairs ≡ map (λ (at : ℕ × Row). at.0) (cond b (pair ∷ rest) rest)) [
      | true ↦ ap (λ later. pair.0 ∷ later) (places-each test pairs)
      | false ↦ places-each test pairs
    ]

-- the places that are listed are those of the definition
pub filtered-rows : {A P : Type 0} (keys_of : A → List Cell → List Key) (says : P → Key → Bool) (rows : List (List Cell)) (held : List (Dimension A P)) (ignored : List ℕ) → AllByRecursion (HoldsKeysOf keys_of rows) held → flat_map (place_at says held ignored) (range_with_len 0 (length rows)) ≡ places_where (passes_each (dimensions_of keys_of says (without_ignored ignored (live_dimensions held)))) rows
filtered-rows keys_of says rows held ignored hold =
    let test : List Cell → Bool = passes_each (dimensions_of keys_of says (without_ignored ignored (live_dimensions held))) in
    flat_map-places (place_at says held ignored) (λ (at : ℕ × List Cell). cond (test at.1) (at.0 ∷ []) []) 0 rows
    (λ i row there. let here : i ≡ 0 + i = omega arith in
    subst (λ n. place_at says held ignored n ≡ cond (test row) (n ∷ []) []) here (ap (λ b. cond b (i ∷ []) []) (counted-row keys_of says rows held ignored i row hold there)))
    ∙ places-each test (enumerate_from 0 rows)

-- one place more that is listed, and one that is not
pub listed-passing : {A P : Type 0} (says : P → Key → Bool) (dimensions : List (Dimension A P)) (ignored : List ℕ) (place : ℕ) (before after : List ℕ) → list_all (passes_unless says ignored place) dimensions ≡ true → before ≡ flat_map (place_at says dimensions ignored) (range_with_len 0 place) → after ≡ before ++ place ∷ [] → after ≡ flat_map (place_at says dimensions ignored) (range_with_len 0 (place + 1))
listed-passing says dimensions ignored place before after passing so_far pushed =
    pushed
    ∙ ap (λ front. front ++ place ∷ []) so_far
    ∙ ap (λ b. flat_map (place_at says dimensions ignored) (range_with_len 0 place) ++ cond b (place ∷ []) []) (sym passing)
    ∙ sym (flat_map-range_next (place_at says dimensions ignored) place)

pub listed-failing : {A P : Type 0} (says : P → Key → Bool) (dimensions : List (Dimension A P)) (ignored : List ℕ) (place : ℕ) (before : List ℕ) → list_all (passes_unless says ignored place) dimensions ≡ false → before ≡ flat_map (place_at says dimensions ignored) (range_with_len 0 place) → before ≡ flat_map (place_at says dimensions ignored) (range_with_len 0 (place + 1))
listed-failing says dimensions ignored place before failing so_far =
    so_far
    ∙ sym (append-nil (flat_map (place_at says dimensions ignored) (range_with_len 0 place)))
    ∙ ap (λ b. flat_map (place_at says dimensions ignored) (range_with_len 0 place) ++ cond b (place ∷ []) []) (sym failing)
    ∙ sym (flat_map-range_next (place_at says dimensions ignored) place)

-- ---- the first that passes a test

passed-by : {X : Type 0} (here later : Bool) (one rest found : Option X) → (here || later) ≡ false → (later ≡ false → rest ≡ found) → cond here one rest ≡ found
passed-by true later one rest found none then = absurd cc
passed-by false later one rest found none then = then none

pub find-first : {X : Type 0} (p : X → Bool) (xs : List X) (i : ℕ) (d : X) → list_any p (take i xs) ≡ false → i < length xs → p (get_or xs i d) ≡ true → find p xs ≡ Some (get_or xs i d)
find-first p [] i d before within here = absurd (omega (arith, within))
find-first p (x ∷ xs) zero d before within here = ap (λ b. cond b (Some x) (find p xs)) here
find-first p (x ∷ xs) (suc i) d before within here =
    passed-by (p x) (list_any p (take i xs)) (Some x) (find p xs) (Some (get_or xs i d)) before (λ rest. find-first p xs i d rest (omega (arith, within)) here)

pub find-nothing : {X : Type 0} (p : X → Bool) (xs : List X) → list_any p xs ≡ false → find p xs ≡ None
find-nothing p [] none = refl
find-nothing p (x ∷ xs) none = passed-by (p x) (list_any p xs) (Some x) (find p xs) None none (find-nothing p xs)

or_none : (a b : Bool) → a ≡ false → b ≡ false → (a || (b || false)) ≡ false
or_none a b e f = ap (λ x. x || (b || false)) e ∙ ap (λ x. x || false) f

pub any-next : {X : Type 0} (p : X → Bool) (xs : List X) (i : ℕ) (d : X) → list_any p (take i xs) ≡ false → i < length xs → p (get_or xs i d) ≡ false → list_any p (take (i + 1) xs) ≡ false
any-next p xs i d before within here =
    ap (list_any p) (take_more xs i d within)
    ∙ list_any-append p (take i xs) (get_or xs i d ∷ [])
    ∙ or_none (list_any p (take i xs)) (p (get_or xs i d)) before here
