-- Fresh keys: sorted, each once, and where the old keys stand between them.
use Rattle.std.proofs.Common.{◌≡◌, ℕ, zero, suc, ◌+◌, ◌<◌, ◌≤◌, Bool, true, false, ◌||◌, cond, List, [], ◌∷◌, ◌++◌, map, length, get_or, take, drop, refl, sym, ap, ◌∙◌, arith}
use Rattle.std.proofs.lemmas.Bool.{true≢false}
use Rattle.std.proofs.lemmas.Cmp.{on_total}
use Rattle.std.proofs.Common.{take-add}
use Rattle.std.proofs.lemmas.List.{drop-map, drop_more, length-drop, length-map, length-take, map_push, take_more}
use Rattle.std.proofs.lemmas.List.Filters.{dedup_is}
use Rattle.std.proofs.lemmas.List.Kept.{IsStrictlySortedBy-dedup}
use Rattle.std.proofs.lemmas.List.Sorted.{list_any-IsPermutation}
use Rattle.std.specs.Cmp.{IsTotalOrder}
use Rattle.std.specs.FinMap.{IsAntisymmetric}
use Rattle.std.specs.List.{AllByRecursion, dedup, dedup_from, enumerate_from, list_any, prefix_len}
use Rattle.std.specs.List.Retain.{DiffersFromLast, IsFiltered}
use Rattle.std.specs.List.Sorted.{IsPermutation, IsSorted, IsStrictlySortedBy}
use Rattle.std.specs.Ordering.{is_eq, is_lt, on, ordering_reverse}
use Rattle.std.specs.declared.cmp.Ordering.{Ordering}
use Rattle.std.specs.declared.cmp.Ordering.TheVariants.{Less, Equal, Greater}
use Rattle.xf_base.specs.Key.{key_cmp}
use Rattle.xf_base.specs.KeyOrder.{key_cmp_total}
use Rattle.xf_base.specs.declared.key.Key.{Key}
use Rattle.xf_group.specs.Fresh.{count_below, new_position, new_positions}
use Rattle.xf_model.specs.Group.{distinct_keys}
use Rattle.xf_model.proofs.AscendingKeys.{all_implies, by_order, same_from_ties, sorted-distinct_keys, ties-distinct_keys}
use Rattle.xf_group.proofs.AdmitOrder.{below-cons, by_test, none_below}

-- ---- sorted keys, each once

pub list_any-map : {X Y : Type 0} (p : Y → Bool) (f : X → Y) (xs : List X) → list_any p (map f xs) ≡ list_any (λ x. p (f x)) xs
list_any-map p f [] = refl
list_any-map p f (x ∷ xs) = ap (λ b. p (f x) || b) (list_any-map p f xs)

or_twice : (a b : Bool) → (a || b) ≡ (a || (a || b))
or_twice true b = refl
or_twice false b = refl

-- a test that does not tell apart what counts as the same passes alike once each is kept once
any-dedup_from : {X : Type 0} (same : X → X → Bool) (p : X → Bool) → ((x y : X) → same x y ≡ true → p x ≡ p y) → (x : X) (xs : List X) → list_any p (dedup_from same x xs) ≡ (p x || list_any p xs)
any-dedup_from same p alike x [] = refl
any-dedup_from {X} same p alike x (y ∷ ys) =
    by_test (same y x)
    (λ tied.
    ap (λ b. list_any p (cond b (dedup_from same x ys) (x ∷ dedup_from same y ys))) tied
    ∙ any-dedup_from same p alike x ys
    ∙ or_twice (p x) (list_any p ys)
    ∙ ap (λ b. p x || (b || list_any p ys)) (sym (alike y x tied)))
    (λ apart.
    ap (λ b. list_any p (cond b (dedup_from same x ys) (x ∷ dedup_from same y ys))) apart
    ∙ ap (λ b. p x || b) (any-dedup_from same p alike y ys))

any-dedup : {X : Type 0} (same : X → X → Bool) (p : X → Bool) → ((x y : X) → same x y ≡ true → p x ≡ p y) → (xs : List X) → list_any p (dedup same xs) ≡ list_any p xs
any-dedup same p alike [] = refl
any-dedup same p alike (x ∷ xs) = any-dedup_from same p alike x xs

strict-map : {X Key : Type 0} (cmp : Key → Key → Ordering) (key_of : X → Key) (xs : List X) → IsStrictlySortedBy (on key_of cmp) xs → IsStrictlySortedBy cmp (map key_of xs)
unfolding IsStrictlySortedBy
strict-map cmp key_of [] sorted = tt
strict-map {X} {Key} cmp key_of (x ∷ xs) sorted = (mapped xs sorted.0, strict-map cmp key_of xs sorted.1)
  where
    mapped : (ys : List X) → AllByRecursion (λ y. cmp (key_of x) (key_of y) ≡ Less) ys → AllByRecursion (λ k. cmp (key_of x) k ≡ Less) (map key_of ys)
    mapped [] all = tt
    mapped (y ∷ ys) all = (all.0, mapped ys all.1)

pub equal_from_test : (r : Ordering) → is_eq r ≡ true → r ≡ Equal
equal_from_test Less test = absurd (true≢false (sym test))
equal_from_test Equal test = refl
equal_from_test Greater test = absurd (true≢false (sym test))

-- keys that are sorted and each kept once are the distinct keys
pub distinct_from_sort : {X Key : Type 0} {cmp : Key → Key → Ordering} → IsTotalOrder cmp → IsAntisymmetric cmp → (key_of : X → Key) (same : X → X → Bool) → ((x y : X) → same x y ≡ is_eq (cmp (key_of x) (key_of y))) → (collected sorted kept : List X) → IsPermutation collected sorted → IsSorted (on key_of cmp) sorted → IsFiltered (DiffersFromLast same) [] sorted kept → map key_of kept ≡ distinct_keys cmp (map key_of collected)
distinct_from_sort {X} {Key} {cmp} order exact key_of same told collected sorted kept moved ascending filtered =
    let once : kept ≡ dedup same sorted = dedup_is same sorted kept filtered in
    let strict : IsStrictlySortedBy cmp (map key_of (dedup same sorted)) = strict-map cmp key_of (dedup same sorted) (IsStrictlySortedBy-dedup (on_total key_of order) told sorted ascending) in
    ap (map key_of) once
    ∙ same_from_ties order exact (map key_of (dedup same sorted)) (distinct_keys cmp (map key_of collected)) strict (sorted-distinct_keys order (map key_of collected)) (λ q.
    let tests : X → Bool = λ x. is_eq (cmp q (key_of x)) in
    list_any-map (λ k. is_eq (cmp q k)) key_of (dedup same sorted)
    ∙ any-dedup same tests (λ x y tied. ap (λ k. is_eq (cmp q k)) (exact (key_of x) (key_of y) (equal_from_test (cmp (key_of x) (key_of y)) (sym (told x y) ∙ tied)))) sorted
    ∙ sym (list_any-IsPermutation tests collected sorted moved)
    ∙ sym (list_any-map (λ k. is_eq (cmp q k)) key_of collected)
    ∙ sym (ties-distinct_keys order q (map key_of collected)))

-- ---- positions between fresh keys

-- each of some passed keys is below each of the keys that are left
abbrev pub ArePassed : {Key : Type 0} → (Key → Key → Ordering) → List Key → List Key → Type 0
ArePassed cmp passed left = AllByRecursion (λ other. AllByRecursion (λ key. cmp other key ≡ Less) left) passed

all-append : {X : Type 0} (P : X → Type 0) (xs ys : List X) → AllByRecursion P xs → AllByRecursion P ys → AllByRecursion P (xs ++ ys)
all-append P [] ys some more = more
all-append P (x ∷ xs) ys some more = (some.0, all-append P xs ys some.1 more)

take_on : {X : Type 0} (m n : ℕ) (xs : List X) → take (m + n) xs ≡ take m xs ++ take n (drop m xs)
take_on m n xs = take-add m n xs

-- as many of strictly ascending keys are below one as stand at the front and are below it
pub below_at_front : {Key : Type 0} {cmp : Key → Key → Ordering} → IsTotalOrder cmp → (key : Key) (keys : List Key) → IsStrictlySortedBy cmp keys → count_below cmp key keys ≡ prefix_len (λ other. is_lt (cmp other key)) keys
unfolding IsStrictlySortedBy
below_at_front order key [] sorted = refl
below_at_front {Key} {cmp} order key (first ∷ keys) sorted =
    let more = below-cons cmp key first keys in
    let counted : Ordering → ℕ = λ r. cond (is_lt r) 1 0 in
    let length_of : Ordering → ℕ = λ r. cond (is_lt r) (1 + prefix_len (λ other. is_lt (cmp other key)) keys) 0 in
    by_order (cmp first key)
    (λ less. omega (arith, more, below_at_front order key keys sorted.1, ap {B = ℕ} counted less, ap {B = ℕ} length_of less))
    (λ equal.
    let tied : cmp key first ≡ Equal = order.antisymm key first ∙ ap ordering_reverse equal in
    let above = all_implies (λ y. cmp first y ≡ Less) (λ y. cmp key y ≡ Less) (λ y later. order.congr key first y tied ∙ later) keys sorted.0 in
    omega (arith, more, none_below order key keys above, ap {B = ℕ} counted equal, ap {B = ℕ} length_of equal))
    (λ greater.
    let lower : cmp key first ≡ Less = order.antisymm key first ∙ ap ordering_reverse greater in
    let above = all_implies (λ y. cmp first y ≡ Less) (λ y. cmp key y ≡ Less) (λ y later. order.trans key first y lower later) keys sorted.0 in
    omega (arith, more, none_below order key keys above, ap {B = ℕ} counted greater, ap {B = ℕ} length_of greater))

-- those at the front that pass, and those of the rest at its front
prefix_on : {X : Type 0} (p : X → Bool) (n : ℕ) (xs : List X) → n ≤ length xs → AllByRecursion (λ x. p x ≡ true) (take n xs) → prefix_len p xs ≡ n + prefix_len p (drop n xs)
prefix_on p zero xs within all = omega arith
prefix_on p (suc n) [] within all = absurd (omega (arith, within))
prefix_on {X} p (suc n) (x ∷ xs) within all =
    ap (λ b. cond b (1 + prefix_len p xs) 0) all.0 ∙ omega (arith, prefix_on p n xs (omega (arith, within)) all.1)

-- those at the front that pass do
front_passes : {X : Type 0} (p : X → Bool) (xs : List X) → AllByRecursion (λ x. p x ≡ true) (take (prefix_len p xs) xs)
front_passes p [] = tt
front_passes {X} p (x ∷ xs) =
    by_test (p x)
    (λ passes. let n : prefix_len p (x ∷ xs) ≡ suc (prefix_len p xs) = ap {B = ℕ} (λ b. cond b (1 + prefix_len p xs) 0) passes ∙ omega arith in rw n (passes, front_passes p xs))
    (λ fails. let n : prefix_len p (x ∷ xs) ≡ 0 = ap {B = ℕ} (λ b. cond b (1 + prefix_len p xs) 0) fails in rw n tt)

sorted-drop : {Key : Type 0} (cmp : Key → Key → Ordering) (n : ℕ) (keys : List Key) → IsStrictlySortedBy cmp keys → IsStrictlySortedBy cmp (drop n keys)
unfolding IsStrictlySortedBy
sorted-drop cmp zero keys sorted = sorted
sorted-drop cmp (suc n) [] sorted = tt
sorted-drop cmp (suc n) (key ∷ keys) sorted = sorted-drop cmp n keys sorted.1

less_from_test : (r : Ordering) → is_lt r ≡ true → r ≡ Less
less_from_test Less test = refl
less_from_test Equal test = absurd (true≢false (sym test))
less_from_test Greater test = absurd (true≢false (sym test))

-- one key more: as many fresh keys are below it as were passed and are passed now, and those are below the keys that are left
pub passed_more : {Key : Type 0} {cmp : Key → Key → Ordering} → IsTotalOrder cmp → (keys fresh : List Key) (position before more : ℕ) (key : Key) → IsStrictlySortedBy cmp keys → IsStrictlySortedBy cmp fresh → drop position keys ≡ key ∷ drop (position + 1) keys → before ≤ length fresh → ArePassed cmp (take before fresh) (drop position keys) → more ≡ prefix_len (λ other. is_lt (cmp other key)) (drop before fresh)
    → (count_below cmp key fresh ≡ before + more) × ArePassed cmp (take (before + more) fresh) (drop (position + 1) keys)
unfolding IsStrictlySortedBy
passed_more {Key} {cmp} order keys fresh position before more key sorted sorted_fresh next within passed counted =
    let left = drop (position + 1) keys in
    let begun : ArePassed cmp (take before fresh) (key ∷ left) = rw next at passed in
    let own = all_implies (λ other. AllByRecursion (λ k. cmp other k ≡ Less) (key ∷ left)) (λ other. is_lt (cmp other key) ≡ true) (λ other all. ap is_lt all.0) (take before fresh) begun in
    let later = all_implies (λ other. AllByRecursion (λ k. cmp other k ≡ Less) (key ∷ left)) (λ other. AllByRecursion (λ k. cmp other k ≡ Less) left) (λ other all. all.1) (take before fresh) begun in
    let rest : IsStrictlySortedBy cmp (key ∷ left) = rw next at (sorted-drop cmp position keys sorted) in
    let front = all_implies (λ other. is_lt (cmp other key) ≡ true) (λ other. AllByRecursion (λ k. cmp other k ≡ Less) left)
    (λ other test. all_implies (λ k. cmp key k ≡ Less) (λ k. cmp other k ≡ Less) (λ k above. order.trans other key k (less_from_test (cmp other key) test) above) left rest.0)
    (take (prefix_len (λ other. is_lt (cmp other key)) (drop before fresh)) (drop before fresh)) (front_passes (λ other. is_lt (cmp other key)) (drop before fresh)) in (
      below_at_front order key fresh sorted_fresh ∙ prefix_on (λ other. is_lt (cmp other key)) before fresh within own ∙ ap (λ n. before + n) (sym counted),
      rw (take_on before more fresh, counted) (all-append (λ other. AllByRecursion (λ k. cmp other k ≡ Less) left) (take before fresh) _ later front),
    )

enumerate_push : {X : Type 0} (n : ℕ) (xs : List X) (x : X) → enumerate_from n (xs ++ x ∷ []) ≡ enumerate_from n xs ++ (n + length xs, x) ∷ []
enumerate_push n [] x = let same : n + 0 ≡ n = omega arith in rw same
enumerate_push {X} n (y ∷ ys) x =
    let same : n + 1 + length ys ≡ n + length (y ∷ ys) = omega arith in
    ap (λ zs. (n, y) ∷ zs) (enumerate_push (n + 1) ys x ∙ ap (λ m. enumerate_from (n + 1) ys ++ (m, x) ∷ []) same)

-- the position of one key more
pub position_more : (keys fresh : List Key) (key : Key) → new_positions (keys ++ key ∷ []) fresh ≡ new_positions keys fresh ++ (length keys + count_below key_cmp key fresh) ∷ []
position_more keys fresh key =
    let same : 0 + length keys ≡ length keys = omega arith in
    ap (map (new_position fresh)) (enumerate_push 0 keys key) ∙ map_push (new_position fresh) (enumerate_from 0 keys) (0 + length keys, key) ∙ ap (λ n. new_positions keys fresh ++ (n + count_below key_cmp key fresh) ∷ []) same

pub prefix_len-map : {X Y : Type 0} (p : Y → Bool) (f : X → Y) (xs : List X) → prefix_len p (map f xs) ≡ prefix_len (λ x. p (f x)) xs
prefix_len-map p f [] = refl
prefix_len-map p f (x ∷ xs) = ap (λ n. cond (p (f x)) (1 + n) 0) (prefix_len-map p f xs)

-- a step of the loop over the old keys
pub next_position : {X : Type 0} (key_of : X → Key) (keys : List Key) (xs : List X) (order pushed : List ℕ) (position before more : ℕ) (key : Key) (rest : List X) → IsStrictlySortedBy key_cmp keys → IsStrictlySortedBy key_cmp (map key_of xs) → rest ≡ drop before xs → position < length keys → key ≡ get_or keys position key → before ≤ length xs
    → order ≡ new_positions (take position keys) (map key_of xs) → ArePassed key_cmp (take before (map key_of xs)) (drop position keys) → more ≤ length rest → more ≡ prefix_len (λ x. is_lt (key_cmp (key_of x) key)) rest → pushed ≡ order ++ (position + (before + more)) ∷ []
    → (pushed ≡ new_positions (take (position + 1) keys) (map key_of xs)) × (before + more ≤ length xs) × ArePassed key_cmp (take (before + more) (map key_of xs)) (drop (position + 1) keys)
next_position {X} key_of keys xs order pushed position before more key rest sorted sorted_fresh left within is fits so_far passed few counted last =
    let fresh = map key_of xs in
    let next : drop position keys ≡ key ∷ drop (position + 1) keys = drop_more keys position key within ∙ ap (λ k. k ∷ drop (position + 1) keys) (sym is) in
    let taken : take (position + 1) keys ≡ take position keys ++ key ∷ [] = take_more keys position key within ∙ ap (λ k. take position keys ++ k ∷ []) (sym is) in
    let passes : Key → Bool = λ other. is_lt (key_cmp other key) in
    let counted_keys : more ≡ prefix_len passes (drop before fresh) = counted ∙ ap (prefix_len (λ x. is_lt (key_cmp (key_of x) key))) left ∙ sym (prefix_len-map passes key_of (drop before xs)) ∙ ap (prefix_len passes) (sym (drop-map key_of before xs)) in
    let step = passed_more key_cmp_total keys fresh position before more key sorted sorted_fresh next (omega (arith, fits, length-map xs key_of)) passed counted_keys in
    let place : length (take position keys) ≡ position = omega (arith, length-take position keys, within) in
    let moved : position + (before + more) ≡ length (take position keys) + count_below key_cmp key fresh = omega (arith, place, step.0) in (
      last ∙ ap (λ ys. ys ++ (position + (before + more)) ∷ []) so_far ∙ ap (λ n. new_positions (take position keys) fresh ++ n ∷ []) moved ∙ sym (position_more (take position keys) fresh key) ∙ ap (λ ks. new_positions ks fresh) (sym taken),
      omega (arith, few, fits, ap length left, length-drop before xs),
      step.1,
    )
