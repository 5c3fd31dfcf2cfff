-- Keys in ascending order: what `enter` and `ascending` keep, and that a strictly ascending list is known by its members.
use Rattle.std.proofs.Common.{◌≡◌, ℕ, zero, suc, ◌<◌, ◌≤◌, length, get_or, Bool, true, false, ◌||◌, ◌↔◌, cond, List, [], ◌∷◌, ◌++◌, map, refl, sym, ap, ◌∙◌, arith}
use Rattle.std.proofs.lemmas.Bool.{true≢false}
use Rattle.std.specs.List.{list_any, AllByRecursion, All, Contains, insert}
use Rattle.std.specs.List.Sorted.{IsStrictlySortedBy, IsPermutation}
use Rattle.std.specs.Cmp.{IsTotalOrder, both_ways, eq_by_cmp_equiv}
use Rattle.std.specs.Ordering.{ordering_reverse, is_eq, is_lt}
use Rattle.std.specs.declared.cmp.Ordering.{Ordering}
use Rattle.std.specs.declared.cmp.Ordering.TheVariants.{Less, Equal, Greater}
use Rattle.std.proofs.lemmas.Cmp.{tied_itself, tied_back, alike_right}
use Rattle.std.specs.FinMap.{IsAntisymmetric}
use Rattle.std.proofs.lemmas.List.Sorted.{list_any-IsPermutation, IsPermutation-to_front}
use Rattle.std.proofs.lemmas.List.Elements.{Contains-get_or, recursion_from_All, All-from_recursion}
use Rattle.std.proofs.lemmas.List.Folds.{list_any-append}
use Rattle.std.proofs.lemmas.List.{map-id}
use Rattle.std.proofs.lemmas.Map.Views.{Contains-from_any, list_any-from_Contains}
use Rattle.xf_model.specs.Group.{with_key, distinct_keys, rounded_keys}

-- the three answers of a comparison, each with its equation
pub by_order : {P : Type 0} (r : Ordering) → (r ≡ Less → P) → (r ≡ Equal → P) → (r ≡ Greater → P) → P
by_order Less less equal greater = less refl
by_order Equal less equal greater = equal refl
by_order Greater less equal greater = greater refl

-- what holds of each element goes over to what follows from it
pub all_implies : {X : Type 0} (P Q : X → Type 0) → ((x : X) → P x → Q x) → (xs : List X) → AllByRecursion P xs → AllByRecursion Q xs
all_implies P Q step [] all = tt
all_implies P Q step (x ∷ xs) all = (step x all.0, all_implies P Q step xs all.1)

-- a key below the first goes before it
with_key_below : {Key : Type 0} (cmp : Key → Key → Ordering) (key x : Key) (xs : List Key) → cmp key x ≡ Less → with_key cmp key (x ∷ xs) ≡ key ∷ x ∷ xs
with_key_below cmp key x xs less = rw less

-- a key above the first goes among the rest
with_key_above : {Key : Type 0} {cmp : Key → Key → Ordering} → IsTotalOrder cmp → (key x : Key) (xs : List Key) → cmp key x ≡ Greater → with_key cmp key (x ∷ xs) ≡ x ∷ with_key cmp key xs
with_key_above {Key} {cmp} order key x xs greater =
    let less : cmp x key ≡ Less = order.antisymm x key ∙ ap ordering_reverse greater in
    rw (greater, less)

-- a key that ties with the first changes nothing
with_key_tied : {Key : Type 0} {cmp : Key → Key → Ordering} → IsTotalOrder cmp → (key x : Key) (xs : List Key) → cmp key x ≡ Equal → with_key cmp key (x ∷ xs) ≡ x ∷ xs
with_key_tied {Key} {cmp} order key x xs equal =
    let back : cmp x key ≡ Equal = tied_back order key x equal in
    rw (equal, back)

-- what holds of a key and of each of a list holds of each key once it has entered
pub all-with_key : {Key : Type 0} (cmp : Key → Key → Ordering) (P : Key → Type 0) (key : Key) (xs : List Key) → P key → AllByRecursion P xs → AllByRecursion P (with_key cmp key xs)
all-with_key cmp P key [] here all = (here, tt)
all-with_key cmp P key (x ∷ xs) here all =
    elim (is_lt (cmp key x)) as (λ a. AllByRecursion P (cond a (key ∷ x ∷ xs) (cond (is_lt (cmp x key)) (x ∷ with_key cmp key xs) (x ∷ xs)))) [
      | true ↦ (here, all)
      | false ↦ elim (is_lt (cmp x key)) as (λ b. AllByRecursion P (cond b (x ∷ with_key cmp key xs) (x ∷ xs))) [
        | true ↦ (all.0, all-with_key cmp P key xs here all.1)
        | false ↦ all
      ]
    ]

-- what holds of each key of a list holds of each of its ascending keys
pub all-distinct_keys : {Key : Type 0} (cmp : Key → Key → Ordering) (P : Key → Type 0) (keys : List Key) → AllByRecursion P keys → AllByRecursion P (distinct_keys cmp keys)
all-distinct_keys cmp P [] all = tt
all-distinct_keys cmp P (key ∷ keys) all = all-with_key cmp P key (distinct_keys cmp keys) all.0 (all-distinct_keys cmp P keys all.1)

-- strictly ascending keys stay so with one key more
pub sorted-with_key : {Key : Type 0} {cmp : Key → Key → Ordering} → IsTotalOrder cmp → (key : Key) (xs : List Key) → IsStrictlySortedBy cmp xs → IsStrictlySortedBy cmp (with_key cmp key xs)
unfolding IsStrictlySortedBy
sorted-with_key order key [] sorted = (tt, tt)
sorted-with_key {Key} {cmp} order key (x ∷ xs) sorted =
    by_order (cmp key x)
    (λ less. rw (with_key_below cmp key x xs less) ((less, all_implies (λ y. cmp x y ≡ Less) (λ y. cmp key y ≡ Less) (λ y later. order.trans key x y less later) xs sorted.0), sorted))
    (λ equal. rw (with_key_tied order key x xs equal) sorted)
    (λ greater. rw (with_key_above order key x xs greater)
    (all-with_key cmp (λ y. cmp x y ≡ Less) key xs (order.antisymm x key ∙ ap ordering_reverse greater) sorted.0, sorted-with_key order key xs sorted.1))

-- the ascending keys of a list ascend strictly
pub sorted-distinct_keys : {Key : Type 0} {cmp : Key → Key → Ordering} → IsTotalOrder cmp → (keys : List Key) → IsStrictlySortedBy cmp (distinct_keys cmp keys)
unfolding IsStrictlySortedBy
sorted-distinct_keys order [] = tt
sorted-distinct_keys {Key} {cmp} order (key ∷ keys) = sorted-with_key order key (distinct_keys cmp keys) (sorted-distinct_keys order keys)

or_twice : (a b : Bool) → (a || b) ≡ (a || (a || b))
or_twice true b = refl
or_twice false b = refl

or_swap : (a b c : Bool) → (a || (b || c)) ≡ (b || (a || c))
or_swap true true c = refl
or_swap true false c = refl
or_swap false b c = refl

-- a test that ties pass alike: some key passes it once a key has entered, where that key or one before does
pub list_any-with_key : {Key : Type 0} {cmp : Key → Key → Ordering} → IsTotalOrder cmp → (test : Key → Bool) → ((a b : Key) → cmp a b ≡ Equal → test a ≡ test b) → (key : Key) (xs : List Key) → list_any test (with_key cmp key xs) ≡ (test key || list_any test xs)
list_any-with_key order test alike key [] = refl
list_any-with_key {Key} {cmp} order test alike key (x ∷ xs) =
    by_order (cmp key x)
    (λ less. ap (list_any test) (with_key_below cmp key x xs less))
    (λ equal. ap (list_any test) (with_key_tied order key x xs equal) ∙ or_twice (test x) (list_any test xs) ∙ ap (λ b. b || (test x || list_any test xs)) (sym (alike key x equal)))
    (λ greater. ap (list_any test) (with_key_above order key x xs greater) ∙ ap (λ b. test x || b) (list_any-with_key order test alike key xs) ∙ or_swap (test x) (test key) (list_any test xs))

-- a test that ties pass alike: some ascending key passes it where some key of the list does
pub list_any-distinct_keys : {Key : Type 0} {cmp : Key → Key → Ordering} → IsTotalOrder cmp → (test : Key → Bool) → ((a b : Key) → cmp a b ≡ Equal → test a ≡ test b) → (keys : List Key) → list_any test (distinct_keys cmp keys) ≡ list_any test keys
list_any-distinct_keys order test alike [] = refl
list_any-distinct_keys {Key} {cmp} order test alike (key ∷ keys) =
    list_any-with_key order test alike key (distinct_keys cmp keys) ∙ ap (λ b. test key || b) (list_any-distinct_keys order test alike keys)

-- a key ties with an ascending key where it ties with a key of the list
pub ties-distinct_keys : {Key : Type 0} {cmp : Key → Key → Ordering} → IsTotalOrder cmp → (key : Key) (keys : List Key) → list_any (λ own. is_eq (cmp key own)) (distinct_keys cmp keys) ≡ list_any (λ own. is_eq (cmp key own)) keys
ties-distinct_keys {Key} {cmp} order key keys = list_any-distinct_keys order (λ own. is_eq (cmp key own)) (λ a b tied. ap is_eq (alike_right order a b key tied)) keys

-- a key below all of a list ties with none of it
below_none : {Key : Type 0} (cmp : Key → Key → Ordering) (key : Key) (xs : List Key) → AllByRecursion (λ y. cmp key y ≡ Less) xs → list_any (λ own. is_eq (cmp key own)) xs ≡ false
below_none cmp key [] below = refl
below_none cmp key (x ∷ xs) below = rw below.0 (below_none cmp key xs below.1)

equal_from_test : (r : Ordering) → is_eq r ≡ true → r ≡ Equal
equal_from_test Less test = absurd (true≢false (sym test))
equal_from_test Equal test = refl
equal_from_test Greater test = absurd (true≢false (sym test))

-- neither does a key that ties with one below all of a list
tied_none : {Key : Type 0} {cmp : Key → Key → Ordering} → IsTotalOrder cmp → (q key : Key) (xs : List Key) → is_eq (cmp q key) ≡ true → AllByRecursion (λ y. cmp key y ≡ Less) xs → list_any (λ own. is_eq (cmp q own)) xs ≡ false
tied_none {Key} {cmp} order q key xs tied below =
    below_none cmp q xs (all_implies (λ y. cmp key y ≡ Less) (λ y. cmp q y ≡ Less) (λ y less. order.congr q key y (equal_from_test (cmp q key) tied) ∙ less) xs below)

-- nor one below the first of ascending keys
above_none : {Key : Type 0} {cmp : Key → Key → Ordering} → IsTotalOrder cmp → (q key : Key) (xs : List Key) → cmp q key ≡ Less → AllByRecursion (λ y. cmp key y ≡ Less) xs → list_any (λ own. is_eq (cmp q own)) (key ∷ xs) ≡ false
above_none {Key} {cmp} order q key xs less below =
    below_none cmp q (key ∷ xs) (less, all_implies (λ y. cmp key y ≡ Less) (λ y. cmp q y ≡ Less) (λ y later. order.trans q key y less later) xs below)

-- a key ties with itself, so that it is among a list that it begins
itself : {Key : Type 0} {cmp : Key → Key → Ordering} → IsTotalOrder cmp → (key : Key) (xs : List Key) → list_any (λ own. is_eq (cmp key own)) (key ∷ xs) ≡ true
itself {Key} {cmp} order key xs = ap (λ r. is_eq r || list_any (λ own. is_eq (cmp key own)) xs) (tied_itself order key)

drop_both : (a b c : Bool) → (a ≡ true → b ≡ false) → (a ≡ true → c ≡ false) → (a || b) ≡ (a || c) → b ≡ c
drop_both true b c no_b no_c same = no_b refl ∙ sym (no_c refl)
drop_both false b c no_b no_c same = same

-- two strictly ascending lists are one where each key ties with a key of both or of neither
pub same_from_ties : {Key : Type 0} {cmp : Key → Key → Ordering} → IsTotalOrder cmp → IsAntisymmetric cmp → (xs ys : List Key) → IsStrictlySortedBy cmp xs → IsStrictlySortedBy cmp ys → ((q : Key) → list_any (λ own. is_eq (cmp q own)) xs ≡ list_any (λ own. is_eq (cmp q own)) ys) → xs ≡ ys
unfolding IsStrictlySortedBy
same_from_ties order exact [] [] up_xs up_ys same = refl
same_from_ties order exact [] (y ∷ ys) up_xs up_ys same = absurd (true≢false (sym (itself order y ys) ∙ sym (same y)))
same_from_ties order exact (x ∷ xs) [] up_xs up_ys same = absurd (true≢false (sym (itself order x xs) ∙ same x))
same_from_ties {Key} {cmp} order exact (x ∷ xs) (y ∷ ys) up_xs up_ys same =
    by_order (cmp x y)
    (λ less. absurd (true≢false (sym (itself order x xs) ∙ same x ∙ above_none order x y ys less up_ys.0)))
    (λ equal.
    let first : x ≡ y = exact x y equal in
    let rest : xs ≡ ys = same_from_ties order exact xs ys up_xs.1 up_ys.1 (λ q.
    let tie : is_eq (cmp q x) ≡ is_eq (cmp q y) = ap (λ z. is_eq (cmp q z)) first in
    drop_both (is_eq (cmp q x)) (list_any (λ own. is_eq (cmp q own)) xs) (list_any (λ own. is_eq (cmp q own)) ys)
    (λ tied. tied_none order q x xs tied up_xs.0)
    (λ tied. tied_none order q y ys (sym tie ∙ tied) up_ys.0)
    (same q ∙ ap (λ b. b || list_any (λ own. is_eq (cmp q own)) ys) (sym tie))) in
    cc)
    (λ greater. absurd (true≢false (sym (itself order y ys) ∙ sym (same y) ∙ above_none order y x xs (order.antisymm y x ∙ ap ordering_reverse greater) up_xs.0)))

-- lists whose keys tie alike have the same ascending keys
pub same_ascending : {Key : Type 0} {cmp : Key → Key → Ordering} → IsTotalOrder cmp → IsAntisymmetric cmp → (xs ys : List Key) → ((q : Key) → list_any (λ own. is_eq (cmp q own)) xs ≡ list_any (λ own. is_eq (cmp q own)) ys) → distinct_keys cmp xs ≡ distinct_keys cmp ys
same_ascending {Key} {cmp} order exact xs ys same =
    same_from_ties order exact (distinct_keys cmp xs) (distinct_keys cmp ys) (sorted-distinct_keys order xs) (sorted-distinct_keys order ys) (λ q. ties-distinct_keys order q xs ∙ same q ∙ sym (ties-distinct_keys order q ys))

-- a list and the same in another order have the same ascending keys
pub distinct_keys-IsPermutation : {Key : Type 0} {cmp : Key → Key → Ordering} → IsTotalOrder cmp → IsAntisymmetric cmp → (xs ys : List Key) → IsPermutation xs ys → distinct_keys cmp xs ≡ distinct_keys cmp ys
distinct_keys-IsPermutation {Key} {cmp} order exact xs ys moved =
    same_ascending order exact xs ys (λ q. list_any-IsPermutation (λ own. is_eq (cmp q own)) xs ys moved)

pub with_key_least : {Key : Type 0} (cmp : Key → Key → Ordering) (key : Key) (xs : List Key) → AllByRecursion (λ y. cmp key y ≡ Less) xs → with_key cmp key xs ≡ key ∷ xs
with_key_least cmp key [] below = refl
with_key_least cmp key (x ∷ xs) below = with_key_below cmp key x xs below.0

-- a strictly ascending list is its own ascending keys
pub distinct_keys-sorted : {Key : Type 0} (cmp : Key → Key → Ordering) (keys : List Key) → IsStrictlySortedBy cmp keys → distinct_keys cmp keys ≡ keys
unfolding IsStrictlySortedBy
distinct_keys-sorted cmp [] up = refl
distinct_keys-sorted cmp (key ∷ keys) up = ap (with_key cmp key) (distinct_keys-sorted cmp keys up.1) ∙ with_key_least cmp key keys up.0

-- each ascending key is a key of the list
pub Contains-distinct_keys : {Key : Type 0} (cmp : Key → Key → Ordering) (keys : List Key) → All (Contains keys) (distinct_keys cmp keys)
Contains-distinct_keys cmp keys =
    All-from_recursion (Contains keys) (distinct_keys cmp keys) (all-distinct_keys cmp (Contains keys) keys (recursion_from_All (Contains keys) keys (λ k d within. Contains-get_or keys k d within)))

map_choice : {X Y : Type 0} (f : X → Y) (a b : Bool) (p q r : List X) → cond a (map f p) (cond b (map f q) (map f r)) ≡ map f (cond a p (cond b q r))
map_choice f true b p q r = refl
map_choice f false true p q r = refl
map_choice f false false p q r = refl

-- a key enters the images under an order-embedding as it enters the keys
pub with_key-map : {Key Other : Type 0} (cmp : Key → Key → Ordering) (other : Other → Other → Ordering) (f : Key → Other) → ((a b : Key) → other (f a) (f b) ≡ cmp a b) → (key : Key) (xs : List Key) → with_key other (f key) (map f xs) ≡ map f (with_key cmp key xs)
with_key-map cmp other f embeds key [] = refl
with_key-map cmp other f embeds key (x ∷ xs) =
    rw (embeds key x, embeds x key, with_key-map cmp other f embeds key xs) (map_choice f (is_lt (cmp key x)) (is_lt (cmp x key)) (key ∷ x ∷ xs) (x ∷ with_key cmp key xs) (x ∷ xs))

-- the ascending keys of the images under an order-embedding are the images of the ascending keys
pub distinct_keys-map : {Key Other : Type 0} (cmp : Key → Key → Ordering) (other : Other → Other → Ordering) (f : Key → Other) → ((a b : Key) → other (f a) (f b) ≡ cmp a b) → (keys : List Key) → distinct_keys other (map f keys) ≡ map f (distinct_keys cmp keys)
distinct_keys-map cmp other f embeds [] = refl
distinct_keys-map cmp other f embeds (key ∷ keys) = ap (with_key other (f key)) (distinct_keys-map cmp other f embeds keys) ∙ with_key-map cmp other f embeds key (distinct_keys cmp keys)

-- a key that ties with the first that is not below it changes nothing
pub with_key_present : {Key : Type 0} {cmp : Key → Key → Ordering} → IsTotalOrder cmp → (key : Key) (keys : List Key) (n : ℕ) (d : Key) → ((k : ℕ) → k < n → cmp (get_or keys k d) key ≡ Less) → n < length keys → cmp (get_or keys n d) key ≡ Equal → with_key cmp key keys ≡ keys
with_key_present order key [] n d below within tied = absurd (omega arith)
with_key_present {Key} {cmp} order key (x ∷ xs) zero d below within tied = with_key_tied order key x xs (tied_back order x key tied)
with_key_present {Key} {cmp} order key (x ∷ xs) (suc n) d below within tied =
    with_key_above order key x xs (order.antisymm key x ∙ ap ordering_reverse (below 0 (omega arith)))
    ∙ ap (λ rest. x ∷ rest) (with_key_present order key xs n d (λ k early. below (suc k) (omega arith)) (omega arith) tied)

-- a key goes before the first that is above it, where those before that are below it
pub with_key_absent : {Key : Type 0} {cmp : Key → Key → Ordering} → IsTotalOrder cmp → (key : Key) (keys : List Key) (n : ℕ) (d : Key) → ((k : ℕ) → k < n → cmp (get_or keys k d) key ≡ Less) → n ≤ length keys → (n < length keys → cmp (get_or keys n d) key ≡ Greater) → with_key cmp key keys ≡ insert keys n key
with_key_absent order key [] n d below within above = let none : n ≡ 0 = omega arith in rw none
with_key_absent {Key} {cmp} order key (x ∷ xs) zero d below within above =
    with_key_below cmp key x xs (order.antisymm key x ∙ ap ordering_reverse (above (omega arith)))
with_key_absent {Key} {cmp} order key (x ∷ xs) (suc n) d below within above =
    with_key_above order key x xs (order.antisymm key x ∙ ap ordering_reverse (below 0 (omega arith)))
    ∙ ap (λ rest. x ∷ rest) (with_key_absent order key xs n d (λ k early. below (suc k) (omega arith)) (omega arith) (λ more. above (omega arith)))

-- one key more at the end of a list enters among its ascending keys
pub ascending_push : {Key : Type 0} {cmp : Key → Key → Ordering} → IsTotalOrder cmp → IsAntisymmetric cmp → (keys : List Key) (key : Key) → distinct_keys cmp (keys ++ key ∷ []) ≡ with_key cmp key (distinct_keys cmp keys)
ascending_push {Key} {cmp} order exact keys key = distinct_keys-IsPermutation order exact (keys ++ key ∷ []) (key ∷ keys) (IsPermutation-to_front keys key)

-- the ascending keys of lists that are joined are those of their ascending keys
pub distinct_keys-append : {Key : Type 0} {cmp : Key → Key → Ordering} → IsTotalOrder cmp → IsAntisymmetric cmp → (xs ys : List Key) → distinct_keys cmp (xs ++ ys) ≡ distinct_keys cmp (distinct_keys cmp xs ++ distinct_keys cmp ys)
distinct_keys-append {Key} {cmp} order exact xs ys =
    same_ascending order exact (xs ++ ys) (distinct_keys cmp xs ++ distinct_keys cmp ys) (λ q.
    list_any-append (λ own. is_eq (cmp q own)) xs ys
    ∙ ap (λ b. b || list_any (λ own. is_eq (cmp q own)) ys) (sym (ties-distinct_keys order q xs))
    ∙ ap (λ b. list_any (λ own. is_eq (cmp q own)) (distinct_keys cmp xs) || b) (sym (ties-distinct_keys order q ys))
    ∙ sym (list_any-append (λ own. is_eq (cmp q own)) (distinct_keys cmp xs) (distinct_keys cmp ys)))

-- the same keys are in a list and among its ascending keys
pub Contains-distinct_keys_iff : {Key : Type 0} {cmp : Key → Key → Ordering} → IsTotalOrder cmp → IsAntisymmetric cmp → (keys : List Key) (key : Key) → Contains (distinct_keys cmp keys) key ↔ Contains keys key
Contains-distinct_keys_iff {Key} {cmp} order exact keys key =
    let told : (x y : Key) → is_eq (cmp x y) ≡ true → x ≡ y = λ x y test. exact x y (equal_from_test (cmp x y) test) in (
      λ there. Contains-from_any told key keys (sym (ties-distinct_keys order key keys) ∙ list_any-from_Contains (eq_by_cmp_equiv order) key (distinct_keys cmp keys) there),
      λ there. Contains-from_any told key (distinct_keys cmp keys) (ties-distinct_keys order key keys ∙ list_any-from_Contains (eq_by_cmp_equiv order) key keys there),
    )

-- two strictly ascending lists with the same members are one
pub same_from_members : {Key : Type 0} {cmp : Key → Key → Ordering} → IsTotalOrder cmp → IsAntisymmetric cmp → (xs ys : List Key) → IsStrictlySortedBy cmp xs → IsStrictlySortedBy cmp ys → ((key : Key) → Contains xs key ↔ Contains ys key) → xs ≡ ys
same_from_members {Key} {cmp} order exact xs ys up_xs up_ys same =
    let told : (x y : Key) → is_eq (cmp x y) ≡ true → x ≡ y = λ x y test. exact x y (equal_from_test (cmp x y) test) in
    same_from_ties order exact xs ys up_xs up_ys (λ q.
    both_ways (list_any (λ own. is_eq (cmp q own)) xs) (list_any (λ own. is_eq (cmp q own)) ys)
    (λ found. list_any-from_Contains (eq_by_cmp_equiv order) q ys ((same q).0 (Contains-from_any told q xs found)))
    (λ found. list_any-from_Contains (eq_by_cmp_equiv order) q xs ((same q).1 (Contains-from_any told q ys found))))

-- a strictly ascending list with the members of another is that one's ascending keys
pub distinct_keys-from_members : {Key : Type 0} {cmp : Key → Key → Ordering} → IsTotalOrder cmp → IsAntisymmetric cmp → (keys found : List Key) → IsStrictlySortedBy cmp found → ((key : Key) → Contains found key ↔ Contains keys key) → found ≡ distinct_keys cmp keys
distinct_keys-from_members {Key} {cmp} order exact keys found sorted same =
    same_from_members order exact found (distinct_keys cmp keys) sorted (sorted-distinct_keys order keys) (λ key.
    let own = Contains-distinct_keys_iff order exact keys key in
    (λ there. own.1 ((same key).0 there), λ there. (same key).1 (own.0 there)))

-- a strictly ascending list that has the keys of another in some order is that one's ascending keys
pub distinct_keys-from_permutation : {Key : Type 0} {cmp : Key → Key → Ordering} → IsTotalOrder cmp → IsAntisymmetric cmp → (keys found : List Key) → IsStrictlySortedBy cmp found → IsPermutation keys found → found ≡ distinct_keys cmp keys
distinct_keys-from_permutation {Key} {cmp} order exact keys found sorted moved =
    sym (distinct_keys-sorted cmp found sorted) ∙ sym (distinct_keys-IsPermutation order exact keys found moved)

-- a rounding that gives each key back leaves strictly ascending keys as they are
pub rounded_keys-same : {Row Key : Type 0} (cmp : Key → Key → Ordering) (keys : Row → List Key) (row : Row) → IsStrictlySortedBy cmp (keys row) → rounded_keys cmp (λ key. key) keys row ≡ keys row
rounded_keys-same cmp keys row sorted = ap (distinct_keys cmp) (map-id (keys row)) ∙ distinct_keys-sorted cmp (keys row) sorted
