-- Ascending keys that differ: where each stands, and that a sort brings keys that differ into that order.
use Rattle.std.proofs.Common.{◌≡◌, ℕ, zero, suc, ◌+◌, ◌<◌, ◌≤◌, Bool, true, false, ◌||◌, cond, List, [], ◌∷◌, ◌++◌, map, length, get_or, Some, slice_get, refl, sym, ap, ◌∙◌, arith}
use Rattle.std.proofs.lemmas.Bool.{true≢false, or_parts}
use Rattle.std.proofs.lemmas.Cmp.{tied_itself, tied_back}
use Rattle.std.proofs.lemmas.List.Elements.{recursion_from_All}
use Rattle.std.proofs.lemmas.List.Folds.{list_any-append}
use Rattle.std.proofs.lemmas.List.Sums.{sum_by-append, sum_by-cons}
use Rattle.std.proofs.lemmas.List.Sorted.{list_any-IsPermutation, ranks_by, sorted_far, sum_by-IsPermutation}
use Rattle.std.proofs.lemmas.Option.{none-some, same_Some}
use Rattle.std.specs.Cmp.{IsTotalOrder}
use Rattle.std.specs.FinMap.{IsAntisymmetric}
use Rattle.std.specs.List.{AllByRecursion, count_by}
use Rattle.std.specs.List.Sorted.{IsPermutation, IsSortedByKey, IsStrictlySortedBy}
use Rattle.std.specs.Ordering.{is_eq, is_lt, ordering_reverse}
use Rattle.std.specs.declared.cmp.Ordering.{Ordering}
use Rattle.std.specs.declared.cmp.Ordering.TheVariants.{Less}
use Rattle.xf_group.specs.Fresh.{count_below}
use Rattle.xf_model.specs.Laws.{is_among}
use Rattle.xf_model.proofs.AscendingKeys.{all_implies, by_order}

-- a test passes or fails, with the equation
pub by_test : {P : Type 0} (b : Bool) → (b ≡ true → P) → (b ≡ false → P) → P
by_test true passes fails = passes refl
by_test false passes fails = fails refl

-- ---- keys of which none tie

-- how many of a list tie with one
abbrev pub ties_with : {Key : Type 0} → (Key → Key → Ordering) → Key → List Key → ℕ
ties_with cmp one keys = count_by (λ key. is_eq (cmp one key)) keys

-- nothing ties with more than one of a list
abbrev pub AtMostOnce : {Key : Type 0} → (Key → Key → Ordering) → List Key → Type 0
AtMostOnce {Key} cmp keys = (one : Key) → ties_with cmp one keys ≤ 1

ties-cons : {Key : Type 0} (cmp : Key → Key → Ordering) (one key : Key) (keys : List Key) → ties_with cmp one (key ∷ keys) ≡ cond (is_eq (cmp one key)) 1 0 + ties_with cmp one keys
ties-cons cmp one key keys = sum_by-cons (λ other. cond (is_eq (cmp one other)) 1 0) key keys

-- a key that is not among a list ties with none of it
ties_none : {Key : Type 0} (cmp : Key → Key → Ordering) (one : Key) (keys : List Key) → is_among cmp keys one ≡ false → ties_with cmp one keys ≡ 0
ties_none cmp one [] none = refl
ties_none cmp one (key ∷ keys) none =
    let parts = or_parts (is_eq (cmp one key)) (is_among cmp keys one) none in
    omega (arith, ties-cons cmp one key keys, ap {B = ℕ} (λ b. cond b 1 0) parts.0, ties_none cmp one keys parts.1)

-- a key that ties with none of a list differs from each
no_ties : {Key : Type 0} (cmp : Key → Key → Ordering) (one : Key) (keys : List Key) → ties_with cmp one keys ≡ 0 → AllByRecursion (λ key. is_eq (cmp one key) ≡ false) keys
no_ties cmp one [] none = tt
no_ties {Key} cmp one (key ∷ keys) none = (first (is_eq (cmp one key)) (sym (ties-cons cmp one key keys) ∙ none), no_ties cmp one keys (omega (arith, ties-cons cmp one key keys)))
  where
    first : (tied : Bool) → cond tied 1 0 + ties_with cmp one keys ≡ 0 → tied ≡ false
    first true some = absurd (omega (arith, some))
    first false some = refl

-- a key that is below each of a list ties with none of it
below_ties_none : {Key : Type 0} (cmp : Key → Key → Ordering) (one : Key) (keys : List Key) → AllByRecursion (λ key. cmp one key ≡ Less) keys → ties_with cmp one keys ≡ 0
below_ties_none cmp one [] below = refl
below_ties_none cmp one (key ∷ keys) below =
    omega (arith, ties-cons cmp one key keys, ap {B = ℕ} (λ r. cond (is_eq r) 1 0) below.0, below_ties_none cmp one keys below.1)

-- nor is it among it
pub below_not_among : {Key : Type 0} (cmp : Key → Key → Ordering) (one : Key) (keys : List Key) → AllByRecursion (λ key. cmp one key ≡ Less) keys → is_among cmp keys one ≡ false
below_not_among cmp one [] below = refl
below_not_among cmp one (key ∷ keys) below = rw below.0 (below_not_among cmp one keys below.1)

at_most_one : (b : Bool) → cond b 1 0 ≤ 1
at_most_one true = omega arith
at_most_one false = omega arith

-- keys that ascend strictly differ
pub once_from_strict : {Key : Type 0} {cmp : Key → Key → Ordering} → IsTotalOrder cmp → (keys : List Key) → IsStrictlySortedBy cmp keys → AtMostOnce cmp keys
unfolding IsStrictlySortedBy
once_from_strict order [] sorted one = omega arith
once_from_strict {Key} {cmp} order (key ∷ keys) sorted one =
    let more = ties-cons cmp one key keys in
    let rest = once_from_strict order keys sorted.1 one in
    let tied : Ordering → ℕ = λ r. cond (is_eq r) 1 0 in
    by_order (cmp one key)
    (λ less. omega (arith, more, ap {B = ℕ} tied less, rest))
    (λ equal.
    let none = below_ties_none cmp one keys (all_implies (λ y. cmp key y ≡ Less) (λ y. cmp one y ≡ Less) (λ y less. order.congr one key y equal ∙ less) keys sorted.0) in
    omega (arith, more, none, at_most_one (is_eq (cmp one key))))
    (λ greater. omega (arith, more, ap {B = ℕ} tied greater, rest))

-- so do those of two such lists of which no key of one is among the other
pub once_joined : {Key : Type 0} {cmp : Key → Key → Ordering} → IsTotalOrder cmp → (keys fresh : List Key) → IsStrictlySortedBy cmp keys → IsStrictlySortedBy cmp fresh → ((key : Key) → is_among cmp keys key ≡ true → is_among cmp fresh key ≡ false) → AtMostOnce cmp (keys ++ fresh)
once_joined {Key} {cmp} order keys fresh sorted sorted_fresh apart one =
    let more = sum_by-append (λ other. cond (is_eq (cmp one other)) 1 0) keys fresh in
    by_test (is_among cmp keys one)
    (λ here. omega (arith, more, once_from_strict order keys sorted one, ties_none cmp one fresh (apart one here)))
    (λ none. omega (arith, more, once_from_strict order fresh sorted_fresh one, ties_none cmp one keys none))

-- ---- a sort of keys that differ

-- no later key is below an earlier one
abbrev IsRising : {Key : Type 0} → (Key → Key → Ordering) → List Key → Type 0
IsRising cmp [] = Unit {0}
IsRising cmp (key ∷ keys) = AllByRecursion (λ later. is_lt (cmp later key) ≡ false) keys × IsRising cmp keys

all_mapped : {X Y : Type 0} (P : Y → Type 0) (f : X → Y) (xs : List X) → AllByRecursion (λ x. P (f x)) xs → AllByRecursion P (map f xs)
all_mapped P f [] all = tt
all_mapped P f (x ∷ xs) all = (all.0, all_mapped P f xs all.1)

rising_from_places : {X Key : Type 0} (cmp : Key → Key → Ordering) (key_of : X → Key) (xs : List X) → ((i j : ℕ) (d : X) → i ≤ j → j < length xs → is_lt (cmp (key_of (get_or xs j d)) (key_of (get_or xs i d))) ≡ false) → IsRising cmp (map key_of xs)
rising_from_places cmp key_of [] places = tt
rising_from_places {X} {Key} cmp key_of (x ∷ xs) places = (
  all_mapped (λ later. is_lt (cmp later (key_of x)) ≡ false) key_of xs (recursion_from_All (λ later. is_lt (cmp (key_of later) (key_of x)) ≡ false) xs (λ k d within. places 0 (suc k) d (omega arith) (omega arith))),
  rising_from_places cmp key_of xs (λ i j d le within. places (suc i) (suc j) d (omega arith) (omega arith)),
)

both : {X : Type 0} (P Q R : X → Type 0) → ((x : X) → P x → Q x → R x) → (xs : List X) → AllByRecursion P xs → AllByRecursion Q xs → AllByRecursion R xs
both P Q R step [] ps qs = tt
both P Q R step (x ∷ xs) ps qs = (step x ps.0 qs.0, both P Q R step xs ps.1 qs.1)

strict_from_rising : {Key : Type 0} {cmp : Key → Key → Ordering} → IsTotalOrder cmp → (keys : List Key) → IsRising cmp keys → AtMostOnce cmp keys → IsStrictlySortedBy cmp keys
unfolding IsStrictlySortedBy
strict_from_rising order [] rising once = tt
strict_from_rising {Key} {cmp} order (key ∷ keys) rising once =
    let own : is_eq (cmp key key) ≡ true = ap is_eq (tied_itself order key) in
    let none : ties_with cmp key keys ≡ 0 = omega (arith, once key, ties-cons cmp key key keys, ap {B = ℕ} (λ b. cond b 1 0) own) in (
      both (λ y. is_lt (cmp y key) ≡ false) (λ y. is_eq (cmp key y) ≡ false) (λ y. cmp key y ≡ Less)
          (λ y no_less no_tie. by_order (cmp key y)
          (λ less. less)
          (λ equal. absurd (true≢false (sym (ap is_eq equal) ∙ no_tie)))
          (λ greater. absurd (true≢false (sym (ap is_lt (order.antisymm y key ∙ ap ordering_reverse greater)) ∙ no_less))))
          keys rising.0 (no_ties cmp key keys none),
      strict_from_rising order keys rising.1 (λ one. omega (arith, once one, ties-cons cmp one key keys)),
    )

-- a sort by keys that differ leaves them strictly ascending
pub strict_from_sort : {X Key : Type 0} {cmp : Key → Key → Ordering} → IsTotalOrder cmp → (key_of : X → Key) (xs : List X) → IsSortedByKey key_of cmp xs → AtMostOnce cmp (map key_of xs) → IsStrictlySortedBy cmp (map key_of xs)
strict_from_sort {X} {Key} {cmp} order key_of xs sorted once =
    strict_from_rising order (map key_of xs) (rising_from_places cmp key_of xs (sorted_far (λ a b. is_lt (cmp (key_of a) (key_of b))) (ranks_by order key_of) xs sorted)) once

-- ---- where a key stands

pub below-cons : {Key : Type 0} (cmp : Key → Key → Ordering) (one key : Key) (keys : List Key) → count_below cmp one (key ∷ keys) ≡ cond (is_lt (cmp key one)) 1 0 + count_below cmp one keys
below-cons cmp one key keys = sum_by-cons (λ other. cond (is_lt (cmp other one)) 1 0) key keys

-- no key of a list is below one that is below them all
pub none_below : {Key : Type 0} {cmp : Key → Key → Ordering} → IsTotalOrder cmp → (one : Key) (keys : List Key) → AllByRecursion (λ key. cmp one key ≡ Less) keys → count_below cmp one keys ≡ 0
none_below order one [] above = refl
none_below {Key} {cmp} order one (key ∷ keys) above =
    omega (arith, below-cons cmp one key keys, ap {B = ℕ} (λ r. cond (is_lt r) 1 0) (order.antisymm key one ∙ ap ordering_reverse above.0), none_below order one keys above.1)

-- what holds of each of a list holds of the one at a place
pub all_at : {X : Type 0} (P : X → Type 0) (xs : List X) → AllByRecursion P xs → (place : ℕ) (x : X) → slice_get xs place ≡ Some x → P x
all_at P [] all place x here = absurd (none-some x here)
all_at {X} P (y ∷ ys) all zero x here = let same : y ≡ x = same_Some y x here in rw (← same) all.0
all_at P (y ∷ ys) all (suc place) x here = all_at P ys all.1 place x here

-- the key at a place is among the keys
pub among_at : {Key : Type 0} {cmp : Key → Key → Ordering} → IsTotalOrder cmp → (keys : List Key) (place : ℕ) (key : Key) → slice_get keys place ≡ Some key → is_among cmp keys key ≡ true
among_at order [] place key here = absurd (none-some key here)
among_at {Key} {cmp} order (first ∷ keys) zero key here =
    let same : first ≡ key = same_Some first key here in
    ap (λ k. is_eq (cmp key k) || is_among cmp keys key) same ∙ ap (λ r. is_eq r || is_among cmp keys key) (tied_itself order key)
among_at {Key} {cmp} order (first ∷ keys) (suc place) key here =
    ap (λ b. is_eq (cmp key first) || b) (among_at order keys place key here) ∙ or_true (is_eq (cmp key first))
  where
    or_true : (b : Bool) → (b || true) ≡ true
    or_true true = refl
    or_true false = refl

-- of strictly ascending keys as many are below the one at a place as stand before it
below_own : {Key : Type 0} {cmp : Key → Key → Ordering} → IsTotalOrder cmp → (keys : List Key) → IsStrictlySortedBy cmp keys → (place : ℕ) (key : Key) → slice_get keys place ≡ Some key → count_below cmp key keys ≡ place
unfolding IsStrictlySortedBy
below_own order [] sorted place key here = absurd (none-some key here)
below_own {Key} {cmp} order (first ∷ keys) sorted zero key here =
    let same : first ≡ key = same_Some first key here in
    let none = none_below order first keys sorted.0 in
    let itself = ap {B = ℕ} (λ r. cond (is_lt r) 1 0) (tied_itself order first) in
    let all : count_below cmp first (first ∷ keys) ≡ 0 = omega (arith, below-cons cmp first first keys, none, itself) in
    ap (λ k. count_below cmp k (first ∷ keys)) (sym same) ∙ all
below_own {Key} {cmp} order (first ∷ keys) sorted (suc place) key here =
    let less : cmp first key ≡ Less = all_at (λ y. cmp first y ≡ Less) keys sorted.0 place key here in
    let rest = below_own order keys sorted.1 place key here in
    omega (arith, below-cons cmp key first keys, rest, ap {B = ℕ} (λ r. cond (is_lt r) 1 0) less)

-- a key that is among strictly ascending keys stands where as many are before it as are below it
at_below : {Key : Type 0} {cmp : Key → Key → Ordering} → IsTotalOrder cmp → IsAntisymmetric cmp → (key : Key) (keys : List Key) → IsStrictlySortedBy cmp keys → is_among cmp keys key ≡ true → slice_get keys (count_below cmp key keys) ≡ Some key
unfolding IsStrictlySortedBy
at_below order exact key [] sorted among = absurd (true≢false (sym among))
at_below {Key} {cmp} order exact key (first ∷ keys) sorted among =
    let count = below-cons cmp key first keys in
    let counted : Ordering → ℕ = λ r. cond (is_lt r) 1 0 in
    by_order (cmp key first)
    (λ less.
    let later = all_implies (λ y. cmp first y ≡ Less) (λ y. cmp key y ≡ Less) (λ y above. order.trans key first y less above) keys sorted.0 in
    absurd (true≢false (sym among ∙ below_not_among cmp key (first ∷ keys) (less, later))))
    (λ equal.
    let same : key ≡ first = exact key first equal in
    let later = all_implies (λ y. cmp first y ≡ Less) (λ y. cmp key y ≡ Less) (λ y above. order.congr key first y equal ∙ above) keys sorted.0 in
    let here : count_below cmp key (first ∷ keys) ≡ 0 = omega (arith, count, none_below order key keys later, ap {B = ℕ} counted (tied_back order key first equal)) in
    ap (slice_get (first ∷ keys)) here ∙ ap Some (sym same))
    (λ greater.
    let less : cmp first key ≡ Less = order.antisymm first key ∙ ap ordering_reverse greater in
    let next : count_below cmp key (first ∷ keys) ≡ suc (count_below cmp key keys) = omega (arith, count, ap {B = ℕ} counted less) in
    let rest : is_among cmp keys key ≡ true = sym (ap (λ r. is_eq r || is_among cmp keys key) greater) ∙ among in
    ap (slice_get (first ∷ keys)) next ∙ at_below order exact key keys sorted.1 rest)

-- among all keys, those of two lists in order, a key of the first stands as many places on as keys of the second are below it
pub stands_on : {Key : Type 0} {cmp : Key → Key → Ordering} → IsTotalOrder cmp → IsAntisymmetric cmp → (keys fresh all : List Key) → IsStrictlySortedBy cmp keys → IsStrictlySortedBy cmp all → IsPermutation (keys ++ fresh) all → (place : ℕ) (key : Key) → slice_get keys place ≡ Some key → slice_get all (place + count_below cmp key fresh) ≡ Some key
stands_on {Key} {cmp} order exact keys fresh all sorted sorted_all moved place key here =
    let among : is_among cmp all key ≡ true =
    sym (list_any-IsPermutation (λ own. is_eq (cmp key own)) (keys ++ fresh) all moved)
    ∙ list_any-append (λ own. is_eq (cmp key own)) keys fresh
    ∙ ap (λ b. b || is_among cmp fresh key) (among_at order keys place key here) in
    let counted : count_below cmp key all ≡ place + count_below cmp key fresh =
    sum_by-IsPermutation (λ other. cond (is_lt (cmp other key)) 1 0) (keys ++ fresh) all moved
    ∙ sum_by-append (λ other. cond (is_lt (cmp other key)) 1 0) keys fresh
    ∙ ap (λ n. n + count_below cmp key fresh) (below_own order keys sorted place key here) in
    ap (slice_get all) (sym counted) ∙ at_below order exact key all sorted_all among
