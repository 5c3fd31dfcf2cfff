-- Pairs of keys and places that are sorted are those of `bottom`.
use Rattle.std.proofs.Common.{◌≡◌, ℕ, suc, ◌+◌, ◌<◌, ◌≤◌, Bool, true, false, cond, List, [], ◌∷◌, map, length, get_or, refl, sym, ap, ◌∙◌, arith}
use Rattle.std.proofs.lemmas.Bool.{true≢false}
use Rattle.std.proofs.lemmas.Cmp.{tied_itself}
use Rattle.std.proofs.lemmas.List.Elements.{recursion_from_All}
use Rattle.std.proofs.lemmas.List.MinMax.{ranks_by}
use Rattle.std.proofs.lemmas.List.Sums.{sum_by-append, sum_by-cons}
use Rattle.std.proofs.lemmas.List.Sorted.{sorted_far, sum_by-IsPermutation}
use Rattle.std.specs.Cmp.{IsTotalOrder}
use Rattle.std.specs.FinMap.{IsAntisymmetric, nat_cmp-IsAntisymmetric}
use Rattle.std.specs.List.{AllByRecursion, count_by, enumerate_from, filter, flat_map}
use Rattle.std.specs.List.Sorted.{IsPermutation, IsSorted, IsStrictlySortedBy}
use Rattle.std.specs.Ordering.{is_eq, is_lt, nat_cmp, ordering_reverse, ordering_then}
use Rattle.std.specs.declared.cmp.Ordering.{Ordering}
use Rattle.std.specs.declared.cmp.Ordering.TheVariants.{Less, Equal, Greater}
use Rattle.xf_model.specs.Bottom.{bottom, pair_cmp, pairs_of, row_pairs}
use Rattle.xf_model.specs.Dimension.{Dimension, passes_each}
use Rattle.xf_model.proofs.AscendingKeys.{all_implies, by_order}
use Rattle.xf_model.proofs.BottomPairs.{bottom-from_permutation, pair_cmp-total}

-- ---- a sorted list in which nothing ties ascends strictly

-- no later element is below an earlier one
abbrev pub IsRising : {X : Type 0} → (X → X → Ordering) → List X → Type 0
IsRising cmp [] = Unit {0}
IsRising cmp (x ∷ xs) = AllByRecursion (λ later. is_lt (cmp later x) ≡ false) xs × IsRising cmp xs

rising_from_places : {X Y : Type 0} (cmp : Y → Y → Ordering) (f : X → Y) (xs : List X) → ((i j : ℕ) (d : X) → i ≤ j → j < length xs → is_lt (cmp (f (get_or xs j d)) (f (get_or xs i d))) ≡ false) → IsRising cmp (map f xs)
rising_from_places cmp f [] places = tt
rising_from_places {X} {Y} cmp f (x ∷ xs) places = (
  all_mapped (λ later. is_lt (cmp later (f x)) ≡ false) f xs (recursion_from_All (λ later. is_lt (cmp (f later) (f x)) ≡ false) xs (λ k d within. places 0 (suc k) d (omega arith) (omega arith))),
  rising_from_places cmp f xs (λ i j d le within. places (suc i) (suc j) d (omega arith) (omega arith)),
)
  where
    all_mapped : {X Y : Type 0} (P : Y → Type 0) (f : X → Y) (xs : List X) → AllByRecursion (λ x. P (f x)) xs → AllByRecursion P (map f xs)
    all_mapped P f [] all = tt
    all_mapped P f (x ∷ xs) all = (all.0, all_mapped P f xs all.1)

-- a sort by what a function gives leaves it rising
pub rising_from_sorted : {X Y : Type 0} {cmp : Y → Y → Ordering} → IsTotalOrder cmp → (f : X → Y) (xs : List X) → IsSorted (λ a b. cmp (f a) (f b)) xs → IsRising cmp (map f xs)
rising_from_sorted {X} {Y} {cmp} order f xs sorted =
    rising_from_places cmp f xs (sorted_far (λ a b. is_lt (cmp (f a) (f b))) (ranks_by order f) xs sorted)

-- how many of a list tie with one
abbrev pub ties_with : {X : Type 0} → (X → X → Ordering) → X → List X → ℕ
ties_with cmp one xs = count_by (λ x. is_eq (cmp one x)) xs

-- of a list nothing ties with more than one
abbrev pub AtMostOnce : {X : Type 0} → (X → X → Ordering) → List X → Type 0
AtMostOnce {X} cmp xs = (one : X) → ties_with cmp one xs ≤ 1

ties-cons : {X : Type 0} (cmp : X → X → Ordering) (one x : X) (xs : List X) → ties_with cmp one (x ∷ xs) ≡ cond (is_eq (cmp one x)) 1 0 + ties_with cmp one xs
ties-cons cmp one x xs = sum_by-cons (λ y. cond (is_eq (cmp one y)) 1 0) x xs

no_ties : {X : Type 0} (cmp : X → X → Ordering) (one : X) (xs : List X) → ties_with cmp one xs ≡ 0 → AllByRecursion (λ x. is_eq (cmp one x) ≡ false) xs
no_ties cmp one [] none = tt
no_ties {X} cmp one (x ∷ xs) none = (first (is_eq (cmp one x)) (sym (ties-cons cmp one x xs) ∙ none), no_ties cmp one xs (omega (arith, ties-cons cmp one x xs)))
  where
    first : (tied : Bool) → cond tied 1 0 + ties_with cmp one xs ≡ 0 → tied ≡ false
    first true some = absurd (omega (arith, some))
    first false some = refl

both : {X : Type 0} (P Q R : X → Type 0) → ((x : X) → P x → Q x → R x) → (xs : List X) → AllByRecursion P xs → AllByRecursion Q xs → AllByRecursion R xs
both P Q R step [] ps qs = tt
both P Q R step (x ∷ xs) ps qs = (step x ps.0 qs.0, both P Q R step xs ps.1 qs.1)

-- a rising list in which nothing ties twice ascends strictly
pub strict_from_rising : {X : Type 0} {cmp : X → X → Ordering} → IsTotalOrder cmp → (xs : List X) → IsRising cmp xs → AtMostOnce cmp xs → IsStrictlySortedBy cmp xs
unfolding IsStrictlySortedBy
strict_from_rising order [] rising once = tt
strict_from_rising {X} {cmp} order (x ∷ xs) rising once =
    let own : is_eq (cmp x x) ≡ true = ap is_eq (tied_itself order x) in
    let none : ties_with cmp x xs ≡ 0 = omega (arith, once x, ties-cons cmp x x xs, ap {B = ℕ} (λ b. cond b 1 0) own) in (
      both (λ y. is_lt (cmp y x) ≡ false) (λ y. is_eq (cmp x y) ≡ false) (λ y. cmp x y ≡ Less)
          (λ y no_less no_tie. by_order (cmp x y)
          (λ less. less)
          (λ equal. absurd (true≢false (sym (ap is_eq equal) ∙ no_tie)))
          (λ greater. absurd (true≢false (sym (ap is_lt (order.antisymm y x ∙ ap ordering_reverse greater)) ∙ no_less))))
          xs rising.0 (no_ties cmp x xs none),
      strict_from_rising order xs rising.1 (λ one. omega (arith, once one, ties-cons cmp one x xs)),
    )

-- what is left of a strictly ascending list ascends strictly
sorted-filter : {Key : Type 0} (cmp : Key → Key → Ordering) (test : Key → Bool) (keys : List Key) → IsStrictlySortedBy cmp keys → IsStrictlySortedBy cmp (filter test keys)
unfolding IsStrictlySortedBy
sorted-filter cmp test [] sorted = tt
sorted-filter cmp test (key ∷ keys) sorted =
    elim (test key) as (λ b. IsStrictlySortedBy cmp (cond b (key ∷ filter test keys) (filter test keys))) [
      | true ↦ (all-filter (λ y. cmp key y ≡ Less) test keys sorted.0, sorted-filter cmp test keys sorted.1)
      | false ↦ sorted-filter cmp test keys sorted.1
    ]
  where
    all-filter : {X : Type 0} (P : X → Type 0) (test : X → Bool) (xs : List X) → AllByRecursion P xs → AllByRecursion P (filter test xs)
    all-filter P test [] all = tt
    all-filter P test (x ∷ xs) all =
        elim (test x) as (λ b. AllByRecursion P (cond b (x ∷ filter test xs) (filter test xs))) [
          | true ↦ (all.0, all-filter P test xs all.1)
          | false ↦ all-filter P test xs all.1
        ]

-- ---- nothing ties twice among the pairs of rows whose keys ascend strictly

-- a pair with another place ties with none of a row's
other_place : {Key : Type 0} (cmp : Key → Key → Ordering) (one : Key × ℕ) (place : ℕ) (keys : List Key) → is_eq (nat_cmp one.1 place) ≡ false → ties_with (pair_cmp cmp) one (map (λ key. (key, place)) keys) ≡ 0
other_place cmp one place [] other = refl
other_place {Key} cmp one place (key ∷ keys) other =
    ties-cons (pair_cmp cmp) one (key, place) (map (λ key. (key, place)) keys)
    ∙ omega (arith, ap {B = ℕ} (λ b. cond b 1 0) (then_no (cmp one.0 key) (nat_cmp one.1 place) other), other_place cmp one place keys other)
  where
    then_no : (first second : Ordering) → is_eq second ≡ false → is_eq (ordering_then first second) ≡ false
    then_no Less second untied = refl
    then_no Equal second untied = untied
    then_no Greater second untied = refl

-- a key that is below each of some ties with none of them
below_all : {Key : Type 0} (cmp : Key → Key → Ordering) (one : Key × ℕ) (place : ℕ) (keys : List Key) → AllByRecursion (λ key. cmp one.0 key ≡ Less) keys → ties_with (pair_cmp cmp) one (map (λ key. (key, place)) keys) ≡ 0
below_all cmp one place [] below = refl
below_all cmp one place (key ∷ keys) below =
    ties-cons (pair_cmp cmp) one (key, place) (map (λ key. (key, place)) keys)
    ∙ omega (arith, ap {B = ℕ} (λ r. cond (is_eq (ordering_then r (nat_cmp one.1 place))) 1 0) below.0, below_all cmp one place keys below.1)

-- a pair ties with at most one of a row's
row_once : {Key : Type 0} {cmp : Key → Key → Ordering} → IsTotalOrder cmp → (one : Key × ℕ) (place : ℕ) (keys : List Key) → IsStrictlySortedBy cmp keys → ties_with (pair_cmp cmp) one (map (λ key. (key, place)) keys) ≤ 1
unfolding IsStrictlySortedBy
row_once order one place [] sorted = omega arith
row_once {Key} {cmp} order one place (key ∷ keys) sorted =
    let more = ties-cons (pair_cmp cmp) one (key, place) (map (λ key. (key, place)) keys) in
    let tied : Ordering → ℕ = λ r. cond (is_eq (ordering_then r (nat_cmp one.1 place))) 1 0 in
    by_order (cmp one.0 key)
    (λ less. omega (arith, more, ap {B = ℕ} tied less, row_once order one place keys sorted.1))
    (λ equal.
    let none = below_all cmp one place keys (all_implies (λ y. cmp key y ≡ Less) (λ y. cmp one.0 y ≡ Less) (λ y less. order.congr one.0 key y equal ∙ less) keys sorted.0) in
    omega (arith, more, none, at_most_one (is_eq (ordering_then (cmp one.0 key) (nat_cmp one.1 place)))))
    (λ greater. omega (arith, more, ap {B = ℕ} tied greater, row_once order one place keys sorted.1))
  where
    at_most_one : (b : Bool) → cond b 1 0 ≤ 1
    at_most_one true = omega arith
    at_most_one false = omega arith

pairs_once : {Row Key : Type 0} {cmp : Key → Key → Ordering} → IsTotalOrder cmp → (dimensions : List (Dimension Row Key)) (own : Dimension Row Key) (one : Key × ℕ) (place : ℕ) (row : Row) → IsStrictlySortedBy cmp (own.keys row) → ties_with (pair_cmp cmp) one (row_pairs dimensions own (place, row)) ≤ 1
pairs_once {Row} {Key} {cmp} order dimensions own one place row sorted =
    elim (passes_each dimensions row) as (λ b. ties_with (pair_cmp cmp) one (cond b (map (λ key. (key, place)) (filter own.chosen.holds (own.keys row))) []) ≤ 1) [
      | true ↦ row_once order one place (filter own.chosen.holds (own.keys row)) (sorted-filter cmp own.chosen.holds (own.keys row) sorted)
      | false ↦ omega arith
    ]

pairs_elsewhere : {Row Key : Type 0} (cmp : Key → Key → Ordering) (dimensions : List (Dimension Row Key)) (own : Dimension Row Key) (one : Key × ℕ) (place : ℕ) (row : Row) → is_eq (nat_cmp one.1 place) ≡ false → ties_with (pair_cmp cmp) one (row_pairs dimensions own (place, row)) ≡ 0
pairs_elsewhere {Row} {Key} cmp dimensions own one place row other =
    elim (passes_each dimensions row) as (λ b. ties_with (pair_cmp cmp) one (cond b (map (λ key. (key, place)) (filter own.chosen.holds (own.keys row))) []) ≡ 0) [
      | true ↦ other_place cmp one place (filter own.chosen.holds (own.keys row)) other
      | false ↦ refl
    ]

-- the pairs of rows from a place on
abbrev pairs_from : {Row Key : Type 0} → List (Dimension Row Key) → Dimension Row Key → ℕ → List Row → List (Key × ℕ)
pairs_from dimensions own start rows = flat_map (row_pairs dimensions own) (enumerate_from start rows)

ties-row : {Row Key : Type 0} (cmp : Key → Key → Ordering) (dimensions : List (Dimension Row Key)) (own : Dimension Row Key) (one : Key × ℕ) (start : ℕ) (row : Row) (rows : List Row) → ties_with (pair_cmp cmp) one (pairs_from dimensions own start (row ∷ rows)) ≡ ties_with (pair_cmp cmp) one (row_pairs dimensions own (start, row)) + ties_with (pair_cmp cmp) one (pairs_from dimensions own (start + 1) rows)
ties-row cmp dimensions own one start row rows = sum_by-append (λ pair. cond (is_eq (pair_cmp cmp one pair)) 1 0) (row_pairs dimensions own (start, row)) (pairs_from dimensions own (start + 1) rows)

-- a pair of an earlier place ties with none
later_none : {Row Key : Type 0} (cmp : Key → Key → Ordering) (dimensions : List (Dimension Row Key)) (own : Dimension Row Key) (one : Key × ℕ) (start : ℕ) (rows : List Row) → one.1 < start → ties_with (pair_cmp cmp) one (pairs_from dimensions own start rows) ≡ 0
later_none cmp dimensions own one start [] early = refl
later_none {Row} {Key} cmp dimensions own one start (row ∷ rows) early =
    let other : is_eq (nat_cmp one.1 start) ≡ false =
    by_order (nat_cmp one.1 start)
    (λ less. ap is_eq less)
    (λ equal. let same : one.1 ≡ start = nat_cmp-IsAntisymmetric one.1 start equal in absurd (omega (arith, same, early)))
    (λ greater. ap is_eq greater) in
    let here = pairs_elsewhere cmp dimensions own one start row other in
    let rest = later_none cmp dimensions own one (start + 1) rows (omega (arith, early)) in
    ties-row cmp dimensions own one start row rows ∙ omega (arith, here, rest)

-- a pair ties with at most one of all rows
rows_once : {Row Key : Type 0} {cmp : Key → Key → Ordering} → IsTotalOrder cmp → (dimensions : List (Dimension Row Key)) (own : Dimension Row Key) (start : ℕ) (rows : List Row) → AllByRecursion (λ row. IsStrictlySortedBy cmp (own.keys row)) rows → AtMostOnce (pair_cmp cmp) (pairs_from dimensions own start rows)
rows_once order dimensions own start [] sorted one = omega arith
rows_once {Row} {Key} {cmp} order dimensions own start (row ∷ rows) sorted one =
    let more = ties-row cmp dimensions own one start row rows in
    let rest = rows_once order dimensions own (start + 1) rows sorted.1 one in
    by_order (nat_cmp one.1 start)
    (λ less. omega (arith, more, rest, pairs_elsewhere cmp dimensions own one start row (ap is_eq less)))
    (λ equal.
    let same : one.1 ≡ start = nat_cmp-IsAntisymmetric one.1 start equal in
    omega (arith, more, pairs_once order dimensions own one start row sorted.0, later_none cmp dimensions own one (start + 1) rows (omega (arith, same))))
    (λ greater. omega (arith, more, rest, pairs_elsewhere cmp dimensions own one start row (ap is_eq greater)))

-- the pairs of rows whose keys ascend strictly, in another order in which they rise, are those of `bottom`
pub bottom-from_rising : {Row Key : Type 0} {cmp : Key → Key → Ordering} → IsTotalOrder cmp → IsAntisymmetric cmp → (dimensions : List (Dimension Row Key)) (own : Dimension Row Key) (rows : List Row) (found : List (Key × ℕ)) → AllByRecursion (λ row. IsStrictlySortedBy cmp (own.keys row)) rows → IsPermutation (pairs_of dimensions own rows) found → IsRising (pair_cmp cmp) found → found ≡ bottom cmp dimensions own rows
bottom-from_rising {Row} {Key} {cmp} order exact dimensions own rows found sorted moved rising =
    let once : AtMostOnce (pair_cmp cmp) found = λ one.
    omega (arith, rows_once order dimensions own 0 rows sorted one, sum_by-IsPermutation (λ pair. cond (is_eq (pair_cmp cmp one pair)) 1 0) (pairs_of dimensions own rows) found moved) in
    bottom-from_permutation order exact dimensions own rows found (strict_from_rising (pair_cmp-total order) found rising once) moved
