-- Entries that are kept: by marks, by a test, and what that does to their keys.
use Rattle.std.proofs.Common.{◌≡◌, ℕ, suc, ◌<◌, ◌≤◌, Bool, true, false, ◌&&◌, ◌||◌, cond, not, List, [], ◌∷◌, Option, Some, map, length, get_or, refl, sym, ap, ◌∙◌, arith}
use Rattle.std.proofs.lemmas.Bool.{true≢false}
use Rattle.std.specs.List.{AllByRecursion, filter, find, list_any}
use Rattle.std.specs.List.Sorted.{IsStrictlySortedBy}
use Rattle.std.specs.Ordering.{is_eq}
use Rattle.std.specs.declared.cmp.Ordering.{Ordering}
use Rattle.std.specs.declared.cmp.Ordering.TheVariants.{Less, Equal, Greater}
use Rattle.xf_base.proofs.EqualKeys.{key_cmp-equal}
use Rattle.xf_base.specs.Gone.{kept}
use Rattle.xf_base.specs.Key.{key_cmp}
use Rattle.xf_base.specs.KeyOrder.{key_cmp_total}
use Rattle.xf_base.specs.declared.key.Key.{Key}
use Rattle.xf_model.specs.Group.{distinct_keys}
use Rattle.xf_model.specs.Laws.{is_among}
use Rattle.xf_model.proofs.AscendingKeys.{same_from_ties, sorted-distinct_keys, ties-distinct_keys}

-- a mark that says the opposite of a test keeps what passes it
kept_choice : {X : Type 0} (mark test : Bool) (x : X) (some all : List X) → mark ≡ not test → some ≡ all → cond mark some (x ∷ some) ≡ cond test (x ∷ all) all
kept_choice mark true x some all opposite same = rw opposite (ap (λ rest. x ∷ rest) same)
kept_choice mark false x some all opposite same = rw opposite same

pub kept_by : {X : Type 0} (test : X → Bool) (marks : List Bool) (xs : List X) → length xs ≤ length marks → ((k : ℕ) (d : X) → k < length xs → get_or marks k true ≡ not (test (get_or xs k d))) → kept marks xs ≡ filter test xs
kept_by test [] [] enough marked = refl
kept_by test [] (x ∷ xs) enough marked = absurd (omega (arith, enough))
kept_by test (mark ∷ marks) [] enough marked = refl
kept_by test (mark ∷ marks) (x ∷ xs) enough marked =
    kept_choice mark (test x) x (kept marks xs) (filter test xs) (marked 0 x (omega arith)) (kept_by test marks xs (omega (arith, enough)) (λ k d inside. marked (suc k) d (omega (arith, inside))))

-- what is kept of what a function makes is made of what is kept
kept_mapped : {X Y : Type 0} (mark : Bool) (f : X → Y) (x : X) (some : List Y) (all : List X) → some ≡ map f all → cond mark some (f x ∷ some) ≡ map f (cond mark all (x ∷ all))
kept_mapped true f x some all same = same
kept_mapped false f x some all same = ap (λ rest. f x ∷ rest) same

pub kept-map : {X Y : Type 0} (f : X → Y) (marks : List Bool) (xs : List X) → kept marks (map f xs) ≡ map f (kept marks xs)
kept-map f [] xs = refl
kept-map f (mark ∷ marks) [] = refl
kept-map f (mark ∷ marks) (x ∷ xs) = kept_mapped mark f x (kept marks (map f xs)) (kept marks xs) (kept-map f marks xs)

-- what holds of each element holds of those that are kept
pub all-kept : {X : Type 0} (P : X → Type 0) (marks : List Bool) (xs : List X) → AllByRecursion P xs → AllByRecursion P (kept marks xs)
all-kept P [] xs all = tt
all-kept P (mark ∷ marks) [] all = tt
all-kept P (true ∷ marks) (x ∷ xs) all = all-kept P marks xs all.1
all-kept P (false ∷ marks) (x ∷ xs) all = (all.0, all-kept P marks xs all.1)

-- the keys of entries whose keys pass a test are the keys that do
filter_choice : {X Y : Type 0} (test : Bool) (f : X → Y) (x : X) (some : List X) (all : List Y) → map f some ≡ all → map f (cond test (x ∷ some) some) ≡ cond test (f x ∷ all) all
filter_choice true f x some all same = ap (λ rest. f x ∷ rest) same
filter_choice false f x some all same = same

pub map-filter : {X Y : Type 0} (f : X → Y) (test : Y → Bool) (xs : List X) → map f (filter (λ x. test (f x)) xs) ≡ filter test (map f xs)
map-filter f test [] = refl
map-filter f test (x ∷ xs) = filter_choice (test (f x)) f x (filter (λ y. test (f y)) xs) (filter test (map f xs)) (map-filter f test xs)

-- what is left of what ascends strictly does so
all-filter : {X : Type 0} (P : X → Type 0) (test : X → Bool) (xs : List X) → AllByRecursion P xs → AllByRecursion P (filter test xs)
all-filter P test [] all = tt
all-filter P test (x ∷ xs) all =
    elim (test x) as (λ b. AllByRecursion P (cond b (x ∷ filter test xs) (filter test xs))) [
      | true ↦ (all.0, all-filter P test xs all.1)
      | false ↦ all-filter P test xs all.1
    ]

pub sorted-filter : {K : Type 0} (cmp : K → K → Ordering) (test : K → Bool) (keys : List K) → IsStrictlySortedBy cmp keys → IsStrictlySortedBy cmp (filter test keys)
unfolding IsStrictlySortedBy
sorted-filter cmp test [] sorted = tt
sorted-filter cmp test (key ∷ keys) sorted =
    elim (test key) as (λ b. IsStrictlySortedBy cmp (cond b (key ∷ filter test keys) (filter test keys))) [
      | true ↦ (all-filter (λ y. cmp key y ≡ Less) test keys sorted.0, sorted-filter cmp test keys sorted.1)
      | false ↦ sorted-filter cmp test keys sorted.1
    ]

-- where those that pass one test all answer another alike
any_choice : (p t b rest : Bool) → (p ≡ true → t ≡ b) → cond t (p || (b && rest)) (b && rest) ≡ (b && (p || rest))
any_choice true true true rest same = refl
any_choice true true false rest same = absurd (true≢false (same refl))
any_choice true false true rest same = absurd (true≢false (sym (same refl)))
any_choice true false false rest same = refl
any_choice false true b rest same = refl
any_choice false false b rest same = refl

any_filter : {X : Type 0} (p t : X → Bool) (b : Bool) → ((x : X) → p x ≡ true → t x ≡ b) → (xs : List X) → list_any p (filter t xs) ≡ (b && list_any p xs)
any_filter p t true same [] = refl
any_filter p t false same [] = refl
any_filter {X} p t b same (x ∷ xs) =
    let rest : list_any p (filter t xs) ≡ (b && list_any p xs) = any_filter p t b same xs in
    let moved : list_any p (cond (t x) (x ∷ filter t xs) (filter t xs)) ≡ cond (t x) (p x || list_any p (filter t xs)) (list_any p (filter t xs)) =
    elim (t x) as (λ c. list_any p (cond c (x ∷ filter t xs) (filter t xs)) ≡ cond c (p x || list_any p (filter t xs)) (list_any p (filter t xs))) [ true ↦ refl | false ↦ refl ] in
    moved
    ∙ ap (λ later. cond (t x) (p x || later) later) rest
    ∙ any_choice (p x) (t x) b (list_any p xs) (same x)

-- a key that ties with one is among keys where that one is
pub tied_equal : (q k : Key) → is_eq (key_cmp q k) ≡ true → k ≡ q
tied_equal q k tied = sym (key_cmp-equal q k (equal_from_test (key_cmp q k) tied))
  where
    equal_from_test : (r : Ordering) → is_eq r ≡ true → r ≡ Equal
    equal_from_test Less test = absurd (true≢false (sym test))
    equal_from_test Equal test = refl
    equal_from_test Greater test = absurd (true≢false (sym test))

-- of ascending keys those that are among some keys, each of which is among them, are those keys in ascending order
pub remaining_keys : (keys all : List Key) → IsStrictlySortedBy key_cmp keys → ((q : Key) → is_among key_cmp all q ≡ true → is_among key_cmp keys q ≡ true) → filter (is_among key_cmp all) keys ≡ distinct_keys key_cmp all
remaining_keys keys all sorted within =
    same_from_ties key_cmp_total key_cmp-equal (filter (is_among key_cmp all) keys) (distinct_keys key_cmp all)
    (sorted-filter key_cmp (is_among key_cmp all) keys sorted)
    (sorted-distinct_keys key_cmp_total all)
    (λ q.
    any_filter (λ own. is_eq (key_cmp q own)) (is_among key_cmp all) (is_among key_cmp all q) (λ k tied. ap (is_among key_cmp all) (tied_equal q k tied)) keys
    ∙ among_both (is_among key_cmp all q) (is_among key_cmp keys q) (within q)
    ∙ sym (ties-distinct_keys key_cmp_total q all))
  where
    among_both : (a b : Bool) → (a ≡ true → b ≡ true) → (a && b) ≡ a
    among_both true b held = held refl
    among_both false b held = refl

-- what is found is found among those that are kept, where what is looked for is kept
find_choice : {X : Type 0} (p t : Bool) (x : X) (some all : Option X) → (p ≡ true → t ≡ true) → some ≡ all → cond t (cond p (Some x) some) some ≡ cond p (Some x) all
find_choice true true x some all stays same = refl
find_choice true false x some all stays same = absurd (true≢false (sym (stays refl)))
find_choice false true x some all stays same = same
find_choice false false x some all stays same = same

pub find-filter : {X : Type 0} (p t : X → Bool) → ((x : X) → p x ≡ true → t x ≡ true) → (xs : List X) → find p (filter t xs) ≡ find p xs
find-filter p t same [] = refl
find-filter {X} p t same (x ∷ xs) =
    let moved : find p (cond (t x) (x ∷ filter t xs) (filter t xs)) ≡ cond (t x) (cond (p x) (Some x) (find p (filter t xs))) (find p (filter t xs)) =
    elim (t x) as (λ c. find p (cond c (x ∷ filter t xs) (filter t xs)) ≡ cond c (cond (p x) (Some x) (find p (filter t xs))) (find p (filter t xs))) [ true ↦ refl | false ↦ refl ] in
    moved ∙ find_choice (p x) (t x) x (find p (filter t xs)) (find p xs) (same x) (find-filter p t same xs)
