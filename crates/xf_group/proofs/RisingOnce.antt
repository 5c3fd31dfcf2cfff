-- A sorted list in which nothing ties ascends strictly.
use Rattle.std.proofs.Common.{◌≡◌, ℕ, suc, ◌+◌, ◌<◌, ◌≤◌, Bool, true, false, cond, List, [], ◌∷◌, map, length, get_or, refl, sym, ap, ◌∙◌, arith}
use Rattle.std.proofs.lemmas.Bool.{true≢false}
use Rattle.std.proofs.lemmas.Cmp.{tied_itself}
use Rattle.std.proofs.lemmas.List.Elements.{recursion_from_All}
use Rattle.std.proofs.lemmas.List.Sums.{sum_by-cons}
use Rattle.std.proofs.lemmas.List.Sorted.{ranks_by, sorted_far}
use Rattle.std.specs.Cmp.{IsTotalOrder}
use Rattle.std.specs.List.{AllByRecursion, count_by}
use Rattle.std.specs.List.Sorted.{IsSorted, IsStrictlySortedBy}
use Rattle.std.specs.Ordering.{is_eq, is_lt, ordering_reverse}
use Rattle.std.specs.declared.cmp.Ordering.{Ordering}
use Rattle.std.specs.declared.cmp.Ordering.TheVariants.{Less}
use Rattle.xf_model.proofs.AscendingKeys.{by_order}

-- no later element is below an earlier one
abbrev pub IsRising : {X : Type 0} → (X → X → Ordering) → List X → Type 0
IsRising cmp [] = Unit {0}
IsRising cmp (x ∷ xs) = AllByRecursion (λ later. is_lt (cmp later x) ≡ false) xs × IsRising cmp xs

rising_from_places : {X Y : Type 0} (cmp : Y → Y → Ordering) (f : X → Y) (xs : List X) → ((i j : ℕ) (d : X) → i ≤ j → j < length xs → is_lt (cmp (f (get_or xs j d)) (f (get_or xs i d))) ≡ false) → IsRising cmp (map f xs)
rising_from_places cmp f [] places = tt
rising_from_places {X} {Y} cmp f (x ∷ xs) places = (
  all_mapped (λ later. is_lt (cmp later (f x)) ≡ false) f xs (recursion_from_All (λ later. is_lt (cmp (f later) (f x)) ≡ false) xs (λ k d within. places 0 (suc k) d (omega arith) (omega arith))),
  rising_from_places cmp f xs (λ i j d le within. places (suc i) (suc j) d (omega arith) (omega arith)),
)
  where
    all_mapped : {X Y : Type 0} (P : Y → Type 0) (f : X → Y) (xs : List X) → AllByRecursion (λ x. P (f x)) xs → AllByRecursion P (map f xs)
    all_mapped P f [] all = tt
    all_mapped P f (x ∷ xs) all = (all.0, all_mapped P f xs all.1)

-- a sort by what a function gives leaves it rising
pub rising_from_sorted : {X Y : Type 0} {cmp : Y → Y → Ordering} → IsTotalOrder cmp → (f : X → Y) (xs : List X) → IsSorted (λ a b. cmp (f a) (f b)) xs → IsRising cmp (map f xs)
rising_from_sorted {X} {Y} {cmp} order f xs sorted =
    rising_from_places cmp f xs (sorted_far (λ a b. is_lt (cmp (f a) (f b))) (ranks_by order f) xs sorted)

-- how many of a list tie with one
abbrev pub ties_with : {X : Type 0} → (X → X → Ordering) → X → List X → ℕ
ties_with cmp one xs = count_by (λ x. is_eq (cmp one x)) xs

-- of a list nothing ties with more than one
abbrev pub AtMostOnce : {X : Type 0} → (X → X → Ordering) → List X → Type 0
AtMostOnce {X} cmp xs = (one : X) → ties_with cmp one xs ≤ 1

pub ties-cons : {X : Type 0} (cmp : X → X → Ordering) (one x : X) (xs : List X) → ties_with cmp one (x ∷ xs) ≡ cond (is_eq (cmp one x)) 1 0 + ties_with cmp one xs
ties-cons cmp one x xs = sum_by-cons (λ y. cond (is_eq (cmp one y)) 1 0) x xs

no_ties : {X : Type 0} (cmp : X → X → Ordering) (one : X) (xs : List X) → ties_with cmp one xs ≡ 0 → AllByRecursion (λ x. is_eq (cmp one x) ≡ false) xs
no_ties cmp one [] none = tt
no_ties {X} cmp one (x ∷ xs) none = (first (is_eq (cmp one x)) (sym (ties-cons cmp one x xs) ∙ none), no_ties cmp one xs (omega (arith, ties-cons cmp one x xs)))
  where
    first : (tied : Bool) → cond tied 1 0 + ties_with cmp one xs ≡ 0 → tied ≡ false
    first true some = absurd (omega (arith, some))
    first false some = refl

both : {X : Type 0} (P Q R : X → Type 0) → ((x : X) → P x → Q x → R x) → (xs : List X) → AllByRecursion P xs → AllByRecursion Q xs → AllByRecursion R xs
both P Q R step [] ps qs = tt
both P Q R step (x ∷ xs) ps qs = (step x ps.0 qs.0, both P Q R step xs ps.1 qs.1)

-- a rising list in which nothing ties twice ascends strictly
pub strict_from_rising : {X : Type 0} {cmp : X → X → Ordering} → IsTotalOrder cmp → (xs : List X) → IsRising cmp xs → AtMostOnce cmp xs → IsStrictlySortedBy cmp xs
unfolding IsStrictlySortedBy
strict_from_rising order [] rising once = tt
strict_from_rising {X} {cmp} order (x ∷ xs) rising once =
    let own : is_eq (cmp x x) ≡ true = ap is_eq (tied_itself order x) in
    let none : ties_with cmp x xs ≡ 0 = omega (arith, once x, ties-cons cmp x x xs, ap {B = ℕ} (λ b. cond b 1 0) own) in (
      both (λ y. is_lt (cmp y x) ≡ false) (λ y. is_eq (cmp x y) ≡ false) (λ y. cmp x y ≡ Less)
          (λ y no_less no_tie. by_order (cmp x y)
          (λ less. less)
          (λ equal. absurd (true≢false (sym (ap is_eq equal) ∙ no_tie)))
          (λ greater. absurd (true≢false (sym (ap is_lt (order.antisymm y x ∙ ap ordering_reverse greater)) ∙ no_less))))
          xs rising.0 (no_ties cmp x xs none),
      strict_from_rising order xs rising.1 (λ one. omega (arith, once one, ties-cons cmp one x xs)),
    )
