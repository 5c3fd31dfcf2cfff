-- Ranks that are sorted, the greatest first and then by position, are those of the top.
use Rattle.std.proofs.Common.{◌≡◌, ℕ, ℤ, ◌+◌, ◌<◌, ◌≤◌, Bool, true, false, cond, List, [], ◌∷◌, map, refl, sym, ap, subst, ◌∙◌, arith}
use Rattle.std.proofs.lemmas.Bool.{lt-ltb, true≢false}
use Rattle.std.proofs.lemmas.Cmp.{int_cmp_total, nat_cmp_total}
use Rattle.std.proofs.lemmas.List.Sorted.{IsPermutation-map, sum_by-IsPermutation}
use Rattle.std.specs.Cmp.{IsTotalOrder, back_total, on_total, then_total}
use Rattle.std.specs.FinMap.{IsAntisymmetric, int_cmp-IsAntisymmetric, nat_cmp-IsAntisymmetric}
use Rattle.std.specs.List.{AllByRecursion, enumerate_from}
use Rattle.std.specs.List.Sorted.{IsPermutation, IsSorted, IsStrictlySortedBy}
use Rattle.std.specs.Ordering.{int_cmp, is_eq, is_gt, is_le, is_lt, nat_cmp, ordering_reverse, ordering_then}
use Rattle.std.specs.declared.cmp.Ordering.{Ordering}
use Rattle.std.specs.declared.cmp.Ordering.TheVariants.{Less, Equal, Greater}
use Rattle.std.specs.declared.cmp.Reverse.{Reverse}
use Rattle.xf_group.specs.Group.{ranked_positions}
use Rattle.xf_group.specs.Ranks.{ranks_at}
use Rattle.xf_group.specs.declared.entry.Entry.{Entry}
use Rattle.xf_group.proofs.RanksMore.{plain_rank}
use Rattle.xf_group.proofs.RisingOnce.{AtMostOnce, rising_from_sorted, strict_from_rising, ties-cons, ties_with}
use Rattle.xf_model.specs.Group.{distinct_keys, with_key}
use Rattle.xf_model.specs.Top.{ranked, with_ranked}
use Rattle.xf_model.proofs.AscendingKeys.{by_order, distinct_keys-from_permutation}

-- the greater rank first, and the lower position where ranks are equal
abbrev pub rank_cmp : ℤ × ℕ → ℤ × ℕ → Ordering
rank_cmp one other = ordering_then (int_cmp other.0 one.0) (nat_cmp one.1 other.1)

rank_cmp-total : IsTotalOrder rank_cmp
rank_cmp-total = then_total (on_total (λ (at : ℤ × ℕ). at.0) (back_total int_cmp_total)) (on_total (λ (at : ℤ × ℕ). at.1) nat_cmp_total)

both_equal : (first second : Ordering) → ordering_then first second ≡ Equal → (first ≡ Equal) × (second ≡ Equal)
both_equal Less second tied = absurd (true≢false (ap is_lt tied))
both_equal Equal second tied = (refl, tied)
both_equal Greater second tied = absurd (true≢false (ap is_gt tied))

rank_cmp-exact : IsAntisymmetric rank_cmp
rank_cmp-exact one other tied =
    let both = both_equal (int_cmp other.0 one.0) (nat_cmp one.1 other.1) tied in
    let rank : other.0 ≡ one.0 = int_cmp-IsAntisymmetric other.0 one.0 both.0 in
    let place : one.1 ≡ other.1 = nat_cmp-IsAntisymmetric one.1 other.1 both.1 in
    λ i. (sym rank i, place i)

nat_less : (m n : ℕ) → m < n → nat_cmp m n ≡ Less
nat_less m n lt = rw (lt-ltb m n lt) refl

-- ---- the order of the top is that of the pairs

module _ {V : Type 0} (rank : V → ℤ) where
  -- a rank with its position
  abbrev one_rank : ℕ × V → ℤ × ℕ
  one_rank at = (rank at.1, at.0)

  with_ranked-map : (one : ℕ × V) (ats : List (ℕ × V)) → AllByRecursion (λ at. one.0 < at.0) ats → map one_rank (with_ranked (λ at. rank at.1) one ats) ≡ with_key rank_cmp (one_rank one) (map one_rank ats)
  with_ranked-map one [] later = refl
  with_ranked-map one (at ∷ ats) later =
      by_order (int_cmp (rank at.1) (rank one.1))
      (λ less. rw less refl)
      (λ equal. let before : nat_cmp one.0 at.0 ≡ Less = nat_less one.0 at.0 later.0 in rw (equal, before) refl)
      (λ greater.
      let back : int_cmp (rank one.1) (rank at.1) ≡ Less = int_cmp_total.antisymm (rank one.1) (rank at.1) ∙ ap ordering_reverse greater in
      rw (greater, back) (ap (λ rest. one_rank at ∷ rest) (with_ranked-map one ats later.1)))

  all-with_ranked : (P : ℕ × V → Type 0) (one : ℕ × V) (ats : List (ℕ × V)) → P one → AllByRecursion P ats → AllByRecursion P (with_ranked (λ at. rank at.1) one ats)
  all-with_ranked P one [] here all = (here, tt)
  all-with_ranked P one (at ∷ ats) here all =
      elim (is_le (int_cmp (rank at.1) (rank one.1))) as (λ b. AllByRecursion P (cond b (one ∷ at ∷ ats) (at ∷ with_ranked (λ at. rank at.1) one ats))) [
        | true ↦ (here, all)
        | false ↦ (all.0, all-with_ranked P one ats here all.1)
      ]

  all-ranked : (P : ℕ × V → Type 0) (ats : List (ℕ × V)) → AllByRecursion P ats → AllByRecursion P (ranked (λ at. rank at.1) ats)
  all-ranked P [] all = tt
  all-ranked P (at ∷ ats) all = all-with_ranked P at (ranked (λ at. rank at.1) ats) all.0 (all-ranked P ats all.1)

  all_later : (n m : ℕ) (vs : List V) → n < m → AllByRecursion (λ at. n < at.0) (enumerate_from m vs)
  all_later n m [] lt = tt
  all_later n m (v ∷ vs) lt = (lt, all_later n (m + 1) vs (omega (arith, lt)))

  ranked-map : (n : ℕ) (vs : List V) → map one_rank (ranked (λ at. rank at.1) (enumerate_from n vs)) ≡ distinct_keys rank_cmp (map one_rank (enumerate_from n vs))
  ranked-map n [] = refl
  ranked-map n (v ∷ vs) =
      with_ranked-map (n, v) (ranked (λ at. rank at.1) (enumerate_from (n + 1) vs)) (all-ranked (λ at. n < at.0) (enumerate_from (n + 1) vs) (all_later n (n + 1) vs (omega arith)))
      ∙ ap (with_key rank_cmp (one_rank (n, v))) (ranked-map (n + 1) vs)

  -- no two of them tie
  then_no : (first second : Ordering) → is_eq second ≡ false → is_eq (ordering_then first second) ≡ false
  then_no Less second untied = refl
  then_no Equal second untied = untied
  then_no Greater second untied = refl

  untied_first : (one : ℤ × ℕ) (n : ℕ) (v : V) → is_eq (nat_cmp one.1 n) ≡ false → ◌≡◌ {A = ℕ} (cond (is_eq (rank_cmp one (one_rank (n, v)))) 1 0) 0
  untied_first one n v untied = ap {B = ℕ} (λ b. cond b 1 0) (then_no (int_cmp (rank v) one.0) (nat_cmp one.1 n) untied)

  none_later : (one : ℤ × ℕ) (n : ℕ) (vs : List V) → one.1 < n → ties_with rank_cmp one (map one_rank (enumerate_from n vs)) ≡ 0
  none_later one n [] lt = refl
  none_later one n (v ∷ vs) lt =
      ties-cons rank_cmp one (one_rank (n, v)) (map one_rank (enumerate_from (n + 1) vs))
      ∙ omega (arith, untied_first one n v (ap is_eq (nat_less one.1 n lt)), none_later one (n + 1) vs (omega (arith, lt)))

  one_at_most : (b : Bool) → cond b 1 0 ≤ 1
  one_at_most true = omega arith
  one_at_most false = omega arith

  ranks_once : (n : ℕ) (vs : List V) → AtMostOnce rank_cmp (map one_rank (enumerate_from n vs))
  ranks_once n [] one = omega arith
  ranks_once n (v ∷ vs) one =
      let more = ties-cons rank_cmp one (one_rank (n, v)) (map one_rank (enumerate_from (n + 1) vs)) in
      let rest = ranks_once (n + 1) vs one in
      by_order (nat_cmp one.1 n)
      (λ less. omega (arith, more, rest, untied_first one n v (ap is_eq less)))
      (λ equal.
      let same : one.1 ≡ n = nat_cmp-IsAntisymmetric one.1 n equal in
      omega (arith, more, none_later one (n + 1) vs (omega (arith, same)), one_at_most (is_eq (rank_cmp one (one_rank (n, v))))))
      (λ greater. omega (arith, more, rest, untied_first one n v (ap is_eq greater)))

map_after : {X Y Z : Type 0} (f : Y → Z) (g : X → Y) (xs : List X) → map f (map g xs) ≡ map (λ x. f (g x)) xs
map_after f g [] = refl
map_after f g (x ∷ xs) = ap (λ rest. f (g x) ∷ rest) (map_after f g xs)

-- what the sort left has the positions of the top
pub sorted_positions : {V : Type 0} (rank : V → ℤ) (entries : List (Entry V)) (made sorted : List (Reverse ℤ × ℕ)) → map plain_rank made ≡ ranks_at rank entries → IsPermutation made sorted → IsSorted (λ one other. rank_cmp (plain_rank one) (plain_rank other)) sorted
    → map (λ at. at.1) sorted ≡ ranked_positions rank entries
sorted_positions {V} rank entries made sorted same moved up =
    let value_rank : Entry V → ℤ = λ entry. rank entry.value in
    let found : List (ℤ × ℕ) = map plain_rank sorted in
    let moved_ranks : IsPermutation (ranks_at rank entries) found = subst (λ xs. IsPermutation xs found) same (IsPermutation-map plain_rank made sorted moved) in
    let once : AtMostOnce rank_cmp found = λ one.
    omega (arith, ranks_once value_rank 0 entries one, sum_by-IsPermutation (λ (at : ℤ × ℕ). cond (is_eq (rank_cmp one at)) 1 0) (ranks_at rank entries) found moved_ranks) in
    let strict : IsStrictlySortedBy rank_cmp found = strict_from_rising rank_cmp-total found (rising_from_sorted rank_cmp-total plain_rank sorted up) once in
    let ats : List (ℕ × Entry V) = ranked (λ (at : ℕ × Entry V). rank at.1.value) (enumerate_from 0 entries) in
    let all : found ≡ map (λ (at : ℕ × Entry V). (rank at.1.value, at.0)) ats = distinct_keys-from_permutation rank_cmp-total rank_cmp-exact (ranks_at rank entries) found strict moved_ranks ∙ sym (ranked-map value_rank 0 entries) in
    sym (map_after (λ (at : ℤ × ℕ). at.1) plain_rank sorted)
    ∙ ap (map (λ (at : ℤ × ℕ). at.1)) all
    ∙ map_after (λ (at : ℤ × ℕ). at.1) (λ (at : ℕ × Entry V). (rank at.1.value, at.0)) ats
