-- Numbers with how often each is there.
use Rattle.std.specs.Prelude.{◌≡◌, ℕ, ◌==◌, not, ℤ, List, flat_map, is_some, true, replicate, length, map, count_by}
use Rattle.std.specs.List.Sorted.{IsStrictlySortedBy}
use Rattle.std.specs.Map.{lookup}
use Rattle.std.specs.Ordering.{int_cmp, is_eq}

-- the numbers, each as often as it is there; one that is entered may be there 0 times
abbrev pub numbers_in : List (ℤ × ℕ) → List ℤ
numbers_in tallies = flat_map (λ (tally : ℤ × ℕ). replicate tally.1 tally.0) tallies

-- whether a number is entered
abbrev pub HasTally : List (ℤ × ℕ) → ℤ → Type 0
HasTally tallies number = is_some (lookup (λ own. is_eq (int_cmp number own)) tallies) ≡ true

abbrev pub StaysEntered : List (ℤ × ℕ) → List (ℤ × ℕ) → Type 0
StaysEntered old new = (number : ℤ) → HasTally old number → HasTally new number

-- how many numbers differ
abbrev pub distinct_in : List (ℤ × ℕ) → ℕ
distinct_in tallies = count_by (λ (tally : ℤ × ℕ). not (tally.1 == 0)) tallies

-- the numbers ascend; so many of them differ, and so many are there in all
pub record AreTallies (tallies : List (ℤ × ℕ)) (different all : ℕ) : Type 0 where
  pub ascend : IsStrictlySortedBy int_cmp (map (λ (tally : ℤ × ℕ). tally.0) tallies)
  pub distinct : different ≡ distinct_in tallies
  pub total : all ≡ length (numbers_in tallies)
