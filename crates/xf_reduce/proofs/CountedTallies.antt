-- Tallies around that of one number: what they tell of all numbers, and what they become where its count changes.
use Rattle.std.proofs.Common.{◌≡◌, ℕ, zero, suc, ◌+◌, ◌-◌, ◌<◌, ◌≤◌, Bool, true, false, not, cond, ◌==◌, if◌then◌else◌, Ordering, ℤ, pos, List, [], ◌∷◌, ◌++◌, map, length, replicate, sum_by, Option, Some, None, is_some, unwrap_or, Result, Ok, Err, OnOk, OnErr, Less, Equal, Greater, refl, sym, ap, ap₂, subst, ◌∙◌, true≢false, add-one, ne_eqb, length-append, arith}
use Rattle.std.specs.BTreeMap.{insert_entry, is_at}
use Rattle.std.specs.FinMap.{int_cmp-IsAntisymmetric}
use Rattle.std.specs.List.{AllByRecursion}
use Rattle.std.specs.List.Sorted.{IsStrictlySortedBy}
use Rattle.std.specs.Map.{lookup}
use Rattle.std.specs.Ordering.{int_cmp, is_eq, is_lt, match_ordering, ordering_reverse}
use Rattle.std.proofs.lemmas.Cmp.{int_cmp_total, tied_itself}
use Rattle.std.proofs.lemmas.List.{map-append, length-replicate, get_or-replicate, get_or_append_left, get_or-append_right}
use Rattle.std.proofs.lemmas.List.Concat.{flat_map-append}
use Rattle.std.proofs.lemmas.List.Sums.{sum_by-append, sum_by-cons}
use Rattle.std.proofs.lemmas.Map.{lookup-none}
use Rattle.std.proofs.lemmas.Map.Entries.{none_below_head}
use Rattle.std.proofs.lemmas.Map.Keys.{sorted_head, sorted_tail}
use Rattle.std.proofs.lemmas.Option.{none-some, same_Some}
use Rattle.xf_model.specs.Group.{distinct_keys, with_key}
use Rattle.xf_model.proofs.AscendingKeys.{by_order, all-distinct_keys, with_key_least}
use Rattle.xf_reduce.specs.NumbersLaws.{with_number_later, with_number_here, without_number_here, without_number_later}
use Rattle.xf_reduce.specs.Stock.{number_in_place, with_number, without_number}
use Rattle.xf_reduce.specs.Tallies.{AreTallies, StaysEntered, distinct_in, numbers_in}

-- ---- what holds of each of a list

all_joined : {X : Type 0} (P : X → Type 0) (xs ys : List X) → AllByRecursion P xs → AllByRecursion P ys → AllByRecursion P (xs ++ ys)
all_joined P [] ys early late = late
all_joined P (x ∷ xs) ys early late = (early.0, all_joined P xs ys early.1 late)

all_replicated : {X : Type 0} (P : X → Type 0) (count : ℕ) (x : X) → P x → AllByRecursion P (replicate count x)
all_replicated P zero x own = tt
all_replicated P (suc count) x own = (own, all_replicated P count x own)

-- what holds of the number of each tally holds of each number
all-numbers_in : (P : ℤ → Type 0) (tallies : List (ℤ × ℕ)) → AllByRecursion P (map (λ (tally : ℤ × ℕ). tally.0) tallies) → AllByRecursion P (numbers_in tallies)
all-numbers_in P [] all = tt
all-numbers_in P (tally ∷ tallies) all = all_joined P (replicate tally.1 tally.0) (numbers_in tallies) (all_replicated P tally.1 tally.0 all.0) (all-numbers_in P tallies all.1)

-- ---- tallies around a number

abbrev pub AreBelow : ℤ → List (ℤ × ℕ) → Type 0
AreBelow number tallies = AllByRecursion (λ own. int_cmp own number ≡ Less) (map (λ (tally : ℤ × ℕ). tally.0) tallies)

abbrev pub AreAbove : ℤ → List (ℤ × ℕ) → Type 0
AreAbove number tallies = AllByRecursion (λ own. int_cmp number own ≡ Less) (map (λ (tally : ℤ × ℕ). tally.0) tallies)

-- tallies that have a number so often, between those below and those above it
pub record Counted (tallies : List (ℤ × ℕ)) (number : ℤ) (count : ℕ) : Type 0 where
  pub before : List (ℤ × ℕ)
  pub after : List (ℤ × ℕ)
  pub was : tallies ≡ before ++ (number, count) ∷ after
  pub becomes : (other : ℕ) → insert_entry int_cmp tallies number other ≡ before ++ (number, other) ∷ after
  pub below : AreBelow number before
  pub above : AreAbove number after

-- the first of ascending tallies is that of the number
counted_first : (tally : ℤ × ℕ) (rest : List (ℤ × ℕ)) (number : ℤ) (count : ℕ) → AreAbove tally.0 rest → int_cmp number tally.0 ≡ Equal → tally.1 ≡ count → Counted (tally ∷ rest) number count
counted_first tally rest number count above tied is =
    let same : number ≡ tally.0 = int_cmp-IsAntisymmetric number tally.0 tied in
    record {
      before = [];
      after = rest;
      was = ap₂ (λ (own : ℤ) (many : ℕ). (own, many) ∷ rest) (sym same) is;
      becomes = λ other. ap (λ order. match_ordering order ((number, other) ∷ tally ∷ rest) ((tally.0, other) ∷ rest) (tally ∷ insert_entry int_cmp rest number other)) tied ∙ ap (λ (own : ℤ). (own, other) ∷ rest) (sym same);
      below = tt;
      above = subst (λ own. AreAbove own rest) (sym same) above;
    }

-- it is among those after a lesser one
counted_later : (tally : ℤ × ℕ) (rest : List (ℤ × ℕ)) (number : ℤ) (count : ℕ) → int_cmp number tally.0 ≡ Greater → Counted rest number count → Counted (tally ∷ rest) number count
counted_later tally rest number count greater among = record {
  before = tally ∷ among.before;
  after = among.after;
  was = ap (λ more. tally ∷ more) among.was;
  becomes = λ other. ap (λ order. match_ordering order ((number, other) ∷ tally ∷ rest) ((tally.0, other) ∷ rest) (tally ∷ insert_entry int_cmp rest number other)) greater ∙ ap (λ more. tally ∷ more) (among.becomes other);
  below = (int_cmp_total.antisymm tally.0 number ∙ ap ordering_reverse greater, among.below);
  above = among.above;
}

-- what is found of a number among ascending tallies is its count
pub counted : (tallies : List (ℤ × ℕ)) (number : ℤ) (count : ℕ) → IsStrictlySortedBy int_cmp (map (λ (tally : ℤ × ℕ). tally.0) tallies) → lookup (λ own. is_eq (int_cmp number own)) tallies ≡ Some count → Counted tallies number count
counted [] number count sorted found = absurd (none-some count found)
counted (tally ∷ rest) number count sorted found =
    let choice = λ (order : Ordering). cond (is_eq order) (Some tally.1) (lookup (λ own. is_eq (int_cmp number own)) rest) in
    by_order (int_cmp number tally.0)
    (λ less.
    let none : lookup (λ own. is_eq (int_cmp number own)) (tally ∷ rest) ≡ None = lookup-none (is_at (int_cmp number)) (tally ∷ rest) (none_below_head int_cmp_total number tally rest sorted less) in
    absurd (none-some count (sym none ∙ found)))
    (λ tied. counted_first tally rest number count (sorted_head int_cmp tally.0 (map (λ (tally : ℤ × ℕ). tally.0) rest) sorted) tied (same_Some tally.1 count (sym (ap choice tied) ∙ found)))
    (λ greater. counted_later tally rest number count greater (counted rest number count (sorted_tail int_cmp tally.0 (map (λ (tally : ℤ × ℕ). tally.0) rest) sorted) (sym (ap choice greater) ∙ found)))

-- tallies that have no count of a number, and where it comes in
pub record Uncounted (tallies : List (ℤ × ℕ)) (number : ℤ) : Type 0 where
  pub before : List (ℤ × ℕ)
  pub after : List (ℤ × ℕ)
  pub was : tallies ≡ before ++ after
  pub becomes : (count : ℕ) → insert_entry int_cmp tallies number count ≡ before ++ (number, count) ∷ after

-- where a number is not found, it has no count
pub uncounted : (tallies : List (ℤ × ℕ)) (number : ℤ) → lookup (λ own. is_eq (int_cmp number own)) tallies ≡ None → Uncounted tallies number
uncounted [] number missing = record { before = []; after = []; was = refl; becomes = λ count. refl }
uncounted (tally ∷ rest) number missing =
    let choice = λ (order : Ordering). cond (is_eq order) (Some tally.1) (lookup (λ own. is_eq (int_cmp number own)) rest) in
    let inserted = λ (count : ℕ) (order : Ordering). match_ordering order ((number, count) ∷ tally ∷ rest) ((tally.0, count) ∷ rest) (tally ∷ insert_entry int_cmp rest number count) in
    by_order (int_cmp number tally.0)
    (λ less. record { before = []; after = tally ∷ rest; was = refl; becomes = λ count. ap (inserted count) less })
    (λ tied. absurd (none-some tally.1 (sym missing ∙ ap choice tied)))
    (λ greater.
    let among = uncounted rest number (sym (ap choice greater) ∙ missing) in
    record {
      before = tally ∷ among.before;
      after = among.after;
      was = ap (λ more. tally ∷ more) among.was;
      becomes = λ count. ap (inserted count) greater ∙ ap (λ more. tally ∷ more) (among.becomes count);
    })

-- ---- the numbers

-- the numbers of tallies around one
pub numbers_in-around : (before : List (ℤ × ℕ)) (number : ℤ) (count : ℕ) (after : List (ℤ × ℕ)) → numbers_in (before ++ (number, count) ∷ after) ≡ numbers_in before ++ (replicate count number ++ numbers_in after)
numbers_in-around before number count after = flat_map-append (λ (tally : ℤ × ℕ). replicate tally.1 tally.0) before ((number, count) ∷ after)

-- a number goes behind those that are below it
with_number_past : (number : ℤ) (xs ys : List ℤ) → AllByRecursion (λ x. int_cmp x number ≡ Less) xs → with_number number (xs ++ ys) ≡ xs ++ with_number number ys
with_number_past number [] ys below = refl
with_number_past number (x ∷ xs) ys below = with_number_later number x (xs ++ ys) (ap is_lt below.0) ∙ ap (λ rest. x ∷ rest) (with_number_past number xs ys below.1)

-- it goes before those that are above it
with_number_before_all : (number : ℤ) (xs : List ℤ) → AllByRecursion (λ x. int_cmp number x ≡ Less) xs → with_number number xs ≡ number ∷ xs
with_number_before_all number [] above = refl
with_number_before_all number (x ∷ xs) above = with_number_here number x xs (ap is_lt (int_cmp_total.antisymm x number ∙ ap ordering_reverse above.0))

-- it goes before its own
with_number_before_own : (number : ℤ) (count : ℕ) (xs : List ℤ) → AllByRecursion (λ x. int_cmp number x ≡ Less) xs → with_number number (replicate count number ++ xs) ≡ number ∷ (replicate count number ++ xs)
with_number_before_own number zero xs above = with_number_before_all number xs above
with_number_before_own number (suc count) xs above = with_number_here number number (replicate count number ++ xs) (ap is_lt (tied_itself int_cmp_total number))

without_number_past : (number : ℤ) (xs ys : List ℤ) → AllByRecursion (λ x. int_cmp x number ≡ Less) xs → without_number number (xs ++ ys) ≡ xs ++ without_number number ys
without_number_past number [] ys below = refl
without_number_past number (x ∷ xs) ys below = without_number_later number x (xs ++ ys) (ap is_eq below.0) ∙ ap (λ rest. x ∷ rest) (without_number_past number xs ys below.1)

without_number_none : (number : ℤ) (xs : List ℤ) → AllByRecursion (λ x. int_cmp number x ≡ Less) xs → without_number number xs ≡ xs
without_number_none number [] above = refl
without_number_none number (x ∷ xs) above =
    without_number_later number x xs (ap is_eq (int_cmp_total.antisymm x number ∙ ap ordering_reverse above.0)) ∙ ap (λ rest. x ∷ rest) (without_number_none number xs above.1)

module _ {tallies : List (ℤ × ℕ)} {number : ℤ} {count : ℕ} (placed : Counted tallies number count) where
  numbers_below : AllByRecursion (λ x. int_cmp x number ≡ Less) (numbers_in placed.before)
  numbers_below = all-numbers_in (λ x. int_cmp x number ≡ Less) placed.before placed.below

  numbers_above : AllByRecursion (λ x. int_cmp number x ≡ Less) (numbers_in placed.after)
  numbers_above = all-numbers_in (λ x. int_cmp number x ≡ Less) placed.after placed.above

  numbers_now : numbers_in tallies ≡ numbers_in placed.before ++ (replicate count number ++ numbers_in placed.after)
  numbers_now = ap numbers_in placed.was ∙ numbers_in-around placed.before number count placed.after

  numbers_then : (other : ℕ) → numbers_in (insert_entry int_cmp tallies number other) ≡ numbers_in placed.before ++ (replicate other number ++ numbers_in placed.after)
  numbers_then other = ap numbers_in (placed.becomes other) ∙ numbers_in-around placed.before number other placed.after

  -- a count of one more is a number more
  pub numbers_in-more : numbers_in (insert_entry int_cmp tallies number (count + 1)) ≡ with_number number (numbers_in tallies)
  numbers_in-more =
      numbers_then (count + 1)
      ∙ ap (λ many. numbers_in placed.before ++ (replicate many number ++ numbers_in placed.after)) (add-one count)
      ∙ ap (λ rest. numbers_in placed.before ++ rest) (sym (with_number_before_own number count (numbers_in placed.after) numbers_above))
      ∙ sym (with_number_past number (numbers_in placed.before) (replicate count number ++ numbers_in placed.after) numbers_below)
      ∙ ap (with_number number) (sym numbers_now)

  -- a count of one less is a number less
  pub numbers_in-fewer : (fewer : ℕ) → count ≡ suc fewer → numbers_in (insert_entry int_cmp tallies number fewer) ≡ without_number number (numbers_in tallies)
  numbers_in-fewer fewer is =
      numbers_then fewer
      ∙ ap (λ rest. numbers_in placed.before ++ rest) (sym (without_number_here number (replicate fewer number ++ numbers_in placed.after)))
      ∙ sym (without_number_past number (numbers_in placed.before) (replicate (suc fewer) number ++ numbers_in placed.after) numbers_below)
      ∙ ap (λ many. without_number number (numbers_in placed.before ++ (replicate many number ++ numbers_in placed.after))) (sym is)
      ∙ ap (without_number number) (sym numbers_now)

  -- a number that is there 0 times cannot go
  pub numbers_in-none : count ≡ 0 → numbers_in tallies ≡ without_number number (numbers_in tallies)
  numbers_in-none none =
      let only : numbers_in tallies ≡ numbers_in placed.before ++ numbers_in placed.after = numbers_now ∙ ap (λ many. numbers_in placed.before ++ (replicate many number ++ numbers_in placed.after)) none in
      only
      ∙ ap (λ rest. numbers_in placed.before ++ rest) (sym (without_number_none number (numbers_in placed.after) numbers_above))
      ∙ sym (without_number_past number (numbers_in placed.before) (numbers_in placed.after) numbers_below)
      ∙ ap (without_number number) (sym only)

  -- ---- how many

  length_around : (many : ℕ) → length (numbers_in placed.before ++ (replicate many number ++ numbers_in placed.after)) ≡ length (numbers_in placed.before) + many + length (numbers_in placed.after)
  length_around many =
      let own : length (replicate many number) ≡ many = length-replicate many number in
      let rest : length (replicate many number ++ numbers_in placed.after) ≡ length (replicate many number) + length (numbers_in placed.after) = length-append (replicate many number) (numbers_in placed.after) in
      length-append (numbers_in placed.before) (replicate many number ++ numbers_in placed.after) ∙ omega arith

  pub length_now : length (numbers_in tallies) ≡ length (numbers_in placed.before) + count + length (numbers_in placed.after)
  length_now = ap length numbers_now ∙ length_around count

  pub length_then : (other : ℕ) → length (numbers_in (insert_entry int_cmp tallies number other)) ≡ length (numbers_in placed.before) + other + length (numbers_in placed.after)
  length_then other = ap length (numbers_then other) ∙ length_around other

  differ_around : (many : ℕ) → distinct_in (placed.before ++ (number, many) ∷ placed.after) ≡ distinct_in placed.before + cond (not (many == 0)) 1 0 + distinct_in placed.after
  differ_around many =
      let weight = λ (tally : ℤ × ℕ). cond {A = ℕ} (not (tally.1 == 0)) 1 0 in
      let own : sum_by weight ((number, many) ∷ placed.after) ≡ cond (not (many == 0)) 1 0 + sum_by weight placed.after = sum_by-cons weight (number, many) placed.after in
      sum_by-append weight placed.before ((number, many) ∷ placed.after) ∙ omega arith

  pub distinct_now : distinct_in tallies ≡ distinct_in placed.before + cond (not (count == 0)) 1 0 + distinct_in placed.after
  distinct_now = ap distinct_in placed.was ∙ differ_around count

  pub distinct_then : (other : ℕ) → distinct_in (insert_entry int_cmp tallies number other) ≡ distinct_in placed.before + cond (not (other == 0)) 1 0 + distinct_in placed.after
  distinct_then other = ap distinct_in (placed.becomes other) ∙ differ_around other

  -- the numbers of the tallies are the same
  keys_then : (other : ℕ) → map (λ (tally : ℤ × ℕ). tally.0) (insert_entry int_cmp tallies number other) ≡ map (λ (tally : ℤ × ℕ). tally.0) tallies
  keys_then other =
      ap (map (λ (tally : ℤ × ℕ). tally.0)) (placed.becomes other)
      ∙ map-append (λ (tally : ℤ × ℕ). tally.0) placed.before ((number, other) ∷ placed.after)
      ∙ sym (map-append (λ (tally : ℤ × ℕ). tally.0) placed.before ((number, count) ∷ placed.after))
      ∙ ap (map (λ (tally : ℤ × ℕ). tally.0)) (sym placed.was)

  -- a count that changes leaves tallies
  pub AreTallies-changed : (other distinct total : ℕ) → IsStrictlySortedBy int_cmp (map (λ (tally : ℤ × ℕ). tally.0) tallies)
      → distinct + cond (not (count == 0)) 1 0 ≡ distinct_in tallies + cond (not (other == 0)) 1 0 → total + count ≡ length (numbers_in tallies) + other
      → AreTallies (insert_entry int_cmp tallies number other) distinct total
  AreTallies-changed other distinct total sorted differ many = record {
    ascend = subst (IsStrictlySortedBy int_cmp) (sym (keys_then other)) sorted;
    distinct = let before = distinct_now in let after = distinct_then other in omega arith;
    total = let before = length_now in let after = length_then other in omega arith;
  }

-- a number that comes in 0 times changes no number
pub numbers_in-entered : {tallies : List (ℤ × ℕ)} {number : ℤ} → Uncounted tallies number → numbers_in (insert_entry int_cmp tallies number 0) ≡ numbers_in tallies
numbers_in-entered {number = number} placed =
    ap numbers_in (placed.becomes 0)
    ∙ numbers_in-around placed.before number 0 placed.after
    ∙ sym (flat_map-append (λ (tally : ℤ × ℕ). replicate tally.1 tally.0) placed.before placed.after)
    ∙ ap numbers_in (sym placed.was)

-- nor how many differ
pub distinct_in-entered : {tallies : List (ℤ × ℕ)} {number : ℤ} → Uncounted tallies number → distinct_in (insert_entry int_cmp tallies number 0) ≡ distinct_in tallies
distinct_in-entered {number = number} placed =
    let weight = λ (tally : ℤ × ℕ). cond {A = ℕ} (not (tally.1 == 0)) 1 0 in
    let own : sum_by weight ((number, 0) ∷ placed.after) ≡ 0 + sum_by weight placed.after = sum_by-cons weight (number, 0) placed.after in
    let whole : sum_by weight (placed.before ++ placed.after) ≡ sum_by weight placed.before + sum_by weight placed.after = sum_by-append weight placed.before placed.after in
    let more : sum_by weight (placed.before ++ (number, 0) ∷ placed.after) ≡ sum_by weight placed.before + sum_by weight ((number, 0) ∷ placed.after) = sum_by-append weight placed.before ((number, 0) ∷ placed.after) in
    let same : sum_by weight (placed.before ++ (number, 0) ∷ placed.after) ≡ sum_by weight (placed.before ++ placed.after) = omega arith in
    ap distinct_in (placed.becomes 0) ∙ same ∙ ap distinct_in (sym placed.was)

pub AreTallies-entered : {tallies : List (ℤ × ℕ)} {number : ℤ} {distinct total : ℕ} → Uncounted tallies number → IsStrictlySortedBy int_cmp (map (λ (tally : ℤ × ℕ). tally.0) (insert_entry int_cmp tallies number 0))
    → AreTallies tallies distinct total → AreTallies (insert_entry int_cmp tallies number 0) distinct total
AreTallies-entered placed sorted told = record {
  ascend = sorted;
  distinct = told.distinct ∙ sym (distinct_in-entered placed);
  total = told.total ∙ ap length (sym (numbers_in-entered placed));
}

-- a count that is not 0 is of one number that is there
pub one_where_some : (count : ℕ) → 0 < count → cond {A = ℕ} (not (count == 0)) 1 0 ≡ 1
one_where_some count some = let test : (count == 0) ≡ false = ne_eqb count 0 (omega arith) in ap (λ test. cond {A = ℕ} (not test) 1 0) test

-- no more numbers differ than there are
pub distinct_in-le : (tallies : List (ℤ × ℕ)) → distinct_in tallies ≤ length (numbers_in tallies)
distinct_in-le [] = omega arith
distinct_in-le (tally ∷ tallies) =
    let weight = λ (tally : ℤ × ℕ). cond {A = ℕ} (not (tally.1 == 0)) 1 0 in
    let cons : sum_by weight (tally ∷ tallies) ≡ cond (not (tally.1 == 0)) 1 0 + sum_by weight tallies = sum_by-cons weight tally tallies in
    let joined : length (replicate tally.1 tally.0 ++ numbers_in tallies) ≡ length (replicate tally.1 tally.0) + length (numbers_in tallies) = length-append (replicate tally.1 tally.0) (numbers_in tallies) in
    let own : length (replicate tally.1 tally.0) ≡ tally.1 = length-replicate tally.1 tally.0 in
    let rest : distinct_in tallies ≤ length (numbers_in tallies) = distinct_in-le tallies in
    let light : cond {A = ℕ} (not (tally.1 == 0)) 1 0 ≤ tally.1 = one_or_none tally.1 in
    omega arith
  where
    one_or_none : (count : ℕ) → cond (not (count == 0)) 1 0 ≤ count
    one_or_none zero = omega arith
    one_or_none (suc count) = let one : cond {A = ℕ} (not (suc count == 0)) 1 0 ≡ 1 = one_where_some (suc count) (omega arith) in omega arith

-- ---- how many differ

-- the distinct of a number several times and of those above it are the number and the distinct of those
distinct_keys-replicate : (number : ℤ) (count : ℕ) (xs : List ℤ) → AllByRecursion (λ x. int_cmp number x ≡ Less) xs → distinct_keys int_cmp (replicate (suc count) number ++ xs) ≡ number ∷ distinct_keys int_cmp xs
distinct_keys-replicate number zero xs above = with_key_least int_cmp number (distinct_keys int_cmp xs) (all-distinct_keys int_cmp (λ x. int_cmp number x ≡ Less) xs above)
distinct_keys-replicate number (suc count) xs above =
    ap (with_key int_cmp number) (distinct_keys-replicate number count xs above)
    ∙ ap₂ (λ (before after : Bool). if before then number ∷ number ∷ distinct_keys int_cmp xs else if after then number ∷ with_key int_cmp number (distinct_keys int_cmp xs) else number ∷ distinct_keys int_cmp xs)
    (ap is_lt (tied_itself int_cmp_total number)) (ap is_lt (tied_itself int_cmp_total number))

-- the numbers of ascending tallies that are there differ
pub length-distinct_keys-numbers_in : (tallies : List (ℤ × ℕ)) → IsStrictlySortedBy int_cmp (map (λ (tally : ℤ × ℕ). tally.0) tallies) → length (distinct_keys int_cmp (numbers_in tallies)) ≡ distinct_in tallies
length-distinct_keys-numbers_in [] sorted = refl
length-distinct_keys-numbers_in (tally ∷ tallies) sorted =
    let numbers = map (λ (tally : ℤ × ℕ). tally.0) tallies in
    let weight = λ (tally : ℤ × ℕ). cond {A = ℕ} (not (tally.1 == 0)) 1 0 in
    let above = all-numbers_in (λ x. int_cmp tally.0 x ≡ Less) tallies (sorted_head int_cmp tally.0 numbers sorted) in
    let rest : length (distinct_keys int_cmp (numbers_in tallies)) ≡ distinct_in tallies = length-distinct_keys-numbers_in tallies (sorted_tail int_cmp tally.0 numbers sorted) in
    choose tally.1 above ∙ ap (λ many. cond (not (tally.1 == 0)) 1 0 + many) rest ∙ sym (sum_by-cons weight tally tallies)
  where
    choose : (count : ℕ) → AllByRecursion (λ x. int_cmp tally.0 x ≡ Less) (numbers_in tallies) → length (distinct_keys int_cmp (replicate count tally.0 ++ numbers_in tallies)) ≡ cond (not (count == 0)) 1 0 + length (distinct_keys int_cmp (numbers_in tallies))
    choose zero above = omega arith
    choose (suc count) above =
        let one : cond {A = ℕ} (not (suc count == 0)) 1 0 ≡ 1 = one_where_some (suc count) (omega arith) in
        ap length (distinct_keys-replicate tally.0 count (numbers_in tallies) above) ∙ omega arith

-- ---- the number at a place

-- a place before the count of the first tally is its number's
pub number_in_place-first : (number : ℤ) (count : ℕ) (rest : List (ℤ × ℕ)) (place : ℕ) → place < count → number_in_place (numbers_in ((number, count) ∷ rest)) place ≡ number
number_in_place-first number count rest place early =
    get_or_append_left (replicate count number) (numbers_in rest) (pos 0) place (omega (arith, length-replicate count number)) ∙ get_or-replicate count place number (pos 0) early

-- one behind it is as much before the others
pub number_in_place-later : (number : ℤ) (count : ℕ) (rest : List (ℤ × ℕ)) (place : ℕ) → count ≤ place → number_in_place (numbers_in ((number, count) ∷ rest)) place ≡ number_in_place (numbers_in rest) (place - count)
number_in_place-later number count rest place late = get_or-append_right (replicate count number) (numbers_in rest) count place (pos 0) (length-replicate count number) late

-- ---- what is entered

-- a count that is told of a number that is entered is the one that is found
pub found_count : (found : Option ℕ) (count : ℕ) → is_some found ≡ true → count ≡ unwrap_or found 0 → found ≡ Some count
found_count None count some is = absurd (true≢false (sym some))
found_count (Some own) count some is = ap Some (sym is)

-- what is not found is none
pub none_found : (found : Option ℕ) → is_some found ≡ false → found ≡ None
none_found None missing = refl
none_found (Some own) missing = absurd (true≢false missing)

-- of two outcomes, the second of which cannot be, the first is
pub only_ok : {T E : Type 0} (outcome : Result T E) {P Q : Type 0} → OnOk outcome P → OnErr outcome Q → (Q → ⊥) → P
only_ok (Ok value) ok err impossible = ok
only_ok (Err error) ok err impossible = absurd (impossible err)

-- what is found once a number has a count is some count where some was found before
pub stays_entered : (old new : List (ℤ × ℕ)) (number : ℤ) (count : ℕ) → ((own : ℤ) → lookup (is_at (int_cmp own)) new ≡ cond (is_at (int_cmp number) own) (Some count) (lookup (is_at (int_cmp own)) old)) → StaysEntered old new
stays_entered old new number count told = λ own entered.
    ap is_some (told own) ∙ choose (is_at (int_cmp number) own) (lookup (is_at (int_cmp own)) old) entered
  where
    choose : (test : Bool) (found : Option ℕ) → is_some found ≡ true → is_some (cond test (Some count) found) ≡ true
    choose true found some = refl
    choose false found some = some
