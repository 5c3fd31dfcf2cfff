-- Positions among ascending keys, and the keys there.
use Rattle.std.proofs.Common.{◌≡◌, ℕ, zero, suc, pos, ◌<◌, ◌≤◌, Bool, true, false, ◌||◌, eqb, List, [], ◌∷◌, ◌++◌, Some, map, length, get_or, slice_get, refl, sym, ap, subst, ◌∙◌, arith, ⊎_elim}
use Rattle.std.proofs.lemmas.Bool.{cases_eq, cases_lt, lt-ltb}
use Rattle.std.proofs.lemmas.Bool.Decides.{nat_tests}
use Rattle.std.proofs.lemmas.Cmp.{tied_itself}
use Rattle.std.proofs.lemmas.List.{map-id}
use Rattle.std.proofs.lemmas.List.Folds.{list_any-append}
use Rattle.std.proofs.lemmas.Option.{slice_get-get_or, slice_get_within}
use Rattle.std.specs.List.{AllByRecursion, flat_map, list_any}
use Rattle.std.specs.List.Sorted.{IsStrictlySortedBy}
use Rattle.std.specs.Option.{option_to_list}
use Rattle.std.specs.Ordering.{is_eq, nat_cmp}
use Rattle.std.specs.declared.cmp.Ordering.TheVariants.{Less, Equal, Greater}
use Rattle.xf_base.specs.Key.{key_cmp}
use Rattle.xf_base.specs.KeyOrder.{key_cmp_total}
use Rattle.xf_base.specs.declared.key.Key.{Key}
use Rattle.xf_base.specs.declared.key.Key.TheVariants as key
use Rattle.xf_group.specs.Held.{AreWithin, key_lists, keys_at_positions}
use Rattle.xf_group.specs.Used.{is_listed, is_used}
use Rattle.xf_group.proofs.AscendingEntries.{less_back, sorted_places}
use Rattle.xf_model.specs.Laws.{is_among}

-- any key
pub some_key : Key
some_key = key.Num (pos 0)

-- what holds of each element goes over to what follows from it
pub all_then : {X : Type 0} (P Q : X → Type 0) → ((x : X) → P x → Q x) → (xs : List X) → AllByRecursion P xs → AllByRecursion Q xs
all_then P Q step [] all = tt
all_then P Q step (x ∷ xs) all = (step x all.0, all_then P Q step xs all.1)

pub or_left : (a b : Bool) → a ≡ true → (a || b) ≡ true
or_left a b held = rw held refl

pub or_right : (a b : Bool) → b ≡ true → (a || b) ≡ true
or_right true b held = refl
or_right false b held = held

-- the keys at positions that are within are the keys there
pub keys_within : (keys : List Key) (positions : List ℕ) (d : Key) → AllByRecursion (λ position. position < length keys) positions → keys_at_positions keys positions ≡ map (λ position. get_or keys position d) positions
keys_within keys [] d all = refl
keys_within keys (p ∷ ps) d all =
    let here : slice_get keys p ≡ Some (get_or keys p d) = slice_get-get_or keys p d all.0 in
    ap (λ found. option_to_list found ++ keys_at_positions keys ps) here ∙ ap (λ rest. get_or keys p d ∷ rest) (keys_within keys ps d all.1)

-- of ascending keys the earlier is below the later
pub keys_ascend : (keys : List Key) → IsStrictlySortedBy key_cmp keys → (i j : ℕ) (d : Key) → i < j → j < length keys → key_cmp (get_or keys i d) (get_or keys j d) ≡ Less
keys_ascend keys sorted = sorted_places key_cmp (λ (own : Key). own) keys (subst (IsStrictlySortedBy key_cmp) (sym (map-id keys)) sorted)

eqb-less : (i j : ℕ) → i < j → eqb i j ≡ false
eqb-less i j lt = grind (arith, nat_tests)

eqb-more : (i j : ℕ) → j < i → eqb i j ≡ false
eqb-more i j lt = grind (arith, nat_tests)

pub eqb-same : (i : ℕ) → eqb i i ≡ true
eqb-same i = grind (arith, nat_tests)

-- two of them tie only where they stand at one place
pub tied_places : (keys : List Key) → IsStrictlySortedBy key_cmp keys → (i j : ℕ) (d : Key) → i < length keys → j < length keys → is_eq (key_cmp (get_or keys i d) (get_or keys j d)) ≡ eqb i j
tied_places keys sorted i j d one other =
    ⊎_elim
    (λ (same : i ≡ j).
    ap is_eq (ap (λ n. key_cmp (get_or keys i d) (get_or keys n d)) (sym same) ∙ tied_itself key_cmp_total (get_or keys i d))
    ∙ sym (ap (eqb i) (sym same) ∙ eqb-same i))
    (λ (differ : i ≡ j → ⊥).
    ⊎_elim
    (λ (lt : i < j). ap is_eq (keys_ascend keys sorted i j d lt other) ∙ sym (eqb-less i j lt))
    (λ (le : j ≤ i).
    let lt : j < i = omega (arith, le, differ) in
    ap is_eq (less_back key_cmp_total (get_or keys j d) (get_or keys i d) (keys_ascend keys sorted j i d lt one)) ∙ sym (eqb-more i j lt))
    (cases_lt i j))
    (cases_eq i j)

-- a key is among those at positions where its own position is one of them
among_mapped : (keys : List Key) → IsStrictlySortedBy key_cmp keys → (positions : List ℕ) (k : ℕ) (d : Key) → AllByRecursion (λ position. position < length keys) positions → k < length keys → is_among key_cmp (map (λ position. get_or keys position d) positions) (get_or keys k d) ≡ is_listed positions k
among_mapped keys sorted [] k d all inside = refl
among_mapped keys sorted (p ∷ ps) k d all inside =
    ap (λ b. b || is_among key_cmp (map (λ position. get_or keys position d) ps) (get_or keys k d)) (tied_places keys sorted k p d inside all.0)
    ∙ ap (λ b. eqb k p || b) (among_mapped keys sorted ps k d all.1 inside)

pub among_positions : (keys : List Key) → IsStrictlySortedBy key_cmp keys → (positions : List ℕ) (k : ℕ) (d : Key) → AllByRecursion (λ position. position < length keys) positions → k < length keys → is_among key_cmp (keys_at_positions keys positions) (get_or keys k d) ≡ is_listed positions k
among_positions keys sorted positions k d all inside =
    ap (λ own. is_among key_cmp own (get_or keys k d)) (keys_within keys positions d all) ∙ among_mapped keys sorted positions k d all inside

-- the keys of all places
abbrev pub all_keys : List (List Key) → List Key
all_keys places = flat_map (λ keys. keys) places

-- it is among the keys of some place where some place has its position
pub among_places : (keys : List Key) → IsStrictlySortedBy key_cmp keys → (places : List (List ℕ)) (k : ℕ) (d : Key) → AreWithin (length keys) places → k < length keys → is_among key_cmp (all_keys (key_lists keys places)) (get_or keys k d) ≡ is_used places k
among_places keys sorted [] k d all inside = refl
among_places keys sorted (own ∷ rest) k d all inside =
    let later : List Key = all_keys (key_lists keys rest) in
    list_any-append (λ key. is_eq (key_cmp (get_or keys k d) key)) (keys_at_positions keys own) later
    ∙ ap (λ b. b || is_among key_cmp later (get_or keys k d)) (among_positions keys sorted own k d all.0 inside)
    ∙ ap (λ b. is_listed own k || b) (among_places keys sorted rest k d all.1 inside)

-- positions whose keys ascend do
nat_less : (p q : ℕ) → p < q → nat_cmp p q ≡ Less
nat_less p q lt = rw (lt-ltb p q lt) refl

lower_place : (keys : List Key) → IsStrictlySortedBy key_cmp keys → (p q : ℕ) (d : Key) → p < length keys → q < length keys → key_cmp (get_or keys p d) (get_or keys q d) ≡ Less → nat_cmp p q ≡ Less
lower_place keys sorted p q d one other less =
    ⊎_elim
    (λ (lt : p < q). nat_less p q lt)
    (λ (le : q ≤ p).
    ⊎_elim
    (λ (same : q ≡ p).
    let tied : key_cmp (get_or keys p d) (get_or keys q d) ≡ Equal = ap (λ n. key_cmp (get_or keys p d) (get_or keys n d)) same ∙ tied_itself key_cmp_total (get_or keys p d) in
    absurd cc)
    (λ (differ : q ≡ p → ⊥).
    let greater : key_cmp (get_or keys p d) (get_or keys q d) ≡ Greater = less_back key_cmp_total (get_or keys q d) (get_or keys p d) (keys_ascend keys sorted q p d (omega (arith, le, differ)) one) in
    absurd cc)
    (cases_eq q p))
    (cases_lt p q)

lower_places : (keys : List Key) → IsStrictlySortedBy key_cmp keys → (p : ℕ) (ps : List ℕ) (d : Key) → p < length keys → AllByRecursion (λ position. position < length keys) ps → AllByRecursion (λ y. key_cmp (get_or keys p d) y ≡ Less) (map (λ position. get_or keys position d) ps) → AllByRecursion (λ q. nat_cmp p q ≡ Less) ps
lower_places keys sorted p [] d one all less = tt
lower_places keys sorted p (q ∷ qs) d one all less = (lower_place keys sorted p q d one all.0 less.0, lower_places keys sorted p qs d one all.1 less.1)

mapped_ascend : (keys : List Key) → IsStrictlySortedBy key_cmp keys → (positions : List ℕ) (d : Key) → AllByRecursion (λ position. position < length keys) positions → IsStrictlySortedBy key_cmp (map (λ position. get_or keys position d) positions) → IsStrictlySortedBy nat_cmp positions
unfolding IsStrictlySortedBy
mapped_ascend keys sorted [] d all up = tt
mapped_ascend keys sorted (p ∷ ps) d all up = (lower_places keys sorted p ps d all.0 all.1 up.0, mapped_ascend keys sorted ps d all.1 up.1)

pub positions_ascend : (keys : List Key) → IsStrictlySortedBy key_cmp keys → (positions : List ℕ) → AllByRecursion (λ position. position < length keys) positions → IsStrictlySortedBy key_cmp (keys_at_positions keys positions) → IsStrictlySortedBy nat_cmp positions
positions_ascend keys sorted positions all up =
    mapped_ascend keys sorted positions some_key all (subst (IsStrictlySortedBy key_cmp) (keys_within keys positions some_key all) up)

-- each position that is listed
pub listed_each : (positions : List ℕ) (Q : ℕ → Type 0) → ((p : ℕ) → is_listed positions p ≡ true → Q p) → AllByRecursion Q positions
listed_each [] Q step = tt
listed_each (q ∷ qs) Q step = (step q (or_left (eqb q q) (is_listed qs q) (eqb-same q)), listed_each qs Q (λ p listed. step p (or_right (eqb p q) (is_listed qs p) listed)))

-- each position that some place has
pub used_each : (places : List (List ℕ)) (Q : ℕ → Type 0) → ((p : ℕ) → is_used places p ≡ true → Q p) → AllByRecursion (AllByRecursion Q) places
used_each [] Q step = tt
used_each (own ∷ rest) Q step = (
  listed_each own Q (λ p listed. step p (or_left (is_listed own p) (is_used rest p) listed)),
  used_each rest Q (λ p used. step p (or_right (is_listed own p) (is_used rest p) used)),
)

-- other positions at which the same keys stand
renumbered_list : (old new : List Key) (number : ℕ → ℕ) (positions : List ℕ) → AllByRecursion (λ p. slice_get new (number p) ≡ slice_get old p) positions → keys_at_positions new (map number positions) ≡ keys_at_positions old positions
renumbered_list old new number [] same = refl
renumbered_list old new number (p ∷ ps) same =
    ap (λ found. option_to_list found ++ keys_at_positions new (map number ps)) same.0
    ∙ ap (λ rest. option_to_list (slice_get old p) ++ rest) (renumbered_list old new number ps same.1)

pub renumbered_lists : (old new : List Key) (number : ℕ → ℕ) (places : List (List ℕ)) → AllByRecursion (AllByRecursion (λ p. slice_get new (number p) ≡ slice_get old p)) places → key_lists new (map (map number) places) ≡ key_lists old places
renumbered_lists old new number [] same = refl
renumbered_lists old new number (own ∷ rest) same =
    ap (λ first. first ∷ key_lists new (map (map number) rest)) (renumbered_list old new number own same.0)
    ∙ ap (λ later. keys_at_positions old own ∷ later) (renumbered_lists old new number rest same.1)

-- they are within the new keys
renumbered_place : (old new : List Key) (number : ℕ → ℕ) (p : ℕ) → p < length old → slice_get new (number p) ≡ slice_get old p → number p < length new
renumbered_place old new number p inside same = slice_get_within new (number p) (get_or old p some_key) (same ∙ slice_get-get_or old p some_key inside)

renumbered_within_list : (old new : List Key) (number : ℕ → ℕ) (positions : List ℕ) → AllByRecursion (λ position. position < length old) positions → AllByRecursion (λ p. slice_get new (number p) ≡ slice_get old p) positions → AllByRecursion (λ position. position < length new) (map number positions)
renumbered_within_list old new number [] all same = tt
renumbered_within_list old new number (p ∷ ps) all same = (renumbered_place old new number p all.0 same.0, renumbered_within_list old new number ps all.1 same.1)

pub renumbered_within : (old new : List Key) (number : ℕ → ℕ) (places : List (List ℕ)) → AreWithin (length old) places → AllByRecursion (AllByRecursion (λ p. slice_get new (number p) ≡ slice_get old p)) places → AreWithin (length new) (map (map number) places)
renumbered_within old new number [] all same = tt
renumbered_within old new number (own ∷ rest) all same = (renumbered_within_list old new number own all.0 same.0, renumbered_within old new number rest all.1 same.1)

-- a test that the key at a position passes is passed by some key
pub any_at : {X : Type 0} (test : X → Bool) (xs : List X) (k : ℕ) (d : X) → k < length xs → test (get_or xs k d) ≡ true → list_any test xs ≡ true
any_at test [] k d inside held = absurd (omega (arith, inside))
any_at test (x ∷ xs) zero d inside held = or_left (test x) (list_any test xs) held
any_at test (x ∷ xs) (suc k) d inside held = or_right (test x) (list_any test xs) (any_at test xs k d (omega (arith, inside)) held)

pub or_cases : {P : Type 0} (a b : Bool) → (a || b) ≡ true → (a ≡ true → P) → (b ≡ true → P) → P
or_cases true b held left right = left refl
or_cases false b held left right = right held

mapped_within : (test : Key → Bool) (keys : List Key) (positions : List ℕ) (d : Key) → AllByRecursion (λ position. position < length keys) positions → list_any test (map (λ position. get_or keys position d) positions) ≡ true → list_any test keys ≡ true
mapped_within test keys [] d all held = absurd cc
mapped_within test keys (p ∷ ps) d all held =
    or_cases (test (get_or keys p d)) (list_any test (map (λ position. get_or keys position d) ps)) held
    (λ here. any_at test keys p d all.0 here)
    (λ later. mapped_within test keys ps d all.1 later)

-- a key that is among those of some place is among all
pub among_within : (keys : List Key) (places : List (List ℕ)) (q : Key) → AreWithin (length keys) places → is_among key_cmp (all_keys (key_lists keys places)) q ≡ true → is_among key_cmp keys q ≡ true
among_within keys [] q all held = absurd cc
among_within keys (own ∷ rest) q all held =
    let test : Key → Bool = λ own. is_eq (key_cmp q own) in
    let later : List Key = all_keys (key_lists keys rest) in
    or_cases (list_any test (keys_at_positions keys own)) (list_any test later) (sym (list_any-append test (keys_at_positions keys own) later) ∙ held)
    (λ here. mapped_within test keys own some_key all.0 (sym (ap (list_any test) (keys_within keys own some_key all.0)) ∙ here))
    (λ there. among_within keys rest q all.1 there)
