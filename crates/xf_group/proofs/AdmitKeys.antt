-- New entries among the old: all keys are those of both, each old key stands where the new positions say, and each value means what it did.
use Rattle.std.proofs.Common.{◌≡◌, ℕ, zero, suc, ◌+◌, Bool, true, false, not, ◌&&◌, ◌||◌, cond, List, [], ◌∷◌, ◌++◌, map, length, Some, slice_get, slice_index, append-nil, refl, sym, ap, subst, ◌∙◌, arith, ⊎_elim}
use Rattle.std.proofs.lemmas.Cmp.{tied_itself}
use Rattle.std.proofs.lemmas.List.{length-append, length-map, map-append}
use Rattle.std.proofs.lemmas.List.Folds.{list_any-append}
use Rattle.std.proofs.lemmas.List.Sorted.{IsPermutation-map, IsPermutation-refl, length_permutation, list_any-IsPermutation, sum_by-IsPermutation}
use Rattle.std.proofs.lemmas.Map.Views.{any-filter_same}
use Rattle.std.proofs.lemmas.Option.{none-some, same_Some, slice_get_cases}
use Rattle.std.specs.List.{AllByRecursion, enumerate_from, flat_map}
use Rattle.std.specs.List.Sorted.{IsPermutation, IsSortedByKey, IsStrictlySortedBy}
use Rattle.std.specs.Ordering.{is_eq}
use Rattle.xf_base.specs.Key.{key_cmp}
use Rattle.xf_base.specs.KeyOrder.{key_cmp_total}
use Rattle.xf_base.specs.declared.key.Key.{Key}
use Rattle.xf_base.proofs.EqualKeys.{key_cmp-equal}
use Rattle.xf_group.specs.Fresh.{count_below, fresh_keys, new_keys, new_position, new_positions}
use Rattle.xf_group.specs.Held.{AreWithin, keys_of}
use Rattle.xf_group.specs.declared.entry.Entry.{Entry}
use Rattle.xf_group.proofs.AdmitFresh.{equal_from_test}
use Rattle.xf_group.proofs.AdmitOrder.{AtMostOnce, once_joined, stands_on, strict_from_sort}
use Rattle.xf_group.proofs.AdmitPlaces.{Stand}
use Rattle.xf_model.specs.Group.{distinct_keys}
use Rattle.xf_model.specs.Laws.{is_among}
use Rattle.xf_model.proofs.AscendingKeys.{same_from_ties, sorted-distinct_keys, ties-distinct_keys}

-- the keys of lists
abbrev all_keys : List (List Key) → List Key
all_keys lists = flat_map (λ own. own) lists

-- a key is fresh where it is in the lists and not among the old
pub fresh-among : (old : List Key) (lists : List (List Key)) (q : Key) → is_among key_cmp (fresh_keys old lists) q ≡ (not (is_among key_cmp old q) && is_among key_cmp (all_keys lists) q)
fresh-among old lists q =
    ties-distinct_keys key_cmp_total q (new_keys old lists)
    ∙ any-filter_same (λ own. is_eq (key_cmp q own)) (λ key. not (is_among key_cmp old key)) (not (is_among key_cmp old q))
    (λ own tied. ap (λ key. not (is_among key_cmp old key)) (sym (key_cmp-equal q own (equal_from_test (key_cmp q own) tied))))
    (all_keys lists)

-- no old key is fresh
pub fresh-apart : (old : List Key) (lists : List (List Key)) (q : Key) → is_among key_cmp old q ≡ true → is_among key_cmp (fresh_keys old lists) q ≡ false
fresh-apart old lists q among = fresh-among old lists q ∙ ap (λ b. not b && is_among key_cmp (all_keys lists) q) among

pub fresh-sorted : (old : List Key) (lists : List (List Key)) → IsStrictlySortedBy key_cmp (fresh_keys old lists)
fresh-sorted old lists = sorted-distinct_keys key_cmp_total (new_keys old lists)

or_new : (known other : Bool) → (known || (not known && other)) ≡ (known || other)
or_new true other = refl
or_new false other = refl

-- strictly ascending keys, those of old and fresh ones in some order, are the distinct keys of the old and of the lists
pub all_keys_entered : (old : List Key) (lists : List (List Key)) (all : List Key) → IsPermutation (old ++ fresh_keys old lists) all → IsStrictlySortedBy key_cmp all → all ≡ distinct_keys key_cmp (old ++ all_keys lists)
all_keys_entered old lists all moved sorted =
    same_from_ties key_cmp_total key_cmp-equal all (distinct_keys key_cmp (old ++ all_keys lists)) sorted (sorted-distinct_keys key_cmp_total (old ++ all_keys lists)) (λ q.
    let test : Key → Bool = λ own. is_eq (key_cmp q own) in
    sym (list_any-IsPermutation test (old ++ fresh_keys old lists) all moved)
    ∙ list_any-append test old (fresh_keys old lists)
    ∙ ap (λ b. is_among key_cmp old q || b) (fresh-among old lists q)
    ∙ or_new (is_among key_cmp old q) (is_among key_cmp (all_keys lists) q)
    ∙ sym (list_any-append test old (all_keys lists))
    ∙ sym (ties-distinct_keys key_cmp_total q (old ++ all_keys lists)))

-- where none is fresh they are those of the old
pub no_keys_entered : (old : List Key) (lists : List (List Key)) → IsStrictlySortedBy key_cmp old → fresh_keys old lists ≡ [] → old ≡ distinct_keys key_cmp (old ++ all_keys lists)
no_keys_entered old lists sorted none =
    all_keys_entered old lists old (subst (λ keys. IsPermutation keys old) (sym (ap (λ keys. old ++ keys) none ∙ append-nil old)) (IsPermutation-refl old)) sorted

-- ---- entries

-- positions among entries are positions among their keys
pub within_keys : {Value : Type 0} (entries : List (Entry Value)) (places : List (List ℕ)) → AreWithin (length entries) places → AreWithin (length (keys_of entries)) places
within_keys entries places within = subst (λ n. AreWithin n places) (sym (length-map entries (λ entry. entry.key))) within

pub within_entries : {Value : Type 0} (entries : List (Entry Value)) (places : List (List ℕ)) → AreWithin (length (keys_of entries)) places → AreWithin (length entries) places
within_entries entries places within = subst (λ n. AreWithin n places) (length-map entries (λ entry. entry.key)) within

-- the keys of old and added entries in the order of all
keys_moved : {Value : Type 0} (old added new : List (Entry Value)) (fresh : List Key) → keys_of added ≡ fresh → IsPermutation (old ++ added) new → IsPermutation (keys_of old ++ fresh) (keys_of new)
keys_moved {Value} old added new fresh same moved =
    subst (λ keys. IsPermutation keys (keys_of new)) (map-append (λ (entry : Entry Value). entry.key) old added ∙ ap (λ keys. keys_of old ++ keys) same)
    (IsPermutation-map (λ (entry : Entry Value). entry.key) (old ++ added) new moved)

-- what a sort of the old entries and of those of the fresh keys makes
pub record AreEntered {Value : Type 0} (old added new : List (Entry Value)) (lists : List (List Key)) : Type 0 where
  pub moved : IsPermutation (keys_of old ++ fresh_keys (keys_of old) lists) (keys_of new)
  pub once : AtMostOnce key_cmp (keys_of new)
  pub ascend : IsStrictlySortedBy key_cmp (keys_of new)
  pub many : length new ≡ length old + length added

pub entered : {Value : Type 0} (old added new : List (Entry Value)) (lists : List (List Key)) (fresh : List Key) → IsStrictlySortedBy key_cmp (keys_of old) → fresh ≡ fresh_keys (keys_of old) lists → keys_of added ≡ fresh → IsPermutation (old ++ added) new → IsSortedByKey (λ entry. entry.key) key_cmp new → AreEntered old added new lists
entered {Value} old added new lists fresh sorted found same moved ascending =
    let fresh_now = fresh_keys (keys_of old) lists in
    let keys = keys_moved old added new fresh_now (same ∙ found) moved in
    let joined : AtMostOnce key_cmp (keys_of old ++ fresh_now) = once_joined key_cmp_total (keys_of old) fresh_now sorted (fresh-sorted (keys_of old) lists) (fresh-apart (keys_of old) lists) in
    let once : AtMostOnce key_cmp (keys_of new) = λ one. omega (arith, joined one, sum_by-IsPermutation (λ key. cond (is_eq (key_cmp one key)) 1 0) (keys_of old ++ fresh_now) (keys_of new) keys) in
    record {
      moved = keys;
      once = once;
      ascend = strict_from_sort key_cmp_total (λ (entry : Entry Value). entry.key) new ascending once;
      many = length_permutation (old ++ added) new moved ∙ length-append old added;
    }

-- ---- positions

-- the new position of the key at a place
new_position_from : (fresh : List Key) (start : ℕ) (keys : List Key) (place : ℕ) (key : Key) → slice_get keys place ≡ Some key → slice_index (map (new_position fresh) (enumerate_from start keys)) place ≡ start + place + count_below key_cmp key fresh
new_position_from fresh start [] place key here = absurd (none-some key here)
new_position_from fresh start (first ∷ keys) zero key here =
    let same : start ≡ start + 0 = omega arith in
    ap (λ k. start + count_below key_cmp k fresh) (same_Some first key here) ∙ ap (λ n. n + count_below key_cmp key fresh) same
new_position_from fresh start (first ∷ keys) (suc place) key here =
    let same : start + 1 + place ≡ start + suc place = omega arith in
    new_position_from fresh (start + 1) keys place key here ∙ ap (λ n. n + count_below key_cmp key fresh) same

pub length-new_positions : (keys fresh : List Key) → length (new_positions keys fresh) ≡ length keys
length-new_positions keys fresh = length-map (enumerate_from 0 keys) (new_position fresh) ∙ length_enumerated 0 keys
  where
    length_enumerated : (start : ℕ) (keys : List Key) → length (enumerate_from start keys) ≡ length keys
    length_enumerated start [] = refl
    length_enumerated start (key ∷ keys) = ap suc (length_enumerated (start + 1) keys)

-- each old key stands at its new position among all
pub stand_entered : (keys fresh all : List Key) (order : List ℕ) → IsStrictlySortedBy key_cmp keys → IsStrictlySortedBy key_cmp all → IsPermutation (keys ++ fresh) all → order ≡ new_positions keys fresh → Stand keys all (slice_index order)
stand_entered keys fresh all order sorted sorted_all moved same place within =
    ⊎_elim
    (λ some.
    let position : slice_index order place ≡ place + count_below key_cmp some.0 fresh = ap (λ positions. slice_index positions place) same ∙ new_position_from fresh 0 keys place some.0 some.2 ∙ ap (λ n. n + count_below key_cmp some.0 fresh) (start place) in
    ap (slice_get all) position ∙ stands_on key_cmp_total key_cmp-equal keys fresh all sorted sorted_all moved place some.0 some.2 ∙ sym some.2)
    (λ past. absurd (omega (arith, past.0, within)))
    (slice_get_cases keys place).1
  where
    start : (n : ℕ) → 0 + n ≡ n
    start n = omega arith

-- ---- each key of the lists is among all

or_true : (b : Bool) → (b || true) ≡ true
or_true true = refl
or_true false = refl

each_in_list : (keys : List Key) (Q : Key → Type 0) → ((key : Key) → is_among key_cmp keys key ≡ true → Q key) → AllByRecursion Q keys
each_in_list [] Q step = tt
each_in_list (key ∷ keys) Q step = (
  step key (ap (λ r. is_eq r || is_among key_cmp keys key) (tied_itself key_cmp_total key)),
  each_in_list keys Q (λ later among. step later (ap (λ b. is_eq (key_cmp later key) || b) among ∙ or_true (is_eq (key_cmp later key)))),
)

each_in_lists : (lists : List (List Key)) (Q : Key → Type 0) → ((key : Key) → is_among key_cmp (all_keys lists) key ≡ true → Q key) → AllByRecursion (AllByRecursion Q) lists
each_in_lists [] Q step = tt
each_in_lists (own ∷ lists) Q step =
    let joined : (key : Key) → is_among key_cmp (all_keys (own ∷ lists)) key ≡ (is_among key_cmp own key || is_among key_cmp (all_keys lists) key) = λ key. list_any-append (λ other. is_eq (key_cmp key other)) own (all_keys lists) in (
      each_in_list own Q (λ key among. step key (joined key ∙ ap (λ b. b || is_among key_cmp (all_keys lists) key) among)),
      each_in_lists lists Q (λ key among. step key (joined key ∙ ap (λ b. is_among key_cmp own key || b) among ∙ or_true (is_among key_cmp own key))),
    )

pub each_entered : (old : List Key) (lists : List (List Key)) (all : List Key) → all ≡ distinct_keys key_cmp (old ++ all_keys lists) → AllByRecursion (AllByRecursion (λ key. is_among key_cmp all key ≡ true)) lists
each_entered old lists all same =
    each_in_lists lists (λ key. is_among key_cmp all key ≡ true) (λ key among.
    ap (λ keys. is_among key_cmp keys key) same
    ∙ ties-distinct_keys key_cmp_total key (old ++ all_keys lists)
    ∙ list_any-append (λ other. is_eq (key_cmp key other)) old (all_keys lists)
    ∙ ap (λ b. is_among key_cmp old key || b) among
    ∙ or_true (is_among key_cmp old key))
