-- A walk beside ascending entries finds which of ascending keys are not among them; of the distinct keys of lists these are the fresh ones.
use Rattle.std.proofs.Common.{◌≡◌, ℕ, suc, ◌+◌, ◌<◌, ◌≤◌, Bool, true, false, not, ◌&&◌, ◌||◌, cond, List, [], ◌∷◌, ◌++◌, append-nil, drop, filter, get_or, length, map, take, refl, sym, ap, ◌∙◌, arith}
use Rattle.std.proofs.lemmas.List.{drop-map, drop_more, get_or-map, length-drop, length-map, map_push, take_more}
use Rattle.std.proofs.lemmas.List.Elements.{filter-append}
use Rattle.std.proofs.lemmas.List.Kept.{IsStrictlySortedBy-filter}
use Rattle.std.proofs.lemmas.Map.Views.{any-filter_same}
use Rattle.std.specs.Cmp.{IsTotalOrder}
use Rattle.std.specs.List.{flat_map, prefix_len}
use Rattle.std.specs.List.Sorted.{IsStrictlySortedBy}
use Rattle.std.specs.Ordering.{is_eq, is_lt, ordering_reverse}
use Rattle.std.specs.declared.cmp.Ordering.{Ordering}
use Rattle.std.specs.declared.cmp.Ordering.TheVariants.{Less, Equal}
use Rattle.xf_base.specs.Key.{key_cmp}
use Rattle.xf_base.specs.KeyOrder.{key_cmp_total}
use Rattle.xf_base.specs.declared.key.Key.{Key}
use Rattle.xf_base.proofs.EqualKeys.{key_cmp-equal}
use Rattle.xf_group.specs.Fresh.{fresh_keys}
use Rattle.xf_group.proofs.AdmitFresh.{ArePassed, below_at_front, equal_from_test, passed_more, prefix_len-map}
use Rattle.xf_group.proofs.AdmitKeys.{fresh-among, fresh-sorted}
use Rattle.xf_group.proofs.AdmitOrder.{below_not_among}
use Rattle.xf_model.specs.Group.{distinct_keys}
use Rattle.xf_model.specs.Laws.{is_among}
use Rattle.xf_model.proofs.AscendingKeys.{all_implies, by_order, same_from_ties, sorted-distinct_keys, ties-distinct_keys}

-- ---- one key beside the entries

-- a key is among ascending ones where it is the first of those that are not below it
among_front : {Key : Type 0} {cmp : Key → Key → Ordering} → IsTotalOrder cmp → (key : Key) (keys : List Key) → IsStrictlySortedBy cmp keys → is_among cmp keys key ≡ is_among cmp (take 1 (drop (prefix_len (λ other. is_lt (cmp other key)) keys) keys)) key
unfolding IsStrictlySortedBy
among_front order key [] sorted = refl
among_front {Key} {cmp} order key (first ∷ keys) sorted =
    let below : Key → Bool = λ other. is_lt (cmp other key) in
    let length_of : Ordering → ℕ = λ r. cond (is_lt r) (1 + prefix_len below keys) 0 in
    let any_of : Ordering → Bool = λ r. is_eq r || is_among cmp keys key in
    let one_of : Ordering → Bool = λ r. is_eq r || false in
    let front : ℕ → Bool = λ n. is_among cmp (take 1 (drop n (first ∷ keys))) key in
    by_order (cmp first key)
    (λ less.
    let n : prefix_len below (first ∷ keys) ≡ suc (prefix_len below keys) = ap {B = ℕ} length_of less ∙ omega arith in
    ap any_of (order.antisymm key first ∙ ap ordering_reverse less) ∙ among_front order key keys sorted.1 ∙ ap front (sym n))
    (λ equal.
    let n : prefix_len below (first ∷ keys) ≡ 0 = ap {B = ℕ} length_of equal in
    let tied : cmp key first ≡ Equal = order.antisymm key first ∙ ap ordering_reverse equal in
    ap any_of tied ∙ sym (ap one_of tied) ∙ ap front (sym n))
    (λ greater.
    let n : prefix_len below (first ∷ keys) ≡ 0 = ap {B = ℕ} length_of greater in
    let lower : cmp key first ≡ Less = order.antisymm key first ∙ ap ordering_reverse greater in
    let above = all_implies (λ y. cmp first y ≡ Less) (λ y. cmp key y ≡ Less) (λ y later. order.trans key first y lower later) keys sorted.0 in
    ap any_of lower ∙ below_not_among cmp key keys above ∙ sym (ap one_of lower) ∙ ap front (sym n))

-- what is known after a key: how many entries are passed, that they are below the keys that are left, and whether the key is the next entry's
pub record IsWalked (entries keys : List Key) (index before : ℕ) (key : Key) (begins : Bool) : Type 0 where
  pub within : before ≤ length entries
  pub passed : ArePassed key_cmp (take before entries) (drop (index + 1) keys)
  pub known : begins ≡ is_among key_cmp entries key

pub walked : {X Y : Type 0} (entry_of : X → Key) (now_of : Y → Key) (xs : List X) (ys : List Y) (index before more : ℕ) (y : Y) (rest after : List X) (begins : Bool) → IsStrictlySortedBy key_cmp (map entry_of xs) → IsStrictlySortedBy key_cmp (map now_of ys) → rest ≡ drop before xs → after ≡ drop (before + more) xs → index < length ys → y ≡ get_or ys index y → before ≤ length xs
    → ArePassed key_cmp (take before (map entry_of xs)) (drop index (map now_of ys)) → more ≤ length rest → more ≡ prefix_len (λ x. is_lt (key_cmp (entry_of x) (now_of y))) rest → begins ≡ is_among key_cmp (take 1 (map entry_of after)) (now_of y)
    → IsWalked (map entry_of xs) (map now_of ys) index (before + more) (now_of y) begins
walked {X} {Y} entry_of now_of xs ys index before more y rest after begins sorted ascend left behind within is fits passed few counted found =
    let entries = map entry_of xs in
    let keys = map now_of ys in
    let key = now_of y in
    let below : Key → Bool = λ other. is_lt (key_cmp other key) in
    let inside : index < length keys = omega (arith, within, length-map ys now_of) in
    let read : key ≡ get_or keys index key = ap now_of is ∙ sym (get_or-map now_of ys index y key within) in
    let next : drop index keys ≡ key ∷ drop (index + 1) keys = drop_more keys index key inside ∙ ap (λ k. k ∷ drop (index + 1) keys) (sym read) in
    let counted_keys : more ≡ prefix_len below (drop before entries) = counted ∙ ap (prefix_len (λ x. is_lt (key_cmp (entry_of x) key))) left ∙ sym (prefix_len-map below entry_of (drop before xs)) ∙ ap (prefix_len below) (sym (drop-map entry_of before xs)) in
    let step = passed_more key_cmp_total keys entries index before more key ascend sorted next (omega (arith, fits, length-map xs entry_of)) passed counted_keys in
    let front : prefix_len below entries ≡ before + more = sym (below_at_front key_cmp_total key entries sorted) ∙ step.0 in
    record {
      within = omega (arith, few, fits, ap length left, length-drop before xs, length-map xs entry_of);
      passed = step.1;
      known = found ∙ ap (λ zs. is_among key_cmp (take 1 (map entry_of zs)) key) behind ∙ ap (λ ks. is_among key_cmp (take 1 ks) key) (sym (drop-map entry_of (before + more) xs))
          ∙ ap (λ n. is_among key_cmp (take 1 (drop n entries)) key) (sym front) ∙ sym (among_front key_cmp_total key entries sorted);
    }

-- ---- what is found

taken : {Y : Type 0} (now_of : Y → Key) (ys : List Y) (index : ℕ) (y : Y) → index < length ys → y ≡ get_or ys index y → take (index + 1) (map now_of ys) ≡ take index (map now_of ys) ++ now_of y ∷ []
taken now_of ys index y within is =
    let inside : index < length (map now_of ys) = omega (arith, within, length-map ys now_of) in
    take_more (map now_of ys) index (now_of y) inside
    ∙ ap (λ k. take index (map now_of ys) ++ k ∷ []) (get_or-map now_of ys index y (now_of y) within ∙ ap now_of (sym is))

-- a key that passes is found
pub found_more : {Y : Type 0} (passes : Key → Bool) (now_of : Y → Key) (ys found pushed : List Y) (index : ℕ) (y : Y) → index < length ys → y ≡ get_or ys index y → map now_of found ≡ filter passes (take index (map now_of ys)) → passes (now_of y) ≡ true → pushed ≡ found ++ y ∷ [] → map now_of pushed ≡ filter passes (take (index + 1) (map now_of ys))
found_more passes now_of ys found pushed index y within is so_far test last =
    let keys = take index (map now_of ys) in
    ap (map now_of) last
    ∙ map_push now_of found y
    ∙ ap (λ ks. ks ++ now_of y ∷ []) so_far
    ∙ ap (λ b. filter passes keys ++ cond b (now_of y ∷ []) []) (sym test)
    ∙ sym (filter-append passes keys (now_of y ∷ []))
    ∙ ap (filter passes) (sym (taken now_of ys index y within is))

-- one that does not is not
pub found_kept : {Y : Type 0} (passes : Key → Bool) (now_of : Y → Key) (ys found : List Y) (index : ℕ) (y : Y) → index < length ys → y ≡ get_or ys index y → map now_of found ≡ filter passes (take index (map now_of ys)) → passes (now_of y) ≡ false → map now_of found ≡ filter passes (take (index + 1) (map now_of ys))
found_kept passes now_of ys found index y within is so_far test =
    let keys = take index (map now_of ys) in
    so_far
    ∙ sym (append-nil (filter passes keys))
    ∙ ap (λ b. filter passes keys ++ cond b (now_of y ∷ []) []) (sym test)
    ∙ sym (filter-append passes keys (now_of y ∷ []))
    ∙ ap (filter passes) (sym (taken now_of ys index y within is))

-- ---- the fresh keys

-- the distinct keys of lists that are not among old ones are the fresh keys
pub fresh_from_distinct : (old : List Key) (lists : List (List Key)) → filter (λ key. not (is_among key_cmp old key)) (distinct_keys key_cmp (flat_map (λ own. own) lists)) ≡ fresh_keys old lists
fresh_from_distinct old lists =
    let all = flat_map (λ own. own) lists in
    let distinct = distinct_keys key_cmp all in
    let unknown : Key → Bool = λ key. not (is_among key_cmp old key) in
    same_from_ties key_cmp_total key_cmp-equal (filter unknown distinct) (fresh_keys old lists)
    (IsStrictlySortedBy-filter key_cmp unknown distinct (sorted-distinct_keys key_cmp_total all))
    (fresh-sorted old lists)
    (λ q.
    any-filter_same (λ own. is_eq (key_cmp q own)) unknown (not (is_among key_cmp old q))
    (λ own tied. ap (λ key. not (is_among key_cmp old key)) (sym (key_cmp-equal q own (equal_from_test (key_cmp q own) tied))))
    distinct
    ∙ ap (λ b. not (is_among key_cmp old q) && b) (ties-distinct_keys key_cmp_total q all)
    ∙ sym (fresh-among old lists q))
