-- A group without the entries that no place has is a group.
use Rattle.std.proofs.Common.{◌≡◌, ℕ, ◌≤◌, Bool, List, length, sym, ap, subst, ◌∙◌, arith}
use Rattle.std.proofs.lemmas.List.{length-map}
use Rattle.std.proofs.lemmas.List.Sums.{count_by-le-length, length-filter}
use Rattle.std.specs.List.{AllByRecursion, filter}
use Rattle.std.specs.List.Sorted.{IsStrictlySortedBy}
use Rattle.xf_base.specs.Gone.{kept}
use Rattle.xf_base.specs.Key.{key_cmp}
use Rattle.xf_base.specs.declared.key.Key.{Key}
use Rattle.xf_group.specs.Group.{IsGroup, keys_in}
use Rattle.xf_group.specs.Held.{AreWithin, grouped, key_lists, keys_at_positions, keys_of}
use Rattle.xf_group.specs.declared.entry.Entry.{Entry}
use Rattle.xf_group.proofs.KeptEntries.{all-kept, kept-map, map-filter, remaining_keys}
use Rattle.xf_group.proofs.PlacedKeys.{all_keys, among_within}
use Rattle.xf_group.proofs.UnusedDropped.{is_placed}
use Rattle.xf_model.specs.Laws.{is_among}

pub length-filter-le : {X : Type 0} (test : X → Bool) (xs : List X) → length (filter test xs) ≤ length xs
length-filter-le test xs = omega (arith, length-filter test xs, count_by-le-length test xs)

-- the keys of what is left are those that some place has
pub left_keys : {V : Type 0} (entries : List (Entry V)) (places : List (List ℕ)) → IsStrictlySortedBy key_cmp (keys_of entries) → AreWithin (length entries) places → keys_of (filter (is_placed (keys_of entries) places) entries) ≡ keys_in (key_lists (keys_of entries) places)
left_keys {V} entries places sorted within =
    let keys : List Key = keys_of entries in
    let all : List Key = all_keys (key_lists keys places) in
    let inside : AreWithin (length keys) places = subst (λ n. AreWithin n places) (sym (length-map entries (λ (entry : Entry V). entry.key))) within in
    map-filter (λ (entry : Entry V). entry.key) (is_among key_cmp all) entries
    ∙ remaining_keys keys all sorted (λ q among. among_within keys places q inside among)

pub dropped_group : {R V : Type 0} (reducer : R) (entries left : List (Entry V)) (places renumbered : List (List ℕ)) → IsStrictlySortedBy key_cmp (keys_of entries) → AreWithin (length entries) places
    → AllByRecursion (IsStrictlySortedBy key_cmp) (key_lists (keys_of entries) places) → left ≡ filter (is_placed (keys_of entries) places) entries
    → key_lists (keys_of left) renumbered ≡ key_lists (keys_of entries) places → IsGroup (grouped reducer left renumbered)
dropped_group {R} {V} reducer entries left places renumbered sorted within ascend is same = record {
  keys = ap (λ (es : List (Entry V)). keys_of es) is ∙ left_keys entries places sorted within ∙ ap keys_in (sym same);
  ascend = subst (AllByRecursion (IsStrictlySortedBy key_cmp)) (sym same) ascend;
}

-- the keys of the places that are kept
pub kept_lists : (keys : List Key) (marks : List Bool) (places : List (List ℕ)) → key_lists keys (kept marks places) ≡ kept marks (key_lists keys places)
kept_lists keys marks places = sym (kept-map (keys_at_positions keys) marks places)

pub kept_ascend : (keys : List Key) (marks : List Bool) (places : List (List ℕ)) → AllByRecursion (IsStrictlySortedBy key_cmp) (key_lists keys places) → AllByRecursion (IsStrictlySortedBy key_cmp) (key_lists keys (kept marks places))
kept_ascend keys marks places ascend = subst (AllByRecursion (IsStrictlySortedBy key_cmp)) (sym (kept_lists keys marks places)) (all-kept (IsStrictlySortedBy key_cmp) marks (key_lists keys places) ascend)
