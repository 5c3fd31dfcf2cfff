-- A group with new places is a group.
use Rattle.std.proofs.Common.{◌≡◌, ℕ, Bool, ◌||◌, List, [], ◌∷◌, ◌++◌, take, zero, suc, sym, ap, subst, ◌∙◌}
use Rattle.std.proofs.lemmas.Grind.{flat_map-append}
use Rattle.std.proofs.lemmas.List.Folds.{list_any-append}
use Rattle.std.specs.List.{AllByRecursion}
use Rattle.std.specs.List.Sorted.{IsStrictlySortedBy}
use Rattle.std.specs.Ordering.{is_eq}
use Rattle.xf_base.proofs.EqualKeys.{key_cmp-equal}
use Rattle.xf_base.specs.Key.{key_cmp}
use Rattle.xf_base.specs.KeyOrder.{key_cmp_total}
use Rattle.xf_base.specs.declared.key.Key.{Key}
use Rattle.xf_group.specs.Group.{IsGroup, keys_in}
use Rattle.xf_group.specs.Held.{grouped, key_lists, keys_of}
use Rattle.xf_group.specs.declared.entry.Entry.{Entry}
use Rattle.xf_group.proofs.PlacedKeys.{all_keys}
use Rattle.xf_model.specs.Group.{distinct_keys}
use Rattle.xf_model.specs.Laws.{is_among}
use Rattle.xf_model.proofs.AscendingKeys.{same_ascending, ties-distinct_keys}

all-append : {X : Type 0} (P : X → Type 0) (xs ys : List X) → AllByRecursion P xs → AllByRecursion P ys → AllByRecursion P (xs ++ ys)
all-append P [] ys left right = right
all-append P (x ∷ xs) ys left right = (left.0, all-append P xs ys left.1 right)

pub all-take : {X : Type 0} (P : X → Type 0) (n : ℕ) (xs : List X) → AllByRecursion P xs → AllByRecursion P (take n xs)
all-take P zero xs all = tt
all-take P (suc n) [] all = tt
all-take P (suc n) (x ∷ xs) all = (all.0, all-take P n xs all.1)

-- the distinct keys of distinct keys and others are those of all
distinct_first : (xs ys : List Key) → distinct_keys key_cmp (distinct_keys key_cmp xs ++ ys) ≡ distinct_keys key_cmp (xs ++ ys)
distinct_first xs ys =
    same_ascending key_cmp_total key_cmp-equal (distinct_keys key_cmp xs ++ ys) (xs ++ ys) (λ q.
    let test : Key → Bool = λ own. is_eq (key_cmp q own) in
    list_any-append test (distinct_keys key_cmp xs) ys
    ∙ ap (λ b. b || is_among key_cmp ys q) (ties-distinct_keys key_cmp_total q xs)
    ∙ sym (list_any-append test xs ys))

pub joined_keys : (old : List Key) (lists more : List (List Key)) → old ≡ keys_in lists → distinct_keys key_cmp (old ++ all_keys more) ≡ keys_in (lists ++ more)
joined_keys old lists more same =
    ap (λ ks. distinct_keys key_cmp (ks ++ all_keys more)) same
    ∙ distinct_first (all_keys lists) (all_keys more)
    ∙ ap (distinct_keys key_cmp) (sym (flat_map-append (λ (keys : List Key). keys) lists more))

pub joined_group : {R V : Type 0} (reducer : R) (old new : List (Entry V)) (places renumbered : List (List ℕ)) (more : List (List Key)) → IsGroup (grouped reducer old places) → AllByRecursion (IsStrictlySortedBy key_cmp) more
    → keys_of new ≡ distinct_keys key_cmp (keys_of old ++ all_keys more) → key_lists (keys_of new) renumbered ≡ key_lists (keys_of old) places ++ more → IsGroup (grouped reducer new renumbered)
joined_group reducer old new places renumbered more group ascend keys lists = record {
  keys = keys ∙ joined_keys (keys_of old) (key_lists (keys_of old) places) more group.keys ∙ ap keys_in (sym lists);
  ascend = subst (AllByRecursion (IsStrictlySortedBy key_cmp)) (sym lists) (all-append (IsStrictlySortedBy key_cmp) (key_lists (keys_of old) places) more group.ascend ascend);
}
