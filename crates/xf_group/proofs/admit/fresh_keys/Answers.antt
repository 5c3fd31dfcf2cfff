-- The keys of the lists that are sorted and each kept once are their distinct keys, and those of them that are not among the entries the fresh keys.
use Rattle.std.proofs.Common.{◌≡◌, List, filter, map, not, Bor, ap, subst, sym, ◌∙◌, refl}
use Rattle.std.proofs.lemmas.Result.{IfOk-weaker}
use Rattle.std.specs.List.Sorted.{IsStrictlySortedBy}
use Rattle.xf_base.specs.Key.{key_cmp}
use Rattle.xf_base.specs.KeyOrder.{key_cmp_total}
use Rattle.xf_base.specs.declared.key.Key.{Key}
use Rattle.xf_base.proofs.EqualKeys.{key_cmp-equal}
use Rattle.xf_group.proofs.AdmitFresh.{distinct_from_sort}
use Rattle.xf_group.proofs.AdmitUnknown.{fresh_from_distinct}
use Rattle.xf_group.specs.Held.{keys_of}
use Rattle.xf_model.specs.Group.{distinct_keys}
use Rattle.xf_model.specs.Laws.{is_among}
use Rattle.xf_model.proofs.AscendingKeys.{sorted-distinct_keys}
use Rattle.xf_group.proofs.admit.fresh_keys.Goals as goal

pub unknown_keys-requires-clause-ascend : goal.unknown_keys-requires-clause-ascend
unknown_keys-requires-clause-ascend g c =
    let now_of : List (Bor Key) → List Key = map (λ (key : Bor Key). key.now) in
    let kept : now_of c.dedup.new.self.items ≡ distinct_keys key_cmp (now_of c.in_ok-distinct.distinct.items) =
    distinct_from_sort key_cmp_total key_cmp-equal (λ key. key.now) _ (λ x y. refl) c.in_ok-distinct.distinct.items c.sort_unstable.new.self.items c.dedup.new.self.items
    c.sort_unstable.ensures.permutation c.sort_unstable.ensures.sorted c.dedup.ensures.filtered in
    subst (IsStrictlySortedBy key_cmp) (sym (ap now_of c.as_slice.ensures.value ∙ kept)) (sorted-distinct_keys key_cmp_total (now_of c.in_ok-distinct.distinct.items))

pub returns : goal.returns
returns g c =
    let now_of : List (Bor Key) → List Key = map (λ (key : Bor Key). key.now) in
    let old = keys_of c.args.entries.now in
    let kept : now_of c.dedup.new.self.items ≡ distinct_keys key_cmp (now_of c.in_ok-distinct.distinct.items) =
    distinct_from_sort key_cmp_total key_cmp-equal (λ key. key.now) _ (λ x y. refl) c.in_ok-distinct.distinct.items c.sort_unstable.new.self.items c.dedup.new.self.items
    c.sort_unstable.ensures.permutation c.sort_unstable.ensures.sorted c.dedup.ensures.filtered in
    IfOk-weaker c.unknown_keys.result _ _
    (λ found is.
    is ∙ ap (filter (λ key. not (is_among key_cmp old key))) (ap now_of c.as_slice.ensures.value ∙ kept ∙ ap (distinct_keys key_cmp) c.in_ok-distinct.ensures)
    ∙ fresh_from_distinct old c.args.keys.now)
    c.unknown_keys.ensures
