-- The key goes before the first that is not below it, or nowhere where that is the key itself.
use Rattle.std.proofs.Common.{rules, ◌≡◌, List, ap, insert, sym, ◌∙◌}
use Rattle.xf_base.specs.Key.{key_cmp}
use Rattle.xf_base.specs.KeyOrder.{key_cmp_total}
use Rattle.xf_base.specs.declared.key.Key.{Key}
use Rattle.xf_model.specs.Group.{with_key}
use Rattle.xf_engine.proofs.RoundedKeys.{above-next, inserted-equal, inserted-less, pushed-above}
use Rattle.xf_engine.proofs.rounded.insert_key.Goals as goal

pub returns-in-Less : goal.returns-in-Less
returns-in-Less c =
    let so_far = c.loop-place.invariant in
    let inserted : insert c.loop-place.keys.items c.loop-place.place _ ≡ with_key key_cmp _ c.loop-place.keys.items = inserted-less key_cmp _ c.loop-place.keys.items c.loop-place.place c.index.result.now (search rules) c.index.ensures so_far.above (sym c.cmp.ensures ∙ c.in-Less.is) in
    let same = ap (λ key. with_key key_cmp key c.loop-place.keys.items) so_far.key ∙ ap (with_key key_cmp c.args.key) so_far.same in
    record { ok = ◌∙◌ {A = List Key} c.in_ok-insert-in-Less.ensures.items (inserted ∙ same) }

pub returns-in-Equal : goal.returns-in-Equal
returns-in-Equal c =
    let so_far = c.loop-place.invariant in
    let still = inserted-equal key_cmp_total _ c.loop-place.keys.items c.loop-place.place c.index.result.now (search rules) c.index.ensures so_far.above (sym c.cmp.ensures ∙ c.in-Equal.is) in
    record { ok = still ∙ ap (λ key. with_key key_cmp key c.loop-place.keys.items) so_far.key ∙ ap (with_key key_cmp c.args.key) so_far.same }

pub loop-place-preserved : goal.loop-place-preserved
loop-place-preserved c = record {
  same = c.loop-place.invariant.same;
  key = c.loop-place.invariant.key;
  above = above-next key_cmp_total _ c.loop-place.keys.items c.loop-place.place c.index.result.now (search rules) c.index.ensures c.loop-place.invariant.above (sym c.cmp.ensures ∙ c.in-Greater.is);
}

pub returns : goal.returns
returns c =
    let so_far = c.loop-place.invariant in
    let pushed = pushed-above key_cmp _ c.loop-place.keys.items c.loop-place.place (search rules) so_far.above in
    record { ok = c.in_ok-push.ensures.items ∙ pushed ∙ ap (λ key. with_key key_cmp key c.loop-place.keys.items) so_far.key ∙ ap (with_key key_cmp c.args.key) so_far.same }
