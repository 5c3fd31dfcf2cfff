-- The next key enters.
use Rattle.std.proofs.Common.{◌≡◌, pos, ap, sym, ◌∙◌, take, get_or, rules}
use Rattle.std.specs.Ordering.{int_cmp}
use Rattle.std.specs.FinMap.{int_cmp-IsAntisymmetric}
use Rattle.std.proofs.lemmas.Cmp.{int_cmp_total}
use Rattle.std.proofs.lemmas.List.{take_more}
use Rattle.xf_model.specs.Group.{distinct_keys, with_key}
use Rattle.xf_model.proofs.AscendingKeys.{ascending_push}
use Rattle.xf_model.proofs.group.distinct_keys.Goals as goal

pub loop-key-preserved : goal.loop-key-preserved
loop-key-preserved c =
    let key = get_or c.args.keys.now c.loop-key.key-index (pos 0) in
    let entered : c.insert_key.new.keys.items ≡ with_key int_cmp key c.loop-key.found.items = search (rules, c.in_ok-insert_key.ensures.ok) in
    let pushed = ascending_push int_cmp_total int_cmp-IsAntisymmetric (take c.loop-key.key-index c.args.keys.now) key in
    let more = take_more c.args.keys.now c.loop-key.key-index (pos 0) c.loop-key-test.true in
    entered ∙ ap (with_key int_cmp key) c.loop-key.invariant ∙ sym pushed ∙ ap (distinct_keys int_cmp) (sym more)
