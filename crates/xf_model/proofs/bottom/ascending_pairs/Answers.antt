-- The next pair enters.
use Rattle.std.proofs.Common.{◌≡◌, pos, ap, sym, ◌∙◌, take, get_or, rules}
use Rattle.std.specs.Ordering.{int_cmp}
use Rattle.std.specs.FinMap.{int_cmp-IsAntisymmetric}
use Rattle.std.proofs.lemmas.Cmp.{int_cmp_total}
use Rattle.std.proofs.lemmas.List.{take_more}
use Rattle.xf_model.specs.Bottom.{pair_cmp}
use Rattle.xf_model.specs.Group.{distinct_keys, with_key}
use Rattle.xf_model.proofs.AscendingKeys.{ascending_push}
use Rattle.xf_model.proofs.BottomPairs.{pair_cmp-total, pair_cmp-antisymmetric}
use Rattle.xf_model.proofs.bottom.ascending_pairs.Goals as goal

pub loop-pair-preserved : goal.loop-pair-preserved
loop-pair-preserved c =
    let pair = get_or c.args.pairs.now c.loop-pair.pair-index (pos 0, 0) in
    let entered : c.insert_key.new.keys.items ≡ with_key (pair_cmp int_cmp) pair c.loop-pair.found.items = search (rules, c.in_ok-insert_key.ensures.ok) in
    let pushed = ascending_push (pair_cmp-total int_cmp_total) (pair_cmp-antisymmetric int_cmp-IsAntisymmetric) (take c.loop-pair.pair-index c.args.pairs.now) pair in
    let more = take_more c.args.pairs.now c.loop-pair.pair-index (pos 0, 0) c.loop-pair-test.true in
    entered ∙ ap (with_key (pair_cmp int_cmp) pair) c.loop-pair.invariant ∙ sym pushed ∙ ap (distinct_keys (pair_cmp int_cmp)) (sym more)
