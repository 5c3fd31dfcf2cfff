use Rattle.std.proofs.Common.{◌+◌, length, arith}
use Rattle.xf_engine.proofs.MovedKeys.{sum_more, sum_below}
use Rattle.xf_filter.specs.Filter.{filter_of}
use Rattle.xf_model.specs.Moved.{moved_keys}
use Rattle.xf_engine.proofs.counts.moved_count.Goals as goal

pub overflow_add-count : goal.overflow_add-count
overflow_add-count g c =
    let length_more = sum_more length c.args.keys.now c.loop-place.place _ c.list.ensures in
    let below = sum_below length c.args.keys.now (c.loop-place.place + 1) in
    omega (arith, length_more, below, c.loop-place.invariant.few, c.moved_in_row-count.ensures.few, c.requires, c.loop-place-test.true)

pub loop-place-preserved : goal.loop-place-preserved
loop-place-preserved g c =
    let length_more = sum_more length c.args.keys.now c.loop-place.place _ c.list.ensures in
    let more = sum_more (moved_keys (filter_of g.P.Predicate.says_to c.args.old.now) (filter_of g.P.Predicate.says_to c.args.new.now)) c.args.keys.now c.loop-place.place _ c.list.ensures in
    record {
      count = omega (arith, more, c.loop-place.invariant.count, c.moved_in_row-count.ensures.moved);
      few = omega (arith, length_more, c.loop-place.invariant.few, c.moved_in_row-count.ensures.few);
    }
