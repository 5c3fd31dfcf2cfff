-- An item is swapped behind those that were moved before it.
use Rattle.std.proofs.Common.{◌<◌, ◌≤◌, length, arith, ◌∙◌}
use Rattle.xf_lists.proofs.CutAt.{moved-later, moved-next}
use Rattle.xf_lists.proofs.lists.move_down.Goals as goal

pub loop-place-preserved : goal.loop-place-preserved
loop-place-preserved g c =
    let items = c.loop-place.items in
    let le : c.loop-place.next ≤ c.loop-place.place = omega arith in
    let lt : c.loop-place.place < c.args.end = omega arith in
    let within : c.loop-place.place < length items = omega arith in
    record {
      next = omega arith;
      moved = rw c.swap.ensures.after (moved-next items c.loop-place.next c.loop-place.place c.args.end le lt within ∙ c.loop-place.invariant.moved);
      later = rw c.swap.ensures.after (moved-later items c.loop-place.next c.loop-place.place c.args.end le lt within ∙ c.loop-place.invariant.later);
    }
