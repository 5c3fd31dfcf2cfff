use Rattle.std.proofs.Common.{◌≡◌, ◌<◌, true, false, length, get_or, arith, ◌∙◌}
use Rattle.xf_base.proofs.KeptItems.{kept-past, kept-moved}
use Rattle.xf_base.proofs.gone.compact.Goals as goal
use Rattle.xf_base.proofs.gone.compact.Goals.{then-not-is_gone, else-not-is_gone}

pub loop-place-preserved : goal.loop-place-preserved
loop-place-preserved g c =
    let marks = c.args.gone.now in
    let items = c.loop-place.items in
    let place = c.loop-place.place in
    let within : place < length items = omega arith in
    let marked : place < length marks = omega arith in
    elim c.if-not-is_gone.branch [
      | then-not-is_gone w ↦
          let stays : get_or marks place true ≡ false = cc in
          record {
            moved = omega arith;
            same = omega arith;
            left = rw (w.items-is, w.count-is, w.swap.ensures.after) (kept-moved marks items c.loop-place.count place c.loop-place.invariant.moved marked within stays ∙ c.loop-place.invariant.left);
          }
      | else-not-is_gone w ↦
          let gone : get_or marks place true ≡ true = cc in
          record {
            moved = omega arith;
            same = omega arith;
            left = rw (w.items-is, w.count-is, ← kept-past marks items place marked within gone) c.loop-place.invariant.left;
          }
    ]
