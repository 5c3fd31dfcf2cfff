-- A list that is removed is passed over, and one that stays comes behind those that stay.
use Rattle.std.proofs.Common.{◌≡◌, ◌<◌, true, false, length, get_or, arith}
use Rattle.xf_lists.proofs.CutAt.{IsCompact-end, IsCompact-gone, IsCompact-stays}
use Rattle.xf_lists.proofs.lists.compact.Goals as goal
use Rattle.xf_lists.proofs.lists.compact.Goals.{then-not-is_gone, else-not-is_gone}

pub move_down-filled-requires-clause-within : goal.move_down-filled-requires-clause-within
move_down-filled-requires-clause-within g c = (IsCompact-end _ _ _ _ _ _ _ _ (omega arith) c.loop-place.invariant).1

pub loop-place-preserved : goal.loop-place-preserved
loop-place-preserved g c =
    let marks = c.args.gone.now in
    let within : c.loop-place.place < length c.loop-place.ends = omega arith in
    elim c.if-not-is_gone.branch [
      | then-not-is_gone w ↦
          let stays : get_or marks c.loop-place.place true ≡ false = cc in
          let told = w.move_down-filled.ensures in
          rw (w.ends-is, w.items-is, w.count-is, w.filled-is) (IsCompact-stays marks _ _ _ _ _ _ _ _ _ within stays told.result w.move_down-filled.auto.items told.moved told.later c.loop-place.invariant)
      | else-not-is_gone w ↦
          let gone : get_or marks c.loop-place.place true ≡ true = cc in
          rw (w.ends-is, w.items-is, w.count-is, w.filled-is) (IsCompact-gone marks _ _ _ _ _ _ _ within gone c.loop-place.invariant)
    ]
