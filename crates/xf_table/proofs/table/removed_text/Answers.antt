use Rattle.std.proofs.Common.{◌≡◌, ◌<◌, true, false, length, get_or, arith}
use Rattle.xf_table.proofs.KeptRows.{kept-row, removed-row}
use Rattle.xf_table.proofs.table.removed_text.Goals as goal
use Rattle.xf_table.proofs.table.removed_text.Goals.{then-is_gone, else-is_gone}

pub overflow_add-removed : goal.overflow_add-removed
overflow_add-removed c =
    let told = removed-row c.args.gone.now c.args.rows.now c.loop-place.place c.loop-place.removed c.text_bytes-removed.result c.index-rows-place.result (omega arith) (omega arith) c.index-rows-place.is (cc) c.text_bytes-removed.ensures c.requires.few c.loop-place.invariant in
    omega (arith, told.1)

pub loop-place-preserved : goal.loop-place-preserved
loop-place-preserved c =
    let marks = c.args.gone.now in
    let place = c.loop-place.place in
    let within : place < length c.args.rows.now = omega arith in
    let marked : place < length marks = omega arith in
    elim c.if-is_gone.branch [
      | then-is_gone w ↦
          let gone : get_or marks place true ≡ true = cc in
          rw w.removed-is (removed-row marks c.args.rows.now place c.loop-place.removed w.text_bytes-removed.result c.index-rows-place.result marked within c.index-rows-place.is gone w.text_bytes-removed.ensures c.requires.few c.loop-place.invariant).0
      | else-is_gone w ↦
          let stays : get_or marks place true ≡ false = cc in
          rw w.removed-is (kept-row marks c.args.rows.now place c.loop-place.removed c.index-rows-place.result marked within stays c.loop-place.invariant)
    ]
