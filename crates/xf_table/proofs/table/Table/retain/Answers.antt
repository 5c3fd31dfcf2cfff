use Rattle.std.proofs.Common.{◌-◌, ◌^◌, ◌<◌, arith}
use Rattle.xf_table.proofs.KeptRows.{IsTable-kept}
use Rattle.xf_table.proofs.table.Table.retain.Goals as goal

pub invariant_of-self : goal.invariant_of-self
invariant_of-self c =
    let table = c.self.inside in
    let low : table.limits.text_bytes < 2 ^ 64 - 1 = omega arith in
    let removed = rw c.as_slice.ensures at c.removed_text.ensures in
    rw c.retain.ensures (IsTable-kept table.schema table.limits c.args.gone.now table.rows table.text c.removed_text.result low c.self.invariant removed)
