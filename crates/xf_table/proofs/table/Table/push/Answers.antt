use Rattle.std.proofs.Common.{◌-◌, ◌^◌, ◌<◌, arith}
use Rattle.xf_table.proofs.Refusals.{IsTable-append}
use Rattle.xf_table.proofs.table.Table.push.Goals as goal

pub invariant_of-self-2 : goal.invariant_of-self-2
invariant_of-self-2 c =
    let table = c.self.inside in
    let low : table.limits.text_bytes < 2 ^ 64 - 1 = omega arith in
    rw c.in_ok-append.ensures.ok (IsTable-append table.schema table.limits table.rows c.args.rows table.text c.text_bytes.result low c.self.invariant c.text_bytes.ensures (rw (← c.self.view_is) at c.requires))
