-- No file has as many rows as the limit.
use Rattle.std.proofs.Common.{◌≤◌, ◌-◌, ◌^◌, inr, sym, rules}
use Rattle.xf_load.proofs.LoadFacts.{rows_of-loaded}
use Rattle.xf_load.proofs.load.records_of.Goals as goal

pub returns-clause-rows : goal.returns-clause-rows
returns-clause-rows c =
    let whole = c.in_ok-loaded.loaded in
    let few : whole.count ≤ 2 ^ 64 - 1 = search rules in
    inr (sym (rows_of-loaded c.args.schema.now c.args.bytes.now (2 ^ 64 - 1) whole c.in_ok-loaded.ensures.loaded few))
