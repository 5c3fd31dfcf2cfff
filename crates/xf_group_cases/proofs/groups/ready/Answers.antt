-- The row is one of the schema.
use Rattle.std.proofs.Common.{◌≡◌, true, rules}
use Rattle.xf_base.specs.Schema.{IsRowOf}
use Rattle.xf_reduce.specs.Number.{fits_at}
use Rattle.xf_group_cases.proofs.groups.ready.Goals as goal

pub make_ready-requires-clause-row : goal.make_ready-requires-clause-row
make_ready-requires-clause-row g c =
    let fit : fits_at 0 c.args.schema.now ≡ true = search rules in
    let is : IsRowOf c.args.schema.now c.args.row.now = search rules in
    record { columns = c.args.schema.now; fit = fit; of_columns = is }
