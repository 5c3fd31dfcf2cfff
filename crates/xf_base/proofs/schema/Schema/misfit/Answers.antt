use Rattle.std.proofs.Common.{rules}
use Rattle.xf_base.proofs.Misfits.{none_where_row}
use Rattle.xf_base.proofs.schema.Schema.misfit.Goals as goal

pub returns-clause-none : goal.returns-clause-none
returns-clause-none c = none_where_row c.args.self.now c.args.row.now c.first_misfit.result (search rules)
