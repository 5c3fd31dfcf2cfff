-- Each name of a column is declared.
use Rattle.std.proofs.Common.{rules, []}
use Rattle.std.specs.List.{AllByRecursion}
use Rattle.xf_board.specs.Board.{IsColumnName}
use Rattle.xf_members.proofs.After.{all-from_after}
use Rattle.xf_board.proofs.table.table_at.Goals as goal

pub returns-clause-sound : goal.returns-clause-sound
returns-clause-sound c =
    let names : AllByRecursion (IsColumnName c.args.schema.now) c.in_ok-columns.columns = all-from_after (IsColumnName c.args.schema.now) [] c.in_ok-columns.columns c.in_ok-columns.ensures.kept in
    search rules
