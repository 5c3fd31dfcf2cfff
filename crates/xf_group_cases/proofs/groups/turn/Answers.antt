-- Each count is one of rows of the schema.
use Rattle.std.proofs.Common.{◌≡◌, true, rules}
use Rattle.xf_base.specs.Schema.{IsRowOf}
use Rattle.xf_group.specs.Group.{keys_at}
use Rattle.xf_reduce.specs.Number.{fits_at}
use Rattle.xf_group_cases.specs.Own.{even_first}
use Rattle.xf_group_cases.proofs.Turning.{may_turn_all}
use Rattle.xf_group_cases.proofs.groups.turn.Goals as goal

pub change-requires-clause-may : goal.change-requires-clause-may
change-requires-clause-may g c =
    let fit : fits_at 0 c.args.schema.now ≡ true = search rules in
    let is_even : IsRowOf c.args.schema.now c.args.even.now = search rules in
    let is : IsRowOf c.args.schema.now c.args.row.now = search rules in
    let one : even_first c.args.even.now ≡ 1 = search rules in
    may_turn_all c.args.schema.now c.args.even.now c.args.row.now c.args.on (keys_at c.args.group.now c.args.place) c.args.group.now.entries fit is_even is one c.see_few.ensures
