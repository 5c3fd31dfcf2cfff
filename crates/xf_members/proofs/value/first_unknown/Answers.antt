-- The first unknown key is the first unknown name.
use Rattle.std.proofs.Common.{◌∙◌, Some, None, ap}
use Rattle.serde_json.specs.View.{view}
use Rattle.xf_members.proofs.Lists.{first-unknown}
use Rattle.xf_members.proofs.value.first_unknown.Goals as goal

pub returns-in-Some-first_unknown_key : goal.returns-in-Some-first_unknown_key
returns-in-Some-first_unknown_key c =
    ap Some c.as_str.ensures.value
    ∙ first-unknown c.args.sort c.in-Some.members.now.entries (view c.args.object.now) (Some c.in-Some-first_unknown_key.name.now) c.in-Some.ensures
    c.in-Some-first_unknown_key.ensures

pub returns-in-None-first_unknown_key : goal.returns-in-None-first_unknown_key
returns-in-None-first_unknown_key c =
    first-unknown c.args.sort c.in-Some.members.now.entries (view c.args.object.now) None c.in-Some.ensures c.in-None-first_unknown_key.ensures
