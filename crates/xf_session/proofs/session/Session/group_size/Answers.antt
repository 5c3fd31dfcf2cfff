use Rattle.std.proofs.Common.{◌∙◌, length, ap}
use Rattle.xf_engine.specs.State.{group_named}
use Rattle.xf_session.proofs.EntryFields.{entries_in, size-told}
use Rattle.xf_session.specs.Command.{group_entries}
use Rattle.xf_session.specs.State.{Session}
use Rattle.xf_session.proofs.session.Session.group_size.Goals as goal

pub returns : goal.returns
returns c =
    let cross = c.self.inside.cross in
    let id = c.args.id.0 in
    c.unwrap_or.ensures
    ∙ size-told cross.columns (entries_in cross) id (group_named cross id) c.group_size.result c.group_size.ensures
    ∙ ap (λ (s : Session). length (group_entries s id)) c.self.view_is
