use Rattle.std.proofs.Common.{remove}
use Rattle.std.proofs.Common.{ap, ◌∙◌}
use Rattle.xf_session.proofs.NameLists.{seen, seen-remove}
use Rattle.xf_session.proofs.names.Names.remove_at.Goals as goal

pub returns : goal.returns
returns g c =
    ap seen c.shift_remove_index.ensures.entries
    ∙ seen-remove c.self.inside.by_name.entries c.args.place
    ∙ ap (λ names. remove names c.args.place) c.self.view_is
