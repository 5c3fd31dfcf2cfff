use Rattle.std.proofs.Common.{ap, ◌∙◌}
use Rattle.xf_session.specs.Command.{without_name}
use Rattle.xf_session.proofs.NameLists.{distinct-seen, seen, seen-without}
use Rattle.xf_session.proofs.names.Names.remove.Goals as goal

pub returns : goal.returns
returns g c =
    ap seen c.shift_remove.ensures.entries
    ∙ seen-without c.args.name.now c.self.inside.by_name.entries (distinct-seen c.self.inside.by_name.entries c.self.invariant)
    ∙ ap (without_name c.args.name.now) c.self.view_is
