use Rattle.std.proofs.Common.{ap, ◌∙◌}
use Rattle.xf_session.specs.State.{named}
use Rattle.xf_session.proofs.NameLists.{named-seen}
use Rattle.xf_session.proofs.names.Names.get.Goals as goal

pub returns : goal.returns
returns g c = c.get.ensures.value ∙ named-seen c.args.name.now c.self.inside.by_name.entries ∙ ap (λ names. named names c.args.name.now) c.self.view_is
