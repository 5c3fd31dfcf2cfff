use Rattle.std.proofs.Common.{◌∙◌}
use Rattle.std.specs.String.{string_eq}
use Rattle.indexmap.proofs.CallerLemmas.{insert_entry-new}
use Rattle.xf_session.proofs.NameLists.{seen-pushed}
use Rattle.xf_session.proofs.names.Names.push.Goals as goal

pub returns-clause-ok : goal.returns-clause-ok
returns-clause-ok g c =
    seen-pushed c.self.inside.by_name.entries c.insert.new.self.entries c.in_ok-name.name c.args.value c.args.self.now c.args.name.now
    c.self.view_is (c.in_ok-name.ensures.ok ∙ c.as_str.ensures) c.requires
    (λ none. c.in_ok-insert.ensures.entries ∙ insert_entry-new string_eq c.self.inside.by_name c.in_ok-name.name c.args.value none)
