use Rattle.std.proofs.Common.{subst}
use Rattle.xf_session.specs.State.{AreDistinctNames, names_in}
use Rattle.xf_session.proofs.NameLists.{distinct-seen}
use Rattle.xf_session.proofs.names.Names.are_distinct.Goals as goal

pub returns-clause-distinct : goal.returns-clause-distinct
returns-clause-distinct g c = subst (λ names. AreDistinctNames (names_in names)) c.self.view_is (distinct-seen c.self.inside.by_name.entries c.self.invariant)
