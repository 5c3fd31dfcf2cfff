-- the dimension of a name is there, and the keys of its filter are of its kind
use Rattle.std.proofs.Common.{◌∙◌, sym}
use Rattle.xf_session.proofs.Filtered.{own_fits}
use Rattle.xf_session.proofs.Named.{named_live}
use Rattle.xf_session.specs.State.{session_of}
use Rattle.xf_session.proofs.session.Session.filtered.Goals as goal

pub unreachable-requires : goal.unreachable-requires
unreachable-requires c =
    let s = session_of c.self.inside.board c.self.inside.cross c.self.inside.dimensions c.self.inside.groups c.self.inside.wholes in
    let is = rw (← c.self.view_is) at (sym c.naming.ensures ∙ c.in_ok-naming.was) in
    let at = named_live s c.args.name.now c.in_ok-naming.naming c.self.invariant c.is_sound-sound.ensures.sound.distinct is in
    cc (sym c.in-Err.ensures.refused.1 ∙ at.found)

pub returns-clause-kind : goal.returns-clause-kind
returns-clause-kind c =
    let s = session_of c.self.inside.board c.self.inside.cross c.self.inside.dimensions c.self.inside.groups c.self.inside.wholes in
    let is = rw (← c.self.view_is) at (sym c.naming.ensures ∙ c.in_ok-naming.was) in
    let at = named_live s c.args.name.now c.in_ok-naming.naming c.self.invariant c.is_sound-sound.ensures.sound.distinct is in
    own_fits s.cross c.in_ok-naming.naming c.in-Ok.filter.now at c.is_sound-sound.ensures.sound.filters c.in-Ok.ensures.filter
