-- without filters the names are the same
use Rattle.xf_engine.specs.Changes as change
use Rattle.xf_session.proofs.Kept.{kept_as, kept_without_filters}
use Rattle.xf_session.specs.State.{session_of}
use Rattle.xf_session.proofs.session.Session.clear_all.Goals as goal

pub invariant_of-self : goal.invariant_of-self
invariant_of-self g c =
    let s = session_of c.self.inside.board c.self.inside.cross c.self.inside.dimensions c.self.inside.groups c.self.inside.wholes in
    kept_as s c.clear_all.new.self s.cross c.in_err-moved.ensures.err c.self.invariant

pub invariant_of-self-2 : goal.invariant_of-self-2
invariant_of-self-2 g c =
    let s = session_of c.self.inside.board c.self.inside.cross c.self.inside.dimensions c.self.inside.groups c.self.inside.wholes in
    kept_as s c.clear_all.new.self (change.without_filters s.cross) c.in_ok-moved.ensures.state (kept_without_filters s c.self.invariant)
