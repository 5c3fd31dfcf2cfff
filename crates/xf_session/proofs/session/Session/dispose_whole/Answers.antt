-- the session stays one without the whole of a name
use Rattle.std.proofs.Common.{◌≡◌, ◌∙◌, Some, sym, ap}
use Rattle.xf_session.proofs.Kept.{kept-without-whole}
use Rattle.xf_session.specs.State.{Session, named, session_of}
use Rattle.xf_session.proofs.session.Session.dispose_whole.Goals as goal

pub invariant_of-self : goal.invariant_of-self
invariant_of-self c =
    let session : Session = session_of c.self.inside.board c.self.inside.cross c.self.inside.dimensions c.self.inside.groups c.self.inside.wholes in
    let stands : named session.wholes c.args.name ≡ Some c.in-Some.id = ap (λ (s : Session). named s.wholes c.args.name) c.self.view_is ∙ ap (named c.args.self.now.wholes) (sym c.as_str.ensures) ∙ sym c.in-Some.ensures in
    rw (c.dispose_whole-gone.ensures.state, c.remove.ensures, c.as_str-2.ensures)
    (kept-without-whole session c.args.name c.in-Some.id c.self.invariant c.is_sound-sound.ensures.sound.distinct_wholes stands)
