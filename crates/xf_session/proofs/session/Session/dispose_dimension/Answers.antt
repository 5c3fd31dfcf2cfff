-- the dimension of a name is live, and the session stays one without it
use Rattle.std.proofs.Common.{◌≡◌, ◌∙◌, Some, inl, inr, sym, ap}
use Rattle.xf_session.proofs.Kept.{kept-without-dimension}
use Rattle.xf_session.proofs.Named.{named_live}
use Rattle.xf_session.specs.State.{Session, named, session_of}
use Rattle.xf_session.proofs.session.Session.dispose_dimension.Goals as goal

pub unreachable-requires : goal.unreachable-requires
unreachable-requires g c =
    let session : Session = session_of c.self.inside.board c.self.inside.cross c.self.inside.dimensions c.self.inside.groups c.self.inside.wholes in
    let stands : named session.dimensions c.args.name ≡ Some c.in-Some.naming = ap (λ (s : Session). named s.dimensions c.args.name) c.self.view_is ∙ sym c.in-Some.ensures in
    let at = named_live session c.args.name c.in-Some.naming c.self.invariant c.is_sound-sound.ensures.sound.distinct stands in
    elim c.in-Err-NoDimension.ensures.refused [
      | inl memory ↦ absurd (cc (sym c.in-Err-NoDimension.field-0-is ∙ memory))
      | inr gone ↦ absurd (cc (sym at.found ∙ gone.1))
    ]

pub invariant_of-self-2 : goal.invariant_of-self-2
invariant_of-self-2 g c =
    let session : Session = session_of c.self.inside.board c.self.inside.cross c.self.inside.dimensions c.self.inside.groups c.self.inside.wholes in
    let stands : named session.dimensions c.args.name ≡ Some c.in-Some.naming = ap (λ (s : Session). named s.dimensions c.args.name) c.self.view_is ∙ sym c.in-Some.ensures in
    rw (c.drop_names.ensures, c.in-Ok.ensures.ok, c.remove.ensures, c.as_str.ensures)
    (kept-without-dimension session c.args.name c.in-Some.naming c.self.invariant c.is_sound-sound.ensures.sound.distinct c.is_sound-sound.ensures.sound.distinct_groups stands)
