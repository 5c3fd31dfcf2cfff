-- the dimension of a name is there
use Rattle.std.proofs.Common.{◌∙◌, Some, ap, inl, inr, subst, sym}
use Rattle.xf_model.specs.Replay.{state_after}
use Rattle.xf_session.proofs.Filtered.{removal_refused, removal_there, removed_left, removed_told}
use Rattle.xf_session.proofs.Named.{named_live}
use Rattle.xf_session.specs.Command.{with_cross}
use Rattle.xf_session.specs.Does.{Does}
use Rattle.xf_session.specs.Filtering.{removing}
use Rattle.xf_session.specs.Outcome.{reply_of}
use Rattle.xf_session.specs.State.{Session, session_of}
use Rattle.xf_session.proofs.session.Session.remove_under.Goals.{in-Ok, in-Err-WrongKind, in-Err-OutOfMemory}
use Rattle.xf_session.proofs.session.Session.remove_under.Goals as goal

pub unreachable-requires : goal.unreachable-requires
unreachable-requires g c =
    let s = session_of c.self.inside.board c.self.inside.cross c.self.inside.dimensions c.self.inside.groups c.self.inside.wholes in
    let is = rw (← c.self.view_is) at c.requires in
    let at = named_live s c.args.name.now c.args.naming c.self.invariant c.is_sound-sound.ensures.sound.distinct is in
    elim c.in-Err-NoDimension.ensures.refused [
      | inl memory ↦ absurd (cc (sym c.in-Err-NoDimension.field-0-is ∙ memory))
      | inr told ↦ removal_there s.cross c.args.naming c.args.filter.now c.in-Err-NoDimension.field-0-0 at (told ∙ ap Some c.in-Err-NoDimension.field-0-is)
    ]

pub returns : goal.returns
returns g c =
    let s = session_of c.self.inside.board c.self.inside.cross c.self.inside.dimensions c.self.inside.groups c.self.inside.wholes in
    let is = rw (← c.self.view_is) at c.requires in
    let at = named_live s c.args.name.now c.args.naming c.self.invariant c.is_sound-sound.ensures.sound.distinct is in
    let name = c.args.name.now in
    let given = c.args.filter.now in
    subst (λ (old : Session). Does (removing old name given) old (with_cross s c.remove_where.new.self) c.match-remove_where.result) c.self.view_is (elim c.match-remove_where.branch [
      | in-Ok w ↦ subst (λ result. Does (removing s name given) s (with_cross s c.remove_where.new.self) result) (sym w.result-is) (
        sym (removed_told s name c.args.naming given w.in-Ok.removed is at w.in-Ok.ensures.accepted w.in-Ok.ensures.removed),
        ap (with_cross s) w.in-Ok.ensures.ok ∙ sym (removed_left s name c.args.naming given is at w.in-Ok.ensures.accepted),
      )
      | in-Err-WrongKind w ↦ subst (λ result. Does (removing s name given) s (with_cross s c.remove_where.new.self) result) (sym w.result-is)
          (elim w.in-Err-WrongKind.ensures.refused [
            | inl memory ↦ absurd (cc (sym w.in-Err-WrongKind.field-0-is ∙ memory))
            | inr told ↦
                let no = removal_refused s name c.args.naming given w.in-Err-WrongKind.wanted w.in-Err-WrongKind.given is at (told ∙ ap Some w.in-Err-WrongKind.field-0-is) in
                (sym (ap reply_of no), ap (with_cross s) w.in-Err-WrongKind.ensures.err ∙ sym (ap (state_after s) no))
          ])
      | in-Err-OutOfMemory w ↦ subst (λ result. Does (removing s name given) s (with_cross s c.remove_where.new.self) result) (sym w.result-is) (ap (with_cross s) w.in-Err-OutOfMemory.ensures.err)
    ])
