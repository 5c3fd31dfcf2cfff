-- the dimension of a name is there, and the session keeps its names
use Rattle.std.proofs.Common.{◌∙◌, Some, ap, inl, inr, subst, sym}
use Rattle.xf_engine.specs.Changes as change
use Rattle.xf_model.specs.Replay.{state_after}
use Rattle.xf_session.proofs.Filtered.{dimension_there, set_left, set_refused, set_told}
use Rattle.xf_session.proofs.Kept.{kept_as, kept_with_filter}
use Rattle.xf_session.proofs.Named.{named_live}
use Rattle.xf_session.specs.Command.{with_cross}
use Rattle.xf_session.specs.Does.{Does}
use Rattle.xf_session.specs.Outcome.{reply_of}
use Rattle.xf_session.specs.Filtering.{setting}
use Rattle.xf_session.specs.State.{Session, session_of}
use Rattle.xf_session.proofs.session.Session.set_filter.Goals.{in-Ok, in-Err-WrongKind, in-Err-OutOfMemory}
use Rattle.xf_session.proofs.session.Session.set_filter.Goals as goal

pub unreachable-requires : goal.unreachable-requires
unreachable-requires g c =
    let s = session_of c.self.inside.board c.self.inside.cross c.self.inside.dimensions c.self.inside.groups c.self.inside.wholes in
    let is = rw (← c.self.view_is) at c.requires in
    let at = named_live s c.args.name.now c.args.naming c.self.invariant c.is_sound-sound.ensures.sound.distinct is in
    elim c.in-Err-NoDimension.ensures.refused [
      | inl memory ↦ absurd (cc (sym c.in-Err-NoDimension.field-0-is ∙ memory))
      | inr told ↦ dimension_there s.cross c.args.naming c.args.filter c.in-Err-NoDimension.field-0-0 at (told ∙ ap Some c.in-Err-NoDimension.field-0-is)
    ]

pub invariant_of-self : goal.invariant_of-self
invariant_of-self g c =
    let s = session_of c.self.inside.board c.self.inside.cross c.self.inside.dimensions c.self.inside.groups c.self.inside.wholes in
    elim c.match-set_filter.branch [
      | in-Ok w ↦ kept_as s c.set_filter.new.self (change.with_filter s.cross c.args.naming.id.0 c.args.filter) w.in-Ok.ensures.ok (kept_with_filter s c.args.naming.id.0 c.args.filter c.self.invariant)
      | in-Err-WrongKind w ↦ kept_as s c.set_filter.new.self s.cross w.in-Err-WrongKind.ensures.err c.self.invariant
      | in-Err-OutOfMemory w ↦ kept_as s c.set_filter.new.self s.cross w.in-Err-OutOfMemory.ensures.err c.self.invariant
    ]

pub returns : goal.returns
returns g c =
    let s = session_of c.self.inside.board c.self.inside.cross c.self.inside.dimensions c.self.inside.groups c.self.inside.wholes in
    let is = rw (← c.self.view_is) at c.requires in
    let at = named_live s c.args.name.now c.args.naming c.self.invariant c.is_sound-sound.ensures.sound.distinct is in
    let name = c.args.name.now in
    let given = c.args.filter in
    subst (λ (old : Session). Does (setting old name given) old (with_cross s c.set_filter.new.self) c.match-set_filter.result) c.self.view_is (elim c.match-set_filter.branch [
      | in-Ok w ↦ subst (λ result. Does (setting s name given) s (with_cross s c.set_filter.new.self) result) (sym w.result-is) (
        sym (set_told s name c.args.naming given w.in-Ok.moved is at w.in-Ok.ensures.accepted w.in-Ok.ensures.moved),
        ap (with_cross s) w.in-Ok.ensures.ok ∙ sym (set_left s name c.args.naming given is at w.in-Ok.ensures.accepted),
      )
      | in-Err-WrongKind w ↦ subst (λ result. Does (setting s name given) s (with_cross s c.set_filter.new.self) result) (sym w.result-is)
          (elim w.in-Err-WrongKind.ensures.refused [
            | inl memory ↦ absurd (cc (sym w.in-Err-WrongKind.field-0-is ∙ memory))
            | inr told ↦
                let no = set_refused s name c.args.naming given w.in-Err-WrongKind.wanted w.in-Err-WrongKind.given is at (told ∙ ap Some w.in-Err-WrongKind.field-0-is) in
                (sym (ap reply_of no), ap (with_cross s) w.in-Err-WrongKind.ensures.err ∙ sym (ap (state_after s) no))
          ])
      | in-Err-OutOfMemory w ↦ subst (λ result. Does (setting s name given) s (with_cross s c.set_filter.new.self) result) (sym w.result-is) (ap (with_cross s) w.in-Err-OutOfMemory.ensures.err)
    ])
