-- a whole comes, or is refused for the first cause that holds
use Rattle.std.proofs.Common.{◌≡◌, ◌∙◌, List, None, Some, inl, inr, is_some, sym, ap}
use Rattle.xf_base.specs.declared.column.Column.{Column}
use Rattle.xf_columns.specs.Columns.{reducer_of}
use Rattle.xf_engine.specs.declared.whole_refusal.WholeRefusal.TheVariants.{TooManyGroups}
use Rattle.xf_model.specs.Replay.{state_after}
use Rattle.xf_session.proofs.Added.{none-named, whole-outcome, whole-reducer-outcome}
use Rattle.xf_session.specs.Columns.{reducer_causes}
use Rattle.xf_session.specs.Command.{first_cause, with_whole}
use Rattle.xf_session.specs.Does.{no_files}
use Rattle.xf_session.specs.Outcome.{reply_of}
use Rattle.xf_session.specs.State.{Name, Session, named}
use Rattle.xf_session.proofs.session.Session.add_whole.Goals as goal

pub returns-in-Err : goal.returns-in-Err
returns-in-Err g c =
    let session : Session = c.args.self.now in
    let absent : named session.wholes c.args.name ≡ None = none-named (named session.wholes c.args.name)
    (ap (λ (text : Name). is_some (named session.wholes text)) (sym c.as_str.ensures) ∙ ap is_some (sym c.whole.ensures) ∙ sym c.is_some.ensures ∙ c.if-is_some.false) in
    let columns : c.schema.result.now ≡ session.cross.columns = c.schema.ensures ∙ ap (λ (s : Session). s.cross.columns) c.self.view_is in
    let out = whole-reducer-outcome no_files session c.args.name c.args.reducer c.in-Err.cause absent
    (ap (λ (list : List Column). first_cause (reducer_causes list c.args.reducer)) (sym columns) ∙ c.in-Err.ensures.refused) in
    (ap reply_of (sym out), ap (state_after session) (sym out))

pub returns-in-Ok-push_whole : goal.returns-in-Ok-push_whole
returns-in-Ok-push_whole g c =
    let session : Session = c.args.self.now in
    let absent : named session.wholes c.args.name ≡ None = none-named (named session.wholes c.args.name)
    (ap (λ (text : Name). is_some (named session.wholes text)) (sym c.as_str.ensures) ∙ ap is_some (sym c.whole.ensures) ∙ sym c.is_some.ensures ∙ c.if-is_some.false) in
    let columns : c.schema.result.now ≡ session.cross.columns = c.schema.ensures ∙ ap (λ (s : Session). s.cross.columns) c.self.view_is in
    let suits : first_cause (reducer_causes session.cross.columns c.args.reducer) ≡ None = ap (λ (list : List Column). first_cause (reducer_causes list c.args.reducer)) (sym columns) ∙ c.in-Ok.ensures.reducer.1 in
    let own : c.in-Ok.reducer ≡ reducer_of session.cross.columns c.args.reducer = c.in-Ok.ensures.reducer.0 ∙ ap (λ (list : List Column). reducer_of list c.args.reducer) columns in
    let out = whole-outcome no_files session c.args.name c.args.reducer None c.is_sound-sound.ensures.names absent suits c.in-Ok-push_whole.ensures.accepted in
    (ap reply_of (sym out), c.in-Ok-push_whole.ensures.ok ∙ ap (with_whole session c.args.name) own ∙ ap (state_after session) (sym out))

pub returns-in-Err-TooManyGroups : goal.returns-in-Err-TooManyGroups
returns-in-Err-TooManyGroups g c =
    let session : Session = c.args.self.now in
    let absent : named session.wholes c.args.name ≡ None = none-named (named session.wholes c.args.name)
    (ap (λ (text : Name). is_some (named session.wholes text)) (sym c.as_str.ensures) ∙ ap is_some (sym c.whole.ensures) ∙ sym c.is_some.ensures ∙ c.if-is_some.false) in
    let columns : c.schema.result.now ≡ session.cross.columns = c.schema.ensures ∙ ap (λ (s : Session). s.cross.columns) c.self.view_is in
    let suits : first_cause (reducer_causes session.cross.columns c.args.reducer) ≡ None = ap (λ (list : List Column). first_cause (reducer_causes list c.args.reducer)) (sym columns) ∙ c.in-Ok.ensures.reducer.1 in
    elim c.in-Err-TooManyGroups.ensures.refused [
      | inl memory ↦ absurd (cc (sym c.in-Err-TooManyGroups.field-0-is ∙ memory))
      | inr told ↦
          let out = whole-outcome no_files session c.args.name c.args.reducer (Some (TooManyGroups c.in-Err-TooManyGroups.limit)) c.is_sound-sound.ensures.names absent suits (told ∙ ap Some c.in-Err-TooManyGroups.field-0-is) in
          (ap reply_of (sym out), c.in-Err-TooManyGroups.ensures.err ∙ ap (state_after session) (sym out))
    ]
