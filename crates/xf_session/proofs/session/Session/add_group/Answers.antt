-- a group comes, or is refused for the first cause that holds; the dimension of a name is there
use Rattle.std.proofs.Common.{◌≡◌, ◌∙◌, List, None, Some, true, inl, inr, is_some, rules, sym, ap}
use Rattle.xf_access.specs.declared.stock_rounding.StockRounding.{StockRounding}
use Rattle.xf_base.specs.declared.column.Column.{Column}
use Rattle.xf_columns.specs.Columns.{applies, reducer_of, rounding_of}
use Rattle.xf_engine.specs.declared.group_refusal.GroupRefusal.TheVariants.{TooManyGroups}
use Rattle.xf_model.specs.Replay.{state_after}
use Rattle.xf_session.proofs.Added.{group-outcome, group-reducer-outcome, group-there, none-named}
use Rattle.xf_session.specs.Columns.{reducer_causes}
use Rattle.xf_session.specs.Command.{first_cause, with_group}
use Rattle.xf_session.specs.Does.{no_files}
use Rattle.xf_session.specs.Outcome.{reply_of}
use Rattle.xf_session.specs.State.{Name, Session, named}
use Rattle.xf_session.proofs.session.Session.add_group.Goals as goal

pub returns-in-Err : goal.returns-in-Err
returns-in-Err g c =
    let session : Session = c.args.self.now in
    let absent : named session.groups c.args.name ≡ None = none-named (named session.groups c.args.name)
    (ap (λ (text : Name). is_some (named session.groups text)) (sym c.as_str.ensures) ∙ ap is_some (sym c.group.ensures) ∙ sym c.is_some.ensures ∙ c.if-is_some.false) in
    let fits : applies (rounding_of c.args.words) c.in-Some.naming.form ≡ true = search rules in
    let columns : c.schema.result.now ≡ session.cross.columns = c.schema.ensures ∙ ap (λ (s : Session). s.cross.columns) c.self.view_is in
    let out = group-reducer-outcome no_files session c.args.name c.args.dimension c.in-Some.naming c.args.words c.args.reducer c.in-Err.cause absent (sym c.in-Some.ensures) fits
    (ap (λ (list : List Column). first_cause (reducer_causes list c.args.reducer)) (sym columns) ∙ c.in-Err.ensures.refused) in
    (ap reply_of (sym out), ap (state_after session) (sym out))

pub unreachable-requires : goal.unreachable-requires
unreachable-requires g c =
    elim c.in-Err-NoDimension.ensures.refused [
      | inl memory ↦ absurd (cc (sym c.in-Err-NoDimension.field-0-is ∙ memory))
      | inr told ↦ group-there c.args.self.now c.args.dimension c.in-Some.naming c.in-Err-NoDimension.field-0-0 c.is_sound-sound.ensures.names c.is_sound-sound.ensures.cross.distinct (sym c.in-Some.ensures)
          (told ∙ ap Some c.in-Err-NoDimension.field-0-is)
    ]

pub returns-in-Ok-push_group : goal.returns-in-Ok-push_group
returns-in-Ok-push_group g c =
    let session : Session = c.args.self.now in
    let absent : named session.groups c.args.name ≡ None = none-named (named session.groups c.args.name)
    (ap (λ (text : Name). is_some (named session.groups text)) (sym c.as_str.ensures) ∙ ap is_some (sym c.group.ensures) ∙ sym c.is_some.ensures ∙ c.if-is_some.false) in
    let fits : applies (rounding_of c.args.words) c.in-Some.naming.form ≡ true = search rules in
    let columns : c.schema.result.now ≡ session.cross.columns = c.schema.ensures ∙ ap (λ (s : Session). s.cross.columns) c.self.view_is in
    let suits : first_cause (reducer_causes session.cross.columns c.args.reducer) ≡ None = ap (λ (list : List Column). first_cause (reducer_causes list c.args.reducer)) (sym columns) ∙ c.in-Ok.ensures.reducer.1 in
    let own : c.in-Ok.reducer ≡ reducer_of session.cross.columns c.args.reducer = c.in-Ok.ensures.reducer.0 ∙ ap (λ (list : List Column). reducer_of list c.args.reducer) columns in
    let out = group-outcome no_files session c.args.name c.args.dimension c.in-Some.naming c.args.words c.args.reducer None c.is_sound-sound.ensures.names c.is_sound-sound.ensures.cross.distinct absent (sym c.in-Some.ensures) fits suits c.in-Ok-push_group.ensures.accepted in (
      ap reply_of (sym out),
      c.in-Ok-push_group.ensures.ok ∙ ap (λ (rounding : StockRounding). with_group session c.args.name c.args.dimension rounding c.in-Ok.reducer) c.rounding_of-rounding.ensures
          ∙ ap (with_group session c.args.name c.args.dimension (rounding_of c.args.words)) own ∙ ap (state_after session) (sym out),
    )

pub returns-in-Err-TooManyGroups : goal.returns-in-Err-TooManyGroups
returns-in-Err-TooManyGroups g c =
    let session : Session = c.args.self.now in
    let absent : named session.groups c.args.name ≡ None = none-named (named session.groups c.args.name)
    (ap (λ (text : Name). is_some (named session.groups text)) (sym c.as_str.ensures) ∙ ap is_some (sym c.group.ensures) ∙ sym c.is_some.ensures ∙ c.if-is_some.false) in
    let fits : applies (rounding_of c.args.words) c.in-Some.naming.form ≡ true = search rules in
    let columns : c.schema.result.now ≡ session.cross.columns = c.schema.ensures ∙ ap (λ (s : Session). s.cross.columns) c.self.view_is in
    let suits : first_cause (reducer_causes session.cross.columns c.args.reducer) ≡ None = ap (λ (list : List Column). first_cause (reducer_causes list c.args.reducer)) (sym columns) ∙ c.in-Ok.ensures.reducer.1 in
    elim c.in-Err-TooManyGroups.ensures.refused [
      | inl memory ↦ absurd (cc (sym c.in-Err-TooManyGroups.field-0-is ∙ memory))
      | inr told ↦
          let out = group-outcome no_files session c.args.name c.args.dimension c.in-Some.naming c.args.words c.args.reducer (Some (TooManyGroups c.in-Err-TooManyGroups.limit)) c.is_sound-sound.ensures.names c.is_sound-sound.ensures.cross.distinct absent (sym c.in-Some.ensures) fits suits (told ∙ ap Some c.in-Err-TooManyGroups.field-0-is) in
          (ap reply_of (sym out), c.in-Err-TooManyGroups.ensures.err ∙ ap (state_after session) (sym out))
    ]
