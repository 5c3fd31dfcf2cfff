-- a dimension comes, or is refused for the first cause that holds
use Rattle.std.proofs.Common.{◌≡◌, ◌∙◌, List, None, Some, is_some, option_map, sym, ap, subst}
use Rattle.xf_access.specs.Stock.{keys_of_row}
use Rattle.xf_base.specs.declared.column.Column.{Column}
use Rattle.xf_columns.specs.Columns.{accessor_of}
use Rattle.xf_engine.specs.Refusals.{dimension_refusal_of}
use Rattle.xf_model.specs.Replay.{state_after}
use Rattle.xf_script.specs.declared.command.CommandForm.TheVariants as form
use Rattle.xf_session.proofs.Added.{accessor-outcome, dimension-outcome, does-refused, none-mapped}
use Rattle.xf_session.specs.Columns.{accessor_causes}
use Rattle.xf_session.specs.Command.{first_cause, with_dimension}
use Rattle.xf_session.specs.Does.{no_files, outcome_within}
use Rattle.xf_session.specs.Outcome.{reply_of}
use Rattle.xf_session.specs.State.{IsSession, Name, Session, named}
use Rattle.xf_session.specs.declared.naming.Naming.{Naming}
use Rattle.xf_session.proofs.session.Session.add_dimension.Goals as goal

pub returns-in-Err : goal.returns-in-Err
returns-in-Err g c =
    let session : Session = c.args.self.now in
    let absent : named session.dimensions c.args.name ≡ None = none-mapped (λ (own : Naming). own.id) (named session.dimensions c.args.name)
    (ap (λ (text : Name). is_some (option_map (λ (own : Naming). own.id) (named session.dimensions text))) (sym c.as_str.ensures) ∙ ap is_some (sym c.dimension.ensures) ∙ sym c.is_some.ensures ∙ c.if-is_some.false) in
    let columns : c.schema.result.now ≡ session.cross.columns = c.schema.ensures ∙ ap (λ (s : Session). s.cross.columns) c.self.view_is in
    let out = accessor-outcome no_files session c.args.name c.args.words c.in-Err.cause absent
    (ap (λ (list : List Column). first_cause (accessor_causes list c.args.words)) (sym columns) ∙ c.in-Err.ensures.refused) in
    (ap reply_of (sym out), ap (state_after session) (sym out))

pub returns-in-Ok-push_dimension : goal.returns-in-Ok-push_dimension
returns-in-Ok-push_dimension g c =
    let session : Session = c.args.self.now in
    let absent : named session.dimensions c.args.name ≡ None = none-mapped (λ (own : Naming). own.id) (named session.dimensions c.args.name)
    (ap (λ (text : Name). is_some (option_map (λ (own : Naming). own.id) (named session.dimensions text))) (sym c.as_str.ensures) ∙ ap is_some (sym c.dimension.ensures) ∙ sym c.is_some.ensures ∙ c.if-is_some.false) in
    let columns : c.schema.result.now ≡ session.cross.columns = c.schema.ensures ∙ ap (λ (s : Session). s.cross.columns) c.self.view_is in
    let is : IsSession session = subst IsSession c.self.view_is c.self.invariant in
    let fits : first_cause (accessor_causes session.cross.columns c.args.words) ≡ None = ap (λ (list : List Column). first_cause (accessor_causes list c.args.words)) (sym columns) ∙ c.in-Ok.ensures.accessor.1 in
    let own : c.in-Ok.accessor ≡ accessor_of session.cross.columns c.args.words = c.in-Ok.ensures.accessor.0 ∙ ap (λ (list : List Column). accessor_of list c.args.words) columns in
    let taken : dimension_refusal_of keys_of_row session.cross (accessor_of session.cross.columns c.args.words) ≡ None = ap (dimension_refusal_of keys_of_row session.cross) (sym own) ∙ c.in-Ok-push_dimension.ensures.accepted in
    let out = dimension-outcome no_files session c.args.name c.args.words None is absent fits taken in
    (ap reply_of (sym out), c.in-Ok-push_dimension.ensures.ok ∙ ap (with_dimension session c.args.name) own ∙ ap (state_after session) (sym out))

pub returns : goal.returns
returns g c =
    let session : Session = c.args.self.now in
    let absent : named session.dimensions c.args.name ≡ None = none-mapped (λ (own : Naming). own.id) (named session.dimensions c.args.name)
    (ap (λ (text : Name). is_some (option_map (λ (own : Naming). own.id) (named session.dimensions text))) (sym c.as_str.ensures) ∙ ap is_some (sym c.dimension.ensures) ∙ sym c.is_some.ensures ∙ c.if-is_some.false) in
    let columns : c.schema.result.now ≡ session.cross.columns = c.schema.ensures ∙ ap (λ (s : Session). s.cross.columns) c.self.view_is in
    let is : IsSession session = subst IsSession c.self.view_is c.self.invariant in
    let fits : first_cause (accessor_causes session.cross.columns c.args.words) ≡ None = ap (λ (list : List Column). first_cause (accessor_causes list c.args.words)) (sym columns) ∙ c.in-Ok.ensures.accessor.1 in
    let own : c.in-Ok.accessor ≡ accessor_of session.cross.columns c.args.words = c.in-Ok.ensures.accessor.0 ∙ ap (λ (list : List Column). accessor_of list c.args.words) columns in
    does-refused (outcome_within session (form.Dimension c.args.name c.args.words)) session c.push_dimension.new.self c.in-Err-push_dimension.refusal (dimension_refusal_of keys_of_row session.cross c.in-Ok.accessor)
    c.refused_dimension.result c.refused_dimension.ensures.refused c.refused_dimension.ensures.memory c.in-Err-push_dimension.ensures.refused
    (λ told. dimension-outcome no_files session c.args.name c.args.words (Some c.in-Err-push_dimension.refusal) is absent fits (ap (dimension_refusal_of keys_of_row session.cross) (sym own) ∙ told))
    c.in-Err-push_dimension.ensures.err
