use Rattle.std.proofs.Common.{option_map, unwrap_or, sym, ap, ◌∙◌}
use Rattle.xf_base.specs.declared.form.AtomForm.TheVariants.{Text}
use Rattle.xf_base.specs.declared.form.KeyForm.TheVariants.{One}
use Rattle.xf_engine.specs.Refusals.{dimension_id, no_group, unless_none}
use Rattle.xf_engine.specs.State.{group_named}
use Rattle.xf_session.proofs.NamedIds.{of-group, of-no-group}
use Rattle.xf_session.specs.Command.{form_named}
use Rattle.xf_session.specs.State.{Session}
use Rattle.xf_session.proofs.session.Session.group_form.Goals as goal

pub returns-in-Err : goal.returns-in-Err
returns-in-Err c =
    let session : Session = c.args.self.now in
    let none = of-no-group (form_named session) c.args.id.0 c.in-Err.field-0 (group_named session.cross c.args.id.0)
    (c.in-Err.ensures ∙ ap (λ (s : Session). unless_none (no_group c.args.id.0) (option_map dimension_id (group_named s.cross c.args.id.0))) c.self.view_is) in
    sym (ap (λ found. unwrap_or found (One Text)) none)

pub returns-in-Ok : goal.returns-in-Ok
returns-in-Ok c =
    let session : Session = c.args.self.now in
    let found = of-group (form_named session) c.args.id.0 c.in-Ok.dimension (group_named session.cross c.args.id.0)
    (c.in-Ok.ensures ∙ ap (λ (s : Session). unless_none (no_group c.args.id.0) (option_map dimension_id (group_named s.cross c.args.id.0))) c.self.view_is) in
    c.unwrap_or.ensures ∙ ap (λ found. unwrap_or found (One Text)) (c.form.ensures ∙ sym found)
