use Rattle.std.proofs.Common.{◌≡◌, ◌∙◌, Some, Ok, ap, rules, sym}
use Rattle.xf_script.specs.Grammar.{form_of_line}
use Rattle.xf_session.proofs.Performed.{line_does, line_somewhere}
use Rattle.xf_session.specs.Does.{no_files}
use Rattle.xf_session.proofs.session.Session.apply.Goals as goal

pub perform-requires : goal.perform-requires
perform-requires g c = rw c.into_form.ensures.form c.into_form.ensures.command

pub returns-in-Ok-Some-clause-command : goal.returns-in-Ok-Some-clause-command
returns-in-Ok-Some-clause-command g c =
    let read : form_of_line c.args.line.now ≡ Ok (Some c.into_form.result) =
    c.in-Ok-Some.ensures.exact ∙ ap Ok (c.in-Ok-Some.field-0-is ∙ ap Some (sym c.into_form.ensures.form)) in
    line_does (g.D.Depot.account c.args.depot.now).files c.args.line.now c.into_form.result c.args.self.now c.perform.new.self c.perform.result read c.perform.ensures.command

pub returns-in-Ok-Some-clause-some_files : goal.returns-in-Ok-Some-clause-some_files
returns-in-Ok-Some-clause-some_files g c =
    let read : form_of_line c.args.line.now ≡ Ok (Some c.into_form.result) =
    c.in-Ok-Some.ensures.exact ∙ ap Ok (c.in-Ok-Some.field-0-is ∙ ap Some (sym c.into_form.ensures.form)) in
    line_somewhere c.args.line.now c.into_form.result c.args.self.now c.perform.new.self c.perform.result read c.perform.ensures.some_files

pub returns-in-Ok-None-clause-some_files : goal.returns-in-Ok-None-clause-some_files
returns-in-Ok-None-clause-some_files g c = (no_files, search rules)

pub returns-in_ok-cause_of-in-Err-clause-some_files : goal.returns-in_ok-cause_of-in-Err-clause-some_files
returns-in_ok-cause_of-in-Err-clause-some_files g c = (no_files, search rules)

pub returns-in_err-cause_of-in-Err-clause-some_files : goal.returns-in_err-cause_of-in-Err-clause-some_files
returns-in_err-cause_of-in-Err-clause-some_files g c = (no_files, search rules)
