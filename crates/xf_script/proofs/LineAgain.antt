-- The line that is written for a command is read as it.
use Rattle.std.proofs.Common.{◌≡◌, ◌∙◌, ◌≤◌, false, length, Some, Ok, refl, ap}
use Rattle.xf_base.specs.declared.limits.TheConstants.Limits.{LINE_BYTES}
use Rattle.xf_script.specs.Canonical.{command_line, command_words}
use Rattle.xf_script.specs.Grammar.{IsCommand, form_of_line, form_of_split}
use Rattle.xf_script.specs.Line.{is_comment}
use Rattle.xf_script.specs.declared.command.CommandForm.{CommandForm}
use Rattle.xf_script.specs.declared.command.CommandForm.TheVariants as form
use Rattle.xf_script.proofs.Again.{said_again}
use Rattle.xf_script.proofs.Lines.{line_step}
use Rattle.xf_script.proofs.Spelled.{line-again}
use Rattle.xf_script.proofs.Utf8Forms.{utf8_of}

-- no verb begins a comment
no_comment : (given : CommandForm) → is_comment (command_line given) ≡ false
no_comment (form.Load file) = refl
no_comment (form.Add words) = refl
no_comment (form.Filter dimension filter) = refl
no_comment (form.Toggle dimension item) = refl
no_comment (form.Clear dimension) = refl
no_comment form.ClearAll = refl
no_comment form.RemovePassing = refl
no_comment (form.RemoveWhere dimension filter) = refl
no_comment (form.Dimension name accessor) = refl
no_comment (form.Group name dimension rounding reducer) = refl
no_comment (form.Whole name reducer) = refl
no_comment (form.Order group field) = refl
no_comment (form.DisposeDimension name) = refl
no_comment (form.DisposeGroup name) = refl
no_comment (form.DisposeWhole name) = refl
no_comment (form.Top dimension count offset) = refl
no_comment (form.Bottom dimension count offset) = refl
no_comment (form.Groups group) = refl
no_comment (form.GroupTop group count) = refl
no_comment (form.Value group key) = refl
no_comment (form.Records dimensions) = refl
no_comment form.Size = refl
no_comment form.Passing = refl
no_comment form.Events = refl
no_comment (form.Note words) = refl

pub line_of_command : (given : CommandForm) → IsCommand given → length (command_line given) ≤ LINE_BYTES → form_of_line (command_line given) ≡ Ok (Some given)
line_of_command given is few =
    line_step (command_line given) few (utf8_of is.0 given is.1 is.2) (no_comment given)
    ∙ ap form_of_split (line-again (command_words given))
    ∙ said_again given is
