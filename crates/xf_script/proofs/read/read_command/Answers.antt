use Rattle.std.proofs.Common.{◌≡◌, ◌∙◌, ◌≤◌, Option, List, ℕ, length, Err, IsUtf8, sym, ap, subst, arith}
use Rattle.std.specs.List.{AllByRecursion}
use Rattle.xf_base.specs.declared.limits.TheConstants.Limits.{LINE_BYTES}
use Rattle.xf_script.specs.Grammar.{Read, Answers, form_of_split}
use Rattle.xf_script.specs.Line.{Split, is_comment, split_of}
use Rattle.xf_script.specs.declared.command.CommandForm.{CommandForm}
use Rattle.xf_script.specs.declared.line_refusal.LineRefusal.TheVariants as refusal
use Rattle.xf_script.proofs.Cuts.{utf8_split}
use Rattle.xf_script.proofs.Lines.{line_no_text, line_comment, line_step}
use Rattle.xf_script.proofs.read.read_command.Goals as goal

pub returns-in-Err : goal.returns-in-Err
returns-in-Err c =
    let few : length c.args.line.now ≤ LINE_BYTES = omega (arith, c.if-line-gt-LINE_BYTES.false) in
    record { exact = line_no_text c.args.line.now few c.in-Err.ensures.cases.0 ∙ ap (λ (n : ℕ). Err (refusal.NotText n)) (sym (c.valid_up_to.ensures ∙ c.in-Err.ensures.valid_len)) }

pub returns-then-is_comment : goal.returns-then-is_comment
returns-then-is_comment c =
    let few : length c.args.line.now ≤ LINE_BYTES = omega (arith, c.if-line-gt-LINE_BYTES.false) in
    record { exact = line_comment c.args.line.now few c.in-Ok.ensures.cases.1 (ap is_comment (sym c.in-Ok.ensures.cases.0) ∙ sym c.is_comment.ensures ∙ c.if-is_comment.true) }

pub returns : goal.returns
returns c =
    let few : length c.args.line.now ≤ LINE_BYTES = omega (arith, c.if-line-gt-LINE_BYTES.false) in
    let same = c.in-Ok.ensures.cases.0 in
    let step = line_step c.args.line.now few c.in-Ok.ensures.cases.1 (ap is_comment (sym same) ∙ sym c.is_comment.ensures ∙ c.if-is_comment.false) in
    record { exact = subst (λ (read : Read (Option CommandForm)). Answers c.command_of_split.result read) (sym (step ∙ ap (λ (line : List ℕ). form_of_split (split_of line)) (sym same) ∙ ap form_of_split (sym c.in_ok-split_line.ensures))) c.command_of_split.ensures }

pub command_of_split-requires : goal.command_of_split-requires
command_of_split-requires c =
    let text = c.in-Ok.text.now in
    let utf8 : IsUtf8 text = subst IsUtf8 (sym c.in-Ok.ensures.cases.0) c.in-Ok.ensures.cases.1 in
    let same : c.in_ok-split_line.field-0.words ≡ (split_of text).words = ap (λ (split : Split). split.words) c.in_ok-split_line.ensures in
    subst (AllByRecursion IsUtf8) (sym same) (utf8_split text utf8)
