use Rattle.std.proofs.Common.{codes}
use Rattle.std.proofs.lemmas.Str.{IsUtf8-append}
use Rattle.xf_reply.specs.Step.{step_line}
use Rattle.xf_reply.proofs.reply.put_step.Goals as goal

pub returns-in_ok-extend_from_slice-in-Answer-clause-utf8 : goal.returns-in_ok-extend_from_slice-in-Answer-clause-utf8
returns-in_ok-extend_from_slice-in-Answer-clause-utf8 c =
    rw c.in-Answer.is (IsUtf8-append (step_line c.args.number (codes "ok")) _ c.in_ok-put_changed-in-Answer.ensures.utf8)
