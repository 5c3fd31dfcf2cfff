-- The blank, and the number with its decimals.
use Rattle.std.proofs.Common.{rules, FitsSigned}
use Rattle.std.specs.Int.{w128}
use Rattle.std.proofs.Math.Facts.{to_z-of_z}
use Rattle.xf_reply.specs.Put.{Puts}
use Rattle.xf_reply.proofs.Puts.{puts_two}
use Rattle.xf_reply.proofs.answer.put_field.Goals as goal

pub returns : goal.returns
returns c =
    let fits : FitsSigned w128 c.args.field.number = search rules in
    let one : Puts c.put_text.new.out.items c.put_fixed.new.out.items _ = record { appended = c.in_ok-put_fixed.ensures.ok; utf8 = c.in_ok-put_fixed.ensures.utf8 } in
    puts_two c.in_ok-put_text.ensures (rw (to_z-of_z fits) at one)
