-- Each turn puts one field more.
use Rattle.std.proofs.Common.{◌<◌, length, arith}
use Rattle.std.proofs.lemmas.List.{get_or_default}
use Rattle.xf_reply.specs.Answer.{field_word}
use Rattle.xf_reply.proofs.Puts.{puts_more, puts_nothing, puts_sure}
use Rattle.xf_reply.proofs.answer.put_fields.Goals as goal

pub loop-field-init : goal.loop-field-init
loop-field-init c = puts_nothing (Unit {0}) c.args.out.now.items

pub loop-field-preserved : goal.loop-field-preserved
loop-field-preserved c =
    let fields = c.args.fields.now in
    let i = c.loop-field.field-index in
    let below : i < length fields = omega (arith, c.loop-field-test.true) in
    puts_more field_word fields i _ below (get_or_default fields i _ _ below) c.loop-field.invariant (puts_sure c.in_ok-put_field.ensures)
