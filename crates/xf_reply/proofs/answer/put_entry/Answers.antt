-- Two blanks, the key, the fields and a line feed.
use Rattle.xf_reply.specs.Answer.{field_words}
use Rattle.xf_reply.specs.Put.{Puts}
use Rattle.xf_reply.proofs.Puts.{puts_four}
use Rattle.xf_reply.proofs.answer.put_entry.Goals as goal

pub returns-clause-utf8 : goal.returns-clause-utf8
returns-clause-utf8 c =
    let fields : Puts c.put_key_word.new.out.items c.put_fields.new.out.items (field_words c.args.fields.now) =
    record { appended = c.in_ok-put_fields.ensures.ok; utf8 = c.in_ok-put_fields.ensures.utf8 } in
    let all = puts_four c.in_ok-put_text.ensures c.in_ok-put_key_word.ensures fields c.in_ok-put_text-2.ensures in
    all.utf8
