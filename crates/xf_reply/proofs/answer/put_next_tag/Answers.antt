use Rattle.xf_reply.proofs.Puts.{puts_byte}
use Rattle.xf_reply.proofs.answer.put_next_tag.Goals as goal

pub returns : goal.returns
returns c =
    let tag = rw c.as_str.ensures at c.in_ok-put_text.ensures in
    puts_byte c.args.separator c.in_ok-push.ensures.items tag
