use Rattle.xf_reply.proofs.Puts.{puts_three, puts_two}
use Rattle.xf_reply.proofs.reply.put_refused.Goals as goal

pub returns : goal.returns
returns c =
    let number = rw c.number.ensures at c.in_ok-put_counted-2.ensures in
    puts_three c.in_ok-put_counted.ensures (puts_two number (puts_two c.in_ok-put_text.ensures c.in_ok-put_words.ensures)) c.in_ok-put_text-2.ensures
