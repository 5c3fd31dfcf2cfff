use Rattle.xf_reply.proofs.Puts.{puts_three, puts_two}
use Rattle.xf_reply.proofs.reply.put_changed.Goals as goal

pub returns : goal.returns
returns c = puts_three c.in_ok-put_counted.ensures (puts_two c.in_ok-put_text.ensures c.in_ok-put_change.ensures) c.in_ok-put_text-2.ensures
