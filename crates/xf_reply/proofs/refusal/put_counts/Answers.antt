use Rattle.xf_reply.proofs.Puts.{puts_three, puts_two}
use Rattle.xf_reply.proofs.refusal.put_counts.Goals as goal

pub returns : goal.returns
returns c = puts_two c.in_ok-put_text.ensures (puts_three c.in_ok-put_count.ensures c.in_ok-put_next_count.ensures c.in_ok-put_next_count-2.ensures)
