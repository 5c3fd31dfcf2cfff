use Rattle.xf_reply.proofs.Puts.{puts_three}
use Rattle.xf_reply.proofs.refusal.put_too_long.Goals as goal

pub returns : goal.returns
returns c = puts_three c.in_ok-put_text.ensures c.in_ok-put_name.ensures c.in_ok-put_next_count.ensures
