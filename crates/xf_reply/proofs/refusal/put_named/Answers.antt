use Rattle.xf_reply.proofs.Puts.{puts_two}
use Rattle.xf_reply.proofs.refusal.put_named.Goals as goal

pub returns : goal.returns
returns c = puts_two c.in_ok-put_text.ensures c.in_ok-put_name.ensures
