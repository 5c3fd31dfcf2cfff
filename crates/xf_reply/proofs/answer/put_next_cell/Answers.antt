use Rattle.xf_reply.proofs.Puts.{puts_if_two, puts_sure}
use Rattle.xf_reply.proofs.answer.put_next_cell.Goals as goal

pub returns : goal.returns
returns c = puts_if_two (puts_sure c.in_ok-put_text.ensures) c.in_ok-put_cell.ensures
