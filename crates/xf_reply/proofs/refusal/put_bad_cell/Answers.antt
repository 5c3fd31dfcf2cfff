use Rattle.xf_reply.proofs.Puts.{puts_four, puts_two}
use Rattle.xf_reply.proofs.refusal.put_bad_cell.Goals as goal

pub returns : goal.returns
returns c = puts_four c.in_ok-put_text.ensures c.in_ok-put_count.ensures c.in_ok-put_next_name.ensures (puts_two c.in_ok-put_text-2.ensures c.in_ok-put_cell_refusal.ensures)
