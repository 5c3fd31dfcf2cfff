use Rattle.xf_reply.proofs.Puts.{puts_if_two, puts_sure}
use Rattle.xf_reply.proofs.answer.put_record.Goals as goal

pub returns-clause-utf8 : goal.returns-clause-utf8
returns-clause-utf8 c =
    let cells = rw c.as_slice.ensures at c.in_ok-put_cells.ensures in
    let all = puts_if_two (puts_if_two (puts_sure c.in_ok-put_counted.ensures) cells) (puts_sure c.in_ok-put_text.ensures) in
    all.utf8
