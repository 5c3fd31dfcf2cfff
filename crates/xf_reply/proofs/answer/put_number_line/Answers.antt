use Rattle.xf_reply.proofs.Puts.{puts_two}
use Rattle.xf_reply.proofs.answer.put_number_line.Goals as goal

pub returns-clause-utf8 : goal.returns-clause-utf8
returns-clause-utf8 c =
    let all = puts_two c.in_ok-put_counted.ensures c.in_ok-put_text.ensures in
    all.utf8
