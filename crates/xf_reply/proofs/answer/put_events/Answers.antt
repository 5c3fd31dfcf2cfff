use Rattle.std.proofs.Common.{codes, decimal}
use Rattle.xf_reply.proofs.Puts.{puts_behind, puts_two}
use Rattle.xf_reply.proofs.answer.put_events.Goals as goal

pub returns-clause-utf8 : goal.returns-clause-utf8
returns-clause-utf8 c =
    let removed = puts_behind (codes " removed ") (decimal c.args.removed) c.in_ok-put_counted.ensures c.in_ok-put_counted-2.ensures in
    let filtered = puts_behind (codes " filtered ") (decimal c.args.filtered) removed c.in_ok-put_counted-3.ensures in
    let all = puts_two filtered c.in_ok-put_text.ensures in
    all.utf8
