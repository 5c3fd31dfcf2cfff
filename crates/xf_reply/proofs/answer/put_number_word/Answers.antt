use Rattle.std.proofs.Common.{rules}
use Rattle.xf_base.specs.Form.{number_text}
use Rattle.xf_reply.specs.Put.{Puts}
use Rattle.xf_reply.proofs.BareNumbers.{word_text-number_text}
use Rattle.xf_reply.proofs.answer.put_number_word.Goals as goal

pub returns : goal.returns
returns c =
    let number : Puts c.args.out.now.items c.put_number.new.out.items (number_text c.args.form c.args.number) = search rules in
    rw (word_text-number_text c.args.form c.args.number c.ranges.number) number
