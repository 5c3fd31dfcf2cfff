use Rattle.std.proofs.Common.{ℕ, ◌<◌, List, ◌∷◌, arith, sym}
use Rattle.xf_reply.proofs.Puts.{puts_more, puts_nothing}
use Rattle.xf_reply.proofs.answer.put_next_tags.Goals as goal

pub loop-tag-init : goal.loop-tag-init
loop-tag-init c = puts_nothing (c.args.separator < 128) c.args.out.now.items

pub loop-tag-preserved : goal.loop-tag-preserved
loop-tag-preserved c =
    puts_more (λ (text : List ℕ). c.args.separator ∷ text) c.args.tags.now c.loop-tag.tag-index c.tag-item.result (omega (arith, c.loop-tag-test.true)) (sym c.tag-item.is) c.loop-tag.invariant c.in_ok-put_next_tag.ensures
