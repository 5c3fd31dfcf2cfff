use Rattle.std.proofs.Common.{◌≡◌, ◌∙◌, ℕ, ◌<◌, List, ◌∷◌, length, sym, ap, subst, arith}
use Rattle.std.specs.List.{between}
use Rattle.std.proofs.lemmas.Slice.{first_rest}
use Rattle.xf_reply.specs.Answer.{joined}
use Rattle.xf_reply.specs.Put.{PutsIf}
use Rattle.xf_reply.proofs.Puts.{puts_if_two, puts_sure}
use Rattle.xf_reply.proofs.answer.put_tags.Goals as goal

pub returns : goal.returns
returns c =
    let tags = c.args.tags.now in
    let first = c.first-item.result in
    let some : 0 < length tags = omega (arith, c.in-len1-up.len_at_least) in
    let parts : tags ≡ first ∷ between 1 (length tags) tags = first_rest tags first some ∙ ap (λ (x : List ℕ). x ∷ between 1 (length tags) tags) (sym c.first-item.is) in
    let text = rw c.as_str.ensures at c.in_ok-put_text.ensures in
    let all = puts_if_two (puts_sure text) c.in_ok-put_next_tags.ensures in
    subst (λ (all : List (List ℕ)). PutsIf (c.args.separator < 128) c.args.out.now.items c.put_next_tags.new.out.items (joined c.args.separator all)) (sym parts) all
