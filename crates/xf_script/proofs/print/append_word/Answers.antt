use Rattle.std.proofs.Common.{ℕ, List, [], ◌∷◌, subst}
use Rattle.xf_filter.proofs.Printed.{appends-word}
use Rattle.xf_filter.specs.Words.{Appends}
use Rattle.xf_script.proofs.print.append_word.Goals as goal

pub returns : goal.returns
returns c =
    subst (λ (w : List ℕ). Appends c.args.out.now.items c.put_word.new.out.items (w ∷ [])) c.as_bytes.ensures.value
    (appends-word c.args.out.now.items c.push.new.self.items c.put_word.new.out.items c.as_bytes.result.now c.in_ok-push.ensures.items c.in_ok-put_word.ensures.ok (c.put_word.ensures.utf8 c.as_bytes.ensures.utf8))
