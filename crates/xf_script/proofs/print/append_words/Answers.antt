use Rattle.std.proofs.Common.{sym, arith, subst, ◌∷◌, [], List, ℕ}
use Rattle.xf_filter.proofs.Printed.{appends-nothing}
use Rattle.xf_filter.specs.Words.{Appends}
use Rattle.xf_script.proofs.Printed.{appends-next}
use Rattle.xf_script.proofs.print.append_words.Goals as goal

pub loop-word-init : goal.loop-word-init
loop-word-init c = appends-nothing c.args.out.now.items

pub loop-word-preserved : goal.loop-word-preserved
loop-word-preserved c =
    let mid = c.loop-word.out.items in
    let new = c.append_word.new.out.items in
    let one = subst (λ (w : List ℕ). Appends mid new (w ∷ [])) c.as_str.ensures c.in_ok-append_word.ensures in
    appends-next c.args.out.now.items mid new c.args.words.now c.loop-word.word-index c.word-item.result (omega (arith, c.loop-word-test.true)) (sym c.word-item.is) c.loop-word.invariant one
