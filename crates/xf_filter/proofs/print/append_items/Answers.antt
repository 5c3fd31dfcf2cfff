use Rattle.std.proofs.Common.{rules, ◌≡◌, ℕ, length, flat_map, take, sym, subst, arith}
use Rattle.xf_filter.specs.Words.{item_words}
use Rattle.xf_filter.proofs.Printed.{appends-item, appends-nothing, appends_kept}
use Rattle.xf_filter.proofs.print.append_items.Goals as goal

pub loop-item-init : goal.loop-item-init
loop-item-init c = appends-nothing c.args.out.now.items

pub returns-in_err-append_listed-clause-err : goal.returns-in_err-append_listed-clause-err
returns-in_err-append_listed-clause-err c =
    let old = c.args.out.now in
    let mid = c.loop-item.out in
    let new = c.append_listed.new.out in
    let here : take (length mid.items) new.items ≡ mid.items = subst (λ (n : ℕ). take n new.items ≡ mid.items) mid.ok.0 c.in_err-append_listed.ensures.err in
    let front : take (length old.items) new.items ≡ old.items = appends_kept old.items mid.items new.items (flat_map item_words (take c.loop-item.item-index c.args.items.now)) c.loop-item.invariant here in
    search (rules, subst (λ (n : ℕ). take n new.items ≡ old.items) (sym old.ok.0) front)

pub loop-item-preserved : goal.loop-item-preserved
loop-item-preserved c =
    appends-item c.args.out.now.items c.loop-item.out.items c.append_listed.new.out.items c.args.items.now c.loop-item.item-index c.item-item.result (omega (arith, c.loop-item-test.true)) (sym c.item-item.is) c.loop-item.invariant c.in_ok-append_listed.ensures.ok
