use Rattle.std.proofs.Common.{◌≡◌, ◌+◌, ap, sym, ◌∙◌, suc, drop, flat_map, refl, arith}
use Rattle.std.specs.Option.{option_or}
use Rattle.std.proofs.lemmas.List.{drop_all}
use Rattle.xf_filter.specs.Filter.{first_other, item_keys}
use Rattle.xf_filter.proofs.Misfits.{first_other_from}
use Rattle.xf_filter.proofs.stock_predicate.first_misfit.Goals as goal

-- src/stock_predicate.rt:118:5
pub loop-item-init : goal.loop-item-init
loop-item-init c = refl

-- src/stock_predicate.rt:120:13
pub returns-in-Some : goal.returns-in-Some
returns-in-Some c =
    sym (c.loop-item.invariant ∙ first_other_from c.args.kind.now c.args.items.now c.loop-item.item-index c.item-item.result c.loop-item-test.true
    ∙ ap (λ first. option_or first (first_other c.args.kind.now (flat_map item_keys (drop (suc c.loop-item.item-index) c.args.items.now))))
    (ap (λ item. first_other c.args.kind.now (item_keys item)) (sym c.item-item.is) ∙ sym c.misfit.ensures ∙ c.in-Some.is))

-- src/stock_predicate.rt:118:5
pub loop-item-preserved : goal.loop-item-preserved
loop-item-preserved c =
    c.loop-item.invariant ∙ first_other_from c.args.kind.now c.args.items.now c.loop-item.item-index c.item-item.result c.loop-item-test.true
    ∙ ap (λ first. option_or first (first_other c.args.kind.now (flat_map item_keys (drop (suc c.loop-item.item-index) c.args.items.now))))
    (ap (λ item. first_other c.args.kind.now (item_keys item)) (sym c.item-item.is) ∙ sym c.misfit.ensures ∙ c.in_default.is)
    ∙ ap (λ i. first_other c.args.kind.now (flat_map item_keys (drop i c.args.items.now))) after
  where
    after : suc c.loop-item.item-index ≡ c.loop-item.item-index + 1
    after = omega arith

-- src/stock_predicate.rt:115:1
pub returns : goal.returns
returns c = sym (c.loop-item.invariant ∙ ap (λ items. first_other c.args.kind.now (flat_map item_keys items)) (drop_all c.loop-item.item-index c.args.items.now (omega (arith, c.loop-item-test.false))))
