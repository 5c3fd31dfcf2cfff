-- The next is read beside those before it.
use Rattle.std.proofs.Common.{◌∙◌, Err, sym, ap, arith}
use Rattle.std.proofs.lemmas.Result.{err_from_is_err_and}
use Rattle.xf_members.specs.Reading.{element}
use Rattle.xf_members.proofs.After.{after-push, count-push}
use Rattle.xf_members.proofs.Each.{each-next, each-refused}
use Rattle.xf_members.proofs.elements.elements_of.Goals as goal

pub returns-in_err-item-clause-exact : goal.returns-in_err-item-clause-exact
returns-in_err-item-clause-exact g c =
    let returned = err_from_is_err_and c.from_residual-in_err-item.result c.from_residual-in_err-item.ensures.1 in
    each-refused (g.E.ElementRule.walk c.args.rule.now) c.args.path.now c.loop-value.items c.args.values.now c.loop-value.value-index c.value-item.result c.as_slice.result.now c.as_str.result.now c.in_err-item.field-0.0
    c.from_residual-in_err-item.result (omega (arith, c.loop-value-test.true)) (sym c.value-item.is) c.loop-value.invariant.exact c.as_slice.ensures (c.as_str.ensures ∙ c.in_ok-path.ensures ∙ ap (element c.args.path.now) c.len.ensures) c.in_err-item.ensures.exact
    (returned.1 ∙ ap Err returned.2)

pub loop-value-preserved : goal.loop-value-preserved
loop-value-preserved g c = record {
  exact = each-next (g.E.ElementRule.walk c.args.rule.now) c.args.path.now c.loop-value.items c.args.values.now c.loop-value.value-index c.value-item.result c.as_slice.result.now c.as_str.result.now c.in_ok-item.item c.push.new.self
      (omega (arith, c.loop-value-test.true)) (sym c.value-item.is) c.loop-value.invariant.exact c.as_slice.ensures (c.as_str.ensures ∙ c.in_ok-path.ensures ∙ ap (element c.args.path.now) c.len.ensures) c.in_ok-item.ensures.exact c.in_ok-push.ensures.ok;
  kept = after-push (g.E.ElementRule.Keeps c.args.rule.now) c.loop-value.items c.in_ok-item.item c.as_slice.result.now c.push.new.self c.loop-value.invariant.kept c.as_slice.ensures c.in_ok-item.ensures.kept c.in_ok-push.ensures.ok;
  count = count-push c.loop-value.items c.in_ok-item.item c.push.new.self c.loop-value.value-index c.loop-value.invariant.count c.in_ok-push.ensures.ok;
}
