-- The rounded keys of one row more.
use Rattle.std.proofs.Common.{◌≤◌, drop, length, map, ap, ◌∙◌, arith}
use Rattle.std.proofs.lemmas.List.{length-drop, take_all}
use Rattle.xf_base.specs.Key.{key_cmp}
use Rattle.xf_model.specs.Group.{distinct_keys}
use Rattle.xf_engine.proofs.RoundedKeys.{mapped-next, slice_get-later}
use Rattle.xf_engine.proofs.rounded.rounded_lists.Goals as goal

pub loop-place-preserved : goal.loop-place-preserved
loop-place-preserved g c =
    let lists = c.args.lists.now in
    let from = c.args.from in
    let place = c.loop-place.place in
    mapped-next (λ keys. distinct_keys key_cmp (map (g.G.Rounding.rounded c.args.rounding.now) keys)) (drop from lists) place c.list.result.now c.loop-place.rounded.items c.push.new.self.items c.in_ok-rounded_keys.field-0
    (c.list.ensures ∙ slice_get-later lists from place) c.loop-place.invariant c.in_ok-rounded_keys.ensures c.in_ok-push.ensures.items

pub returns : goal.returns
returns g c =
    let later = drop c.args.from c.args.lists.now in
    let past : length later ≤ c.loop-place.place = omega (arith, length-drop c.args.from c.args.lists.now, c.len.ensures, c.loop-place-test.false) in
    c.loop-place.invariant ∙ ap (map (λ keys. distinct_keys key_cmp (map (g.G.Rounding.rounded c.args.rounding.now) keys))) (take_all c.loop-place.place later past)
