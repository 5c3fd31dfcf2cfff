-- Each value that was taken is in its place.
use Rattle.std.proofs.Common.{rules, ◌+◌, ◌<◌, length, get_or, set, refl, sym, ap, ◌∙◌, arith}
use Rattle.std.proofs.lemmas.Iterator.Adapters.{YieldsList-from_vec}
use Rattle.std.proofs.lemmas.Iterator.Consumers.{YieldsList-end, YieldsList-turn}
use Rattle.std.proofs.lemmas.List.{length_push, map-id}
use Rattle.xf_engine.specs.Folding.{revalued}
use Rattle.xf_engine.proofs.Revalued.{revalued-more, revalued-none}
use Rattle.xf_engine.proofs.whole.revalue.Goals as goal

pub loop-value-init : goal.loop-value-init
loop-value-init g c = record { count = refl; same = sym (revalued-none c.args.wholes.now) }

pub bounds-wholes-place : goal.bounds-wholes-place
bounds-wholes-place g c =
    let taken = YieldsList-from_vec {s = c.into_iter-value-iterator.result} c.args.values.items c.into_iter-value-iterator.ensures.into_iter_gives.0 (c.into_iter-value-iterator.ensures.into_iter_gives.1 ∙ c.args.values.ok.0) in
    let turn = YieldsList-turn taken c.loop-value.yielded c.loop-value.value-iterator c.loop-value.yielded_by c.next.result c.next.new.self c.in-Some.value c.in-Some.is c.next.ensures.steps in
    omega (arith, turn.0, c.loop-value.invariant.count, c.loop-value.auto.wholes, c.requires)

pub offset_bounds-wholes-place : goal.offset_bounds-wholes-place
offset_bounds-wholes-place g c =
    let within : c.loop-value.place < length c.args.wholes.now = omega (arith, bounds-wholes-place g c, c.loop-value.auto.wholes) in
    search rules

pub bounds-wholes-place-in-Some : goal.bounds-wholes-place-in-Some
bounds-wholes-place-in-Some g c = bounds-wholes-place g c

pub loop-value-preserved : goal.loop-value-preserved
loop-value-preserved g c =
    let taken = YieldsList-from_vec {s = c.into_iter-value-iterator.result} c.args.values.items c.into_iter-value-iterator.ensures.into_iter_gives.0 (c.into_iter-value-iterator.ensures.into_iter_gives.1 ∙ c.args.values.ok.0) in
    let turn = YieldsList-turn taken c.loop-value.yielded c.loop-value.value-iterator c.loop-value.yielded_by c.next.result c.next.new.self c.in-Some.value c.in-Some.is c.next.ensures.steps in
    record {
      count = ap (λ n. n + 1) c.loop-value.invariant.count ∙ sym (length_push c.loop-value.yielded c.in-Some.value);
      same = ap (λ place. set c.loop-value.wholes place (record (get_or c.loop-value.wholes place c.index-wholes-place.result) { value = c.in-Some.value })) c.loop-value.invariant.count
          ∙ ap (λ wholes. set wholes (length c.loop-value.yielded) (record (get_or wholes (length c.loop-value.yielded) c.index-wholes-place.result) { value = c.in-Some.value })) c.loop-value.invariant.same
          ∙ revalued-more c.args.wholes.now c.loop-value.yielded c.in-Some.value c.index-wholes-place.result (omega (arith, turn.0, c.requires));
    }

pub returns : goal.returns
returns g c =
    let taken = YieldsList-from_vec {s = c.into_iter-value-iterator.result} c.args.values.items c.into_iter-value-iterator.ensures.into_iter_gives.0 (c.into_iter-value-iterator.ensures.into_iter_gives.1 ∙ c.args.values.ok.0) in
    let end = YieldsList-end taken c.loop-value.yielded c.loop-value.value-iterator c.loop-value.yielded_by c.next.result c.next.new.self c.in-None.is c.next.ensures.steps in
    c.loop-value.invariant.same ∙ ap (revalued c.args.wholes.now) (sym (map-id c.loop-value.yielded) ∙ end.0)
