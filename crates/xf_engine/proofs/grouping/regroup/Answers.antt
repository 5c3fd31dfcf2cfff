-- Each value that was taken is in its place.
use Rattle.std.proofs.Common.{rules, ◌+◌, ◌<◌, length, get_or, set, refl, sym, ap, ◌∙◌, arith}
use Rattle.std.proofs.lemmas.Iterator.Adapters.{YieldsList-from_vec}
use Rattle.std.proofs.lemmas.Iterator.Consumers.{YieldsList-end, YieldsList-turn}
use Rattle.std.proofs.lemmas.List.{length_push, map-id}
use Rattle.xf_engine.specs.Folding.{regrouped}
use Rattle.xf_engine.proofs.Revalued.{regrouped-more, regrouped-none}
use Rattle.xf_engine.proofs.grouping.regroup.Goals as goal

pub loop-value-init : goal.loop-value-init
loop-value-init g c = record { count = refl; same = sym (regrouped-none c.args.groups.now) }

pub bounds-groups-place : goal.bounds-groups-place
bounds-groups-place g c =
    let taken = YieldsList-from_vec {s = c.into_iter-value-iterator.result} c.args.values.items c.into_iter-value-iterator.ensures.into_iter_gives.0 (c.into_iter-value-iterator.ensures.into_iter_gives.1 ∙ c.args.values.ok.0) in
    let turn = YieldsList-turn taken c.loop-value.yielded c.loop-value.value-iterator c.loop-value.yielded_by c.next.result c.next.new.self c.in-Some.value c.in-Some.is c.next.ensures.steps in
    omega (arith, turn.0, c.loop-value.invariant.count, c.loop-value.auto.groups, c.requires)

pub offset_bounds-groups-place : goal.offset_bounds-groups-place
offset_bounds-groups-place g c =
    let within : c.loop-value.place < length c.args.groups.now = omega (arith, bounds-groups-place g c, c.loop-value.auto.groups) in
    search rules

pub bounds-groups-place-in-Some : goal.bounds-groups-place-in-Some
bounds-groups-place-in-Some g c = bounds-groups-place g c

pub loop-value-preserved : goal.loop-value-preserved
loop-value-preserved g c =
    let taken = YieldsList-from_vec {s = c.into_iter-value-iterator.result} c.args.values.items c.into_iter-value-iterator.ensures.into_iter_gives.0 (c.into_iter-value-iterator.ensures.into_iter_gives.1 ∙ c.args.values.ok.0) in
    let turn = YieldsList-turn taken c.loop-value.yielded c.loop-value.value-iterator c.loop-value.yielded_by c.next.result c.next.new.self c.in-Some.value c.in-Some.is c.next.ensures.steps in
    record {
      count = ap (λ n. n + 1) c.loop-value.invariant.count ∙ sym (length_push c.loop-value.yielded c.in-Some.value);
      same = ap (λ place. set c.loop-value.groups place (record (get_or c.loop-value.groups place c.index-groups-place.result) { group = c.in-Some.value })) c.loop-value.invariant.count
          ∙ ap (λ groups. set groups (length c.loop-value.yielded) (record (get_or groups (length c.loop-value.yielded) c.index-groups-place.result) { group = c.in-Some.value })) c.loop-value.invariant.same
          ∙ regrouped-more c.args.groups.now c.loop-value.yielded c.in-Some.value c.index-groups-place.result (omega (arith, turn.0, c.requires));
    }

pub returns : goal.returns
returns g c =
    let taken = YieldsList-from_vec {s = c.into_iter-value-iterator.result} c.args.values.items c.into_iter-value-iterator.ensures.into_iter_gives.0 (c.into_iter-value-iterator.ensures.into_iter_gives.1 ∙ c.args.values.ok.0) in
    let end = YieldsList-end taken c.loop-value.yielded c.loop-value.value-iterator c.loop-value.yielded_by c.next.result c.next.new.self c.in-None.is c.next.ensures.steps in
    c.loop-value.invariant.same ∙ ap (regrouped c.args.groups.now) (sym (map-id c.loop-value.yielded) ∙ end.0)
