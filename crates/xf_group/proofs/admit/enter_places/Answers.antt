-- One place more.
use Rattle.std.proofs.Common.{◌≡◌, ◌++◌, length, take, drop, take_at, ◌∙◌, arith}
use Rattle.xf_group.specs.Fresh.{AreKept}
use Rattle.xf_group.specs.Held.{key_lists, keys_of}
use Rattle.xf_group.proofs.AdmitEntries.{kept_on}
use Rattle.xf_group.proofs.AdmitSteps.{begun_step, cost_places_end, cost_places_step, kept_length, places_step, ready_places_step, within_places_step}
use Rattle.xf_group.proofs.admit.enter_places.Goals as goal

pub returns-in_err-enter_place-clause-kept : goal.returns-in_err-enter_place-clause-kept
returns-in_err-enter_place-clause-kept g c =
    let meaning_of = g.R.Reducer.meaning_of in
    let IsReady = g.R.Reducer.IsReady c.args.reducer.now in
    let new = c.enter_place.new.entries in
    let written : take c.loop-place.entries.len (new ++ drop (length new) c.loop-place.entries.items) ≡ new = take_at new (drop (length new) c.loop-place.entries.items) c.loop-place.entries.len (omega arith) in
    let kept = kept_on meaning_of IsReady c.args.entries.now.items c.loop-place.entries.items new c.loop-place.invariant.kept (rw c.as_mut_slice.ensures.value at c.enter_place.ensures.kept) in
    rw written kept.stay_ready

pub returns-in_err-enter_place-clause-calls : goal.returns-in_err-enter_place-clause-calls
returns-in_err-enter_place-clause-calls g c =
    let meaning_of = g.R.Reducer.meaning_of in
    let IsReady = g.R.Reducer.IsReady c.args.reducer.now in
    let new = c.enter_place.new.entries in
    let written : take c.loop-place.entries.len (new ++ drop (length new) c.loop-place.entries.items) ≡ new = take_at new (drop (length new) c.loop-place.entries.items) c.loop-place.entries.len (omega arith) in
    let kept = kept_on meaning_of IsReady c.args.entries.now.items c.loop-place.entries.items new c.loop-place.invariant.kept (rw c.as_mut_slice.ensures.value at c.enter_place.ensures.kept) in
    rw written kept.keep_calls

pub returns-in_err-enter_place-clause-within : goal.returns-in_err-enter_place-clause-within
returns-in_err-enter_place-clause-within g c =
    let new = c.enter_place.new.entries in
    let written : take c.loop-place.entries.len (new ++ drop (length new) c.loop-place.entries.items) ≡ new = take_at new (drop (length new) c.loop-place.entries.items) c.loop-place.entries.len (omega arith) in
    let same : length new ≡ length c.loop-place.entries.items = omega arith in
    rw (written, same) c.loop-place.invariant.within

pub returns-in_err-push-clause-kept : goal.returns-in_err-push-clause-kept
returns-in_err-push-clause-kept g c =
    let meaning_of = g.R.Reducer.meaning_of in
    let IsReady = g.R.Reducer.IsReady c.args.reducer.now in
    let new = c.enter_place.new.entries in
    let written : take c.loop-place.entries.len (new ++ drop (length new) c.loop-place.entries.items) ≡ new = take_at new (drop (length new) c.loop-place.entries.items) c.loop-place.entries.len (omega arith) in
    let kept = kept_on meaning_of IsReady c.args.entries.now.items c.loop-place.entries.items new c.loop-place.invariant.kept (rw c.as_mut_slice.ensures.value at c.enter_place.ensures.kept) in
    rw written kept.stay_ready

pub returns-in_err-push-clause-calls : goal.returns-in_err-push-clause-calls
returns-in_err-push-clause-calls g c =
    let meaning_of = g.R.Reducer.meaning_of in
    let IsReady = g.R.Reducer.IsReady c.args.reducer.now in
    let new = c.enter_place.new.entries in
    let written : take c.loop-place.entries.len (new ++ drop (length new) c.loop-place.entries.items) ≡ new = take_at new (drop (length new) c.loop-place.entries.items) c.loop-place.entries.len (omega arith) in
    let kept = kept_on meaning_of IsReady c.args.entries.now.items c.loop-place.entries.items new c.loop-place.invariant.kept (rw c.as_mut_slice.ensures.value at c.enter_place.ensures.kept) in
    rw written kept.keep_calls

pub returns-in_err-push-clause-within : goal.returns-in_err-push-clause-within
returns-in_err-push-clause-within g c =
    let new = c.enter_place.new.entries in
    let written : take c.loop-place.entries.len (new ++ drop (length new) c.loop-place.entries.items) ≡ new = take_at new (drop (length new) c.loop-place.entries.items) c.loop-place.entries.len (omega arith) in
    let same : length new ≡ length c.loop-place.entries.items = omega arith in
    rw (written, same, c.in_err-push.ensures.err) c.loop-place.invariant.within

pub loop-place-preserved : goal.loop-place-preserved
loop-place-preserved g c =
    let meaning_of = g.R.Reducer.meaning_of in
    let IsReady = g.R.Reducer.IsReady c.args.reducer.now in
    let first = c.args.entries.now.items in
    let old = c.loop-place.entries.items in
    let new = c.enter_place.new.entries in
    let places = c.loop-place.places in
    let positions = c.enter_place.new.own.items in
    let rows = c.args.rows.now in
    let keys = c.args.keys.now in
    let place = c.loop-place.place in
    let own = c.index-keys-place.result in
    let written : take c.loop-place.entries.len (new ++ drop (length new) old) ≡ new = take_at new (drop (length new) old) c.loop-place.entries.len (omega arith) in
    let now : AreKept meaning_of IsReady g.R.Reducer.calls old new = rw c.as_mut_slice.ensures.value at c.enter_place.ensures.kept in
    let same : length new ≡ length old = kept_length meaning_of IsReady old new now in
    let kept = kept_on meaning_of IsReady first old new c.loop-place.invariant.kept now in
    record {
      places = rw (written, c.in_ok-push.ensures.ok) (places_step (keys_of old) (keys_of new) (key_lists (keys_of first) c.args.places.now) places positions keys place own now.same_keys (omega arith) c.index-keys-place.is c.loop-place.invariant.places (c.in_ok-enter_place.ensures.positions ∙ c.as_slice.ensures));
      begun = rw c.in_ok-push.ensures.ok (begun_step c.args.places.now places positions c.loop-place.invariant.begun);
      within = rw (written, c.in_ok-push.ensures.ok) (within_places_step (length old) (length new) places positions same c.loop-place.invariant.within c.in_ok-enter_place.ensures.within);
      ready = rw written (ready_places_step IsReady old new rows keys place c.index-rows-place.result own now.stay_ready (omega arith) c.requires.each c.index-rows-place.is c.index-keys-place.is c.loop-place.invariant.ready (rw c.as_slice.ensures at c.in_ok-enter_place.ensures.ready));
      kept = rw written kept;
      own = c.in_ok-push.ensures.taken;
      cost = cost_places_step (length first) (length new) keys place own c.loop-place.steps c.enter_place.new.steps c.args.steps.now (kept_length meaning_of IsReady first new kept) (omega arith) c.index-keys-place.is (rw c.as_slice.ensures at c.in_ok-enter_place.ensures.cost) c.loop-place.invariant.cost;
    }

pub returns-clause-cost : goal.returns-clause-cost
returns-clause-cost g c =
    let first = c.args.entries.now.items in
    let new = c.loop-place.entries.items in
    cost_places_end (length first) (length new) c.args.keys.now c.loop-place.place c.loop-place.steps c.args.steps.now (kept_length g.R.Reducer.meaning_of (g.R.Reducer.IsReady c.args.reducer.now) first new c.loop-place.invariant.kept) (omega arith) c.loop-place.invariant.cost
