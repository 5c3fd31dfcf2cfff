-- One key more, whose value was made ready.
use Rattle.std.proofs.Common.{◌≡◌, length, arith}
use Rattle.xf_model.specs.Digits.{digits}
use Rattle.xf_group.specs.Held.{keys_of}
use Rattle.xf_group.proofs.AdmitEntries.{kept_on}
use Rattle.xf_group.proofs.AdmitSteps.{cost_digits, cost_step, kept_length, position_within, positions_step, ready_step, step_digits, within_step}
use Rattle.xf_group.proofs.admit.enter_place.Goals as goal

pub returns-in_err-position-clause-kept : goal.returns-in_err-position-clause-kept
returns-in_err-position-clause-kept g c =
    kept_on g.R.Reducer.meaning_of (g.R.Reducer.IsReady c.args.reducer.now) c.args.entries.now c.loop-key.entries c.enter_key.new.entries c.loop-key.invariant.kept c.enter_key.ensures.kept

pub returns-in_err-push-clause-kept : goal.returns-in_err-push-clause-kept
returns-in_err-push-clause-kept g c =
    kept_on g.R.Reducer.meaning_of (g.R.Reducer.IsReady c.args.reducer.now) c.args.entries.now c.loop-key.entries c.enter_key.new.entries c.loop-key.invariant.kept c.enter_key.ensures.kept

pub loop-key-preserved : goal.loop-key-preserved
loop-key-preserved g c =
    let meaning_of = g.R.Reducer.meaning_of in
    let IsReady = g.R.Reducer.IsReady c.args.reducer.now in
    let first = c.args.entries.now in
    let old = c.loop-key.entries in
    let new = c.enter_key.new.entries in
    let kept = c.enter_key.ensures.kept in
    let place = c.loop-key.key-index in
    let key = c.key-item.result in
    record {
      positions = rw c.in_ok-push.ensures.items (positions_step (keys_of old) (keys_of new) c.loop-key.own.items c.in_ok-position.position c.args.keys.now place key kept.same_keys c.loop-key-test.true c.key-item.is c.loop-key.invariant.positions c.in_ok-position.ensures.position);
      within = rw c.in_ok-push.ensures.items (within_step (length old) (length new) c.loop-key.own.items c.in_ok-position.position (kept_length meaning_of IsReady old new kept) c.loop-key.invariant.within (position_within new c.in_ok-position.position key c.in_ok-position.ensures.position));
      ready = ready_step IsReady old new c.args.row.now c.args.keys.now place key kept.stay_ready c.loop-key-test.true c.key-item.is c.loop-key.invariant.ready c.in_ok-position.ensures.ready;
      kept = kept_on meaning_of IsReady first old new c.loop-key.invariant.kept kept;
      cost = cost_step (digits (length first)) place c.loop-key.steps c.enter_key.new.steps c.args.steps.now
          (step_digits (length first) (length old) c.loop-key.steps c.enter_key.new.steps (kept_length meaning_of IsReady first old c.loop-key.invariant.kept) c.enter_key.ensures.cost)
          c.loop-key.invariant.cost;
    }

pub returns-clause-cost : goal.returns-clause-cost
returns-clause-cost g c =
    let meaning_of = g.R.Reducer.meaning_of in
    let IsReady = g.R.Reducer.IsReady c.args.reducer.now in
    let end : c.loop-key.key-index ≡ length c.args.keys.now = omega (arith, c.loop-key-test.false, c.loop-key.auto.key-index-end) in
    cost_digits (length c.args.entries.now) (length c.loop-key.entries) (length c.args.keys.now) c.loop-key.key-index c.loop-key.steps c.args.steps.now
    (kept_length meaning_of IsReady c.args.entries.now c.loop-key.entries c.loop-key.invariant.kept) end c.loop-key.invariant.cost
