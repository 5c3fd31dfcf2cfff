-- The keys first, then the places.
use Rattle.std.proofs.Common.{◌++◌, length, take, sum_by, sym, ap, subst, ◌∙◌, arith}
use Rattle.std.proofs.lemmas.List.{length-map}
use Rattle.std.proofs.lemmas.Result.{on_ok_weaker}
use Rattle.std.specs.List.Sorted.{IsStrictlySortedBy}
use Rattle.xf_base.specs.Key.{key_cmp}
use Rattle.xf_model.specs.Digits.{digits}
use Rattle.xf_group.specs.Held.{key_lists, keys_of}
use Rattle.xf_group.proofs.AdmitEntries.{same_meanings_from_equal}
use Rattle.xf_group.proofs.AdmitKeys.{each_entered}
use Rattle.xf_group.proofs.AdmitSteps.{cost_slack}
use Rattle.xf_group.proofs.KeptCalls.{keep_calls_on}
use Rattle.xf_group.proofs.admit.enter.Goals as goal

pub enter_places-requires-clause-there : goal.enter_places-requires-clause-there
enter_places-requires-clause-there g c = each_entered (keys_of c.args.entries.now.items) c.args.keys.now (keys_of c.enter_keys.new.entries.items) c.in_ok-enter_keys.ensures.keys

pub returns : goal.returns
returns g c =
    let result = c.enter_places.result in
    let between = c.enter_keys.new.entries.items in
    let new = c.enter_places.new.entries.items in
    let keyed = c.enter_keys.ensures in
    let placed = c.enter_places.ensures in
    record {
      places = on_ok_weaker result (λ done. done ∙ ap (λ before. before ++ c.args.keys.now) keyed.places) placed.places;
      keys = on_ok_weaker result (λ done. placed.keys ∙ c.in_ok-enter_keys.ensures.keys) placed.places;
      ready = placed.ready;
      cost = on_ok_weaker result (λ bound. cost_slack (digits (length new)) (sum_by length c.args.keys.now) c.enter_places.new.steps c.args.steps.now bound) placed.cost;
      begun =
          ap (λ n. key_lists (keys_of new) (take n c.enter_places.new.places)) (sym keyed.each)
          ∙ ap (key_lists (keys_of new)) placed.begun
          ∙ ap (λ keys. key_lists keys c.enter_keys.new.places) placed.keys
          ∙ keyed.places;
      meanings = λ key. same_meanings_from_equal g.R.Reducer.meaning_of (g.R.Reducer.folding c.args.reducer.now).initial between new placed.meanings key ∙ keyed.meanings key;
      kept = λ key row ready. placed.kept key row (keyed.kept key row ready);
      calls = keep_calls_on g.R.Reducer.calls c.args.entries.now.items between new keyed.calls placed.calls;
      sorted = subst (IsStrictlySortedBy key_cmp) (sym placed.keys) keyed.sorted;
      within = placed.within;
      room = omega (arith, ap length placed.keys, length-map new (λ entry. entry.key), length-map between (λ entry. entry.key), keyed.room);
    }
