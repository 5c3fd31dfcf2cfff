-- The values at the positions of a place are those of its keys.
use Rattle.std.proofs.Common.{◌≡◌, ◌<◌, ◌++◌, List, OnOk, length, take, drop, sym, ap, subst, ◌∙◌, arith}
use Rattle.std.proofs.lemmas.List.{take_at}
use Rattle.std.specs.List.{AllByRecursion}
use Rattle.std.specs.List.Sorted.{IsStrictlySortedBy}
use Rattle.xf_base.specs.Key.{key_cmp}
use Rattle.xf_base.specs.declared.key.Key.{Key}
use Rattle.xf_group.specs.Admitted.{IsReadyAt, StayReady, StayUncalled}
use Rattle.xf_group.specs.Fresh.{AreKept}
use Rattle.xf_group.specs.Group.{Grouped, keys_at, meanings}
use Rattle.xf_group.specs.Held.{AreWithin, HoldsGroup, grouped, key_lists, keys_at_positions, keys_of}
use Rattle.xf_group.specs.declared.entry.Entry.{Entry}
use Rattle.xf_group.proofs.GroupHeld.{keys_at_is, keys_sorted, own_within, same_group}
use Rattle.xf_group.proofs.KeptCalls.{uncalled_from_kept}
use Rattle.xf_group.proofs.group.Group.make_ready.Goals as goal

pub prepare_each-requires-clause-sorted : goal.prepare_each-requires-clause-sorted
prepare_each-requires-clause-sorted g c =
    subst (λ (es : List (Entry g.row.R-Value.Denot)). IsStrictlySortedBy key_cmp (keys_of es)) (sym c.as_mut_slice.ensures.value) (keys_sorted c.self.inside.reducer c.self.inside.entries.items c.self.inside.places c.self.invariant.group)

pub prepare_each-requires-clause-within : goal.prepare_each-requires-clause-within
prepare_each-requires-clause-within g c =
    subst (λ es. AllByRecursion (λ position. position < length es) c.list.result.now) (sym c.as_mut_slice.ensures.value)
    (own_within c.self.inside.reducer c.self.inside.entries.items c.self.inside.places c.args.place c.list.result.now c.self.invariant.within c.list.ensures)

pub returns-clause-places : goal.returns-clause-places
returns-clause-places g c =
    let view : grouped c.self.inside.reducer c.self.inside.entries.items c.self.inside.places ≡ c.args.self.now = c.self.view_is in
    let new = c.prepare_each.new.entries in
    let whole : take c.self.inside.entries.len (new ++ drop (length new) c.self.inside.entries.items) ≡ new = take_at new _ c.self.inside.entries.len (omega arith) in
    let kept : AreKept g.R.Reducer.meaning_of (g.R.Reducer.IsReady c.self.inside.reducer) g.R.Reducer.calls c.self.inside.entries.items new =
    subst (λ es. AreKept g.R.Reducer.meaning_of (g.R.Reducer.IsReady c.self.inside.reducer) g.R.Reducer.calls es new) c.as_mut_slice.ensures.value c.prepare_each.ensures.kept in
    ap (λ (es : List (Entry g.row.R-Value.Denot)). key_lists (keys_of es) c.self.inside.places) whole
    ∙ ap (λ (ks : List Key). key_lists ks c.self.inside.places) kept.same_keys
    ∙ ap (λ (group : Grouped g.row.R.Denot g.row.R-Value.Denot). group.places) view

pub returns-clause-ready : goal.returns-clause-ready
returns-clause-ready g c =
    let view : grouped c.self.inside.reducer c.self.inside.entries.items c.self.inside.places ≡ c.args.self.now = c.self.view_is in
    let result = c.prepare_each.result in
    let place = c.args.place in
    let row = c.args.row.now in
    let own = c.list.result.now in
    let new = c.prepare_each.new.entries in
    let IsReady = g.R.Reducer.IsReady in
    let now = take c.self.inside.entries.len (new ++ drop (length new) c.self.inside.entries.items) in
    let whole : now ≡ new = take_at new _ c.self.inside.entries.len (omega arith) in
    subst (λ (group : Grouped g.row.R.Denot g.row.R-Value.Denot). OnOk result (AllByRecursion (λ key. IsReadyAt (IsReady group.reducer) now key row) (keys_at group place))) view
    (subst (λ (es : List (Entry g.row.R-Value.Denot)). OnOk result (AllByRecursion (λ key. IsReadyAt (IsReady c.self.inside.reducer) es key row) (keys_at (grouped c.self.inside.reducer c.self.inside.entries.items c.self.inside.places) place))) (sym whole)
    (subst (λ (keys : List Key). OnOk result (AllByRecursion (λ key. IsReadyAt (IsReady c.self.inside.reducer) new key row) keys)) (sym (keys_at_is c.self.inside.reducer c.self.inside.entries.items c.self.inside.places place own c.list.ensures))
    (subst (λ (es : List (Entry g.row.R-Value.Denot)). OnOk result (AllByRecursion (λ key. IsReadyAt (IsReady c.self.inside.reducer) new key row) (keys_at_positions (keys_of es) own))) c.as_mut_slice.ensures.value c.prepare_each.ensures.ready)))

pub returns-clause-meanings : goal.returns-clause-meanings
returns-clause-meanings g c =
    let view : grouped c.self.inside.reducer c.self.inside.entries.items c.self.inside.places ≡ c.args.self.now = c.self.view_is in
    let new = c.prepare_each.new.entries in
    let whole : take c.self.inside.entries.len (new ++ drop (length new) c.self.inside.entries.items) ≡ new = take_at new _ c.self.inside.entries.len (omega arith) in
    let kept : AreKept g.R.Reducer.meaning_of (g.R.Reducer.IsReady c.self.inside.reducer) g.R.Reducer.calls c.self.inside.entries.items new =
    subst (λ es. AreKept g.R.Reducer.meaning_of (g.R.Reducer.IsReady c.self.inside.reducer) g.R.Reducer.calls es new) c.as_mut_slice.ensures.value c.prepare_each.ensures.kept in
    ap (λ (es : List (Entry g.row.R-Value.Denot)). meanings g.R.Reducer.meaning_of es) whole
    ∙ kept.same_meanings
    ∙ ap (λ (group : Grouped g.row.R.Denot g.row.R-Value.Denot). meanings g.R.Reducer.meaning_of group.entries) view

pub returns-clause-kept : goal.returns-clause-kept
returns-clause-kept g c =
    let view : grouped c.self.inside.reducer c.self.inside.entries.items c.self.inside.places ≡ c.args.self.now = c.self.view_is in
    let new = c.prepare_each.new.entries in
    let now = take c.self.inside.entries.len (new ++ drop (length new) c.self.inside.entries.items) in
    let whole : now ≡ new = take_at new _ c.self.inside.entries.len (omega arith) in
    let kept : AreKept g.R.Reducer.meaning_of (g.R.Reducer.IsReady c.self.inside.reducer) g.R.Reducer.calls c.self.inside.entries.items new =
    subst (λ es. AreKept g.R.Reducer.meaning_of (g.R.Reducer.IsReady c.self.inside.reducer) g.R.Reducer.calls es new) c.as_mut_slice.ensures.value c.prepare_each.ensures.kept in
    subst (λ (group : Grouped g.row.R.Denot g.row.R-Value.Denot). StayReady (g.R.Reducer.IsReady group.reducer) group.entries now) view
    (subst (StayReady (g.R.Reducer.IsReady c.self.inside.reducer) c.self.inside.entries.items) (sym whole) kept.stay_ready)

pub returns-clause-calls : goal.returns-clause-calls
returns-clause-calls g c =
    let view : grouped c.self.inside.reducer c.self.inside.entries.items c.self.inside.places ≡ c.args.self.now = c.self.view_is in
    let new = c.prepare_each.new.entries in
    let now = take c.self.inside.entries.len (new ++ drop (length new) c.self.inside.entries.items) in
    let whole : now ≡ new = take_at new _ c.self.inside.entries.len (omega arith) in
    let kept : AreKept g.R.Reducer.meaning_of (g.R.Reducer.IsReady c.self.inside.reducer) g.R.Reducer.calls c.self.inside.entries.items new =
    subst (λ es. AreKept g.R.Reducer.meaning_of (g.R.Reducer.IsReady c.self.inside.reducer) g.R.Reducer.calls es new) c.as_mut_slice.ensures.value c.prepare_each.ensures.kept in
    subst (λ (group : Grouped g.row.R.Denot g.row.R-Value.Denot). StayUncalled g.R.Reducer.calls group.entries now) view
    (subst (StayUncalled g.R.Reducer.calls c.self.inside.entries.items) (sym whole) (uncalled_from_kept g.R.Reducer.calls c.self.inside.entries.items new kept.keep_calls))

pub invariant_of-self : goal.invariant_of-self
invariant_of-self g c =
    let new = c.prepare_each.new.entries in
    let whole : take c.self.inside.entries.len (new ++ drop (length new) c.self.inside.entries.items) ≡ new = take_at new _ c.self.inside.entries.len (omega arith) in
    let kept : AreKept g.R.Reducer.meaning_of (g.R.Reducer.IsReady c.self.inside.reducer) g.R.Reducer.calls c.self.inside.entries.items new =
    subst (λ es. AreKept g.R.Reducer.meaning_of (g.R.Reducer.IsReady c.self.inside.reducer) g.R.Reducer.calls es new) c.as_mut_slice.ensures.value c.prepare_each.ensures.kept in
    let many : length new ≡ length c.self.inside.entries.items = omega arith in
    subst (λ (es : List (Entry g.row.R-Value.Denot)). HoldsGroup c.self.inside.reducer es c.self.inside.places (length c.self.inside.numbers.items)) (sym whole) (record {
      group = same_group c.self.inside.reducer c.self.inside.entries.items new c.self.inside.places kept.same_keys c.self.invariant.group;
      within = subst (λ n. AreWithin n c.self.inside.places) (sym many) c.self.invariant.within;
      room = omega (arith, many, c.self.invariant.room);
    })
