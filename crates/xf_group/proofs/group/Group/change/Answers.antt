-- The values at the positions of a place are those of its keys.
use Rattle.std.proofs.Common.{◌≡◌, ◌+◌, ◌<◌, ◌++◌, List, length, take, drop, sym, ap, subst, ◌∙◌, arith}
use Rattle.std.proofs.lemmas.List.{take_at}
use Rattle.std.specs.List.{AllByRecursion}
use Rattle.xf_group.specs.Changed.{AreChanged, MayChangeAll, changed_meaning}
use Rattle.xf_group.specs.Group.{Grouped, keys_at}
use Rattle.xf_group.specs.Held.{AreWithin, HoldsGroup, grouped, key_lists, keys_of}
use Rattle.xf_group.specs.declared.entry.Entry.{Entry}
use Rattle.xf_base.specs.declared.key.Key.{Key}
use Rattle.xf_group.proofs.ChangedGroup.{are_changed, at_changed_keys, may_at}
use Rattle.xf_group.proofs.GroupHeld.{own_ascend, own_many, own_within, same_group}
use Rattle.xf_group.proofs.group.Group.change.Goals as goal

pub change_each-requires-clause-ascend : goal.change_each-requires-clause-ascend
change_each-requires-clause-ascend g c =
    own_ascend c.self.inside.reducer c.self.inside.entries.items c.self.inside.places c.args.place c.list.result.now c.self.invariant.group c.self.invariant.within c.list.ensures

pub change_each-requires-clause-within : goal.change_each-requires-clause-within
change_each-requires-clause-within g c =
    subst (λ es. AllByRecursion (λ position. position < length es) c.list.result.now) (sym c.as_mut_slice.ensures.value)
    (own_within c.self.inside.reducer c.self.inside.entries.items c.self.inside.places c.args.place c.list.result.now c.self.invariant.within c.list.ensures)

pub change_each-requires-clause-may : goal.change_each-requires-clause-may
change_each-requires-clause-may g c =
    let view : grouped c.self.inside.reducer c.self.inside.entries.items c.self.inside.places ≡ c.args.self.now = c.self.view_is in
    may_at c.self.inside.reducer c.self.inside.entries.items c.self.inside.places c.args.place c.list.result.now
    g.R.Reducer.meaning_of (g.R.Reducer.fits_to c.self.inside.reducer) (g.R.Reducer.folding c.self.inside.reducer) (g.R.Reducer.IsReady c.self.inside.reducer) c.args.on c.args.row.now c.as_mut_slice.result.now
    c.self.invariant.group c.self.invariant.within c.list.ensures c.as_mut_slice.ensures.value
    (subst (λ (group : Grouped g.row.R.Denot g.row.R-Value.Denot). MayChangeAll g.R.Reducer.meaning_of (g.R.Reducer.fits_to group.reducer) (g.R.Reducer.folding group.reducer) (g.R.Reducer.IsReady group.reducer) (keys_at group c.args.place) c.args.on c.args.row.now group.entries) (sym view) c.requires.may)

pub returns-clause-changed : goal.returns-clause-changed
returns-clause-changed g c =
    let view : grouped c.self.inside.reducer c.self.inside.entries.items c.self.inside.places ≡ c.args.self.now = c.self.view_is in
    let new = c.change_each.new.entries in
    let whole : take c.self.inside.entries.len (new ++ drop (length new) c.self.inside.entries.items) ≡ new = take_at new _ c.self.inside.entries.len (omega arith) in
    subst (λ (group : Grouped g.row.R.Denot g.row.R-Value.Denot). AreChanged g.R.Reducer.meaning_of (λ meaning. changed_meaning (g.R.Reducer.folding group.reducer) (g.R.Reducer.undo group.reducer) c.args.on meaning c.args.row.now) (g.R.Reducer.IsReady group.reducer) g.R.Reducer.calls (keys_at group c.args.place) group.entries (take c.self.inside.entries.len (new ++ drop (length new) c.self.inside.entries.items))) view
    (subst (AreChanged g.R.Reducer.meaning_of (λ meaning. changed_meaning (g.R.Reducer.folding c.self.inside.reducer) (g.R.Reducer.undo c.self.inside.reducer) c.args.on meaning c.args.row.now) (g.R.Reducer.IsReady c.self.inside.reducer) g.R.Reducer.calls (keys_at (grouped c.self.inside.reducer c.self.inside.entries.items c.self.inside.places) c.args.place) c.self.inside.entries.items) (sym whole)
    (are_changed c.self.inside.reducer c.self.inside.entries.items c.self.inside.places c.args.place c.list.result.now
    g.R.Reducer.meaning_of (λ meaning. changed_meaning (g.R.Reducer.folding c.self.inside.reducer) (g.R.Reducer.undo c.self.inside.reducer) c.args.on meaning c.args.row.now) (g.R.Reducer.IsReady c.self.inside.reducer) g.R.Reducer.calls
    c.as_mut_slice.result.now new c.self.invariant.group c.self.invariant.within c.list.ensures c.as_mut_slice.ensures.value c.change_each.ensures.changed))

pub returns-clause-places : goal.returns-clause-places
returns-clause-places g c =
    let view : grouped c.self.inside.reducer c.self.inside.entries.items c.self.inside.places ≡ c.args.self.now = c.self.view_is in
    let new = c.change_each.new.entries in
    let whole : take c.self.inside.entries.len (new ++ drop (length new) c.self.inside.entries.items) ≡ new = take_at new _ c.self.inside.entries.len (omega arith) in
    let same : keys_of new ≡ keys_of c.self.inside.entries.items =
    at_changed_keys g.R.Reducer.meaning_of (λ meaning. changed_meaning (g.R.Reducer.folding c.self.inside.reducer) (g.R.Reducer.undo c.self.inside.reducer) c.args.on meaning c.args.row.now) (g.R.Reducer.IsReady c.self.inside.reducer) g.R.Reducer.calls
    c.list.result.now c.as_mut_slice.result.now c.self.inside.entries.items new c.as_mut_slice.ensures.value c.change_each.ensures.changed in
    ap (λ (es : List (Entry g.row.R-Value.Denot)). key_lists (keys_of es) c.self.inside.places) whole
    ∙ ap (λ (ks : List Key). key_lists ks c.self.inside.places) same
    ∙ ap (λ (group : Grouped g.row.R.Denot g.row.R-Value.Denot). group.places) view

pub returns-clause-cost : goal.returns-clause-cost
returns-clause-cost g c =
    let view : grouped c.self.inside.reducer c.self.inside.entries.items c.self.inside.places ≡ c.args.self.now = c.self.view_is in
    let many : length (keys_at (grouped c.self.inside.reducer c.self.inside.entries.items c.self.inside.places) c.args.place) ≡ length c.list.result.now =
    own_many c.self.inside.reducer c.self.inside.entries.items c.self.inside.places c.args.place c.list.result.now c.self.invariant.within c.list.ensures in
    c.change_each.ensures.cost
    ∙ ap (λ n. c.args.steps.now + n) (sym many)
    ∙ ap (λ (group : Grouped g.row.R.Denot g.row.R-Value.Denot). c.args.steps.now + length (keys_at group c.args.place)) view

pub invariant_of-self : goal.invariant_of-self
invariant_of-self g c =
    let new = c.change_each.new.entries in
    let whole : take c.self.inside.entries.len (new ++ drop (length new) c.self.inside.entries.items) ≡ new = take_at new _ c.self.inside.entries.len (omega arith) in
    let same : keys_of new ≡ keys_of c.self.inside.entries.items =
    at_changed_keys g.R.Reducer.meaning_of (λ meaning. changed_meaning (g.R.Reducer.folding c.self.inside.reducer) (g.R.Reducer.undo c.self.inside.reducer) c.args.on meaning c.args.row.now) (g.R.Reducer.IsReady c.self.inside.reducer) g.R.Reducer.calls
    c.list.result.now c.as_mut_slice.result.now c.self.inside.entries.items new c.as_mut_slice.ensures.value c.change_each.ensures.changed in
    let many : length new ≡ length c.self.inside.entries.items = omega arith in
    subst (λ (es : List (Entry g.row.R-Value.Denot)). HoldsGroup c.self.inside.reducer es c.self.inside.places (length c.self.inside.numbers.items)) (sym whole) (record {
      group = same_group c.self.inside.reducer c.self.inside.entries.items new c.self.inside.places same c.self.invariant.group;
      within = subst (λ n. AreWithin n c.self.inside.places) (sym many) c.self.invariant.within;
      room = omega (arith, many, c.self.invariant.room);
    })
