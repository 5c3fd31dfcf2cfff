-- With the new places the group is a group; without memory it is the one that it was.
use Rattle.std.proofs.Common.{◌≡◌, ℕ, ◌<◌, ◌++◌, false, List, Ok, Err, OnOk, Result, length, take, sym, ap, subst, ◌∙◌, arith}
use Rattle.std.proofs.lemmas.Bool.{true≢false}
use Rattle.std.specs.List.{AllByRecursion}
use Rattle.std.specs.List.Sorted.{IsStrictlySortedBy}
use Rattle.std.specs.Result.{is_err}
use Rattle.xf_base.specs.Key.{key_cmp}
use Rattle.xf_group.specs.Admitted.{StayReady, StayUncalled}
use Rattle.xf_group.specs.Group.{Grouped, IsGroup, keys_in, meanings, meanings_for}
use Rattle.xf_group.specs.Held.{AreWithin, grouped, key_lists, keys_of}
use Rattle.xf_group.specs.declared.entry.Entry.{Entry}
use Rattle.xf_group.proofs.DroppedGroup.{dropped_group, left_keys, length-filter-le}
use Rattle.xf_group.proofs.GroupHeld.{keys_sorted}
use Rattle.xf_group.proofs.KeptCalls.{uncalled_from_kept}
use Rattle.xf_group.proofs.JoinedGroup.{all-take, joined_group}
use Rattle.xf_group.proofs.Meanings.{entered_meanings, left_calls, left_meanings, left_ready}
use Rattle.xf_group.proofs.PlacedKeys.{all_keys}
use Rattle.xf_group.proofs.UnusedDropped.{is_placed}
use Rattle.xf_model.specs.Group.{distinct_keys}
use Rattle.xf_group.proofs.group.Group.admit.Goals as goal

-- what is said of an Ok holds where there is no error
on_ok : {X E : Type 0} (result : Result X E) (P : Type 0) → is_err result ≡ false → OnOk result P → P
on_ok (Ok x) P fine told = told
on_ok (Err e) P fine told = absurd (true≢false fine)

-- the places that are cut off have the keys that the old ones had
cut_lists : {V : Type 0} (old mid : List (Entry V)) (places more cut : List (List ℕ)) (count : ℕ) → count ≡ length places → cut ≡ take count more → key_lists (keys_of mid) (take (length places) more) ≡ key_lists (keys_of old) places
    → key_lists (keys_of mid) cut ≡ key_lists (keys_of old) places
cut_lists old mid places more cut count many is begun = ap (key_lists (keys_of mid)) (is ∙ ap (λ n. take n more) many) ∙ begun

cut_within : (room : ℕ) (more cut : List (List ℕ)) (count : ℕ) → cut ≡ take count more → AreWithin room more → AreWithin room cut
cut_within room more cut count is within = subst (AreWithin room) (sym is) (all-take (AllByRecursion (λ position. position < room)) count more within)

pub enter-entered-requires-clause-sorted : goal.enter-entered-requires-clause-sorted
enter-entered-requires-clause-sorted g c = keys_sorted c.self.inside.reducer c.self.inside.entries.items c.self.inside.places c.self.invariant.group

pub invariant_of-self : goal.invariant_of-self
invariant_of-self g c =
    let old = c.self.inside.entries.items in
    let places = c.self.inside.places in
    let mid = c.enter-entered.new.entries.items in
    let more = c.enter-entered.new.places in
    let cut = c.truncate.new.self in
    let lists : key_lists (keys_of mid) cut ≡ key_lists (keys_of old) places = cut_lists old mid places more cut c.len-count.result c.len-count.ensures c.truncate.ensures c.enter-entered.ensures.begun in
    record {
      group = dropped_group c.self.inside.reducer mid c.drop_unused.new.entries.items cut c.drop_unused.new.places c.enter-entered.ensures.sorted
          (cut_within (length mid) more cut c.len-count.result c.truncate.ensures c.enter-entered.ensures.within)
          (subst (AllByRecursion (IsStrictlySortedBy key_cmp)) (sym lists) c.self.invariant.group.ascend)
          c.drop_unused.ensures.entries c.drop_unused.ensures.places;
      within = c.drop_unused.ensures.within;
      room = omega (arith, ap length c.drop_unused.ensures.entries, length-filter-le (is_placed (keys_of mid) cut) mid, c.drop_unused.ensures.room, c.enter-entered.ensures.room);
    }

pub returns-then-is_err-clause-kept : goal.returns-then-is_err-clause-kept
returns-then-is_err-clause-kept g c =
    let view : grouped c.self.inside.reducer c.self.inside.entries.items c.self.inside.places ≡ c.args.self.now = c.self.view_is in
    let old = c.self.inside.entries.items in
    let places = c.self.inside.places in
    let mid = c.enter-entered.new.entries.items in
    let cut = c.truncate.new.self in
    let left = c.drop_unused.new.entries.items in
    let lists : key_lists (keys_of mid) cut ≡ key_lists (keys_of old) places = cut_lists old mid places c.enter-entered.new.places cut c.len-count.result c.len-count.ensures c.truncate.ensures c.enter-entered.ensures.begun in
    subst (λ (group : Grouped g.row.R.Denot g.row.R-Value.Denot). StayReady (g.R.Reducer.IsReady group.reducer) group.entries left) view
    (left_ready (g.R.Reducer.IsReady c.self.inside.reducer) old mid left cut c.drop_unused.ensures.entries (c.self.invariant.group.keys ∙ ap keys_in (sym lists)) c.enter-entered.ensures.kept)

pub returns-then-is_err-clause-calls : goal.returns-then-is_err-clause-calls
returns-then-is_err-clause-calls g c =
    let view : grouped c.self.inside.reducer c.self.inside.entries.items c.self.inside.places ≡ c.args.self.now = c.self.view_is in
    let old = c.self.inside.entries.items in
    let places = c.self.inside.places in
    let mid = c.enter-entered.new.entries.items in
    let cut = c.truncate.new.self in
    let left = c.drop_unused.new.entries.items in
    let lists : key_lists (keys_of mid) cut ≡ key_lists (keys_of old) places = cut_lists old mid places c.enter-entered.new.places cut c.len-count.result c.len-count.ensures c.truncate.ensures c.enter-entered.ensures.begun in
    subst (λ (group : Grouped g.row.R.Denot g.row.R-Value.Denot). StayUncalled g.R.Reducer.calls group.entries left) view
    (uncalled_from_kept g.R.Reducer.calls old left (left_calls g.R.Reducer.calls old mid left cut c.drop_unused.ensures.entries (c.self.invariant.group.keys ∙ ap keys_in (sym lists)) c.enter-entered.ensures.calls))

pub returns-then-is_err-clause-same_meanings : goal.returns-then-is_err-clause-same_meanings
returns-then-is_err-clause-same_meanings g c =
    let view : grouped c.self.inside.reducer c.self.inside.entries.items c.self.inside.places ≡ c.args.self.now = c.self.view_is in
    let old = c.self.inside.entries.items in
    let places = c.self.inside.places in
    let mid = c.enter-entered.new.entries.items in
    let more = c.enter-entered.new.places in
    let cut = c.truncate.new.self in
    let left = c.drop_unused.new.entries.items in
    let lists : key_lists (keys_of mid) cut ≡ key_lists (keys_of old) places = cut_lists old mid places more cut c.len-count.result c.len-count.ensures c.truncate.ensures c.enter-entered.ensures.begun in
    let sorted : IsStrictlySortedBy key_cmp (keys_of old) = keys_sorted c.self.inside.reducer old places c.self.invariant.group in
    let keys : keys_of left ≡ keys_of old =
    ap (λ (es : List (Entry g.row.R-Value.Denot)). keys_of es) c.drop_unused.ensures.entries
    ∙ left_keys mid cut c.enter-entered.ensures.sorted (cut_within (length mid) more cut c.len-count.result c.truncate.ensures c.enter-entered.ensures.within)
    ∙ ap keys_in lists ∙ sym c.self.invariant.group.keys in
    left_meanings g.R.Reducer.meaning_of (g.R.Reducer.folding c.self.inside.reducer).initial old mid left cut sorted (subst (IsStrictlySortedBy key_cmp) (sym keys) sorted) c.drop_unused.ensures.entries keys c.enter-entered.ensures.meanings
    ∙ ap (λ (group : Grouped g.row.R.Denot g.row.R-Value.Denot). meanings g.R.Reducer.meaning_of group.entries) view

pub invariant_of-self-else-is_err : goal.invariant_of-self-else-is_err
invariant_of-self-else-is_err g c =
    let old = c.self.inside.entries.items in
    let new = c.enter-entered.new.entries.items in
    let fine : is_err c.enter-entered.result ≡ false = sym c.if-is_err.ensures.value in
    record {
      group = joined_group c.self.inside.reducer old new c.self.inside.places c.enter-entered.new.places c.args.keys.now c.self.invariant.group c.requires.ascend
          (on_ok c.enter-entered.result (keys_of new ≡ distinct_keys key_cmp (keys_of old ++ all_keys c.args.keys.now)) fine c.enter-entered.ensures.keys)
          (on_ok c.enter-entered.result (key_lists (keys_of new) c.enter-entered.new.places ≡ key_lists (keys_of old) c.self.inside.places ++ c.args.keys.now) fine c.enter-entered.ensures.places);
      within = c.enter-entered.ensures.within;
      room = c.enter-entered.ensures.room;
    }

pub returns-clause-meanings : goal.returns-clause-meanings
returns-clause-meanings g c =
    let view : grouped c.self.inside.reducer c.self.inside.entries.items c.self.inside.places ≡ c.args.self.now = c.self.view_is in
    let old = c.self.inside.entries.items in
    let new = c.enter-entered.new.entries.items in
    let fine : is_err c.enter-entered.result ≡ false = sym c.if-is_err.ensures.value in
    let group : IsGroup (grouped c.self.inside.reducer new c.enter-entered.new.places) =
    joined_group c.self.inside.reducer old new c.self.inside.places c.enter-entered.new.places c.args.keys.now c.self.invariant.group c.requires.ascend
    (on_ok c.enter-entered.result (keys_of new ≡ distinct_keys key_cmp (keys_of old ++ all_keys c.args.keys.now)) fine c.enter-entered.ensures.keys)
    (on_ok c.enter-entered.result (key_lists (keys_of new) c.enter-entered.new.places ≡ key_lists (keys_of old) c.self.inside.places ++ c.args.keys.now) fine c.enter-entered.ensures.places) in
    entered_meanings g.R.Reducer.meaning_of (g.R.Reducer.folding c.self.inside.reducer).initial old new (key_lists (keys_of new) c.enter-entered.new.places) c.enter-entered.ensures.sorted group.keys c.enter-entered.ensures.meanings
    ∙ ap (λ (whole : Grouped g.row.R.Denot g.row.R-Value.Denot). meanings_for g.R.Reducer.meaning_of (g.R.Reducer.folding whole.reducer).initial whole.entries (key_lists (keys_of new) c.enter-entered.new.places)) view

pub returns-clause-kept : goal.returns-clause-kept
returns-clause-kept g c =
    let view : grouped c.self.inside.reducer c.self.inside.entries.items c.self.inside.places ≡ c.args.self.now = c.self.view_is in
    subst (λ (group : Grouped g.row.R.Denot g.row.R-Value.Denot). StayReady (g.R.Reducer.IsReady group.reducer) group.entries c.enter-entered.new.entries.items) view c.enter-entered.ensures.kept

pub returns-clause-calls : goal.returns-clause-calls
returns-clause-calls g c =
    let view : grouped c.self.inside.reducer c.self.inside.entries.items c.self.inside.places ≡ c.args.self.now = c.self.view_is in
    subst (λ (group : Grouped g.row.R.Denot g.row.R-Value.Denot). StayUncalled g.R.Reducer.calls group.entries c.enter-entered.new.entries.items) view
    (uncalled_from_kept g.R.Reducer.calls c.self.inside.entries.items c.enter-entered.new.entries.items c.enter-entered.ensures.calls)
