-- What is left of a group without the places that are gone.
use Rattle.std.proofs.Common.{◌≡◌, ℕ, ◌<◌, List, length, sym, ap, subst, ◌∙◌, arith}
use Rattle.std.specs.List.{AllByRecursion, filter}
use Rattle.xf_base.specs.Gone.{kept}
use Rattle.xf_base.specs.Key.{key_cmp}
use Rattle.xf_base.specs.declared.key.Key.{Key}
use Rattle.xf_group.specs.Group.{Grouped}
use Rattle.xf_group.specs.Held.{AreWithin, grouped, key_lists, keys_of}
use Rattle.xf_group.specs.declared.entry.Entry.{Entry}
use Rattle.xf_group.proofs.DroppedGroup.{dropped_group, kept_ascend, kept_lists, length-filter-le}
use Rattle.xf_group.proofs.GroupHeld.{keys_sorted}
use Rattle.xf_group.proofs.KeptEntries.{all-kept}
use Rattle.xf_group.proofs.PlacedKeys.{all_keys}
use Rattle.xf_group.proofs.UnusedDropped.{is_placed}
use Rattle.xf_group.proofs.group.Group.retire.Goals as goal
use Rattle.xf_model.specs.Laws.{is_among}

pub drop_unused-requires-clause-within : goal.drop_unused-requires-clause-within
drop_unused-requires-clause-within g c =
    subst (AreWithin (length c.self.inside.entries.items)) (sym c.retain.ensures)
    (all-kept (AllByRecursion (λ position. position < length c.self.inside.entries.items)) c.args.gone.now c.self.inside.places c.self.invariant.within)

pub drop_unused-requires-clause-sorted : goal.drop_unused-requires-clause-sorted
drop_unused-requires-clause-sorted g c = keys_sorted c.self.inside.reducer c.self.inside.entries.items c.self.inside.places c.self.invariant.group

pub invariant_of-self : goal.invariant_of-self
invariant_of-self g c =
    let entries = c.self.inside.entries.items in
    let places = c.self.inside.places in
    let gone = c.args.gone.now in
    let within : AreWithin (length entries) (kept gone places) = all-kept (AllByRecursion (λ position. position < length entries)) gone places c.self.invariant.within in
    record {
      group = dropped_group c.self.inside.reducer entries c.drop_unused.new.entries.items (kept gone places) c.drop_unused.new.places
          (keys_sorted c.self.inside.reducer entries places c.self.invariant.group) within (kept_ascend (keys_of entries) gone places c.self.invariant.group.ascend)
          (c.drop_unused.ensures.entries ∙ ap (λ (own : List (List ℕ)). filter (is_placed (keys_of entries) own) entries) c.retain.ensures)
          (c.drop_unused.ensures.places ∙ ap (key_lists (keys_of entries)) c.retain.ensures);
      within = c.drop_unused.ensures.within;
      room = omega (arith, ap length c.drop_unused.ensures.entries, length-filter-le (is_placed (keys_of entries) c.retain.new.self) entries, c.drop_unused.ensures.room, c.self.invariant.room);
    }

pub returns-clause-places : goal.returns-clause-places
returns-clause-places g c =
    let view : grouped c.self.inside.reducer c.self.inside.entries.items c.self.inside.places ≡ c.args.self.now = c.self.view_is in
    let keys : List Key = keys_of c.self.inside.entries.items in
    c.drop_unused.ensures.places
    ∙ ap (key_lists keys) c.retain.ensures
    ∙ kept_lists keys c.args.gone.now c.self.inside.places
    ∙ ap (λ (group : Grouped g.row.R.Denot g.row.R-Value.Denot). kept c.args.gone.now group.places) view

pub returns-clause-entries : goal.returns-clause-entries
returns-clause-entries g c =
    let view : grouped c.self.inside.reducer c.self.inside.entries.items c.self.inside.places ≡ c.args.self.now = c.self.view_is in
    let entries = c.self.inside.entries.items in
    let keys : List Key = keys_of entries in
    c.drop_unused.ensures.entries
    ∙ ap (λ (lists : List (List Key)). filter (λ (entry : Entry g.row.R-Value.Denot). is_among key_cmp (all_keys lists) entry.key) entries) (ap (key_lists keys) c.retain.ensures ∙ kept_lists keys c.args.gone.now c.self.inside.places)
    ∙ ap (λ (group : Grouped g.row.R.Denot g.row.R-Value.Denot). filter (λ (entry : Entry g.row.R-Value.Denot). is_among key_cmp (all_keys (kept c.args.gone.now group.places)) entry.key) group.entries) view
