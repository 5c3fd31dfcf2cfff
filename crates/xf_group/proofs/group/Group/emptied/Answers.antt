-- The keys and places are the same, and each value means nothing.
use Rattle.std.proofs.Common.{rules, ◌≡◌, List, length, map, sym, ap, subst, ◌∙◌, arith}
use Rattle.std.proofs.lemmas.List.{length-map}
use Rattle.xf_base.specs.declared.key.Key.{Key}
use Rattle.xf_group.specs.Group.{Grouped, IsGroup, keys_in}
use Rattle.xf_group.specs.Held.{AreWithin, HoldsGroup, grouped, keys_of}
use Rattle.xf_group.specs.declared.entry.Entry.{Entry}
use Rattle.xf_group.proofs.GroupHeld.{same_group}
use Rattle.xf_group.proofs.PreparedPlaces.{plain_meanings}
use Rattle.xf_group.proofs.group.Group.emptied.Goals as goal

pub invariant_of-result : goal.invariant_of-result
invariant_of-result g c =
    let inside = c.self.inside in
    let old = inside.entries.items in
    let new = c.in_ok-entries.entries.items in
    let keys : keys_of new ≡ keys_of old = c.in_ok-entries.ensures.keys ∙ ap (λ (es : List (Entry g.row.R-Value.Denot)). keys_of es) c.as_slice.ensures.value in
    let many : length new ≡ length old = sym (length-map new (λ (entry : Entry g.row.R-Value.Denot). entry.key)) ∙ ap length keys ∙ length-map old (λ (entry : Entry g.row.R-Value.Denot). entry.key) in
    let room : length c.in_ok-to_vec.field-0.items ≡ length inside.numbers.items = search rules in
    subst (λ places. HoldsGroup c.in_ok-reducer.reducer new places (length c.in_ok-to_vec.field-0.items)) (sym c.in_ok-copy.ensures) (record {
      group = subst (λ (reducer : g.row.R.Denot). IsGroup (grouped reducer new inside.places)) (sym c.in_ok-reducer.ensures) (same_group inside.reducer old new inside.places keys c.self.invariant.group);
      within = subst (λ n. AreWithin n inside.places) (sym many) c.self.invariant.within;
      room = omega (arith, many, room, c.self.invariant.room);
    })

pub returns-clause-none : goal.returns-clause-none
returns-clause-none g c =
    let view : grouped c.self.inside.reducer c.self.inside.entries.items c.self.inside.places ≡ c.args.self.now = c.self.view_is in
    let folding = g.R.Reducer.folding in
    let new = c.in_ok-entries.entries.items in
    let keys = c.in_ok-entries.ensures.keys ∙ ap (λ (es : List (Entry g.row.R-Value.Denot)). keys_of es) c.as_slice.ensures.value ∙ c.self.invariant.group.keys in
    plain_meanings g.R.Reducer.meaning_of (folding c.in_ok-reducer.reducer).initial new c.in_ok-entries.ensures.meanings
    ∙ ap (λ (reducer : g.row.R.Denot). map (λ (key : Key). (key, (folding reducer).initial)) (keys_of new)) c.in_ok-reducer.ensures
    ∙ ap (λ (own : List Key). map (λ (key : Key). (key, (folding c.self.inside.reducer).initial)) own) keys
    ∙ ap (λ (group : Grouped g.row.R.Denot g.row.R-Value.Denot). map (λ (key : Key). (key, (folding group.reducer).initial)) (keys_in group.places)) view
