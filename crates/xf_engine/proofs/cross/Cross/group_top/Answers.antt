use Rattle.std.proofs.Common.{◌≡◌, ℕ, ◌<◌, inr, Some, IfSome, flat_map, length, slice_get, refl, sym, ap, subst, ◌∙◌}
use Rattle.std.specs.List.{AllByRecursion}
use Rattle.std.specs.Option.{option_to_list}
use Rattle.xf_engine.specs.Folding.{entry_numbers}
use Rattle.xf_engine.specs.Held.{HoldsGroupOf, live_group, state_of}
use Rattle.xf_engine.specs.State.{LiveGroup, group_has_id, group_named, group_place}
use Rattle.xf_group.specs.Order.{order_field}
use Rattle.xf_engine.proofs.EntryAnswers.{first_entries, first_positions-within, top-answer}
use Rattle.xf_engine.proofs.HeldCounts.{live-group-at}
use Rattle.xf_engine.proofs.Lookups.{group-within, held-at}
use Rattle.xf_engine.proofs.Named.{find-placed-group, find-unplaced}
use Rattle.xf_engine.proofs.cross.Cross.group_top.Goals as goal

pub returns-in_default-clause-refused : goal.returns-in_default-clause-refused
returns-in_default-clause-refused g c = inr (refl, find-unplaced (group_has_id c.args.id.0) c.args.self.now.groups (sym c.group_place_of.ensures ∙ c.in_default.is))

pub top-requires : goal.top-requires
top-requires g c =
    let told = ap (λ s. group_place s c.args.id.0) c.self.view_is ∙ sym c.group_place_of.ensures ∙ c.in-Some.is in
    let groups = c.self.inside.groups.items in
    let d = c.index.result.now in
    let field = live-group-at (λ (group : LiveGroup g.row.G.Denot g.row.R.Denot). group.field < g.R.Reducer.field_count group.reducer) groups c.in-Some.place d c.self.invariant.state.group_fields (group-within c.args.id.0 groups c.in-Some.place told) c.index.ensures in
    subst (λ n. n < g.R.Reducer.field_count d.group.reducer) (sym c.field.ensures) field

pub numbers_at-requires-clause-field : goal.numbers_at-requires-clause-field
numbers_at-requires-clause-field g c =
    let told = ap (λ s. group_place s c.args.id.0) c.self.view_is ∙ sym c.group_place_of.ensures ∙ c.in-Some.is in
    let named = find-placed-group c.args.id.0 c.self.inside.groups.items c.in-Some.place c.index.result.now told ∙ ap (λ d. Some (live_group d)) (sym c.index.ensures) in
    let within = subst (λ s. IfSome (group_named s c.args.id.0) (λ group. c.args.field < g.R.Reducer.field_count group.reducer)) (sym c.self.view_is) c.requires in
    subst (λ found. IfSome found (λ (group : LiveGroup g.row.G.Denot g.row.R.Denot). c.args.field < g.R.Reducer.field_count group.reducer)) named within

pub numbers_at-requires-clause-positions : goal.numbers_at-requires-clause-positions
numbers_at-requires-clause-positions g c =
    let group = c.index.result.now.group in
    subst (AllByRecursion (λ position. position < length group.entries)) (sym (c.as_slice.ensures.value ∙ c.in_ok-positions.ensures.positions))
    (first_positions-within (λ value. g.R.Reducer.rank_of group.reducer (g.R.Reducer.meaning_of value) c.field.result) c.args.k group.entries)

pub returns-clause-entries : goal.returns-clause-entries
returns-clause-entries g c =
    let told = ap (λ s. group_place s c.args.id.0) c.self.view_is ∙ sym c.group_place_of.ensures ∙ c.in-Some.is in
    let groups = c.self.inside.groups.items in
    let here = state_of c.self.inside.table c.self.inside.dimensions.items groups c.self.inside.wholes.items c.self.inside.events in
    let d = c.index.result.now in
    let entries = d.group.entries in
    let named = find-placed-group c.args.id.0 groups c.in-Some.place d told ∙ ap (λ d. Some (live_group d)) (sym c.index.ensures) in
    let holds = held-at (HoldsGroupOf g.A.Accessor.keys_of g.P.Predicate.says_to g.G.Rounding.rounded g.R.Reducer.meaning_of g.R.Reducer.folding here) groups c.in-Some.place d c.self.invariant.entries (group-within c.args.id.0 groups c.in-Some.place told) c.index.ensures in
    let rank = λ (field : ℕ) (value : g.row.R-Value.Denot). g.R.Reducer.rank_of d.group.reducer (g.R.Reducer.meaning_of value) field in
    let numbers : c.in_ok-numbers_at.field-0.items ≡ entry_numbers (rank c.args.field) (first_entries (rank (order_field d.order)) c.args.k entries) =
    c.in_ok-numbers_at.ensures
    ∙ ap (λ positions. entry_numbers (rank c.args.field) (flat_map (λ position. option_to_list (slice_get entries position)) positions)) (c.as_slice.ensures.value ∙ c.in_ok-positions.ensures.positions)
    ∙ ap (λ field. entry_numbers (rank c.args.field) (first_entries (rank field) c.args.k entries)) c.field.ensures in
    rw (← c.self.view_is) (
    top-answer g.A.Accessor.keys_of g.P.Predicate.says_to g.G.Rounding.rounded g.R.Reducer.meaning_of g.R.Reducer.folding g.R.Reducer.rank_of here c.args.id.0 c.args.k c.args.field d named holds
    ∙ ap Some (sym numbers)
    )
