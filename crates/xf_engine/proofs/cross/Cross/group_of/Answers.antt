use Rattle.std.proofs.Common.{Some, option_map, refl, sym, ap, ◌∙◌}
use Rattle.xf_engine.specs.Answers.{entries_of}
use Rattle.xf_engine.specs.Held.{HoldsGroupOf, live_group, state_of}
use Rattle.xf_engine.specs.State.{LiveGroup, group_has_id, group_place}
use Rattle.xf_engine.proofs.Lookups.{group-within, held-at}
use Rattle.xf_engine.proofs.Named.{find-placed-group, find-unplaced}
use Rattle.xf_engine.proofs.cross.Cross.group_of.Goals as goal

pub returns-in-Some-clause-reducer : goal.returns-in-Some-clause-reducer
returns-in-Some-clause-reducer g c =
    let told = ap (λ s. group_place s c.args.id.0) c.self.view_is ∙ sym c.group_place_of.ensures ∙ c.in-Some.is in
    let named = find-placed-group c.args.id.0 c.self.inside.groups.items c.in-Some.place c.index.result.now told ∙ ap (λ d. Some (live_group d)) (sym c.index.ensures) in
    rw (← c.self.view_is) (ap (option_map (λ (own : LiveGroup g.row.G.Denot g.row.R.Denot). own.reducer)) named)

pub returns-in-Some-clause-meanings : goal.returns-in-Some-clause-meanings
returns-in-Some-clause-meanings g c =
    let told = ap (λ s. group_place s c.args.id.0) c.self.view_is ∙ sym c.group_place_of.ensures ∙ c.in-Some.is in
    let groups = c.self.inside.groups.items in
    let here = state_of c.self.inside.table c.self.inside.dimensions.items groups c.self.inside.wholes.items c.self.inside.events in
    let named = find-placed-group c.args.id.0 groups c.in-Some.place c.index.result.now told ∙ ap (λ d. Some (live_group d)) (sym c.index.ensures) in
    let holds = held-at (HoldsGroupOf g.A.Accessor.keys_of g.P.Predicate.says_to g.G.Rounding.rounded g.R.Reducer.meaning_of g.R.Reducer.folding here) groups c.in-Some.place c.index.result.now c.self.invariant.entries (group-within c.args.id.0 groups c.in-Some.place told) c.index.ensures in
    rw (← c.self.view_is) (
    ap (option_map (λ own. entries_of g.A.Accessor.keys_of g.P.Predicate.says_to g.G.Rounding.rounded g.R.Reducer.folding here own)) named
    ∙ ap Some (sym holds.1)
    )

pub returns-in-None-clause-refused : goal.returns-in-None-clause-refused
returns-in-None-clause-refused g c = (refl, find-unplaced (group_has_id c.args.id.0) c.args.self.now.groups (sym c.group_place_of.ensures ∙ c.in-None.is))
