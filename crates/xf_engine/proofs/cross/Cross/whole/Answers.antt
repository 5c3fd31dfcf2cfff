use Rattle.std.proofs.Common.{Some, option_map, refl, sym, ap, ◌∙◌}
use Rattle.xf_engine.specs.Answers.{whole_meaning}
use Rattle.xf_engine.specs.Held.{HoldsWholeOf, live_whole, state_of}
use Rattle.xf_engine.specs.State.{whole_has_id, whole_place}
use Rattle.xf_engine.proofs.Lookups.{held-at, whole-within}
use Rattle.xf_engine.proofs.Named.{find-placed-whole, find-unplaced}
use Rattle.xf_engine.proofs.cross.Cross.whole.Goals as goal

pub returns-in-Some-clause-value : goal.returns-in-Some-clause-value
returns-in-Some-clause-value g c =
    let told = ap (λ s. whole_place s c.args.id.0) c.self.view_is ∙ sym c.whole_place_of.ensures ∙ c.in-Some.is in
    let wholes = c.self.inside.wholes.items in
    let here = state_of c.self.inside.table c.self.inside.dimensions.items c.self.inside.groups.items wholes c.self.inside.events in
    let named = find-placed-whole c.args.id.0 wholes c.in-Some.place c.index.result.now told ∙ ap (λ d. Some (live_whole d)) (sym c.index.ensures) in
    let holds = held-at (HoldsWholeOf g.A.Accessor.keys_of g.P.Predicate.says_to g.R.Reducer.meaning_of g.R.Reducer.folding here) wholes c.in-Some.place c.index.result.now c.self.invariant.values (whole-within c.args.id.0 wholes c.in-Some.place told) c.index.ensures in
    rw (← c.self.view_is) (
    ap (option_map (λ own. whole_meaning g.A.Accessor.keys_of g.P.Predicate.says_to g.R.Reducer.folding here own)) named
    ∙ ap Some (sym holds)
    )

pub returns-in-None-clause-refused : goal.returns-in-None-clause-refused
returns-in-None-clause-refused g c = (refl, find-unplaced (whole_has_id c.args.id.0) c.args.self.now.wholes (sym c.whole_place_of.ensures ∙ c.in-None.is))
