use Rattle.std.proofs.Common.{option_map, sym, ap, subst, ◌∙◌, arith}
use Rattle.xf_engine.specs.Held.{HoldsWholeOf, live_whole, state_of}
use Rattle.xf_engine.specs.Refusals.{no_whole, unless_none}
use Rattle.xf_engine.specs.State.{IsState, whole_has_id, whole_place}
use Rattle.xf_engine.proofs.Answered.{no-whole}
use Rattle.xf_engine.proofs.ById.{all-remove}
use Rattle.xf_engine.proofs.HeldStates.{held-without_whole}
use Rattle.xf_engine.proofs.Lookups.{whole-within}
use Rattle.xf_engine.proofs.Named.{find-placed, find-unplaced}
use Rattle.xf_engine.proofs.Sound.{sound-without_whole}
use Rattle.xf_engine.proofs.cross.Cross.dispose_whole.Goals as goal

pub returns-in_default-clause-answer : goal.returns-in_default-clause-answer
returns-in_default-clause-answer g c =
    sym (ap (λ found. unless_none (no_whole c.args.id.0) (option_map (λ _. tt) found)) (find-unplaced (whole_has_id c.args.id.0) c.args.self.now.wholes (sym c.whole_place_of.ensures ∙ c.in_default.is)))

pub returns-in_default-clause-state : goal.returns-in_default-clause-state
returns-in_default-clause-state g c = no-whole c.args.self.now c.args.id.0 (sym c.whole_place_of.ensures ∙ c.in_default.is)

pub remove-requires : goal.remove-requires
remove-requires g c =
    let within = whole-within c.args.id.0 c.self.inside.wholes.items c.in-Some.place (ap (λ s. whole_place s c.args.id.0) c.self.view_is ∙ sym c.whole_place_of.ensures ∙ c.in-Some.is) in
    omega arith

pub invariant_of-self : goal.invariant_of-self
invariant_of-self g c =
    let told = ap (λ s. whole_place s c.args.id.0) c.self.view_is ∙ sym c.whole_place_of.ensures ∙ c.in-Some.is in
    let wholes = c.self.inside.wholes.items in
    let here = state_of c.self.inside.table c.self.inside.dimensions.items c.self.inside.groups.items wholes c.self.inside.events in
    let held = held-without_whole c.self.inside.table c.self.inside.dimensions.items c.self.inside.groups.items wholes c.self.inside.events c.args.id.0 c.in-Some.place c.remove.result c.self.invariant.state.distinct_wholes told in
    rw c.remove.ensures.items (record {
      state = subst (IsState g.A.Accessor.keys_of g.A.Accessor.fits_to g.A.Accessor.kind_of g.P.Predicate.keys_in g.R.Reducer.fits_to g.R.Reducer.field_count) (sym held) (sound-without_whole g.A.Accessor.keys_of g.A.Accessor.fits_to g.A.Accessor.kind_of g.P.Predicate.keys_in g.R.Reducer.fits_to g.R.Reducer.field_count here c.args.id.0 c.self.invariant.state);
      keys = c.self.invariant.keys;
      entries = c.self.invariant.entries;
      values = all-remove (HoldsWholeOf g.A.Accessor.keys_of g.P.Predicate.says_to g.R.Reducer.meaning_of g.R.Reducer.folding here) wholes c.in-Some.place c.self.invariant.values;
    })

pub returns-clause-answer : goal.returns-clause-answer
returns-clause-answer g c =
    sym (ap (λ found. unless_none (no_whole c.args.id.0) (option_map (λ _. tt) found)) (find-placed (whole_has_id c.args.id.0) c.args.self.now.wholes c.in-Some.place (live_whole c.remove.result) (sym c.whole_place_of.ensures ∙ c.in-Some.is)))

pub returns-clause-state : goal.returns-clause-state
returns-clause-state g c =
    let told = ap (λ s. whole_place s c.args.id.0) c.self.view_is ∙ sym c.whole_place_of.ensures ∙ c.in-Some.is in
    rw (← c.self.view_is, c.remove.ensures.items) (held-without_whole c.self.inside.table c.self.inside.dimensions.items c.self.inside.groups.items c.self.inside.wholes.items c.self.inside.events c.args.id.0 c.in-Some.place c.remove.result c.self.invariant.state.distinct_wholes told)
