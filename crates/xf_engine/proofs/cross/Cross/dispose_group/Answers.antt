use Rattle.std.proofs.Common.{option_map, sym, ap, subst, ◌∙◌, arith}
use Rattle.xf_engine.specs.Held.{HoldsGroupOf, live_group, state_of}
use Rattle.xf_engine.specs.Refusals.{no_group, unless_none}
use Rattle.xf_engine.specs.State.{IsState, group_has_id, group_place}
use Rattle.xf_engine.proofs.Answered.{no-group}
use Rattle.xf_engine.proofs.ById.{all-remove}
use Rattle.xf_engine.proofs.HeldStates.{held-without_group}
use Rattle.xf_engine.proofs.Lookups.{group-within}
use Rattle.xf_engine.proofs.Named.{find-placed, find-unplaced}
use Rattle.xf_engine.proofs.Sound.{sound-without_group}
use Rattle.xf_engine.proofs.cross.Cross.dispose_group.Goals as goal

pub returns-in_default-clause-answer : goal.returns-in_default-clause-answer
returns-in_default-clause-answer g c =
    sym (ap (λ found. unless_none (no_group c.args.id.0) (option_map (λ _. tt) found)) (find-unplaced (group_has_id c.args.id.0) c.args.self.now.groups (sym c.group_place_of.ensures ∙ c.in_default.is)))

pub returns-in_default-clause-state : goal.returns-in_default-clause-state
returns-in_default-clause-state g c = no-group c.args.self.now c.args.id.0 (sym c.group_place_of.ensures ∙ c.in_default.is)

pub remove-requires : goal.remove-requires
remove-requires g c =
    let within = group-within c.args.id.0 c.self.inside.groups.items c.in-Some.place (ap (λ s. group_place s c.args.id.0) c.self.view_is ∙ sym c.group_place_of.ensures ∙ c.in-Some.is) in
    omega arith

pub invariant_of-self : goal.invariant_of-self
invariant_of-self g c =
    let told = ap (λ s. group_place s c.args.id.0) c.self.view_is ∙ sym c.group_place_of.ensures ∙ c.in-Some.is in
    let groups = c.self.inside.groups.items in
    let here = state_of c.self.inside.table c.self.inside.dimensions.items groups c.self.inside.wholes.items c.self.inside.events in
    let held = held-without_group c.self.inside.table c.self.inside.dimensions.items groups c.self.inside.wholes.items c.self.inside.events c.args.id.0 c.in-Some.place c.remove.result c.self.invariant.state.distinct_groups told in
    rw c.remove.ensures.items (record {
      state = subst (IsState g.A.Accessor.keys_of g.A.Accessor.fits_to g.A.Accessor.kind_of g.P.Predicate.keys_in g.R.Reducer.fits_to g.R.Reducer.field_count) (sym held) (sound-without_group g.A.Accessor.keys_of g.A.Accessor.fits_to g.A.Accessor.kind_of g.P.Predicate.keys_in g.R.Reducer.fits_to g.R.Reducer.field_count here c.args.id.0 c.self.invariant.state);
      keys = c.self.invariant.keys;
      entries = all-remove (HoldsGroupOf g.A.Accessor.keys_of g.P.Predicate.says_to g.G.Rounding.rounded g.R.Reducer.meaning_of g.R.Reducer.folding here) groups c.in-Some.place c.self.invariant.entries;
      values = c.self.invariant.values;
    })

pub returns-clause-answer : goal.returns-clause-answer
returns-clause-answer g c =
    sym (ap (λ found. unless_none (no_group c.args.id.0) (option_map (λ _. tt) found)) (find-placed (group_has_id c.args.id.0) c.args.self.now.groups c.in-Some.place (live_group c.remove.result) (sym c.group_place_of.ensures ∙ c.in-Some.is)))

pub returns-clause-state : goal.returns-clause-state
returns-clause-state g c =
    let told = ap (λ s. group_place s c.args.id.0) c.self.view_is ∙ sym c.group_place_of.ensures ∙ c.in-Some.is in
    rw (← c.self.view_is, c.remove.ensures.items) (held-without_group c.self.inside.table c.self.inside.dimensions.items c.self.inside.groups.items c.self.inside.wholes.items c.self.inside.events c.args.id.0 c.in-Some.place c.remove.result c.self.invariant.state.distinct_groups told)
