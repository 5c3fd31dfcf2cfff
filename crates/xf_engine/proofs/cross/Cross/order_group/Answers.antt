use Rattle.std.proofs.Common.{option_map, IfSome, set, sym, ap, subst, ◌∙◌, arith, ◌<◌}
use Rattle.xf_engine.specs.Held.{HoldsGroupOf, live_group, state_of}
use Rattle.xf_engine.specs.Refusals.{no_group, unless_none}
use Rattle.xf_engine.specs.State.{IsState, group_has_id, group_named, group_place}
use Rattle.xf_engine.specs.declared.grouping.Grouping.{Grouping}
use Rattle.xf_group.specs.Group.{Grouped}
use Rattle.xf_group.specs.Order.{order_field}
use Rattle.xf_engine.proofs.Answered.{no-order}
use Rattle.xf_engine.proofs.ById.{all-set}
use Rattle.xf_engine.proofs.HeldStates.{held-with_order}
use Rattle.xf_engine.proofs.Lookups.{group-within, held-at}
use Rattle.xf_engine.proofs.Named.{find-placed, find-unplaced}
use Rattle.xf_engine.proofs.Sound.{sound-with_order}
use Rattle.xf_engine.proofs.cross.Cross.order_group.Goals as goal

pub returns-in_default-clause-answer : goal.returns-in_default-clause-answer
returns-in_default-clause-answer g c =
    sym (ap (λ found. unless_none (no_group c.args.id.0) (option_map (λ _. tt) found)) (find-unplaced (group_has_id c.args.id.0) c.args.self.now.groups (sym c.group_place_of.ensures ∙ c.in_default.is)))

pub returns-in_default-clause-state : goal.returns-in_default-clause-state
returns-in_default-clause-state g c = no-order c.args.self.now c.args.id.0 (order_field c.args.order) (sym c.group_place_of.ensures ∙ c.in_default.is)

pub index_mut-requires : goal.index_mut-requires
index_mut-requires g c =
    let within = group-within c.args.id.0 c.self.inside.groups.items c.in-Some.place (ap (λ s. group_place s c.args.id.0) c.self.view_is ∙ sym c.group_place_of.ensures ∙ c.in-Some.is) in
    omega arith

pub invariant_of-self : goal.invariant_of-self
invariant_of-self g c =
    let told = ap (λ s. group_place s c.args.id.0) c.self.view_is ∙ sym c.group_place_of.ensures ∙ c.in-Some.is in
    let table = c.self.inside.table in
    let dimensions = c.self.inside.dimensions.items in
    let groups = c.self.inside.groups.items in
    let wholes = c.self.inside.wholes.items in
    let events = c.self.inside.events in
    let here = state_of table dimensions groups wholes events in
    let place = c.in-Some.place in
    let d = c.index_mut.result.now in
    let own = Grouping g.row.G.Denot (Grouped g.row.R.Denot g.row.R-Value.Denot) in
    let sound = IsState g.A.Accessor.keys_of g.A.Accessor.fits_to g.A.Accessor.kind_of g.P.Predicate.keys_in g.R.Reducer.fits_to g.R.Reducer.field_count in
    let holds = HoldsGroupOf g.A.Accessor.keys_of g.P.Predicate.says_to g.G.Rounding.rounded g.R.Reducer.meaning_of g.R.Reducer.folding here in
    let now = ap {A = own} (λ x. record x { order = c.args.order }) c.index_mut.ensures.value in
    let field = subst (λ s. IfSome (group_named s c.args.id.0) (λ group. order_field c.args.order < g.R.Reducer.field_count group.reducer)) (sym c.self.view_is) c.requires in
    record {
      state = subst (λ (x : own). sound (state_of table dimensions (set groups place x) wholes events)) (sym now)
          (subst sound (sym (held-with_order table dimensions groups wholes events c.args.id.0 place d c.args.order c.self.invariant.state.distinct_groups told))
          (sound-with_order g.A.Accessor.keys_of g.A.Accessor.fits_to g.A.Accessor.kind_of g.P.Predicate.keys_in g.R.Reducer.fits_to g.R.Reducer.field_count here c.args.id.0 (order_field c.args.order) c.self.invariant.state field));
      keys = c.self.invariant.keys;
      entries = all-set holds groups place (record d { order = c.args.order }) c.self.invariant.entries (held-at holds groups place d c.self.invariant.entries (group-within c.args.id.0 groups place told) c.index_mut.ensures.value);
      values = c.self.invariant.values;
    }

pub returns-clause-answer : goal.returns-clause-answer
returns-clause-answer g c =
    sym (ap (λ found. unless_none (no_group c.args.id.0) (option_map (λ _. tt) found)) (find-placed (group_has_id c.args.id.0) c.args.self.now.groups c.in-Some.place (live_group c.index_mut.result.now) (sym c.group_place_of.ensures ∙ c.in-Some.is)))

pub returns-clause-state : goal.returns-clause-state
returns-clause-state g c =
    let told = ap (λ s. group_place s c.args.id.0) c.self.view_is ∙ sym c.group_place_of.ensures ∙ c.in-Some.is in
    let table = c.self.inside.table in
    let dimensions = c.self.inside.dimensions.items in
    let groups = c.self.inside.groups.items in
    let wholes = c.self.inside.wholes.items in
    let events = c.self.inside.events in
    let own = Grouping g.row.G.Denot (Grouped g.row.R.Denot g.row.R-Value.Denot) in
    let now = ap {A = own} (λ x. record x { order = c.args.order }) c.index_mut.ensures.value in
    rw (← c.self.view_is) (
    ap (λ (x : own). state_of table dimensions (set groups c.in-Some.place x) wholes events) now
    ∙ held-with_order table dimensions groups wholes events c.args.id.0 c.in-Some.place c.index_mut.result.now c.args.order c.self.invariant.state.distinct_groups told
    )
