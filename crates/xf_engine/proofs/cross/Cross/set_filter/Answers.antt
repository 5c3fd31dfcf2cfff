-- The dimension has the new filter, and all values are those that were folded under it.
use Rattle.std.proofs.Common.{rules, ◌≡◌, option_map, slice_get, refl, sym, ap, ◌∙◌}
use Rattle.xf_engine.specs.Changes.{once_filtered}
use Rattle.xf_engine.specs.Held.{held_moved, live_dimensions, state_of}
use Rattle.xf_engine.specs.Refolded.{AreRegrouped, AreRevalued, filtered_at}
use Rattle.xf_engine.specs.Refusals.{filter_refusal_of}
use Rattle.xf_engine.specs.State.{dimension_place}
use Rattle.xf_engine.proofs.Refolded.{are_regrouped-length, are_revalued-length, cross-refolded, dimension-within, filtered-keys, filtered-sound, filtered-state, filtered_at-length, fold-live, fold-places, fold-suit, fold-whole_suit, given-back, moved-few, moved-named, on-err, refolded-state}
use Rattle.xf_engine.proofs.cross.Cross.set_filter.Goals as goal

pub refilter_at-requires-clause-place : goal.refilter_at-requires-clause-place
refilter_at-requires-clause-place g c =
    let told = ap (λ s. dimension_place s c.args.id.0) c.self.view_is ∙ c.in_ok-place.ensures.place in
    rw c.deref_mut.ensures.value (dimension-within c.args.id.0 c.self.inside.dimensions.items c.in_ok-place.place told)

pub refilter_at-requires-clause-few : goal.refilter_at-requires-clause-few
refilter_at-requires-clause-few g c =
    rw c.deref_mut.ensures.value (moved-few g.A.Accessor.keys_of g.A.Accessor.fits_to g.A.Accessor.kind_of g.P.Predicate.keys_in g.R.Reducer.fits_to g.R.Reducer.field_count c.self.inside.table c.self.inside.dimensions.items c.self.inside.groups.items c.self.inside.wholes.items c.self.inside.events c.self.invariant.state c.self.invariant.keys)

pub refilter_at-requires-clause-live : goal.refilter_at-requires-clause-live
refilter_at-requires-clause-live g c = rw (c.deref_mut.ensures.value, c.deref_mut-2.ensures.value) (fold-live c.self.inside.dimensions.items c.self.inside.groups.items c.self.invariant.state.live)

pub refilter_at-requires-clause-places : goal.refilter_at-requires-clause-places
refilter_at-requires-clause-places g c =
    rw (c.deref_mut.ensures.value, c.deref_mut-2.ensures.value)
    (fold-places g.A.Accessor.keys_of g.P.Predicate.says_to g.G.Rounding.rounded g.R.Reducer.meaning_of g.R.Reducer.folding (state_of c.self.inside.table c.self.inside.dimensions.items c.self.inside.groups.items c.self.inside.wholes.items c.self.inside.events) c.self.inside.groups.items c.self.invariant.entries)

pub refilter_at-requires-clause-group_suit : goal.refilter_at-requires-clause-group_suit
refilter_at-requires-clause-group_suit g c =
    rw c.deref_mut-2.ensures.value (fold-suit g.R.Reducer.fits_to c.self.inside.table.columns c.self.inside.table.rows c.self.inside.groups.items c.self.invariant.state.of_schema c.self.invariant.state.group_fit)

pub refilter_at-requires-clause-whole_suit : goal.refilter_at-requires-clause-whole_suit
refilter_at-requires-clause-whole_suit g c =
    rw c.deref_mut-3.ensures.value (fold-whole_suit g.R.Reducer.fits_to c.self.inside.table.columns c.self.inside.table.rows c.self.inside.wholes.items c.self.invariant.state.of_schema c.self.invariant.state.whole_fit)

pub invariant_of-self : goal.invariant_of-self
invariant_of-self g c =
    let inside = c.self.inside in
    let dimensions = given-back inside.dimensions.len inside.dimensions.items c.refilter_at.new.dimensions inside.dimensions.items (search rules) (c.in_err-moved.ensures.same_filters ∙ c.deref_mut.ensures.value) refl in
    let groups = given-back inside.groups.len inside.groups.items c.refilter_at.new.groups inside.groups.items (search rules) (c.in_err-moved.ensures.same_groups ∙ c.deref_mut-2.ensures.value) refl in
    let wholes = given-back inside.wholes.len inside.wholes.items c.refilter_at.new.wholes inside.wholes.items (search rules) (c.in_err-moved.ensures.same_wholes ∙ c.deref_mut-3.ensures.value) refl in
    rw (dimensions, groups, wholes) c.self.invariant

pub returns-in_err-moved-clause-err : goal.returns-in_err-moved-clause-err
returns-in_err-moved-clause-err g c =
    let inside = c.self.inside in
    let dimensions = given-back inside.dimensions.len inside.dimensions.items c.refilter_at.new.dimensions inside.dimensions.items (search rules) (c.in_err-moved.ensures.same_filters ∙ c.deref_mut.ensures.value) refl in
    let groups = given-back inside.groups.len inside.groups.items c.refilter_at.new.groups inside.groups.items (search rules) (c.in_err-moved.ensures.same_groups ∙ c.deref_mut-2.ensures.value) refl in
    let wholes = given-back inside.wholes.len inside.wholes.items c.refilter_at.new.wholes inside.wholes.items (search rules) (c.in_err-moved.ensures.same_wholes ∙ c.deref_mut-3.ensures.value) refl in
    on-err c.from_residual-in_err-moved.result _ (rw (dimensions, groups, wholes) c.self.view_is)

pub invariant_of-self-2 : goal.invariant_of-self-2
invariant_of-self-2 g c =
    let keys_of = g.A.Accessor.keys_of in
    let says = g.P.Predicate.says_to in
    let rounded = g.G.Rounding.rounded in
    let meaning_of = g.R.Reducer.meaning_of in
    let folding = g.R.Reducer.folding in
    let inside = c.self.inside in
    let table = inside.table in
    let held = inside.dimensions.items in
    let place = c.in_ok-place.place in
    let new = c.args.filter in
    let told = ap (λ s. dimension_place s c.args.id.0) c.self.view_is ∙ c.in_ok-place.ensures.place in
    let accepted = ap (λ s. filter_refusal_of g.A.Accessor.kind_of g.P.Predicate.keys_in s c.args.id.0 new) c.self.view_is ∙ c.in_ok-place.ensures.accepted in
    let filtered : c.refilter_at.new.dimensions ≡ filtered_at place new held = c.in_ok-moved.ensures.filter ∙ ap (filtered_at place new) c.deref_mut.ensures.value in
    let for_groups : AreRegrouped keys_of says rounded meaning_of folding (live_dimensions (filtered_at place new held)) table.rows inside.groups.items c.refilter_at.new.groups = rw (← filtered, ← c.deref_mut-2.ensures.value) c.in_ok-moved.ensures.groups in
    let for_wholes : AreRevalued keys_of says meaning_of folding (live_dimensions (filtered_at place new held)) table.rows inside.wholes.items c.refilter_at.new.wholes = rw (← filtered, ← c.deref_mut-3.ensures.value) c.in_ok-moved.ensures.wholes in
    let dimensions = given-back inside.dimensions.len held c.refilter_at.new.dimensions (filtered_at place new held) (search rules) filtered (filtered_at-length held place new) in
    let groups = given-back inside.groups.len inside.groups.items c.refilter_at.new.groups c.refilter_at.new.groups (search rules) refl (are_regrouped-length keys_of says rounded meaning_of folding (live_dimensions (filtered_at place new held)) table.rows inside.groups.items c.refilter_at.new.groups for_groups) in
    let wholes = given-back inside.wholes.len inside.wholes.items c.refilter_at.new.wholes c.refilter_at.new.wholes (search rules) refl (are_revalued-length keys_of says meaning_of folding (live_dimensions (filtered_at place new held)) table.rows inside.wholes.items c.refilter_at.new.wholes for_wholes) in
    let sound = filtered-sound keys_of g.A.Accessor.fits_to g.A.Accessor.kind_of g.P.Predicate.keys_in g.R.Reducer.fits_to g.R.Reducer.field_count table held inside.groups.items inside.wholes.items inside.events (once_filtered inside.events) c.args.id.0 place new c.self.invariant.state told accepted in
    rw (dimensions, groups, wholes, c.one_more-self-inside.ensures)
    (cross-refolded keys_of g.A.Accessor.fits_to g.A.Accessor.kind_of says g.P.Predicate.keys_in rounded g.R.Reducer.fits_to g.R.Reducer.field_count meaning_of folding (live_dimensions (filtered_at place new held)) table.rows table (filtered_at place new held) inside.groups.items c.refilter_at.new.groups inside.wholes.items c.refilter_at.new.wholes (once_filtered inside.events)
    sound (filtered-keys keys_of table.rows held place new c.self.invariant.keys) refl refl for_groups for_wholes)

pub returns-clause-moved : goal.returns-clause-moved
returns-clause-moved g c =
    let keys_of = g.A.Accessor.keys_of in
    let says = g.P.Predicate.says_to in
    let held = c.self.inside.dimensions.items in
    let place = c.in_ok-place.place in
    let told = ap (λ s. dimension_place s c.args.id.0) c.self.view_is ∙ c.in_ok-place.ensures.place in
    rw (← c.self.view_is) (
    sym c.in_ok-moved.ensures.moved
    ∙ ap (λ ds. option_map (held_moved says c.args.filter) (slice_get ds place)) c.deref_mut.ensures.value
    ∙ moved-named keys_of says c.self.inside.table.rows held c.args.id.0 place c.args.filter told c.self.invariant.keys
    )

pub returns-clause-ok : goal.returns-clause-ok
returns-clause-ok g c =
    let keys_of = g.A.Accessor.keys_of in
    let says = g.P.Predicate.says_to in
    let rounded = g.G.Rounding.rounded in
    let meaning_of = g.R.Reducer.meaning_of in
    let folding = g.R.Reducer.folding in
    let inside = c.self.inside in
    let table = inside.table in
    let held = inside.dimensions.items in
    let place = c.in_ok-place.place in
    let new = c.args.filter in
    let told = ap (λ s. dimension_place s c.args.id.0) c.self.view_is ∙ c.in_ok-place.ensures.place in
    let filtered : c.refilter_at.new.dimensions ≡ filtered_at place new held = c.in_ok-moved.ensures.filter ∙ ap (filtered_at place new) c.deref_mut.ensures.value in
    let for_groups : AreRegrouped keys_of says rounded meaning_of folding (live_dimensions (filtered_at place new held)) table.rows inside.groups.items c.refilter_at.new.groups = rw (← filtered, ← c.deref_mut-2.ensures.value) c.in_ok-moved.ensures.groups in
    let for_wholes : AreRevalued keys_of says meaning_of folding (live_dimensions (filtered_at place new held)) table.rows inside.wholes.items c.refilter_at.new.wholes = rw (← filtered, ← c.deref_mut-3.ensures.value) c.in_ok-moved.ensures.wholes in
    let dimensions = given-back inside.dimensions.len held c.refilter_at.new.dimensions (filtered_at place new held) (search rules) filtered (filtered_at-length held place new) in
    let groups = given-back inside.groups.len inside.groups.items c.refilter_at.new.groups c.refilter_at.new.groups (search rules) refl (are_regrouped-length keys_of says rounded meaning_of folding (live_dimensions (filtered_at place new held)) table.rows inside.groups.items c.refilter_at.new.groups for_groups) in
    let wholes = given-back inside.wholes.len inside.wholes.items c.refilter_at.new.wholes c.refilter_at.new.wholes (search rules) refl (are_revalued-length keys_of says meaning_of folding (live_dimensions (filtered_at place new held)) table.rows inside.wholes.items c.refilter_at.new.wholes for_wholes) in
    rw (dimensions, groups, wholes, c.one_more-self-inside.ensures, ← c.self.view_is) (
    refolded-state keys_of says rounded meaning_of folding (live_dimensions (filtered_at place new held)) table.rows table (filtered_at place new held) inside.groups.items c.refilter_at.new.groups inside.wholes.items c.refilter_at.new.wholes (once_filtered inside.events) for_groups for_wholes
    ∙ filtered-state table held inside.groups.items inside.wholes.items inside.events c.args.id.0 place new c.self.invariant.state.distinct told
    )
