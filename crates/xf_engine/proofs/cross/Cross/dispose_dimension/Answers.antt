-- The dimension's filter is taken away, all values are folded anew, and then the dimension goes with its groups.
use Rattle.std.proofs.Common.{rules, ◌≡◌, inr, option_map, length, slice_get, refl, sym, ap, ◌∙◌, arith}
use Rattle.std.specs.List.{filter, remove}
use Rattle.xf_engine.specs.Held.{held_moved, is_elsewhere, live_dimensions, state_of}
use Rattle.xf_engine.specs.Refolded.{AreRegrouped, AreRevalued, filtered_at}
use Rattle.xf_engine.specs.State.{dimension_place, has_id}
use Rattle.xf_filter.specs.declared.filter.Filter.TheVariants.{All}
use Rattle.xf_engine.proofs.Disposed.{cross-disposed, disposed-state}
use Rattle.xf_engine.proofs.Named.{find-unplaced}
use Rattle.xf_engine.proofs.Refolded.{are_regrouped-length, are_revalued-length, dimension-within, filtered_at-length, fold-live, fold-places, fold-suit, fold-whole_suit, given-back, moved-few, moved-named, on-err, remove-filtered}
use Rattle.xf_engine.proofs.cross.Cross.dispose_dimension.Goals as goal

pub returns-in_default-clause-refused : goal.returns-in_default-clause-refused
returns-in_default-clause-refused g c = inr (refl, find-unplaced (has_id c.args.id.0) c.args.self.now.dimensions (sym c.place_of.ensures ∙ c.in_default.is))

pub refilter_at-requires-clause-place : goal.refilter_at-requires-clause-place
refilter_at-requires-clause-place g c =
    let told = ap (λ s. dimension_place s c.args.id.0) c.self.view_is ∙ sym c.place_of.ensures ∙ c.in-Some.is in
    rw c.deref_mut.ensures.value (dimension-within c.args.id.0 c.self.inside.dimensions.items c.in-Some.place told)

pub refilter_at-requires-clause-few : goal.refilter_at-requires-clause-few
refilter_at-requires-clause-few g c =
    rw c.deref_mut.ensures.value (moved-few g.A.Accessor.keys_of g.A.Accessor.fits_to g.A.Accessor.kind_of g.P.Predicate.keys_in g.R.Reducer.fits_to g.R.Reducer.field_count c.self.inside.table c.self.inside.dimensions.items c.self.inside.groups.items c.self.inside.wholes.items c.self.inside.events c.self.invariant.state c.self.invariant.keys)

pub refilter_at-requires-clause-live : goal.refilter_at-requires-clause-live
refilter_at-requires-clause-live g c = rw (c.deref_mut.ensures.value, c.deref_mut-2.ensures.value) (fold-live c.self.inside.dimensions.items c.self.inside.groups.items c.self.invariant.state.live)

pub refilter_at-requires-clause-places : goal.refilter_at-requires-clause-places
refilter_at-requires-clause-places g c =
    rw (c.deref_mut.ensures.value, c.deref_mut-2.ensures.value)
    (fold-places g.A.Accessor.keys_of g.P.Predicate.says_to g.G.Rounding.rounded g.R.Reducer.meaning_of g.R.Reducer.folding (state_of c.self.inside.table c.self.inside.dimensions.items c.self.inside.groups.items c.self.inside.wholes.items c.self.inside.events) c.self.inside.groups.items c.self.invariant.entries)

pub refilter_at-requires-clause-group_suit : goal.refilter_at-requires-clause-group_suit
refilter_at-requires-clause-group_suit g c =
    rw c.deref_mut-2.ensures.value (fold-suit g.R.Reducer.fits_to c.self.inside.table.columns c.self.inside.table.rows c.self.inside.groups.items c.self.invariant.state.of_schema c.self.invariant.state.group_fit)

pub refilter_at-requires-clause-whole_suit : goal.refilter_at-requires-clause-whole_suit
refilter_at-requires-clause-whole_suit g c =
    rw c.deref_mut-3.ensures.value (fold-whole_suit g.R.Reducer.fits_to c.self.inside.table.columns c.self.inside.table.rows c.self.inside.wholes.items c.self.invariant.state.of_schema c.self.invariant.state.whole_fit)

pub invariant_of-self : goal.invariant_of-self
invariant_of-self g c =
    let inside = c.self.inside in
    let dimensions = given-back inside.dimensions.len inside.dimensions.items c.refilter_at.new.dimensions inside.dimensions.items (search rules) (c.in_err-moved.ensures.same_filters ∙ c.deref_mut.ensures.value) refl in
    let groups = given-back inside.groups.len inside.groups.items c.refilter_at.new.groups inside.groups.items (search rules) (c.in_err-moved.ensures.same_groups ∙ c.deref_mut-2.ensures.value) refl in
    let wholes = given-back inside.wholes.len inside.wholes.items c.refilter_at.new.wholes inside.wholes.items (search rules) (c.in_err-moved.ensures.same_wholes ∙ c.deref_mut-3.ensures.value) refl in
    rw (dimensions, groups, wholes) c.self.invariant

pub returns-in_err-moved-clause-err : goal.returns-in_err-moved-clause-err
returns-in_err-moved-clause-err g c =
    let inside = c.self.inside in
    let dimensions = given-back inside.dimensions.len inside.dimensions.items c.refilter_at.new.dimensions inside.dimensions.items (search rules) (c.in_err-moved.ensures.same_filters ∙ c.deref_mut.ensures.value) refl in
    let groups = given-back inside.groups.len inside.groups.items c.refilter_at.new.groups inside.groups.items (search rules) (c.in_err-moved.ensures.same_groups ∙ c.deref_mut-2.ensures.value) refl in
    let wholes = given-back inside.wholes.len inside.wholes.items c.refilter_at.new.wholes inside.wholes.items (search rules) (c.in_err-moved.ensures.same_wholes ∙ c.deref_mut-3.ensures.value) refl in
    on-err c.from_residual.result _ (rw (dimensions, groups, wholes) c.self.view_is)

pub remove-requires : goal.remove-requires
remove-requires g c =
    let told = ap (λ s. dimension_place s c.args.id.0) c.self.view_is ∙ sym c.place_of.ensures ∙ c.in-Some.is in
    let long : length c.self.inside.dimensions.items ≡ c.self.inside.dimensions.len = search rules in
    omega (arith, long, dimension-within c.args.id.0 c.self.inside.dimensions.items c.in-Some.place told)

pub invariant_of-self-2 : goal.invariant_of-self-2
invariant_of-self-2 g c =
    let keys_of = g.A.Accessor.keys_of in
    let says = g.P.Predicate.says_to in
    let rounded = g.G.Rounding.rounded in
    let meaning_of = g.R.Reducer.meaning_of in
    let folding = g.R.Reducer.folding in
    let inside = c.self.inside in
    let table = inside.table in
    let held = inside.dimensions.items in
    let place = c.in-Some.place in
    let id = c.args.id.0 in
    let told = ap (λ s. dimension_place s id) c.self.view_is ∙ sym c.place_of.ensures ∙ c.in-Some.is in
    let filtered : c.refilter_at.new.dimensions ≡ filtered_at place All held = c.in_ok-moved.ensures.filter ∙ ap (filtered_at place All) c.deref_mut.ensures.value in
    let for_groups : AreRegrouped keys_of says rounded meaning_of folding (live_dimensions (filtered_at place All held)) table.rows inside.groups.items c.refilter_at.new.groups = rw (← filtered, ← c.deref_mut-2.ensures.value) c.in_ok-moved.ensures.groups in
    let for_wholes : AreRevalued keys_of says meaning_of folding (live_dimensions (filtered_at place All held)) table.rows inside.wholes.items c.refilter_at.new.wholes = rw (← filtered, ← c.deref_mut-3.ensures.value) c.in_ok-moved.ensures.wholes in
    let dimensions = given-back inside.dimensions.len held c.refilter_at.new.dimensions (filtered_at place All held) (search rules) filtered (filtered_at-length held place All) in
    let groups = given-back inside.groups.len inside.groups.items c.refilter_at.new.groups c.refilter_at.new.groups (search rules) refl (are_regrouped-length keys_of says rounded meaning_of folding (live_dimensions (filtered_at place All held)) table.rows inside.groups.items c.refilter_at.new.groups for_groups) in
    let wholes = given-back inside.wholes.len inside.wholes.items c.refilter_at.new.wholes c.refilter_at.new.wholes (search rules) refl (are_revalued-length keys_of says meaning_of folding (live_dimensions (filtered_at place All held)) table.rows inside.wholes.items c.refilter_at.new.wholes for_wholes) in
    let removed : c.remove.new.self.items ≡ remove held place = c.remove.ensures.items ∙ ap (λ ds. remove ds place) dimensions ∙ remove-filtered held place All in
    let dropped : c.drop_groups_of.new.groups.items ≡ filter (is_elsewhere id) c.refilter_at.new.groups = c.drop_groups_of.ensures ∙ ap (filter (is_elsewhere id)) groups in
    rw (removed, dropped, wholes)
    (cross-disposed keys_of g.A.Accessor.fits_to g.A.Accessor.kind_of says g.P.Predicate.keys_in rounded g.R.Reducer.fits_to g.R.Reducer.field_count meaning_of folding table held inside.groups.items c.refilter_at.new.groups inside.wholes.items c.refilter_at.new.wholes inside.events id place c.remove.result
    c.self.invariant.state c.self.invariant.keys told for_groups for_wholes)

pub returns-clause-moved : goal.returns-clause-moved
returns-clause-moved g c =
    let keys_of = g.A.Accessor.keys_of in
    let says = g.P.Predicate.says_to in
    let held = c.self.inside.dimensions.items in
    let place = c.in-Some.place in
    let told = ap (λ s. dimension_place s c.args.id.0) c.self.view_is ∙ sym c.place_of.ensures ∙ c.in-Some.is in
    rw (← c.self.view_is) (
    sym c.in_ok-moved.ensures.moved
    ∙ ap (λ ds. option_map (held_moved says All) (slice_get ds place)) c.deref_mut.ensures.value
    ∙ moved-named keys_of says c.self.inside.table.rows held c.args.id.0 place All told c.self.invariant.keys
    )

pub returns-clause-ok : goal.returns-clause-ok
returns-clause-ok g c =
    let keys_of = g.A.Accessor.keys_of in
    let says = g.P.Predicate.says_to in
    let rounded = g.G.Rounding.rounded in
    let meaning_of = g.R.Reducer.meaning_of in
    let folding = g.R.Reducer.folding in
    let inside = c.self.inside in
    let table = inside.table in
    let held = inside.dimensions.items in
    let place = c.in-Some.place in
    let id = c.args.id.0 in
    let told = ap (λ s. dimension_place s id) c.self.view_is ∙ sym c.place_of.ensures ∙ c.in-Some.is in
    let filtered : c.refilter_at.new.dimensions ≡ filtered_at place All held = c.in_ok-moved.ensures.filter ∙ ap (filtered_at place All) c.deref_mut.ensures.value in
    let for_groups : AreRegrouped keys_of says rounded meaning_of folding (live_dimensions (filtered_at place All held)) table.rows inside.groups.items c.refilter_at.new.groups = rw (← filtered, ← c.deref_mut-2.ensures.value) c.in_ok-moved.ensures.groups in
    let for_wholes : AreRevalued keys_of says meaning_of folding (live_dimensions (filtered_at place All held)) table.rows inside.wholes.items c.refilter_at.new.wholes = rw (← filtered, ← c.deref_mut-3.ensures.value) c.in_ok-moved.ensures.wholes in
    let dimensions = given-back inside.dimensions.len held c.refilter_at.new.dimensions (filtered_at place All held) (search rules) filtered (filtered_at-length held place All) in
    let groups = given-back inside.groups.len inside.groups.items c.refilter_at.new.groups c.refilter_at.new.groups (search rules) refl (are_regrouped-length keys_of says rounded meaning_of folding (live_dimensions (filtered_at place All held)) table.rows inside.groups.items c.refilter_at.new.groups for_groups) in
    let wholes = given-back inside.wholes.len inside.wholes.items c.refilter_at.new.wholes c.refilter_at.new.wholes (search rules) refl (are_revalued-length keys_of says meaning_of folding (live_dimensions (filtered_at place All held)) table.rows inside.wholes.items c.refilter_at.new.wholes for_wholes) in
    let removed : c.remove.new.self.items ≡ remove held place = c.remove.ensures.items ∙ ap (λ ds. remove ds place) dimensions ∙ remove-filtered held place All in
    let dropped : c.drop_groups_of.new.groups.items ≡ filter (is_elsewhere id) c.refilter_at.new.groups = c.drop_groups_of.ensures ∙ ap (filter (is_elsewhere id)) groups in
    rw (removed, dropped, wholes, ← c.self.view_is)
    (disposed-state keys_of says rounded meaning_of folding (live_dimensions (filtered_at place All held)) table.rows table held inside.groups.items c.refilter_at.new.groups inside.wholes.items c.refilter_at.new.wholes inside.events id place c.remove.result c.self.invariant.state.distinct told for_groups for_wholes)
