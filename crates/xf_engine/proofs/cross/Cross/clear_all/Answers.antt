-- No dimension has a filter, and all values are those that were folded under none.
use Rattle.std.proofs.Common.{rules, length, map, sum_by, refl, ap, ◌∙◌}
use Rattle.std.proofs.lemmas.List.{length-map}
use Rattle.xf_engine.specs.Changes.{once_filtered, unfiltered}
use Rattle.xf_engine.specs.Folding.{AreFoldedFor, AreValuesFor, regrouped, revalued}
use Rattle.xf_engine.specs.Held.{held_moved, held_unfiltered, live_dimensions, state_of}
use Rattle.xf_engine.specs.Refolded.{AreRegrouped, AreRevalued}
use Rattle.xf_engine.specs.State.{IsState}
use Rattle.xf_filter.specs.declared.filter.Filter.TheVariants.{All}
use Rattle.xf_engine.proofs.Cleared.{cleared-live, cleared-moved, held-without_filters, holds-cleared}
use Rattle.xf_engine.proofs.Refolded.{are_regrouped-length, are_revalued-length, cross-refolded, fold-live, fold-places, fold-suit, fold-whole_suit, folded-length, given-back, moved-few, refolded-state, values-length}
use Rattle.xf_engine.proofs.Sound.{sound-without_filters}
use Rattle.xf_engine.proofs.cross.Cross.clear_all.Goals as goal

pub refold_values-requires-clause-live : goal.refold_values-requires-clause-live
refold_values-requires-clause-live g c = rw (c.as_slice.ensures.value, c.as_slice-2.ensures.value) (fold-live c.self.inside.dimensions.items c.self.inside.groups.items c.self.invariant.state.live)

pub refold_values-requires-clause-places : goal.refold_values-requires-clause-places
refold_values-requires-clause-places g c =
    rw (c.as_slice.ensures.value, c.as_slice-2.ensures.value)
    (fold-places g.A.Accessor.keys_of g.P.Predicate.says_to g.G.Rounding.rounded g.R.Reducer.meaning_of g.R.Reducer.folding (state_of c.self.inside.table c.self.inside.dimensions.items c.self.inside.groups.items c.self.inside.wholes.items c.self.inside.events) c.self.inside.groups.items c.self.invariant.entries)

pub refold_values-requires-clause-group_suit : goal.refold_values-requires-clause-group_suit
refold_values-requires-clause-group_suit g c =
    rw c.as_slice-2.ensures.value (fold-suit g.R.Reducer.fits_to c.self.inside.table.columns c.self.inside.table.rows c.self.inside.groups.items c.self.invariant.state.of_schema c.self.invariant.state.group_fit)

pub refold_values-requires-clause-whole_suit : goal.refold_values-requires-clause-whole_suit
refold_values-requires-clause-whole_suit g c =
    rw c.as_slice-3.ensures.value (fold-whole_suit g.R.Reducer.fits_to c.self.inside.table.columns c.self.inside.table.rows c.self.inside.wholes.items c.self.invariant.state.of_schema c.self.invariant.state.whole_fit)

pub clear_each-moved-requires : goal.clear_each-moved-requires
clear_each-moved-requires g c =
    rw c.deref_mut.ensures.value (moved-few g.A.Accessor.keys_of g.A.Accessor.fits_to g.A.Accessor.kind_of g.P.Predicate.keys_in g.R.Reducer.fits_to g.R.Reducer.field_count c.self.inside.table c.self.inside.dimensions.items c.self.inside.groups.items c.self.inside.wholes.items c.self.inside.events c.self.invariant.state c.self.invariant.keys)

pub put_values-requires-clause-groups : goal.put_values-requires-clause-groups
put_values-requires-clause-groups g c =
    let lives = map unfiltered (live_dimensions c.as_slice.result.now) in
    let rows = c.self.inside.table.rows in
    rw c.deref_mut-2.ensures.value (
    folded-length g.A.Accessor.keys_of g.P.Predicate.says_to g.G.Rounding.rounded g.R.Reducer.meaning_of g.R.Reducer.folding lives rows c.as_slice-2.result.now c.in_ok-folded.folded.groups.items c.in_ok-folded.ensures.groups
    ∙ ap length c.as_slice-2.ensures.value
    )

pub put_values-requires-clause-wholes : goal.put_values-requires-clause-wholes
put_values-requires-clause-wholes g c =
    let lives = map unfiltered (live_dimensions c.as_slice.result.now) in
    let rows = c.self.inside.table.rows in
    rw c.deref_mut-3.ensures.value (
    values-length g.A.Accessor.keys_of g.P.Predicate.says_to g.R.Reducer.meaning_of g.R.Reducer.folding lives rows c.as_slice-3.result.now c.in_ok-folded.folded.wholes.items c.in_ok-folded.ensures.wholes
    ∙ ap length c.as_slice-3.ensures.value
    )

pub invariant_of-self : goal.invariant_of-self
invariant_of-self g c =
    let keys_of = g.A.Accessor.keys_of in
    let says = g.P.Predicate.says_to in
    let rounded = g.G.Rounding.rounded in
    let meaning_of = g.R.Reducer.meaning_of in
    let folding = g.R.Reducer.folding in
    let inside = c.self.inside in
    let table = inside.table in
    let held = inside.dimensions.items in
    let lives = map unfiltered (live_dimensions held) in
    let own_groups = c.in_ok-folded.folded.groups.items in
    let own_wholes = c.in_ok-folded.folded.wholes.items in
    let folded : AreFoldedFor keys_of says rounded meaning_of folding lives table.rows inside.groups.items own_groups = rw (← c.as_slice.ensures.value, ← c.as_slice-2.ensures.value) c.in_ok-folded.ensures.groups in
    let values : AreValuesFor keys_of says meaning_of folding lives table.rows inside.wholes.items own_wholes = rw (← c.as_slice.ensures.value, ← c.as_slice-3.ensures.value) c.in_ok-folded.ensures.wholes in
    let for_groups : AreRegrouped keys_of says rounded meaning_of folding lives table.rows inside.groups.items c.put_values.new.groups = record { values = own_groups; folded = folded; placed = c.put_values.ensures.groups ∙ ap (λ gs. regrouped gs own_groups) c.deref_mut-2.ensures.value } in
    let for_wholes : AreRevalued keys_of says meaning_of folding lives table.rows inside.wholes.items c.put_values.new.wholes = record { values = own_wholes; folded = values; placed = c.put_values.ensures.wholes ∙ ap (λ ws. revalued ws own_wholes) c.deref_mut-3.ensures.value } in
    let dimensions = given-back inside.dimensions.len held c.clear_each-moved.new.dimensions (map held_unfiltered held) (search rules) (c.clear_each-moved.ensures.cleared ∙ ap (map held_unfiltered) c.deref_mut.ensures.value) (length-map held held_unfiltered) in
    let groups = given-back inside.groups.len inside.groups.items c.put_values.new.groups c.put_values.new.groups (search rules) refl (are_regrouped-length keys_of says rounded meaning_of folding lives table.rows inside.groups.items c.put_values.new.groups for_groups) in
    let wholes = given-back inside.wholes.len inside.wholes.items c.put_values.new.wholes c.put_values.new.wholes (search rules) refl (are_revalued-length keys_of says meaning_of folding lives table.rows inside.wholes.items c.put_values.new.wholes for_wholes) in
    let here = state_of table held inside.groups.items inside.wholes.items inside.events in
    let sound : IsState keys_of g.A.Accessor.fits_to g.A.Accessor.kind_of g.P.Predicate.keys_in g.R.Reducer.fits_to g.R.Reducer.field_count (state_of table (map held_unfiltered held) inside.groups.items inside.wholes.items (once_filtered inside.events)) =
    rw (held-without_filters table held inside.groups.items inside.wholes.items inside.events) (sound-without_filters keys_of g.A.Accessor.fits_to g.A.Accessor.kind_of g.P.Predicate.keys_in g.R.Reducer.fits_to g.R.Reducer.field_count here c.self.invariant.state) in
    rw (dimensions, groups, wholes, c.one_more-self-inside.ensures)
    (cross-refolded keys_of g.A.Accessor.fits_to g.A.Accessor.kind_of says g.P.Predicate.keys_in rounded g.R.Reducer.fits_to g.R.Reducer.field_count meaning_of folding lives table.rows table (map held_unfiltered held) inside.groups.items c.put_values.new.groups inside.wholes.items c.put_values.new.wholes (once_filtered inside.events)
    sound (holds-cleared keys_of table.rows held c.self.invariant.keys) (cleared-live held) refl for_groups for_wholes)

pub returns-clause-moved : goal.returns-clause-moved
returns-clause-moved g c =
    let says = g.P.Predicate.says_to in
    rw (← c.self.view_is) (
    c.clear_each-moved.ensures.moved
    ∙ ap (sum_by (held_moved says All)) c.deref_mut.ensures.value
    ∙ cleared-moved g.A.Accessor.keys_of says c.self.inside.table.rows c.self.inside.dimensions.items c.self.invariant.keys
    )

pub returns-clause-state : goal.returns-clause-state
returns-clause-state g c =
    let keys_of = g.A.Accessor.keys_of in
    let says = g.P.Predicate.says_to in
    let rounded = g.G.Rounding.rounded in
    let meaning_of = g.R.Reducer.meaning_of in
    let folding = g.R.Reducer.folding in
    let inside = c.self.inside in
    let table = inside.table in
    let held = inside.dimensions.items in
    let lives = map unfiltered (live_dimensions held) in
    let own_groups = c.in_ok-folded.folded.groups.items in
    let own_wholes = c.in_ok-folded.folded.wholes.items in
    let folded : AreFoldedFor keys_of says rounded meaning_of folding lives table.rows inside.groups.items own_groups = rw (← c.as_slice.ensures.value, ← c.as_slice-2.ensures.value) c.in_ok-folded.ensures.groups in
    let values : AreValuesFor keys_of says meaning_of folding lives table.rows inside.wholes.items own_wholes = rw (← c.as_slice.ensures.value, ← c.as_slice-3.ensures.value) c.in_ok-folded.ensures.wholes in
    let for_groups : AreRegrouped keys_of says rounded meaning_of folding lives table.rows inside.groups.items c.put_values.new.groups = record { values = own_groups; folded = folded; placed = c.put_values.ensures.groups ∙ ap (λ gs. regrouped gs own_groups) c.deref_mut-2.ensures.value } in
    let for_wholes : AreRevalued keys_of says meaning_of folding lives table.rows inside.wholes.items c.put_values.new.wholes = record { values = own_wholes; folded = values; placed = c.put_values.ensures.wholes ∙ ap (λ ws. revalued ws own_wholes) c.deref_mut-3.ensures.value } in
    let dimensions = given-back inside.dimensions.len held c.clear_each-moved.new.dimensions (map held_unfiltered held) (search rules) (c.clear_each-moved.ensures.cleared ∙ ap (map held_unfiltered) c.deref_mut.ensures.value) (length-map held held_unfiltered) in
    let groups = given-back inside.groups.len inside.groups.items c.put_values.new.groups c.put_values.new.groups (search rules) refl (are_regrouped-length keys_of says rounded meaning_of folding lives table.rows inside.groups.items c.put_values.new.groups for_groups) in
    let wholes = given-back inside.wholes.len inside.wholes.items c.put_values.new.wholes c.put_values.new.wholes (search rules) refl (are_revalued-length keys_of says meaning_of folding lives table.rows inside.wholes.items c.put_values.new.wholes for_wholes) in
    rw (dimensions, groups, wholes, c.one_more-self-inside.ensures, ← c.self.view_is) (
    refolded-state keys_of says rounded meaning_of folding lives table.rows table (map held_unfiltered held) inside.groups.items c.put_values.new.groups inside.wholes.items c.put_values.new.wholes (once_filtered inside.events) for_groups for_wholes
    ∙ held-without_filters table held inside.groups.items inside.wholes.items inside.events
    )
