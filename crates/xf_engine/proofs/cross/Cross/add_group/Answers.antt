-- One group more, which was folded over all rows of the table, under its dimension.
use Rattle.std.proofs.Common.{rules, ◌≡◌, inr, ◌+◌, ◌<◌, is_some, List, Some, [], ◌∷◌, ◌++◌, true, false, length, map, slice_get, refl, sym, ap, subst, ◌∙◌, arith}
use Rattle.std.proofs.lemmas.List.{length-map}
use Rattle.std.specs.List.{position}
use Rattle.xf_base.specs.Bounds.{Bounds}
use Rattle.xf_base.specs.declared.key.Key.{Key}
use Rattle.xf_engine.specs.Answers.{entries_at}
use Rattle.xf_engine.specs.Changes.{with_group}
use Rattle.xf_engine.specs.Held.{held_group_ids, live_dimensions, live_group, live_groups, live_whole, live_wholes, places_under, state_of}
use Rattle.xf_engine.specs.State.{IsFreeId, IsState, dimension_place, group_ids, has_id, is_taken}
use Rattle.xf_engine.specs.declared.grouping.Grouping.{Grouping}
use Rattle.xf_engine.proofs.Answered.{accepted-group, refused-groups, refused-no_dimension}
use Rattle.xf_engine.proofs.Coming.{dimension-among, holds-on_err}
use Rattle.xf_engine.proofs.HeldStates.{held-with_group, ids-live_group, taken-dimension}
use Rattle.xf_engine.proofs.HeldValues.{entries-group_added}
use Rattle.xf_engine.proofs.Sound.{sound-with_group}
use Rattle.xf_engine.proofs.cross.Cross.add_group.Goals as goal
use Rattle.xf_group.specs.Group.{Grouped, keys_in, meanings}
use Rattle.xf_group.specs.declared.entry.Entry.{Entry}
use Rattle.xf_group.specs.declared.order.GroupOrder.TheVariants.{Natural}

pub returns-in_default-clause-refused : goal.returns-in_default-clause-refused
returns-in_default-clause-refused g c = inr (refused-no_dimension c.args.self.now c.args.dimension.0 (ap is_some (sym c.place_of.ensures ∙ c.in_default.is)))

pub returns-then-len-limit-clause-refused : goal.returns-then-len-limit-clause-refused
returns-then-len-limit-clause-refused g c =
    let inside = c.self.inside in
    let here = state_of inside.table inside.dimensions.items inside.groups.items inside.wholes.items inside.events in
    let told : dimension_place here c.args.dimension.0 ≡ Some c.in-Some.own = ap (λ s. dimension_place s c.args.dimension.0) c.self.view_is ∙ sym c.place_of.ensures ∙ c.in-Some.is in
    let limit : c.behind-self.inside.groups ≡ inside.table.limits.groups = ap (λ (b : Bounds). b.groups) (c.behind-self.view_is ∙ c.limits.ensures) in
    let groups : length (live_groups inside.groups.items) ≡ c.len.result = length-map inside.groups.items live_group ∙ search rules in
    let wholes : length (live_wholes inside.wholes.items) ≡ c.len-2.result = length-map inside.wholes.items live_whole ∙ search rules in
    inr (rw (limit, ← c.self.view_is) (refused-groups here c.args.dimension.0 (ap is_some told) (omega (arith, limit, groups, wholes, c.if-len-limit.true))))

pub fold_group-requires-clause-own : goal.fold_group-requires-clause-own
fold_group-requires-clause-own g c =
    let dimensions = c.self.inside.dimensions.items in
    let told : position (has_id c.args.dimension.0) (live_dimensions dimensions) ≡ Some c.in-Some.own = ap (λ s. dimension_place s c.args.dimension.0) c.self.view_is ∙ sym c.place_of.ensures ∙ c.in-Some.is in
    rw c.as_slice-2.ensures.value (dimension-among c.args.dimension.0 dimensions c.in-Some.own told)

pub fold_group-requires-clause-places : goal.fold_group-requires-clause-places
fold_group-requires-clause-places g c =
    c.new-empty.ensures.places
    ∙ ap (places_under g.A.Accessor.keys_of (g.G.Rounding.rounded c.args.rounding) (slice_get (live_dimensions c.as_slice-2.result.now) c.in-Some.own)) (sym c.new-none.ensures)

pub fold_group-requires-clause-none : goal.fold_group-requires-clause-none
fold_group-requires-clause-none g c =
    let empty = c.new-empty.result in
    ap (λ (entries : List (Entry g.row.R-Value.Denot)). meanings g.R.Reducer.meaning_of entries) c.new-empty.ensures.entries
    ∙ ap (λ (lists : List (List Key)). map (λ key. (key, (g.R.Reducer.folding empty.reducer).initial)) (keys_in lists)) (sym c.new-empty.ensures.places)

pub invariant_of-self : goal.invariant_of-self
invariant_of-self g c = rw c.in_err-push.ensures.items c.self.invariant

pub returns-in_err-push-clause-err : goal.returns-in_err-push-clause-err
returns-in_err-push-clause-err g c = holds-on_err c.from_residual-in_err-push.result _ (rw c.in_err-push.ensures.items c.self.view_is)

pub invariant_of-self-2 : goal.invariant_of-self-2
invariant_of-self-2 g c =
    let keys_of = g.A.Accessor.keys_of in
    let says = g.P.Predicate.says_to in
    let rounded = g.G.Rounding.rounded in
    let meaning_of = g.R.Reducer.meaning_of in
    let folding = g.R.Reducer.folding in
    let inside = c.self.inside in
    let table = inside.table in
    let dimensions = inside.dimensions.items in
    let groups = inside.groups.items in
    let wholes = inside.wholes.items in
    let here = state_of table dimensions groups wholes inside.events in
    let id = c.free_group_id-id.result in
    let own = c.in-Some.own in
    let rounding = c.args.rounding in
    let reducer = c.args.reducer in
    let told : position (has_id c.args.dimension.0) (live_dimensions dimensions) ≡ Some own = ap (λ s. dimension_place s c.args.dimension.0) c.self.view_is ∙ sym c.place_of.ensures ∙ c.in-Some.is in
    let limit : c.behind-self.inside.groups ≡ table.limits.groups = ap (λ (b : Bounds). b.groups) (c.behind-self.view_is ∙ c.limits.ensures) in
    let long_groups : length (live_groups groups) ≡ c.len.result = length-map groups live_group ∙ search rules in
    let long_wholes : length (live_wholes wholes) ≡ c.len-2.result = length-map wholes live_whole ∙ search rules in
    let room : length here.groups + length here.wholes < here.limits.groups = omega (arith, limit, long_groups, long_wholes, c.if-len-limit.false) in
    let group : Grouping g.row.G.Denot (Grouped g.row.R.Denot g.row.R-Value.Denot) = record { id = id; dimension = c.args.dimension; rounding = rounding; order = Natural; group = c.in_ok-group.group } in
    let items : c.push.new.self.items ≡ groups ++ group ∷ [] = c.in_ok-push.ensures.items in
    let free : is_taken (group_ids here.groups) id.0 ≡ false = ap (λ ids. is_taken ids id.0) (ids-live_group groups) ∙ ap (λ held. is_taken (held_group_ids held) id.0) (sym c.as_slice.ensures.value) ∙ c.free_group_id-id.ensures.free in
    let taken = taken-dimension c.args.dimension.0 own dimensions told in
    let fit = subst (λ s. g.R.Reducer.fits_to reducer s.columns ≡ true) (sym c.self.view_is) c.requires in
    let some : 0 < g.R.Reducer.field_count reducer = let fields = g.met.R.Reducer.few_fields reducer in omega (arith, fields.0) in
    let rows = c.new-none.result ++ c.rows.result.now in
    let same_rows = ap (λ none. none ++ c.rows.result.now) c.new-none.ensures ∙ c.rows.ensures.rows in
    let same_reducer = c.in_ok-group.ensures.reducer ∙ c.new-empty.ensures.reducer in
    let places : c.in_ok-group.group.places ≡ places_under keys_of (rounded rounding) (slice_get (live_dimensions dimensions) own) rows = c.in_ok-group.ensures.places ∙ ap (λ held. places_under keys_of (rounded rounding) (slice_get (live_dimensions held) own) rows) c.as_slice-2.ensures.value in
    let entries : meanings meaning_of c.in_ok-group.group.entries ≡ entries_at keys_of says (live_dimensions dimensions) rows (rounded rounding) (folding reducer) own = c.in_ok-group.ensures.entries ∙ ap (λ held. entries_at keys_of says (live_dimensions held) rows (rounded rounding) (folding c.new-empty.result.reducer) own) c.as_slice-2.ensures.value ∙ ap (λ r. entries_at keys_of says (live_dimensions dimensions) rows (rounded rounding) (folding r) own) c.new-empty.ensures.reducer in
    let sound = IsState keys_of g.A.Accessor.fits_to g.A.Accessor.kind_of g.P.Predicate.keys_in g.R.Reducer.fits_to g.R.Reducer.field_count in
    let added = sound-with_group keys_of g.A.Accessor.fits_to g.A.Accessor.kind_of g.P.Predicate.keys_in g.R.Reducer.fits_to g.R.Reducer.field_count here id.0 c.args.dimension.0 rounding reducer c.self.invariant.state free taken fit some room in
    let shown = held-with_group table dimensions groups wholes inside.events group refl ∙ ap (λ r. with_group here id.0 c.args.dimension.0 rounding r) same_reducer in
    rw items (record {
      state = subst sound (sym shown) added;
      keys = c.self.invariant.keys;
      entries = entries-group_added keys_of says rounded meaning_of folding table dimensions groups wholes inside.events rows own reducer group told same_rows same_reducer places entries c.self.invariant.entries;
      values = c.self.invariant.values;
    })

pub returns-clause-id : goal.returns-clause-id
returns-clause-id g c =
    let ids = ids-live_group c.self.inside.groups.items ∙ ap held_group_ids (sym c.as_slice.ensures.value) in
    rw (← c.self.view_is) (subst (λ all. IsFreeId all c.free_group_id-id.result.0) (sym ids) (record { free = c.free_group_id-id.ensures.free; least = c.free_group_id-id.ensures.least }))

pub returns-clause-accepted : goal.returns-clause-accepted
returns-clause-accepted g c =
    let inside = c.self.inside in
    let here = state_of inside.table inside.dimensions.items inside.groups.items inside.wholes.items inside.events in
    let told : dimension_place here c.args.dimension.0 ≡ Some c.in-Some.own = ap (λ s. dimension_place s c.args.dimension.0) c.self.view_is ∙ sym c.place_of.ensures ∙ c.in-Some.is in
    let limit : c.behind-self.inside.groups ≡ inside.table.limits.groups = ap (λ (b : Bounds). b.groups) (c.behind-self.view_is ∙ c.limits.ensures) in
    let groups : length (live_groups inside.groups.items) ≡ c.len.result = length-map inside.groups.items live_group ∙ search rules in
    let wholes : length (live_wholes inside.wholes.items) ≡ c.len-2.result = length-map inside.wholes.items live_whole ∙ search rules in
    rw (← c.self.view_is) (accepted-group here c.args.dimension.0 (ap is_some told) (omega (arith, limit, groups, wholes, c.if-len-limit.false)))
