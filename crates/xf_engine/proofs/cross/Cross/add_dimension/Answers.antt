-- One dimension more, without a filter: no group and no whole sees it.
use Rattle.std.proofs.Common.{rules, ◌≡◌, inr, ◌+◌, ◌<◌, ◌≤◌, Some, true, false, [], ◌∷◌, ◌++◌, length, map, refl, sym, ap, subst, ◌∙◌, arith}
use Rattle.std.proofs.lemmas.List.{length-map}
use Rattle.std.specs.List.{sum_by}
use Rattle.xf_base.specs.Bounds.{Bounds}
use Rattle.xf_engine.specs.Held.{HoldsKeysOf, held_count, held_ids, live_dimension, live_dimensions, state_of}
use Rattle.xf_engine.specs.State.{IsFreeId, IsState, dimension_ids, entries_by, entry_count, is_taken}
use Rattle.xf_engine.specs.declared.dimension.Dimension.{Dimension}
use Rattle.xf_engine.specs.declared.dimension_refusal.DimensionRefusal.TheVariants.{TooManyEntries}
use Rattle.xf_filter.specs.declared.filter.Filter.TheVariants.{All}
use Rattle.xf_engine.proofs.Added.{accepted-dimension, refused-dimension}
use Rattle.xf_engine.proofs.ById.{all-push}
use Rattle.xf_engine.proofs.Coming.{holds-on_err, refused-dimensions}
use Rattle.xf_engine.proofs.HeldCounts.{held-entries, sum-map}
use Rattle.xf_engine.proofs.HeldStates.{held-with_dimension, ids-live}
use Rattle.xf_engine.proofs.HeldValues.{entries-dimension_added, values-dimension_added}
use Rattle.xf_engine.proofs.Sound.{sound-with_dimension}
use Rattle.xf_engine.proofs.cross.Cross.add_dimension.Goals as goal

pub returns-then-len-limit-clause-refused : goal.returns-then-len-limit-clause-refused
returns-then-len-limit-clause-refused g c =
    let inside = c.self.inside in
    let here = state_of inside.table inside.dimensions.items inside.groups.items inside.wholes.items inside.events in
    let most : c.behind-self.inside.dimensions ≡ inside.table.limits.dimensions = ap (λ (b : Bounds). b.dimensions) (c.behind-self.view_is ∙ c.limits.ensures) in
    let long : length (live_dimensions inside.dimensions.items) ≡ c.len.result = length-map inside.dimensions.items live_dimension ∙ search rules in
    inr (rw (most, ← c.self.view_is) (refused-dimensions g.A.Accessor.keys_of here c.args.accessor (omega (arith, most, long, c.if-len-limit.true))))

pub overflow_sub-limit : goal.overflow_sub-limit
overflow_sub-limit g c =
    let table = c.self.inside.table in
    let items = c.self.inside.dimensions.items in
    let limit : c.behind-self-2.inside.entries ≡ table.limits.entries = ap (λ (b : Bounds). b.entries) (c.behind-self-2.view_is ∙ c.limits-2.ensures) in
    let have = c.entry_count-have.ensures ∙ ap (sum_by held_count) c.as_slice-2.ensures.value ∙ held-entries g.A.Accessor.keys_of table.rows items c.self.invariant.keys in
    omega (arith, limit, have, c.self.invariant.state.few_entries)

pub returns-then-more-limit-clause-refused : goal.returns-then-more-limit-clause-refused
returns-then-more-limit-clause-refused g c =
    let keys_of = g.A.Accessor.keys_of in
    let table = c.self.inside.table in
    let items = c.self.inside.dimensions.items in
    let groups = c.self.inside.groups.items in
    let wholes = c.self.inside.wholes.items in
    let here = state_of table items groups wholes c.self.inside.events in
    let limit : c.behind-self-2.inside.entries ≡ table.limits.entries = ap (λ (b : Bounds). b.entries) (c.behind-self-2.view_is ∙ c.limits-2.ensures) in
    let most : c.behind-self.inside.dimensions ≡ table.limits.dimensions = ap (λ (b : Bounds). b.dimensions) (c.behind-self.view_is ∙ c.limits.ensures) in
    let long : length (live_dimensions items) ≡ c.len.result = length-map items live_dimension ∙ search rules in
    let have : c.entry_count-have.result ≡ entry_count keys_of here table.rows = c.entry_count-have.ensures ∙ ap (sum_by held_count) c.as_slice-2.ensures.value ∙ held-entries keys_of table.rows items c.self.invariant.keys in
    let keys : c.in_ok-keys.keys ≡ map (keys_of c.args.accessor) table.rows = c.in_ok-keys.ensures ∙ ap (map (keys_of c.args.accessor)) (c.as_slice.ensures ∙ c.rows.ensures.rows) in
    let more : c.item_count-more.result ≡ entries_by keys_of table.rows c.args.accessor = c.item_count-more.ensures.count ∙ ap (sum_by length) keys ∙ sum-map length (keys_of c.args.accessor) table.rows in
    let few : length here.dimensions < table.limits.dimensions = omega (arith, most, long, c.if-len-limit.false) in
    let full : table.limits.entries < entry_count keys_of here table.rows + entries_by keys_of table.rows c.args.accessor = omega (arith, limit, have, more, c.if-more-limit.true, c.self.invariant.state.few_entries) in
    inr (rw (← c.self.view_is) (refused-dimension keys_of here c.args.accessor few full ∙ ap Some (sym (λ i. TooManyEntries (have i) (more i) (limit i)))))

pub invariant_of-self : goal.invariant_of-self
invariant_of-self g c = rw c.in_err-push.ensures.items c.self.invariant

pub returns-in_err-push-clause-err : goal.returns-in_err-push-clause-err
returns-in_err-push-clause-err g c = holds-on_err c.from_residual-in_err-push.result _ (rw c.in_err-push.ensures.items c.self.view_is)

pub invariant_of-self-2 : goal.invariant_of-self-2
invariant_of-self-2 g c =
    let keys_of = g.A.Accessor.keys_of in
    let table = c.self.inside.table in
    let items = c.self.inside.dimensions.items in
    let groups = c.self.inside.groups.items in
    let wholes = c.self.inside.wholes.items in
    let here = state_of table items groups wholes c.self.inside.events in
    let limit : c.behind-self-2.inside.entries ≡ table.limits.entries = ap (λ (b : Bounds). b.entries) (c.behind-self-2.view_is ∙ c.limits-2.ensures) in
    let most : c.behind-self.inside.dimensions ≡ table.limits.dimensions = ap (λ (b : Bounds). b.dimensions) (c.behind-self.view_is ∙ c.limits.ensures) in
    let long : length (live_dimensions items) ≡ c.len.result = length-map items live_dimension ∙ search rules in
    let have : c.entry_count-have.result ≡ entry_count keys_of here table.rows = c.entry_count-have.ensures ∙ ap (sum_by held_count) c.as_slice-2.ensures.value ∙ held-entries keys_of table.rows items c.self.invariant.keys in
    let keys : c.in_ok-keys.keys ≡ map (keys_of c.args.accessor) table.rows = c.in_ok-keys.ensures ∙ ap (map (keys_of c.args.accessor)) (c.as_slice.ensures ∙ c.rows.ensures.rows) in
    let more : c.item_count-more.result ≡ entries_by keys_of table.rows c.args.accessor = c.item_count-more.ensures.count ∙ ap (sum_by length) keys ∙ sum-map length (keys_of c.args.accessor) table.rows in
    let few : length here.dimensions < table.limits.dimensions = omega (arith, most, long, c.if-len-limit.false) in
    let room : entry_count keys_of here table.rows + entries_by keys_of table.rows c.args.accessor ≤ table.limits.entries = omega (arith, limit, have, more, c.if-more-limit.false, c.self.invariant.state.few_entries) in
    let dimension : Dimension g.row.A.Denot g.row.P.Denot = record { id = c.free_dimension_id-id.result; accessor = c.args.accessor; filter = All; keys = c.in_ok-keys.keys } in
    let pushed : c.push.new.self.items ≡ items ++ dimension ∷ [] = search rules in
    let free : is_taken (dimension_ids here.dimensions) c.free_dimension_id-id.result.0 ≡ false = ap (λ ids. is_taken ids c.free_dimension_id-id.result.0) (ids-live items) ∙ ap (λ held. is_taken (held_ids held) c.free_dimension_id-id.result.0) (sym c.as_slice-3.ensures.value) ∙ c.free_dimension_id-id.ensures.free in
    let fit = subst (λ s. g.A.Accessor.fits_to c.args.accessor s.columns ≡ true) (sym c.self.view_is) c.requires in
    let sound = IsState keys_of g.A.Accessor.fits_to g.A.Accessor.kind_of g.P.Predicate.keys_in g.R.Reducer.fits_to g.R.Reducer.field_count in
    rw pushed (record {
      state = subst sound (sym (held-with_dimension table items groups wholes c.self.inside.events dimension refl))
          (sound-with_dimension keys_of g.A.Accessor.fits_to g.A.Accessor.kind_of g.P.Predicate.keys_in g.R.Reducer.fits_to g.R.Reducer.field_count here c.free_dimension_id-id.result.0 c.args.accessor c.self.invariant.state free fit few room);
      keys = all-push (HoldsKeysOf keys_of table.rows) items dimension c.self.invariant.keys keys;
      entries = entries-dimension_added keys_of g.P.Predicate.says_to g.G.Rounding.rounded g.R.Reducer.meaning_of g.R.Reducer.folding table items groups wholes c.self.inside.events dimension refl free c.self.invariant.state.live c.self.invariant.entries;
      values = values-dimension_added keys_of g.P.Predicate.says_to g.R.Reducer.meaning_of g.R.Reducer.folding table items groups wholes c.self.inside.events dimension refl c.self.invariant.values;
    })

pub returns-clause-id : goal.returns-clause-id
returns-clause-id g c =
    let ids = ids-live c.self.inside.dimensions.items ∙ ap held_ids (sym c.as_slice-3.ensures.value) in
    rw (← c.self.view_is) (subst (λ all. IsFreeId all c.free_dimension_id-id.result.0) (sym ids) (record { free = c.free_dimension_id-id.ensures.free; least = c.free_dimension_id-id.ensures.least }))

pub returns-clause-accepted : goal.returns-clause-accepted
returns-clause-accepted g c =
    let keys_of = g.A.Accessor.keys_of in
    let table = c.self.inside.table in
    let items = c.self.inside.dimensions.items in
    let groups = c.self.inside.groups.items in
    let wholes = c.self.inside.wholes.items in
    let here = state_of table items groups wholes c.self.inside.events in
    let limit : c.behind-self-2.inside.entries ≡ table.limits.entries = ap (λ (b : Bounds). b.entries) (c.behind-self-2.view_is ∙ c.limits-2.ensures) in
    let most : c.behind-self.inside.dimensions ≡ table.limits.dimensions = ap (λ (b : Bounds). b.dimensions) (c.behind-self.view_is ∙ c.limits.ensures) in
    let long : length (live_dimensions items) ≡ c.len.result = length-map items live_dimension ∙ search rules in
    let have : c.entry_count-have.result ≡ entry_count keys_of here table.rows = c.entry_count-have.ensures ∙ ap (sum_by held_count) c.as_slice-2.ensures.value ∙ held-entries keys_of table.rows items c.self.invariant.keys in
    let keys : c.in_ok-keys.keys ≡ map (keys_of c.args.accessor) table.rows = c.in_ok-keys.ensures ∙ ap (map (keys_of c.args.accessor)) (c.as_slice.ensures ∙ c.rows.ensures.rows) in
    let more : c.item_count-more.result ≡ entries_by keys_of table.rows c.args.accessor = c.item_count-more.ensures.count ∙ ap (sum_by length) keys ∙ sum-map length (keys_of c.args.accessor) table.rows in
    let few : length here.dimensions < table.limits.dimensions = omega (arith, most, long, c.if-len-limit.false) in
    let room : entry_count keys_of here table.rows + entries_by keys_of table.rows c.args.accessor ≤ table.limits.entries = omega (arith, limit, have, more, c.if-more-limit.false, c.self.invariant.state.few_entries) in
    rw (← c.self.view_is) (accepted-dimension keys_of here c.args.accessor few room)
