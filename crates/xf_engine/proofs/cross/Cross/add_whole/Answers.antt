-- One whole more, which was folded over all rows of the table.
use Rattle.std.proofs.Common.{rules, ◌≡◌, inr, ◌+◌, ◌<◌, [], ◌∷◌, ◌++◌, true, false, length, sym, ap, subst, ◌∙◌, arith}
use Rattle.std.proofs.lemmas.List.{length-map}
use Rattle.xf_base.specs.Bounds.{Bounds}
use Rattle.xf_engine.specs.Held.{held_whole_ids, live_dimensions, live_group, live_groups, live_whole, live_wholes, state_of}
use Rattle.xf_engine.specs.State.{IsFreeId, IsState, dimensions_of, is_taken, whole_ids}
use Rattle.xf_engine.specs.declared.whole.Whole.{Whole}
use Rattle.xf_engine.proofs.Answered.{accepted-whole, refused-wholes}
use Rattle.xf_engine.proofs.Coming.{holds-on_err, joined}
use Rattle.xf_engine.proofs.HeldStates.{held-with_whole, ids-live_whole}
use Rattle.xf_engine.proofs.HeldValues.{values-whole_added}
use Rattle.xf_engine.proofs.Sound.{sound-with_whole}
use Rattle.xf_engine.proofs.cross.Cross.add_whole.Goals as goal
use Rattle.xf_model.specs.Group.{whole_value}

pub returns-then-len-limit-clause-refused : goal.returns-then-len-limit-clause-refused
returns-then-len-limit-clause-refused g c =
    let inside = c.self.inside in
    let here = state_of inside.table inside.dimensions.items inside.groups.items inside.wholes.items inside.events in
    let limit : c.behind-self.inside.groups ≡ inside.table.limits.groups = ap (λ (b : Bounds). b.groups) (c.behind-self.view_is ∙ c.limits.ensures) in
    let groups : length (live_groups inside.groups.items) ≡ c.len.result = length-map inside.groups.items live_group ∙ search rules in
    let wholes : length (live_wholes inside.wholes.items) ≡ c.len-2.result = length-map inside.wholes.items live_whole ∙ search rules in
    inr (rw (limit, ← c.self.view_is) (refused-wholes here (omega (arith, limit, groups, wholes, c.if-len-limit.true))))

pub invariant_of-self : goal.invariant_of-self
invariant_of-self g c = rw c.in_err-push.ensures.items c.self.invariant

pub returns-in_err-push-clause-err : goal.returns-in_err-push-clause-err
returns-in_err-push-clause-err g c =
    holds-on_err c.from_residual-in_err-push.result _ (rw c.in_err-push.ensures.items c.self.view_is)

pub invariant_of-self-2 : goal.invariant_of-self-2
invariant_of-self-2 g c =
    let keys_of = g.A.Accessor.keys_of in
    let says = g.P.Predicate.says_to in
    let meaning_of = g.R.Reducer.meaning_of in
    let folding = g.R.Reducer.folding in
    let inside = c.self.inside in
    let table = inside.table in
    let dimensions = inside.dimensions.items in
    let groups = inside.groups.items in
    let wholes = inside.wholes.items in
    let here = state_of table dimensions groups wholes inside.events in
    let id = c.free_whole_id-id.result in
    let reducer = c.args.reducer in
    let limit : c.behind-self.inside.groups ≡ table.limits.groups = ap (λ (b : Bounds). b.groups) (c.behind-self.view_is ∙ c.limits.ensures) in
    let long_groups : length (live_groups groups) ≡ c.len.result = length-map groups live_group ∙ search rules in
    let long_wholes : length (live_wholes wholes) ≡ c.len-2.result = length-map wholes live_whole ∙ search rules in
    let room : length here.groups + length here.wholes < here.limits.groups = omega (arith, limit, long_groups, long_wholes, c.if-len-limit.false) in
    let whole : Whole g.row.R.Denot g.row.R-Value.Denot = record { id = id; reducer = reducer; value = c.in_ok-value.value } in
    let items : c.push.new.self.items ≡ wholes ++ whole ∷ [] = c.in_ok-push.ensures.items in
    let free : is_taken (whole_ids here.wholes) id.0 ≡ false = ap (λ ids. is_taken ids id.0) (ids-live_whole wholes) ∙ ap (λ held. is_taken (held_whole_ids held) id.0) (sym c.as_slice.ensures.value) ∙ c.free_whole_id-id.ensures.free in
    let fit = subst (λ s. g.R.Reducer.fits_to reducer s.columns ≡ true) (sym c.self.view_is) c.requires in
    let rows = c.rows.result.now ++ c.new-none.result in
    let value : meaning_of c.in_ok-value.value ≡ whole_value (folding reducer) (dimensions_of keys_of says (live_dimensions dimensions)) rows = c.in_ok-value.ensures ∙ ap (λ held. whole_value (folding reducer) (dimensions_of keys_of says (live_dimensions held)) rows) c.as_slice-2.ensures.value in
    let sound = IsState keys_of g.A.Accessor.fits_to g.A.Accessor.kind_of g.P.Predicate.keys_in g.R.Reducer.fits_to g.R.Reducer.field_count in
    rw items (record {
      state = subst sound (sym (held-with_whole table dimensions groups wholes inside.events whole))
          (sound-with_whole keys_of g.A.Accessor.fits_to g.A.Accessor.kind_of g.P.Predicate.keys_in g.R.Reducer.fits_to g.R.Reducer.field_count here id.0 reducer c.self.invariant.state free fit room);
      keys = c.self.invariant.keys;
      entries = c.self.invariant.entries;
      values = values-whole_added keys_of says meaning_of folding table dimensions groups wholes inside.events rows whole (joined c.rows.ensures.rows c.new-none.ensures) value c.self.invariant.values;
    })

pub returns-clause-id : goal.returns-clause-id
returns-clause-id g c =
    let ids = ids-live_whole c.self.inside.wholes.items ∙ ap held_whole_ids (sym c.as_slice.ensures.value) in
    rw (← c.self.view_is) (subst (λ all. IsFreeId all c.free_whole_id-id.result.0) (sym ids) (record { free = c.free_whole_id-id.ensures.free; least = c.free_whole_id-id.ensures.least }))

pub returns-clause-accepted : goal.returns-clause-accepted
returns-clause-accepted g c =
    let inside = c.self.inside in
    let here = state_of inside.table inside.dimensions.items inside.groups.items inside.wholes.items inside.events in
    let limit : c.behind-self.inside.groups ≡ inside.table.limits.groups = ap (λ (b : Bounds). b.groups) (c.behind-self.view_is ∙ c.limits.ensures) in
    let groups : length (live_groups inside.groups.items) ≡ c.len.result = length-map inside.groups.items live_group ∙ search rules in
    let wholes : length (live_wholes inside.wholes.items) ≡ c.len-2.result = length-map inside.wholes.items live_whole ∙ search rules in
    rw (← c.self.view_is) (accepted-whole here (omega (arith, limit, groups, wholes, c.if-len-limit.false)))
