use Rattle.std.proofs.Common.{inr, not, option_map, sym, ap, ◌∙◌}
use Rattle.std.specs.List.{find, flat_map, range_with_len}
use Rattle.xf_engine.specs.Held.{held_ids}
use Rattle.xf_engine.specs.Listing.{place_at}
use Rattle.xf_engine.specs.State.{id_numbers, is_taken}
use Rattle.xf_engine.specs.declared.list_refusal.ListRefusal.TheVariants.{NoDimension}
use Rattle.xf_engine.proofs.HeldStates.{ids-live}
use Rattle.xf_engine.proofs.ListedPlaces.{filtered-rows}
use Rattle.xf_engine.proofs.Passes.{hold_each-rows}
use Rattle.xf_engine.proofs.cross.Cross.all_filtered.Goals as goal

pub returns-in-Some-clause-refused : goal.returns-in-Some-clause-refused
returns-in-Some-clause-refused g c =
    let ids = id_numbers c.args.ignored.now in
    let items = c.self.inside.dimensions.items in
    let missing = ap (λ all. find (λ id. not (is_taken all id)) ids) (ids-live items ∙ ap held_ids (sym c.as_slice.ensures.value)) ∙ sym c.first_missing.ensures ∙ c.in-Some.is in
    rw (← c.self.view_is) (inr (ap (option_map NoDimension) missing))

pub filtered_places-requires : goal.filtered_places-requires
filtered_places-requires g c =
    rw (c.as_slice-2.ensures.value, c.len-2.ensures) (hold_each-rows g.A.Accessor.keys_of c.self.inside.table.rows c.self.inside.dimensions.items c.self.invariant.keys)

pub returns-clause-places : goal.returns-clause-places
returns-clause-places g c =
    let ids = id_numbers c.args.ignored.now in
    let says = g.P.Predicate.says_to in
    rw (← c.self.view_is) (
    c.in_ok-filtered_places.ensures
    ∙ ap (λ held. flat_map (place_at says held ids) (range_with_len 0 c.len-2.result)) c.as_slice-2.ensures.value
    ∙ ap (λ count. flat_map (place_at says c.self.inside.dimensions.items ids) (range_with_len 0 count)) c.len-2.ensures
    ∙ filtered-rows g.A.Accessor.keys_of says c.self.inside.table.rows c.self.inside.dimensions.items ids c.self.invariant.keys
    )

pub returns-clause-accepted : goal.returns-clause-accepted
returns-clause-accepted g c =
    let ids = id_numbers c.args.ignored.now in
    let items = c.self.inside.dimensions.items in
    let missing = ap (λ all. find (λ id. not (is_taken all id)) ids) (ids-live items ∙ ap held_ids (sym c.as_slice.ensures.value)) ∙ sym c.first_missing.ensures ∙ c.in_default.is in
    rw (← c.self.view_is) (ap (option_map NoDimension) missing)
