use Rattle.std.proofs.Common.{rules, ◌≡◌, ◌<◌, ◌≤◌, true, false, not, is_some, Some, get_or, length, sym, ap, ◌∙◌, arith}
use Rattle.std.proofs.lemmas.List.{get_or-map, length-map, take_all}
use Rattle.std.specs.List.{list_any}
use Rattle.xf_engine.specs.Held.{held_ids}
use Rattle.xf_engine.specs.State.{id_numbers, is_taken}
use Rattle.xf_engine.specs.declared.ids.DimensionId.{DimensionId}
use Rattle.xf_engine.proofs.ListedPlaces.{any-next, find-first, find-nothing}
use Rattle.xf_engine.proofs.FreeId.{taken_dimension}
use Rattle.xf_engine.proofs.filtered.first_missing.Goals as goal

pub returns-then-is_none : goal.returns-then-is_none
returns-then-is_none g c =
    let zero : DimensionId = record { 0 = 0 } in
    let id = (get_or c.args.ids.now c.loop-id.id-index zero).0 in
    let at : get_or (id_numbers c.args.ids.now) c.loop-id.id-index 0 ≡ id = get_or-map (λ (own : DimensionId). own.0) c.args.ids.now c.loop-id.id-index zero 0 c.loop-id-test.true in
    let placed : is_some c.dimension_place.result ≡ false = search rules in
    let test : not (is_taken (held_ids c.args.dimensions.now) id) ≡ true = ap not (sym (taken_dimension id c.args.dimensions.now) ∙ sym (ap is_some c.dimension_place.ensures) ∙ placed) in
    let within : c.loop-id.id-index < length (id_numbers c.args.ids.now) = omega (arith, c.loop-id-test.true, length-map c.args.ids.now (λ (own : DimensionId). own.0)) in
    sym (find-first (λ one. not (is_taken (held_ids c.args.dimensions.now) one)) (id_numbers c.args.ids.now) c.loop-id.id-index 0 c.loop-id.invariant within (ap (λ one. not (is_taken (held_ids c.args.dimensions.now) one)) at ∙ test) ∙ ap Some at)

pub loop-id-preserved : goal.loop-id-preserved
loop-id-preserved g c =
    let zero : DimensionId = record { 0 = 0 } in
    let id = (get_or c.args.ids.now c.loop-id.id-index zero).0 in
    let at : get_or (id_numbers c.args.ids.now) c.loop-id.id-index 0 ≡ id = get_or-map (λ (own : DimensionId). own.0) c.args.ids.now c.loop-id.id-index zero 0 c.loop-id-test.true in
    let placed : is_some c.dimension_place.result ≡ true = search rules in
    let test : not (is_taken (held_ids c.args.dimensions.now) id) ≡ false = ap not (sym (taken_dimension id c.args.dimensions.now) ∙ sym (ap is_some c.dimension_place.ensures) ∙ placed) in
    let within : c.loop-id.id-index < length (id_numbers c.args.ids.now) = omega (arith, c.loop-id-test.true, length-map c.args.ids.now (λ (own : DimensionId). own.0)) in
    any-next (λ one. not (is_taken (held_ids c.args.dimensions.now) one)) (id_numbers c.args.ids.now) c.loop-id.id-index 0 c.loop-id.invariant within (ap (λ one. not (is_taken (held_ids c.args.dimensions.now) one)) at ∙ test)

pub returns : goal.returns
returns g c =
    let ids = id_numbers c.args.ids.now in
    let past : length ids ≤ c.loop-id.id-index = omega (arith, c.loop-id-test.false, length-map c.args.ids.now (λ (own : DimensionId). own.0)) in
    sym (find-nothing (λ one. not (is_taken (held_ids c.args.dimensions.now) one)) ids (ap (list_any (λ one. not (is_taken (held_ids c.args.dimensions.now) one))) (sym (take_all c.loop-id.id-index ids past)) ∙ c.loop-id.invariant))
