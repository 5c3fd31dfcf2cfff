use Rattle.std.proofs.Common.{◌≡◌, inr, Some, true, option_map, refl, sym, ap, ◌∙◌}
use Rattle.xf_base.specs.Key.{key_cmp}
use Rattle.xf_engine.specs.Held.{live_dimension, live_dimensions}
use Rattle.xf_engine.specs.State.{LiveDimension, dimension_of, dimension_place, dimensions_of, has_id}
use Rattle.xf_engine.proofs.HeldCounts.{live-at, rows-ascend}
use Rattle.xf_engine.proofs.HeldStates.{placed-dimension}
use Rattle.xf_engine.proofs.Named.{find-placed-dimension, find-unplaced}
use Rattle.xf_model.specs.Bottom.{bottom, places_of}
use Rattle.xf_engine.proofs.cross.Cross.bottom.Goals as goal

pub returns-in_default-clause-refused : goal.returns-in_default-clause-refused
returns-in_default-clause-refused g c = inr (refl, find-unplaced (has_id c.args.id.0) c.args.self.now.dimensions (sym c.place_of.ensures ∙ c.in_default.is))

pub bottom_places-requires-clause-ascending : goal.bottom_places-requires-clause-ascending
bottom_places-requires-clause-ascending g c =
    let told = ap (λ s. dimension_place s c.args.id.0) c.self.view_is ∙ sym c.place_of.ensures ∙ c.in-Some.is in
    let within = (placed-dimension c.args.id.0 c.self.inside.dimensions.items c.in-Some.place c.index.result.now told).0 in
    let fit = live-at (λ (live : LiveDimension g.row.A.Denot g.row.P.Denot). g.A.Accessor.fits_to live.accessor c.self.inside.table.columns ≡ true) c.self.inside.dimensions.items c.in-Some.place c.index.result.now c.self.invariant.state.fit within c.index.ensures in
    rw (c.as_slice-2.ensures, c.rows.ensures.rows) (rows-ascend g.A.Accessor.keys_of g.A.Accessor.fits_to g.A.Accessor.kind_of g.A.Accessor.gives_many g.met.A.Accessor.lawful c.index.result.now.accessor c.self.inside.table.columns c.self.inside.table.rows fit c.self.invariant.state.of_schema)

pub returns-clause-places : goal.returns-clause-places
returns-clause-places g c =
    let told = ap (λ s. dimension_place s c.args.id.0) c.self.view_is ∙ sym c.place_of.ensures ∙ c.in-Some.is in
    let named = find-placed-dimension c.args.id.0 c.self.inside.dimensions.items c.in-Some.place c.index.result.now told ∙ ap (λ d. Some (live_dimension d)) (sym c.index.ensures) in
    let keys_of = g.A.Accessor.keys_of in
    let says = g.P.Predicate.says_to in
    let own = dimension_of keys_of says (live_dimension c.index.result.now) in
    let items : c.in_ok-bottom_places.field-0.items ≡ places_of c.args.k c.args.offset (bottom key_cmp (dimensions_of keys_of says (live_dimensions c.self.inside.dimensions.items)) own c.self.inside.table.rows) =
    c.in_ok-bottom_places.ensures
    ∙ ap (λ held. places_of c.args.k c.args.offset (bottom key_cmp (dimensions_of keys_of says (live_dimensions held)) own c.as_slice-2.result.now)) c.as_slice.ensures.value
    ∙ ap (λ rows. places_of c.args.k c.args.offset (bottom key_cmp (dimensions_of keys_of says (live_dimensions c.self.inside.dimensions.items)) own rows)) (c.as_slice-2.ensures ∙ c.rows.ensures.rows) in
    rw (← c.self.view_is) (
    ap (option_map (λ live. places_of c.args.k c.args.offset (bottom key_cmp (dimensions_of keys_of says (live_dimensions c.self.inside.dimensions.items)) (dimension_of keys_of says live) c.self.inside.table.rows))) named
    ∙ ap Some (sym items)
    )
