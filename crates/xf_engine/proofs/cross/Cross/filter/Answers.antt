use Rattle.std.proofs.Common.{Some, option_map, refl, sym, ap, ◌∙◌}
use Rattle.xf_engine.specs.Held.{live_dimension}
use Rattle.xf_engine.specs.State.{LiveDimension, dimension_place, has_id}
use Rattle.xf_engine.proofs.Named.{find-placed-dimension, find-unplaced}
use Rattle.xf_engine.proofs.cross.Cross.filter.Goals as goal

pub returns-in-Some-clause-filter : goal.returns-in-Some-clause-filter
returns-in-Some-clause-filter g c =
    let told = ap (λ s. dimension_place s c.args.id.0) c.self.view_is ∙ sym c.place_of.ensures ∙ c.in-Some.is in
    let named = find-placed-dimension c.args.id.0 c.self.inside.dimensions.items c.in-Some.place c.index.result.now told ∙ ap (λ d. Some (live_dimension d)) (sym c.index.ensures) in
    rw (← c.self.view_is) (sym (ap (option_map (λ (live : LiveDimension g.row.A.Denot g.row.P.Denot). live.filter)) named))

pub returns-in-None-clause-refused : goal.returns-in-None-clause-refused
returns-in-None-clause-refused g c = (refl, find-unplaced (has_id c.args.id.0) c.args.self.now.dimensions (sym c.place_of.ensures ∙ c.in-None.is))
