use Rattle.std.proofs.Common.{Some, sym, ap, ◌∙◌}
use Rattle.xf_engine.specs.Held.{live_dimension, state_of}
use Rattle.xf_engine.specs.State.{dimension_place}
use Rattle.xf_filter.specs.Filter.{filter_keys, first_other}
use Rattle.xf_engine.proofs.Answered.{accepted-filter, refused-kind, refused-unplaced}
use Rattle.xf_engine.proofs.Named.{find-placed-dimension}
use Rattle.xf_engine.proofs.cross.Cross.fitting_place.Goals as goal

pub returns-in_default-clause-refused : goal.returns-in_default-clause-refused
returns-in_default-clause-refused g c = refused-unplaced g.A.Accessor.kind_of g.P.Predicate.keys_in c.args.self.now c.args.id.0 c.args.filter.now (sym c.place_of.ensures ∙ c.in_default.is)

pub returns-in-Some-misfit-clause-refused : goal.returns-in-Some-misfit-clause-refused
returns-in-Some-misfit-clause-refused g c =
    let told = ap (λ s. dimension_place s c.args.id.0) c.self.view_is ∙ sym c.place_of.ensures ∙ c.in-Some.is in
    let named = find-placed-dimension c.args.id.0 c.self.inside.dimensions.items c.in-Some.place c.index.result.now told ∙ ap (λ d. Some (live_dimension d)) (sym c.index.ensures) in
    rw (← c.self.view_is) (refused-kind g.A.Accessor.kind_of g.P.Predicate.keys_in (state_of c.self.inside.table c.self.inside.dimensions.items c.self.inside.groups.items c.self.inside.wholes.items c.self.inside.events) c.args.id.0 c.args.filter.now (live_dimension c.index.result.now) c.kind-wanted.result c.in-Some-misfit.given named c.kind-wanted.ensures (sym c.misfit.ensures ∙ c.in-Some-misfit.is))

pub returns-in-None-clause-accepted : goal.returns-in-None-clause-accepted
returns-in-None-clause-accepted g c =
    let told = ap (λ s. dimension_place s c.args.id.0) c.self.view_is ∙ sym c.place_of.ensures ∙ c.in-Some.is in
    let named = find-placed-dimension c.args.id.0 c.self.inside.dimensions.items c.in-Some.place c.index.result.now told ∙ ap (λ d. Some (live_dimension d)) (sym c.index.ensures) in
    let none = ap (λ k. first_other k (filter_keys g.P.Predicate.keys_in c.args.filter.now)) (sym c.kind-wanted.ensures) ∙ sym c.misfit.ensures ∙ c.in-None.is in
    rw (← c.self.view_is) (accepted-filter g.A.Accessor.kind_of g.P.Predicate.keys_in (state_of c.self.inside.table c.self.inside.dimensions.items c.self.inside.groups.items c.self.inside.wholes.items c.self.inside.events) c.args.id.0 c.args.filter.now (live_dimension c.index.result.now) named none)
