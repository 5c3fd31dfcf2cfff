use Rattle.std.proofs.Common.{Some, option_map, refl, sym, ap, ◌∙◌}
use Rattle.xf_engine.specs.Held.{live_whole}
use Rattle.xf_engine.specs.State.{LiveWhole, whole_has_id, whole_place}
use Rattle.xf_engine.proofs.Named.{find-placed-whole, find-unplaced}
use Rattle.xf_engine.proofs.cross.Cross.whole_reducer.Goals as goal

pub returns-in-Some-clause-reducer : goal.returns-in-Some-clause-reducer
returns-in-Some-clause-reducer g c =
    let told = ap (λ s. whole_place s c.args.id.0) c.self.view_is ∙ sym c.whole_place_of.ensures ∙ c.in-Some.is in
    let named = find-placed-whole c.args.id.0 c.self.inside.wholes.items c.in-Some.place c.index.result.now told ∙ ap (λ d. Some (live_whole d)) (sym c.index.ensures) in
    rw (← c.self.view_is) (ap (option_map (λ (own : LiveWhole g.row.R.Denot). own.reducer)) named)

pub returns-in-None-clause-refused : goal.returns-in-None-clause-refused
returns-in-None-clause-refused g c = (refl, find-unplaced (whole_has_id c.args.id.0) c.args.self.now.wholes (sym c.whole_place_of.ensures ∙ c.in-None.is))
