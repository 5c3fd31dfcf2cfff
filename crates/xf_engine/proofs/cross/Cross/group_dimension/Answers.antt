use Rattle.std.proofs.Common.{rules, Some, sym, ap, ◌∙◌, option_map}
use Rattle.xf_engine.specs.Held.{live_group}
use Rattle.xf_engine.specs.Refusals.{dimension_id, no_group, unless_none}
use Rattle.xf_engine.specs.State.{group_has_id, group_place}
use Rattle.xf_engine.proofs.Named.{find-placed-group, find-unplaced}
use Rattle.xf_engine.proofs.cross.Cross.group_dimension.Goals as goal

pub returns-in-Some : goal.returns-in-Some
returns-in-Some g c =
    let told = ap (λ s. group_place s c.args.id.0) c.self.view_is ∙ sym c.group_place_of.ensures ∙ c.in-Some.is in
    let found = find-placed-group c.args.id.0 c.self.inside.groups.items c.in-Some.place c.index.result.now told ∙ ap (λ group. Some (live_group group)) (sym c.index.ensures) in
    rw (← c.self.view_is) (sym (ap (λ group. unless_none (no_group c.args.id.0) (option_map dimension_id group)) found))

pub returns-in-None : goal.returns-in-None
returns-in-None g c =
    sym (ap (λ group. unless_none (no_group c.args.id.0) (option_map dimension_id group)) (find-unplaced (group_has_id c.args.id.0) c.args.self.now.groups (search rules)))
