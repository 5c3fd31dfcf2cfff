use Rattle.std.proofs.Common.{sym, ap, ◌∙◌, ◌==◌}
use Rattle.std.specs.List.{position}
use Rattle.xf_engine.specs.declared.grouping.Grouping.{Grouping}
use Rattle.xf_group.specs.Group.{Grouped}
use Rattle.xf_engine.proofs.Named.{position_live_group}
use Rattle.xf_engine.proofs.cross.Cross.group_place_of.Goals as goal

pub returns : goal.returns
returns g c =
    rw (← c.self.view_is) (
    c.group_place.ensures
    ∙ ap (position (λ (group : Grouping g.row.G.Denot (Grouped g.row.R.Denot g.row.R-Value.Denot)). group.id.0 == c.args.id.0)) c.as_slice.ensures.value
    ∙ sym (position_live_group c.args.id.0 c.self.inside.groups.items)
    )
