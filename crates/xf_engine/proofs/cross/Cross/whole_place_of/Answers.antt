use Rattle.std.proofs.Common.{sym, ap, ◌∙◌, ◌==◌}
use Rattle.std.specs.List.{position}
use Rattle.xf_engine.specs.declared.whole.Whole.{Whole}
use Rattle.xf_engine.proofs.Named.{position_live_whole}
use Rattle.xf_engine.proofs.cross.Cross.whole_place_of.Goals as goal

pub returns : goal.returns
returns g c =
    rw (← c.self.view_is) (
    c.whole_place.ensures
    ∙ ap (position (λ (whole : Whole g.row.R.Denot g.row.R-Value.Denot). whole.id.0 == c.args.id.0)) c.as_slice.ensures.value
    ∙ sym (position_live_whole c.args.id.0 c.self.inside.wholes.items)
    )
