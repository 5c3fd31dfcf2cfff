use Rattle.std.proofs.Common.{◌∙◌, ap, is_ok, option_map, slice_get}
use Rattle.xf_engine.specs.declared.ids.GroupId.{GroupId}
use Rattle.xf_session.specs.State.{Name}
use Rattle.xf_session.proofs.Sifted.{told-live}
use Rattle.xf_session.proofs.things.is_live_at.Goals as goal

pub returns-in-Some : goal.returns-in-Some
returns-in-Some c = λ entry at.
    told-live (slice_get c.args.groups.now c.args.place) c.args.cross.now.groups entry c.in-Some.id.now.0 c.is_ok.result at
    (ap (option_map (λ (e : Name × GroupId). e.1.0)) c.in-Some.ensures) (c.is_ok.ensures.value ∙ ap is_ok c.group_dimension.ensures)
