use Rattle.xf_app.proofs.PageLines.{lines-next}
use Rattle.xf_app.proofs.page.put_groups.Goals as goal
use Rattle.xf_app.specs.Page.{lines_of_group}

pub loop-place-preserved : goal.loop-place-preserved
loop-place-preserved g c =
    lines-next (lines_of_group c.args.session.now) c.args.session.now.groups c.loop-place.place c.args.out.now.items c.loop-place.out.items c.put_group_at.new.out.items
    c.loop-place.invariant c.in_ok-put_group_at.ensures.ok
