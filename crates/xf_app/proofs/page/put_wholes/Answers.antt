use Rattle.xf_app.proofs.PageLines.{lines-next}
use Rattle.xf_app.proofs.page.put_wholes.Goals as goal
use Rattle.xf_app.specs.Page.{whole_line}

pub loop-place-preserved : goal.loop-place-preserved
loop-place-preserved c =
    lines-next (whole_line c.args.session.now) c.args.session.now.wholes c.loop-place.place c.args.out.now.items c.loop-place.out.items c.put_whole_at.new.out.items
    c.loop-place.invariant c.in_ok-put_whole_at.ensures.ok
