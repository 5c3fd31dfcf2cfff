use Rattle.xf_engine.specs.Held.{keys_pass}
use Rattle.xf_engine.proofs.Removed.{map-next}
use Rattle.xf_engine.proofs.marks.marks_under.Goals as goal

pub loop-place-preserved : goal.loop-place-preserved
loop-place-preserved g c =
    map-next (keys_pass g.P.Predicate.says_to c.args.filter.now) c.args.keys.now c.loop-place.place c.list.result.now c.loop-place.marks.items c.push.new.self.items c.keys_pass.result c.list.ensures c.loop-place.invariant c.keys_pass.ensures c.in_ok-push.ensures.items
