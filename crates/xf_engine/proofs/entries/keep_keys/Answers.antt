use Rattle.std.proofs.Common.{rules, sym, ◌∙◌, refl}
use Rattle.xf_engine.specs.Held.{kept_keys}
use Rattle.xf_engine.proofs.Swept.{swept_none, swept_step, swept_all}
use Rattle.xf_engine.proofs.entries.keep_keys.Goals as goal

pub loop-place-init : goal.loop-place-init
loop-place-init g c = sym (swept_none (kept_keys c.args.count) c.args.dimensions.now)

pub loop-place-preserved : goal.loop-place-preserved
loop-place-preserved g c =
    swept_step (kept_keys c.args.count) c.loop-place.place _ c.args.dimensions.now c.loop-place.dimensions _ c.index-dimensions-place.result c.loop-place.invariant c.loop-place-test.true refl (search (rules, c.truncate.ensures))

pub returns : goal.returns
returns g c = c.loop-place.invariant ∙ swept_all (kept_keys c.args.count) c.loop-place.place c.args.dimensions.now (search rules)
