use Rattle.std.proofs.Common.{rules, length, get_or, sym, ap, ◌∙◌, refl, arith}
use Rattle.xf_engine.specs.Held.{retained_keys}
use Rattle.xf_engine.specs.declared.dimension.Dimension.{Dimension}
use Rattle.xf_engine.proofs.Kept.{held_length}
use Rattle.xf_engine.proofs.Swept.{swept_all, swept_at, swept_none, swept_step}
use Rattle.xf_engine.proofs.entries.retain_keys.Goals as goal

pub loop-place-init : goal.loop-place-init
loop-place-init g c = sym (swept_none (retained_keys c.args.gone.now) c.args.dimensions.now)

pub retain-requires : goal.retain-requires
retain-requires g c =
    let d = c.index-dimensions-place.result in
    let at = ap (λ held. length (get_or held c.loop-place.place d).keys) c.loop-place.invariant ∙ ap (λ (one : Dimension g.row.A.Denot g.row.P.Denot). length one.keys) (swept_at (retained_keys c.args.gone.now) c.loop-place.place c.args.dimensions.now d) in
    omega (arith, at, held_length (length c.args.gone.now) c.args.dimensions.now c.loop-place.place d c.requires c.loop-place-test.true)

pub loop-place-preserved : goal.loop-place-preserved
loop-place-preserved g c =
    swept_step (retained_keys c.args.gone.now) c.loop-place.place _ c.args.dimensions.now c.loop-place.dimensions _ c.index-dimensions-place.result c.loop-place.invariant c.loop-place-test.true refl (search (rules, c.retain.ensures))

pub returns : goal.returns
returns g c = c.loop-place.invariant ∙ swept_all (retained_keys c.args.gone.now) c.loop-place.place c.args.dimensions.now (search rules)
