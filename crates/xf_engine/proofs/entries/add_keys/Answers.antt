use Rattle.std.proofs.Common.{rules, map, sym, ◌∙◌, ap, refl}
use Rattle.xf_engine.specs.Held.{kept_keys, with_keys_of}
use Rattle.xf_engine.proofs.Kept.{kept-takes_back, kept-partial}
use Rattle.xf_engine.proofs.Swept.{swept_none, swept_step, swept_all, swept_back}
use Rattle.xf_engine.proofs.entries.add_keys.Goals as goal

pub loop-place-init : goal.loop-place-init
loop-place-init g c = sym (swept_none (with_keys_of g.A.Accessor.keys_of c.args.rows.now) c.args.dimensions.now)

pub returns-in_err-push_keys-clause-kept : goal.returns-in_err-push_keys-clause-kept
returns-in_err-push_keys-clause-kept g c =
    kept-partial g.A.Accessor.keys_of c.args.rows.now c.args.count c.args.dimensions.now c.loop-place.dimensions c.loop-place.place c.index-dimensions-place.result c.push_keys.new.keys c.requires c.loop-place.invariant c.loop-place-test.true c.push_keys.ensures.kept

pub loop-place-preserved : goal.loop-place-preserved
loop-place-preserved g c =
    swept_step (with_keys_of g.A.Accessor.keys_of c.args.rows.now) c.loop-place.place _ c.args.dimensions.now c.loop-place.dimensions _ c.index-dimensions-place.result c.loop-place.invariant c.loop-place-test.true refl (search (rules, c.push_keys.ensures))

pub returns-clause-ok : goal.returns-clause-ok
returns-clause-ok g c = c.loop-place.invariant ∙ swept_all (with_keys_of g.A.Accessor.keys_of c.args.rows.now) c.loop-place.place c.args.dimensions.now (search rules)

pub returns-clause-kept : goal.returns-clause-kept
returns-clause-kept g c =
    ap (map (kept_keys c.args.count)) c.loop-place.invariant
    ∙ swept_back (with_keys_of g.A.Accessor.keys_of c.args.rows.now) (kept_keys c.args.count) c.loop-place.place c.args.dimensions.now (kept-takes_back g.A.Accessor.keys_of c.args.rows.now c.args.count c.args.dimensions.now c.requires)
