use Rattle.std.proofs.Common.{ℕ, Bool, cond, sym, ◌∙◌, ap, arith}
use Rattle.xf_engine.proofs.PassingRows.{passing_more}
use Rattle.xf_engine.proofs.counts.passing_count.Goals.{then-passes_each, else-passes_each}
use Rattle.xf_engine.proofs.counts.passing_count.Goals as goal

pub loop-place-preserved : goal.loop-place-preserved
loop-place-preserved g c =
    let more = passing_more g.A.Accessor.keys_of g.P.Predicate.says_to c.args.dimensions.now c.args.rows.now c.loop-place.place c.requires c.loop-place-test.true in
    elim c.if-passes_each.branch [
      | then-passes_each w ↦ record {
        count = omega (arith, more, ap {B = ℕ} (λ (a : Bool). cond a 1 0) (sym c.passes_each.ensures ∙ w.if-passes_each.true), w.count-is, c.loop-place.invariant.count);
        few = omega (arith, w.count-is, c.loop-place.invariant.few);
      }
      | else-passes_each w ↦ record {
        count = omega (arith, more, ap {B = ℕ} (λ (a : Bool). cond a 1 0) (sym c.passes_each.ensures ∙ w.if-passes_each.false), w.count-is, c.loop-place.invariant.count);
        few = omega (arith, w.count-is, c.loop-place.invariant.few);
      }
    ]
