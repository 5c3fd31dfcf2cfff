use Rattle.std.proofs.Common.{sym, ◌∙◌}
use Rattle.xf_engine.proofs.ListedPairs.{told-failing, told-passing}
use Rattle.xf_engine.proofs.listing.collect_pairs.Goals as goal
use Rattle.xf_engine.proofs.listing.collect_pairs.Goals.{then-passes_each+in_ok-push_pairs, else-passes_each}

pub loop-place-preserved : goal.loop-place-preserved
loop-place-preserved g c =
    elim c.if-passes_each.branch [
      | then-passes_each+in_ok-push_pairs w ↦
          rw w.pairs-is (told-passing g.P.Predicate.says_to c.args.dimensions.now c.args.own.now c.loop-place.place w.list.result.now c.loop-place.pairs.items _ (sym c.passes_each.ensures ∙ w.if-passes_each.true) w.list.ensures c.loop-place.invariant w.in_ok-push_pairs.ensures)
      | else-passes_each w ↦
          rw w.pairs-is (told-failing g.P.Predicate.says_to c.args.dimensions.now c.args.own.now c.loop-place.place c.loop-place.pairs.items (sym c.passes_each.ensures ∙ w.if-passes_each.false) c.loop-place.invariant)
    ]
