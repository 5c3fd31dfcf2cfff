use Rattle.std.proofs.Common.{sym, ◌∙◌}
use Rattle.xf_engine.specs.State.{id_numbers}
use Rattle.xf_engine.proofs.ListedPlaces.{listed-failing, listed-passing}
use Rattle.xf_engine.proofs.filtered.filtered_places.Goals as goal
use Rattle.xf_engine.proofs.filtered.filtered_places.Goals.{then-passes_counted+in_ok-push, else-passes_counted}

pub loop-place-preserved : goal.loop-place-preserved
loop-place-preserved g c =
    elim c.if-passes_counted.branch [
      | then-passes_counted+in_ok-push w ↦
          rw w.places-is (listed-passing g.P.Predicate.says_to c.args.dimensions.now (id_numbers c.args.ignored.now) c.loop-place.place c.loop-place.places.items _ (sym c.passes_counted.ensures ∙ w.if-passes_counted.true) c.loop-place.invariant w.in_ok-push.ensures.items)
      | else-passes_counted w ↦
          rw w.places-is (listed-failing g.P.Predicate.says_to c.args.dimensions.now (id_numbers c.args.ignored.now) c.loop-place.place c.loop-place.places.items (sym c.passes_counted.ensures ∙ w.if-passes_counted.false) c.loop-place.invariant)
    ]
