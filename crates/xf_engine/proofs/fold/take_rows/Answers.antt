-- The row at a place counts, or it does not.
use Rattle.std.proofs.Common.{◌≡◌, ◌+◌, [], ◌++◌, Some, true, false, get_or, length-append, slice_get, refl, sym, subst, arith}
use Rattle.std.proofs.lemmas.Option.{slice_get-get_or}
use Rattle.xf_engine.proofs.FoldedGroup.{whole_may_take, whole_of_first, whole_passed, whole_taken}
use Rattle.xf_engine.proofs.fold.take_rows.Goals as goal
use Rattle.xf_engine.proofs.fold.take_rows.Goals.{then-counts-place+in_ok-prepare, else-counts-place}

pub add-requires-clause-folded : goal.add-requires-clause-folded
add-requires-clause-folded g c =
    let rows = c.args.rows.now.held.now ++ c.args.rows.now.added.now in
    let long = length-append c.args.rows.now.held.now c.args.rows.now.added.now in
    let meaning_of = g.R.Reducer.meaning_of in
    whole_may_take (g.R.Reducer.fits_to c.args.reducer.now) (g.R.Reducer.folding c.args.reducer.now) rows c.args.counts.now c.loop-place.place c.row-row.result.now (omega (arith, long)) c.row-row.ensures
    (meaning_of c.loop-place.value) (meaning_of c.prepare.new.value) c.loop-place.invariant c.prepare.ensures.meaning c.requires.rows (omega (arith, long))

pub loop-place-preserved : goal.loop-place-preserved
loop-place-preserved g c =
    let rows = c.args.rows.now.held.now ++ c.args.rows.now.added.now in
    let long = length-append c.args.rows.now.held.now c.args.rows.now.added.now in
    let counts = c.args.counts.now in
    let place = c.loop-place.place in
    let meaning_of = g.R.Reducer.meaning_of in
    let fits = g.R.Reducer.fits_to c.args.reducer.now in
    let folding = g.R.Reducer.folding c.args.reducer.now in
    elim c.if-counts-place.branch [
      | then-counts-place+in_ok-prepare w ↦
          let says : get_or counts place false ≡ true = w.if-counts-place.true in
          subst (λ (value : g.row.R-Value.Denot). meaning_of value ≡ whole_of_first folding rows counts (place + 1)) (sym w.value-is)
          (whole_taken fits folding rows counts place w.row-row.result.now (omega (arith, long)) w.row-row.ensures (meaning_of c.loop-place.value) (meaning_of w.prepare.new.value) c.loop-place.invariant w.prepare.ensures.meaning
          (meaning_of w.add.new.value) (omega (arith, long)) says w.add.ensures.meaning)
      | else-counts-place w ↦
          let says : get_or counts place false ≡ false = w.if-counts-place.false in
          let here : slice_get rows place ≡ Some (get_or rows place []) = slice_get-get_or rows place [] (omega (arith, long)) in
          subst (λ (value : g.row.R-Value.Denot). meaning_of value ≡ whole_of_first folding rows counts (place + 1)) (sym w.value-is)
          (whole_passed fits folding rows counts place (get_or rows place []) (omega (arith, long)) here (meaning_of c.loop-place.value) (meaning_of c.loop-place.value) c.loop-place.invariant refl (omega (arith, long)) says)
    ]
