-- The row at a place counts, or it does not.
use Rattle.std.proofs.Common.{◌≡◌, ◌+◌, [], ◌++◌, Some, true, false, get_or, length-append, slice_get, sym, subst, arith}
use Rattle.std.proofs.lemmas.Option.{slice_get-get_or}
use Rattle.xf_engine.proofs.FoldedGroup.{HasFirst, first_passed, first_ready, first_same, first_suits, first_taken, may_take_in}
use Rattle.xf_engine.proofs.fold.add_rows.Goals as goal
use Rattle.xf_engine.proofs.fold.add_rows.Goals.{then-counts-place+in_ok-make_ready, else-counts-place}

pub make_ready-requires-clause-row : goal.make_ready-requires-clause-row
make_ready-requires-clause-row g c =
    let rows = c.args.rows.now.held.now ++ c.args.rows.now.added.now in
    let long = length-append c.args.rows.now.held.now c.args.rows.now.added.now in
    first_suits g.R.Reducer.meaning_of g.R.Reducer.folding c.args.group.now rows c.args.counts.now c.loop-place.place c.row-row.result.now c.loop-place.group c.loop-place.invariant
    g.R.Reducer.fits_to c.requires.rows (omega (arith, long)) c.row-row.ensures

pub change-requires-clause-may : goal.change-requires-clause-may
change-requires-clause-may g c =
    let rows = c.args.rows.now.held.now ++ c.args.rows.now.added.now in
    let long = length-append c.args.rows.now.held.now c.args.rows.now.added.now in
    let meaning_of = g.R.Reducer.meaning_of in
    let folding = g.R.Reducer.folding in
    let first = c.args.group.now in
    let counts = c.args.counts.now in
    let place = c.loop-place.place in
    let row = c.row-row.result.now in
    let old = c.loop-place.group in
    let made = c.make_ready.new.self in
    let has = first_same meaning_of folding first rows counts place row old c.loop-place.invariant made c.make_ready.ensures.reducer c.make_ready.ensures.places c.make_ready.ensures.meanings in
    let ready = first_ready meaning_of folding first rows counts place row old c.loop-place.invariant g.R.Reducer.IsReady made.entries c.in_ok-make_ready.ensures.ready in
    may_take_in meaning_of folding first rows counts place row made has g.R.Reducer.IsReady g.R.Reducer.fits_to c.requires.rows (omega (arith, long)) (omega (arith, long)) c.row-row.ensures ready

pub loop-place-preserved : goal.loop-place-preserved
loop-place-preserved g c =
    let rows = c.args.rows.now.held.now ++ c.args.rows.now.added.now in
    let long = length-append c.args.rows.now.held.now c.args.rows.now.added.now in
    let first = c.args.group.now in
    let counts = c.args.counts.now in
    let place = c.loop-place.place in
    let meaning_of = g.R.Reducer.meaning_of in
    let folding = g.R.Reducer.folding in
    let old = c.loop-place.group in
    elim c.if-counts-place.branch [
      | then-counts-place+in_ok-make_ready w ↦
          let says : get_or counts place false ≡ true = w.if-counts-place.true in
          let row = w.row-row.result.now in
          let made = w.make_ready.new.self in
          let has = first_same meaning_of folding first rows counts place row old c.loop-place.invariant made w.make_ready.ensures.reducer w.make_ready.ensures.places w.make_ready.ensures.meanings in
          subst (HasFirst meaning_of folding first rows counts (place + 1)) (sym w.group-is)
          (first_taken meaning_of folding first rows counts place row made has
          g.R.Reducer.IsReady g.R.Reducer.undo g.R.Reducer.calls w.change.new.self (omega (arith, long)) (omega (arith, long)) (omega (arith, long)) w.row-row.ensures says w.change.ensures.reducer w.change.ensures.places w.change.ensures.changed)
      | else-counts-place w ↦
          let says : get_or counts place false ≡ false = w.if-counts-place.false in
          let here : slice_get rows place ≡ Some (get_or rows place []) = slice_get-get_or rows place [] (omega (arith, long)) in
          subst (HasFirst meaning_of folding first rows counts (place + 1)) (sym w.group-is)
          (first_passed meaning_of folding first rows counts place (get_or rows place []) old c.loop-place.invariant (omega (arith, long)) (omega (arith, long)) (omega (arith, long)) here says)
    ]
