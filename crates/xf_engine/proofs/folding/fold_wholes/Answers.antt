-- There is a mark for each row, and one more whole is folded over those that count.
use Rattle.std.proofs.Common.{◌≡◌, ◌+◌, ◌++◌, None, length, map, ap, ◌∙◌, arith}
use Rattle.std.proofs.lemmas.List.{length-append}
use Rattle.std.proofs.lemmas.List.FromFn.{length-map-range_with_len}
use Rattle.std.specs.List.{range_with_len}
use Rattle.xf_engine.specs.Folding.{counted, counts_at, dimensions_then, rows_then}
use Rattle.xf_engine.specs.Held.{live_dimensions}
use Rattle.xf_engine.specs.State.{dimensions_of}
use Rattle.xf_engine.specs.declared.whole.Whole.{Whole}
use Rattle.xf_engine.proofs.FoldingEntries.{all_zip-next, counted-then}
use Rattle.xf_engine.proofs.folding.fold_wholes.Goals as goal
use Rattle.xf_model.specs.Group.{fold_of, whole_value}

pub fold_whole-requires-clause-counts : goal.fold_whole-requires-clause-counts
fold_whole-requires-clause-counts g c =
    let count = c.len.result + c.len-2.result in
    let marks = ap length (c.as_slice.ensures.value ∙ c.in_ok-counts.ensures) ∙ length-map-range_with_len (counts_at g.P.Predicate.says_to c.args.counting.now c.args.dimensions.now None) 0 count in
    omega (arith, marks, c.len.ensures, c.len-2.ensures)

pub loop-whole-preserved : goal.loop-whole-preserved
loop-whole-preserved g c =
    let keys_of = g.A.Accessor.keys_of in
    let says = g.P.Predicate.says_to in
    let meaning_of = g.R.Reducer.meaning_of in
    let folding = g.R.Reducer.folding in
    let held = c.args.dimensions.now in
    let counting = c.args.counting.now in
    let rows = c.args.rows.now.held.now ++ c.args.rows.now.added.now in
    let dimensions = dimensions_of keys_of says (dimensions_then counting (live_dimensions held)) in
    let long : c.len.result + c.len-2.result ≡ length rows = omega (arith, c.len.ensures, c.len-2.ensures, length-append c.args.rows.now.held.now c.args.rows.now.added.now) in
    let marked : c.as_slice.result.now ≡ map (counts_at says counting held None) (range_with_len 0 (length rows)) =
    c.as_slice.ensures.value ∙ c.in_ok-counts.ensures ∙ ap (λ n. map (counts_at says counting held None) (range_with_len 0 n)) long in
    let some = ap (counted rows) marked ∙ counted-then keys_of says rows held counting c.requires.keys c.requires.marks in
    let IsValue = λ (whole : Whole g.row.R.Denot g.row.R-Value.Denot) (value : g.row.R-Value.Denot). meaning_of value ≡ whole_value (folding whole.reducer) dimensions (rows_then counting rows) in
    let whole = c.whole-item.result in
    let value = c.in_ok-fold_whole.field-0 in
    all_zip-next IsValue c.args.wholes.now c.loop-whole.whole-index whole c.loop-whole.folded.items c.push.new.self.items value c.whole-item.is c.loop-whole-test.true c.loop-whole.invariant
    (c.in_ok-fold_whole.ensures ∙ ap (fold_of (folding whole.reducer)) some) c.in_ok-push.ensures.items
