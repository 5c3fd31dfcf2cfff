-- There is a mark for each row, and the rows that count are those that are selected.
use Rattle.std.proofs.Common.{◌≡◌, ◌+◌, ◌++◌, None, length, map, ap, ◌∙◌, arith}
use Rattle.std.proofs.lemmas.List.{length-append}
use Rattle.std.proofs.lemmas.List.FromFn.{length-map-range_with_len}
use Rattle.std.proofs.lemmas.Result.{IfOk-weaker}
use Rattle.std.specs.List.{range_with_len}
use Rattle.xf_engine.specs.Folding.{counted, counts_at}
use Rattle.xf_engine.specs.Held.{live_dimensions}
use Rattle.xf_engine.specs.State.{dimensions_of}
use Rattle.xf_engine.specs.declared.folding.Counting.TheVariants.{Passing}
use Rattle.xf_engine.proofs.FoldingEntries.{counted-then}
use Rattle.xf_engine.proofs.folding.fold_new_whole.Goals as goal
use Rattle.xf_model.specs.Group.{fold_of, whole_value}

pub fold_whole-requires-clause-counts : goal.fold_whole-requires-clause-counts
fold_whole-requires-clause-counts g c =
    let count = c.len.result + c.len-2.result in
    let marks = ap length (c.as_slice.ensures.value ∙ c.in_ok-counts.ensures) ∙ length-map-range_with_len (counts_at g.P.Predicate.says_to Passing c.args.dimensions.now None) 0 count in
    omega (arith, marks, c.len.ensures, c.len-2.ensures)

pub returns : goal.returns
returns g c =
    let says = g.P.Predicate.says_to in
    let reducer = g.R.Reducer.folding c.args.reducer.now in
    let held = c.args.dimensions.now in
    let rows = c.args.rows.now.held.now ++ c.args.rows.now.added.now in
    let long : c.len.result + c.len-2.result ≡ length rows = omega (arith, c.len.ensures, c.len-2.ensures, length-append c.args.rows.now.held.now c.args.rows.now.added.now) in
    let marked : c.as_slice.result.now ≡ map (counts_at says Passing held None) (range_with_len 0 (length rows)) =
    c.as_slice.ensures.value ∙ c.in_ok-counts.ensures ∙ ap (λ n. map (counts_at says Passing held None) (range_with_len 0 n)) long in
    let some = ap (counted rows) marked ∙ counted-then g.A.Accessor.keys_of says rows held Passing c.requires.keys tt in
    IfOk-weaker c.fold_whole.result (λ value. g.R.Reducer.meaning_of value ≡ fold_of reducer (counted rows c.as_slice.result.now)) (λ value. g.R.Reducer.meaning_of value ≡ whole_value reducer (dimensions_of g.A.Accessor.keys_of says (live_dimensions held)) rows)
    (λ value made. made ∙ ap (fold_of reducer) some) c.fold_whole.ensures
