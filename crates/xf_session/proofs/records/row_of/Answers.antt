-- Each column gives its cell, or the first refusal.
use Rattle.std.proofs.Common.{◌≡◌, ◌∙◌, inr, ◌<◌, List, length, get_or, sym, ap, subst, refl, Ok, Err, arith, zero-add}
use Rattle.std.specs.List.{enumerate_from, range_with_len, zip}
use Rattle.std.proofs.lemmas.List.FromFn.{get_or-range_with_len, length-enumerate_from, length-range_with_len}
use Rattle.std.proofs.lemmas.Result.{err_from_is_err_and}
use Rattle.std.proofs.lemmas.Slice.Zip.{length-zip}
use Rattle.xf_base.specs.declared.column.Column.{Column}
use Rattle.xf_load.specs.Load.{cell_at}
use Rattle.xf_load.proofs.FallibleFacts.{IsReadTo-all, IsReadTo-more, IsReadTo-refused}
use Rattle.xf_load.proofs.LoadFacts.{IsRowOf-more, Tells, Tells-Err, Tells-Ok, placed-at, row_of-even}
use Rattle.xf_session.specs.Command.{row_of_words}
use Rattle.xf_session.proofs.records.row_of.Goals as goal

pub loop-place-preserved : goal.loop-place-preserved
loop-place-preserved c =
    let columns = c.as_slice-columns.result.now in
    let words = c.args.words.now in
    let n = c.loop-place.place in
    let places = range_with_len 0 (length columns) in
    let column = c.index-columns-place.result in
    let in_places : n < length places = omega (arith, length-range_with_len 0 (length columns)) in
    let at_place : n ≡ get_or places n n = sym (get_or-range_with_len 0 (length columns) n n c.loop-place-test.true ∙ zero-add n) in
    let placed = placed-at columns places n column n c.loop-place-test.true in_places c.index-columns-place.is at_place in
    let is = Tells-Ok c.in_ok-cell.cell (cell_at 1 words (n, (column, n))) c.in_ok-cell.ensures.cell in
    rw (c.in_ok-push.ensures.items) (record {
      read = IsReadTo-more (cell_at 1 words) (enumerate_from 0 (zip columns places)) c.loop-place.cells.items n (n, (column, n)) c.in_ok-cell.cell placed.0 placed.1 is c.loop-place.invariant.read;
      of_columns = IsRowOf-more columns c.loop-place.cells.items n column c.in_ok-cell.cell c.loop-place-test.true c.index-columns-place.is c.loop-place.invariant.of_columns c.in_ok-cell.ensures.of_column;
    })

pub returns-in_err-cell-clause-row : goal.returns-in_err-cell-clause-row
returns-in_err-cell-clause-row c =
    let columns = c.as_slice-columns.result.now in
    let words = c.args.words.now in
    let n = c.loop-place.place in
    let places = range_with_len 0 (length columns) in
    let column = c.index-columns-place.result in
    let in_places : n < length places = omega (arith, length-range_with_len 0 (length columns)) in
    let at_place : n ≡ get_or places n n = sym (get_or-range_with_len 0 (length columns) n n c.loop-place-test.true ∙ zero-add n) in
    let placed = placed-at columns places n column n c.loop-place-test.true in_places c.index-columns-place.is at_place in
    let returned = err_from_is_err_and c.from_residual-in_err-cell.result c.from_residual-in_err-cell.ensures.1 in
    let even = row_of-even columns places (length words) 1 words refl in
    let refusal = c.in_err-cell.field-0.0 in
    let told : Tells c.from_residual-in_err-cell.result (row_of_words columns words) =
    Tells-Err refusal (cell_at 1 words (n, (column, n))) c.from_residual-in_err-cell.result (row_of_words columns words) c.in_err-cell.ensures.cell (returned.1 ∙ ap (λ r. Err r) returned.2)
    (λ is. even ∙ IsReadTo-refused (cell_at 1 words) (enumerate_from 0 (zip columns places)) c.loop-place.cells.items n (n, (column, n)) refusal placed.0 placed.1 is c.loop-place.invariant.read) in
    subst (λ (columns : List Column). Tells c.from_residual-in_err-cell.result (row_of_words columns words)) c.as_slice-columns.ensures.value told

pub returns-clause-row : goal.returns-clause-row
returns-clause-row c =
    let columns = c.as_slice-columns.result.now in
    let words = c.args.words.now in
    let n = c.loop-place.place in
    let places = range_with_len 0 (length columns) in
    let all = IsReadTo-all (cell_at 1 words) (enumerate_from 0 (zip columns places)) c.loop-place.cells.items n (omega (arith, length-enumerate_from 0 (zip columns places), length-zip columns places)) c.loop-place.invariant.read in
    let even = row_of-even columns places (length words) 1 words refl in
    let told : Tells (Ok c.from_vec.result) (row_of_words columns words) = inr (ap Ok c.from_vec.ensures ∙ sym all ∙ sym even) in
    subst (λ (columns : List Column). Tells (Ok c.from_vec.result) (row_of_words columns words)) c.as_slice-columns.ensures.value told
