-- Each column gives its cell, or the first refusal.
use Rattle.std.proofs.Common.{◌≡◌, ◌∙◌, inr, ◌+◌, length, sym, ap, Ok, Err, arith, rules}
use Rattle.std.specs.List.{enumerate_from, zip}
use Rattle.std.specs.Iterator.Adapters.{zip_first, zip_second}
use Rattle.std.specs.Slice.Iter.{iter_rest}
use Rattle.std.proofs.lemmas.List.{length_push}
use Rattle.std.proofs.lemmas.List.FromFn.{length-enumerate_from}
use Rattle.std.proofs.lemmas.Result.{err_from_is_err_and}
use Rattle.std.proofs.lemmas.Slice.Zip.{length-zip, zip_end, zip_turn}
use Rattle.csv.specs.Records.{fields_of}
use Rattle.xf_load.specs.Fallible.{each_ok}
use Rattle.xf_load.specs.Load.{cell_at}
use Rattle.xf_load.proofs.FallibleFacts.{IsReadTo-all, IsReadTo-more, IsReadTo-refused}
use Rattle.xf_load.proofs.LoadFacts.{IsRowOf-more, Tells-Err, Tells-Ok, placed-at, row_of-even}
use Rattle.xf_load.proofs.load.row_of.Goals as goal

pub loop-column-preserved : goal.loop-column-preserved
loop-column-preserved c =
    let columns = c.args.columns.now in
    let places = c.args.places.now in
    let fields = fields_of c.args.fields.now in
    let n = length c.loop-column.yielded in
    let first : iter_rest (zip_first c.into_iter-column-iterator.result) ≡ columns = search rules in
    let second : iter_rest (zip_second c.into_iter-column-iterator.result) ≡ places = search rules in
    let turn = zip_turn columns places c.loop-column.yielded c.into_iter-column-iterator.result c.loop-column.column-iterator c.next.new.self c.next.result first second c.loop-column.yielded_by (c.in-Some.column, c.in-Some.place) c.in-Some.is c.next.ensures.steps in
    let column = c.in-Some.column.now in
    let place = c.in-Some.place.now in
    let placed = placed-at columns places n column place turn.0 turn.1 (turn.2 column) (turn.3 place) in
    let count : c.len-in-loop-column.result ≡ n = c.len-in-loop-column.ensures ∙ c.loop-column.invariant.count in
    let told = rw count at c.in_ok-cell.ensures.cell in
    let is = Tells-Ok c.in_ok-cell.cell (cell_at c.args.number fields (n, (column, place))) told in
    let more = length_push c.loop-column.yielded (c.in-Some.column, c.in-Some.place) in
    rw (c.in_ok-push.ensures.items, more) (record {
      read = IsReadTo-more (cell_at c.args.number fields) (enumerate_from 0 (zip columns places)) c.loop-column.cells.items n (n, (column, place)) c.in_ok-cell.cell placed.0 placed.1 is c.loop-column.invariant.read;
      count = c.in_ok-push.ensures.len ∙ ap (λ k. k + 1) c.loop-column.invariant.count;
      of_columns = IsRowOf-more columns c.loop-column.cells.items n column c.in_ok-cell.cell turn.0 (turn.2 column) c.loop-column.invariant.of_columns c.in_ok-cell.ensures.of_column;
    })

pub returns-in_err-cell-clause-row : goal.returns-in_err-cell-clause-row
returns-in_err-cell-clause-row c =
    let columns = c.args.columns.now in
    let places = c.args.places.now in
    let fields = fields_of c.args.fields.now in
    let n = length c.loop-column.yielded in
    let first : iter_rest (zip_first c.into_iter-column-iterator.result) ≡ columns = search rules in
    let second : iter_rest (zip_second c.into_iter-column-iterator.result) ≡ places = search rules in
    let turn = zip_turn columns places c.loop-column.yielded c.into_iter-column-iterator.result c.loop-column.column-iterator c.next.new.self c.next.result first second c.loop-column.yielded_by (c.in-Some.column, c.in-Some.place) c.in-Some.is c.next.ensures.steps in
    let column = c.in-Some.column.now in
    let place = c.in-Some.place.now in
    let placed = placed-at columns places n column place turn.0 turn.1 (turn.2 column) (turn.3 place) in
    let count : c.len-in-loop-column.result ≡ n = c.len-in-loop-column.ensures ∙ c.loop-column.invariant.count in
    let told = rw count at c.in_err-cell.ensures.cell in
    let returned = err_from_is_err_and c.from_residual-in_err-cell.result c.from_residual-in_err-cell.ensures.1 in
    let even = row_of-even columns places c.args.width c.args.number fields (sym c.len.ensures ∙ c.if-len-width.false) in
    let refusal = c.in_err-cell.field-0.0 in
    rw even (Tells-Err refusal (cell_at c.args.number fields (n, (column, place))) c.from_residual-in_err-cell.result (each_ok (cell_at c.args.number fields) (enumerate_from 0 (zip columns places))) told (returned.1 ∙ ap (λ r. Err r) returned.2)
    (λ is. IsReadTo-refused (cell_at c.args.number fields) (enumerate_from 0 (zip columns places)) c.loop-column.cells.items n (n, (column, place)) refusal placed.0 placed.1 is c.loop-column.invariant.read))

pub returns-clause-row : goal.returns-clause-row
returns-clause-row c =
    let columns = c.args.columns.now in
    let places = c.args.places.now in
    let fields = fields_of c.args.fields.now in
    let first : iter_rest (zip_first c.into_iter-column-iterator.result) ≡ columns = search rules in
    let second : iter_rest (zip_second c.into_iter-column-iterator.result) ≡ places = search rules in
    let end = zip_end columns places c.loop-column.yielded c.into_iter-column-iterator.result c.loop-column.column-iterator c.next.new.self c.next.result first second c.loop-column.yielded_by c.in-None.is c.next.ensures.steps in
    let all = IsReadTo-all (cell_at c.args.number fields) (enumerate_from 0 (zip columns places)) c.loop-column.cells.items (length c.loop-column.yielded) (omega (arith, length-enumerate_from 0 (zip columns places), length-zip columns places)) c.loop-column.invariant.read in
    let even = row_of-even columns places c.args.width c.args.number fields (sym c.len.ensures ∙ c.if-len-width.false) in
    inr (ap Ok c.from_vec.ensures ∙ sym all ∙ sym even)
