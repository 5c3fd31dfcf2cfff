-- Each record gives its row, or the first refusal.
use Rattle.std.proofs.Common.{◌∙◌, ◌+◌, ◌<◌, ◌^◌, length, inr, sym, ap, Err, arith, rules}
use Rattle.std.specs.List.{enumerate_from}
use Rattle.std.proofs.lemmas.List.FromFn.{length-enumerate_from}
use Rattle.std.proofs.lemmas.Result.{err_from_is_err_and}
use Rattle.csv.specs.Records.{fields_of}
use Rattle.xf_base.specs.Schema.{IsRowOf}
use Rattle.xf_load.specs.Load.{place_of, places_of, row_of}
use Rattle.xf_load.proofs.CsvRecords.{records_of-length}
use Rattle.xf_load.proofs.FallibleFacts.{each_ok-length}
use Rattle.xf_load.proofs.LoadFacts.{Tells-Err, Tells-Ok, all-push, loaded_from-end, loaded_from-kept, loaded_from-refused, loaded_of-header}
use Rattle.xf_load.proofs.load.records_within.Goals as goal

pub overflow_add-count : goal.overflow_add-count
overflow_add-count c =
    let size : length c.args.bytes.now < 2 ^ 63 = search rules in
    let took = rw c.if-not-branch.false at c.in_ok-read.ensures.read in
    let next = rw c.if-branch.true at c.in_ok-read-2.ensures.read in
    omega (arith, size, records_of-length c.args.bytes.now, ap length c.in_ok-reader.ensures, ap length took, ap length next, c.loop-rows.invariant.left)

pub row_of-requires-clause-places : goal.row_of-requires-clause-places
row_of-requires-clause-places c =
    let header = fields_of c.read.new.fields in
    let columns = c.as_slice-columns.result.now in
    let placed = Tells-Ok c.in_ok-places.places (places_of columns header) c.in_ok-places.ensures in
    let long = each_ok-length (place_of header) (enumerate_from 0 columns) c.in_ok-places.places placed in
    ap length c.as_slice-places.ensures ∙ long ∙ length-enumerate_from 0 columns

pub returns-in_err-row-clause-loaded : goal.returns-in_err-row-clause-loaded
returns-in_err-row-clause-loaded c =
    let header = fields_of c.read.new.fields in
    let columns = c.as_slice-columns.result.now in
    let places = c.as_slice-places.result.now in
    let width = c.len-width.result in
    let count = c.loop-rows.count in
    let fields = fields_of c.read-in-loop-rows.new.fields in
    let took = rw c.if-not-branch.false at c.in_ok-read.ensures.read in
    let placed = Tells-Ok c.in_ok-places.places (places_of columns header) c.in_ok-places.ensures in
    let whole = loaded_of-header c.args.schema.now columns c.args.bytes.now c.args.limit header c.read.new.self c.in_ok-places.places places width c.as_slice-columns.ensures.value c.as_slice-places.ensures c.len-width.ensures (sym c.in_ok-reader.ensures ∙ took) placed in
    let next = rw c.if-branch.true at c.in_ok-read-2.ensures.read in
    let returned = err_from_is_err_and c.from_residual-in_err-row.result c.from_residual-in_err-row.ensures.1 in
    let refusal = c.in_err-row.field-0.0 in
    rw (← whole, ← c.loop-rows.invariant.same) (Tells-Err refusal (row_of columns places width (count + 1, fields)) c.from_residual-in_err-row.result _ c.in_err-row.ensures.row (returned.1 ∙ ap (λ r. Err r) returned.2)
    (λ is. loaded_from-refused (row_of columns places width) c.args.limit c.loop-rows.rows count fields c.loop-rows.reader c.read-in-loop-rows.new.self refusal next is))

pub loop-rows-preserved-in_ok-push : goal.loop-rows-preserved-in_ok-push
loop-rows-preserved-in_ok-push c =
    let columns = c.as_slice-columns.result.now in
    let places = c.as_slice-places.result.now in
    let width = c.len-width.result in
    let count = c.loop-rows.count in
    let fields = fields_of c.read-in-loop-rows.new.fields in
    let next = rw c.if-branch.true at c.in_ok-read-2.ensures.read in
    let row = Tells-Ok c.in_ok-row.row (row_of columns places width (count + 1, fields)) c.in_ok-row.ensures.row in
    let kept = loaded_from-kept (row_of columns places width) c.args.limit c.loop-rows.rows count fields c.loop-rows.reader c.read-in-loop-rows.new.self c.in_ok-row.row next row (omega arith) in
    rw c.in_ok-push.ensures.ok (record {
      same = sym kept ∙ c.loop-rows.invariant.same;
      left = omega (arith, ap length next, c.loop-rows.invariant.left);
      of_schema = all-push (IsRowOf columns) c.loop-rows.rows c.in_ok-row.row c.loop-rows.invariant.of_schema c.in_ok-row.ensures.of_columns;
    })

pub returns-clause-loaded : goal.returns-clause-loaded
returns-clause-loaded c =
    let header = fields_of c.read.new.fields in
    let columns = c.as_slice-columns.result.now in
    let places = c.as_slice-places.result.now in
    let width = c.len-width.result in
    let took = rw c.if-not-branch.false at c.in_ok-read.ensures.read in
    let placed = Tells-Ok c.in_ok-places.places (places_of columns header) c.in_ok-places.ensures in
    let whole = loaded_of-header c.args.schema.now columns c.args.bytes.now c.args.limit header c.read.new.self c.in_ok-places.places places width c.as_slice-columns.ensures.value c.as_slice-places.ensures c.len-width.ensures (sym c.in_ok-reader.ensures ∙ took) placed in
    let none = (rw c.if-branch.false at c.in_ok-read-2.ensures.read).0 in
    inr (sym (loaded_from-end (row_of columns places width) c.args.limit c.loop-rows.rows c.loop-rows.count c.loop-rows.reader none) ∙ c.loop-rows.invariant.same ∙ whole)
