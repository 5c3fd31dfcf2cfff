-- The columns are chosen by what all records say, and the causes come in their order.
use Rattle.std.proofs.Common.{◌∙◌, ◌<◌, ◌^◌, inr, refl, sym, ap, length, filter, arith, rules}
use Rattle.csv.specs.Records.{fields_of}
use Rattle.xf_base.specs.Bounds.{Bounds}
use Rattle.xf_load.proofs.CsvRecords.{records_of-length}
use Rattle.xf_sheet.specs.Sheet.{is_number_column}
use Rattle.xf_sheet.proofs.SheetFacts.{sheet_columns-entries, sheet_columns-even, columns-are, columns-few, entries-fit, places-text}
use Rattle.xf_sheet.proofs.sheet.sheet_schema.Goals as goal

pub count_records-requires : goal.count_records-requires
count_records-requires c =
    let size : length c.args.bytes.now < 2 ^ 63 = search rules in
    let took = rw c.if-not-branch.false at c.in_ok-read.ensures.read in
    omega (arith, size, records_of-length c.args.bytes.now, ap length c.in_ok-reader.ensures, ap length took)

pub int_schema-requires : goal.int_schema-requires
int_schema-requires c =
    places-text (fields_of c.read.new.fields) c.read.new.self c.as_slice.result.now
    (c.as_slice.ensures.value ∙ c.in_ok-count.ensures.kept ∙ ap (filter (is_number_column c.read.new.self)) c.in_ok-places.ensures)

pub overflow_mul-entries : goal.overflow_mul-entries
overflow_mul-entries c =
    let header = fields_of c.read.new.fields in
    let records = c.read.new.self in
    let places = c.as_slice.ensures.value ∙ c.in_ok-count.ensures.kept ∙ ap (filter (is_number_column records)) c.in_ok-places.ensures in
    let columns = c.in_ok-schema.ensures ∙ columns-are header records c.as_slice.result.now places in
    omega (arith, entries-fit c.in_ok-count.count c.len-2.result (omega (arith, c.limits.invariant.rows)) (omega (arith, ap length columns, columns-few header records)))

pub returns-then-entries-limits : goal.returns-then-entries-limits
returns-then-entries-limits c =
    let header = fields_of c.read.new.fields in
    let records = c.read.new.self in
    let rows_limit = ap (λ (limits : Bounds). limits.rows) c.limits.view_is in
    let entries_limit = ap (λ (limits : Bounds). limits.entries) c.limits.view_is in
    let places = c.as_slice.ensures.value ∙ c.in_ok-count.ensures.kept ∙ ap (filter (is_number_column records)) c.in_ok-places.ensures in
    let columns = c.in_ok-schema.ensures ∙ columns-are header records c.as_slice.result.now places in
    let took = sym c.in_ok-reader.ensures ∙ rw c.if-not-branch.false at c.in_ok-read.ensures.read in
    let even = rw c.len.ensures at c.in_ok-count.ensures.even in
    inr (rw entries_limit (sym (sheet_columns-entries _ header records c.args.limits.now c.in_ok-schema.schema _ took even columns (omega (arith, c.in_ok-count.ensures.count, rows_limit)) (rw (c.in_ok-count.ensures.count, c.len-2.ensures) refl) (rw (← entries_limit) c.if-entries-limits.true))))

pub returns : goal.returns
returns c =
    let header = fields_of c.read.new.fields in
    let records = c.read.new.self in
    let rows_limit = ap (λ (limits : Bounds). limits.rows) c.limits.view_is in
    let entries_limit = ap (λ (limits : Bounds). limits.entries) c.limits.view_is in
    let places = c.as_slice.ensures.value ∙ c.in_ok-count.ensures.kept ∙ ap (filter (is_number_column records)) c.in_ok-places.ensures in
    let columns = c.in_ok-schema.ensures ∙ columns-are header records c.as_slice.result.now places in
    let took = sym c.in_ok-reader.ensures ∙ rw c.if-not-branch.false at c.in_ok-read.ensures.read in
    let even = rw c.len.ensures at c.in_ok-count.ensures.even in
    inr (sym (sheet_columns-even _ header records c.args.limits.now c.in_ok-schema.schema took even columns (omega (arith, c.in_ok-count.ensures.count, rows_limit)) (rw (c.in_ok-count.ensures.count, c.len-2.ensures, entries_limit) at c.if-entries-limits.false)))
