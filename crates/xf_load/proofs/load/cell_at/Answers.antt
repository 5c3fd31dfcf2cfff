-- The answer of `read_cell` for the field.
use Rattle.std.proofs.Common.{◌≡◌, [], Ok, Err, refl, inr, slice_get, unwrap_or}
use Rattle.csv.specs.Records.{fields_of}
use Rattle.xf_load.specs.Cell.{cell_of}
use Rattle.xf_load.proofs.CellFacts.{Tells-Bad, Tells-Ok}
use Rattle.xf_load.proofs.FieldFacts.{field-or_empty}
use Rattle.xf_load.proofs.load.cell_at.Goals as goal

pub returns-in-Ok-clause-cell : goal.returns-in-Ok-clause-cell
returns-in-Ok-clause-cell c =
    let field = field-or_empty c.get.result _ c.unwrap_or-field.result (fields_of c.args.fields.now) c.args.place c.unwrap_or-field.ensures refl c.get.ensures.value in
    let read = Tells-Ok c.in-Ok.cell (cell_of c.args.column.now c.unwrap_or-field.result.now) c.in-Ok.ensures.cell in
    let is : cell_of c.args.column.now (unwrap_or (slice_get (fields_of c.args.fields.now) c.args.place) []) ≡ Ok c.in-Ok.cell = rw field at read in
    inr (rw is)

pub returns-in-Err-Bad-clause-cell : goal.returns-in-Err-Bad-clause-cell
returns-in-Err-Bad-clause-cell c =
    let field = field-or_empty c.get.result _ c.unwrap_or-field.result (fields_of c.args.fields.now) c.args.place c.unwrap_or-field.ensures refl c.get.ensures.value in
    let told = rw c.in-Err-Bad.field-0-is at c.in-Err-Bad.ensures.cell in
    let read = Tells-Bad c.in-Err-Bad.why (cell_of c.args.column.now c.unwrap_or-field.result.now) told in
    let is : cell_of c.args.column.now (unwrap_or (slice_get (fields_of c.args.fields.now) c.args.place) []) ≡ Err c.in-Err-Bad.why = rw field at read in
    inr (rw is)
