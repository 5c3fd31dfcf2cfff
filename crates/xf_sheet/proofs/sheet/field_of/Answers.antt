-- A looked-up field, or an empty one.
use Rattle.std.proofs.Common.{refl}
use Rattle.csv.specs.Records.{fields_of}
use Rattle.xf_load.proofs.FieldFacts.{field-or_empty}
use Rattle.xf_sheet.proofs.sheet.field_of.Goals as goal

pub returns : goal.returns
returns c = field-or_empty c.get.result _ c.unwrap_or.result (fields_of c.args.fields.now) c.args.place c.unwrap_or.ensures refl c.get.ensures.value
