-- The rows are those that the file has in the chosen columns.
use Rattle.xf_sheet.proofs.SheetRows.{rows-within, sheet-is, told-Ok}
use Rattle.xf_sheet.proofs.sheet.read_sheet.Goals as goal

pub invariant_of-result : goal.invariant_of-result
invariant_of-result c =
    sheet-is c.args.bytes.now c.args.limits.now c.in_ok-schema.schema c.in-Ok.rows c.is_sound-sound.ensures.sound (told-Ok _ _ _ c.in_ok-schema.ensures) (told-Ok _ _ _ c.in-Ok.ensures.rows) c.in-Ok.ensures.of_schema

pub returns-in-Ok-clause-within : goal.returns-in-Ok-clause-within
returns-in-Ok-clause-within c =
    rows-within c.args.bytes.now c.args.limits.now c.in_ok-schema.schema c.in-Ok.rows (told-Ok _ _ _ c.in_ok-schema.ensures) (told-Ok _ _ _ c.in-Ok.ensures.rows)
