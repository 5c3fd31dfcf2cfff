-- The columns are those of the places so far.
use Rattle.std.proofs.Common.{◌≡◌, map, take}
use Rattle.csv.specs.Records.{fields_of}
use Rattle.xf_sheet.specs.Sheet.{field_of, int_column}
use Rattle.xf_sheet.proofs.sheet.int_schema.Given as goal

abbrev pub invariant-loop-place : goal.invariant-loop-place
invariant-loop-place l = l.schema ≡ map (λ place. int_column (field_of (fields_of l.header) place)) (take l.place-index l.chosen)
