-- What is kept is what passes the closure's test.
use Rattle.std.proofs.Common.{rules}
use Rattle.std.proofs.lemmas.Fn.{filter_same}
use Rattle.csv.specs.Records.{fields_of}
use Rattle.xf_sheet.specs.Sheet.{field_of, is_number}
use Rattle.xf_sheet.proofs.sheet.keep_numbers.Goals as goal

pub returns : goal.returns
returns c = filter_same _ (λ place. is_number (field_of (fields_of c.args.fields.now) place)) _ (λ x b f k. search rules) _ _ c.retain.ensures.filtered
