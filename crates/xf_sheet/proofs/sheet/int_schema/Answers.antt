-- Each name is a text, and gives its column.
use Rattle.std.proofs.Common.{◌≡◌, ◌∙◌, ℕ, map, take, ap}
use Rattle.std.specs.Str.{IsUtf8}
use Rattle.std.proofs.lemmas.List.{take_all}
use Rattle.std.proofs.lemmas.List.Elements.{All-take}
use Rattle.csv.specs.Records.{fields_of}
use Rattle.xf_sheet.specs.Sheet.{field_of, int_column}
use Rattle.xf_sheet.proofs.SheetFacts.{take-min}
use Rattle.xf_sheet.proofs.sheet.int_schema.Goals as goal

pub unreachable-requires : goal.unreachable-requires
unreachable-requires c =
    let IsText : ℕ → Type 0 = λ place. IsUtf8 (field_of (fields_of c.args.header.now) place) in
    c.in_default.ensures.cases.0 (rw c.field_of.ensures (All-take IsText c.min.result c.args.places.now c.requires c.loop-place.place-index 0 c.loop-place-test.true))

pub returns : goal.returns
returns c =
    let chosen = take c.min.result c.args.places.now in
    let all : take c.loop-place.place-index chosen ≡ chosen = take_all c.loop-place.place-index chosen c.loop-place-test.false in
    c.loop-place.invariant ∙ ap (map (λ place. int_column (field_of (fields_of c.args.header.now) place))) (all ∙ take-min c.args.places.now c.min.result _ c.min.ensures)
