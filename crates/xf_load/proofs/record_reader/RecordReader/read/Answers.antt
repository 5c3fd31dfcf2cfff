-- A read that found a record takes the first of those ahead; a read that found none stood at the end.
use Rattle.std.proofs.Common.{◌∙◌, ℕ, List, [], Option, Some, cond, Bor, refl, sym, ap}
use Rattle.csv.specs.Records.{fields_of}
use Rattle.xf_load.specs.RecordsAhead.{records_ahead}
use Rattle.xf_load.proofs.CsvRecords.{took-found, took-missing}
use Rattle.xf_load.proofs.record_reader.RecordReader.read.Goals as goal

abbrev told : Bor (List ℕ) → Option (List ℕ)
told bytes = Some bytes.now

pub invariant_of-self : goal.invariant_of-self
invariant_of-self c =
    let before = c.self.invariant c.if-self.false in
    let read = rw c.in-Ok-true.field-0-test at (c.in-Ok-true.ensures.reads before.plain before.ready) in
    let on = c.in-Ok-true.ensures.reads_on c.in-Ok-true.field-0-test in
    λ _. (took-found told c.self.inside.reader c.read_byte_record.new.self (fields_of c.read_byte_record.new.row) before read on c.in-Ok-true.ensures.flexible).0

pub returns-in-Ok-true-clause-read : goal.returns-in-Ok-true-clause-read
returns-in-Ok-true-clause-read c =
    let before = c.self.invariant c.if-self.false in
    let read = rw c.in-Ok-true.field-0-test at (c.in-Ok-true.ensures.reads before.plain before.ready) in
    let on = c.in-Ok-true.ensures.reads_on c.in-Ok-true.field-0-test in
    let fields = fields_of c.read_byte_record.new.row in
    let took = (took-found told c.self.inside.reader c.read_byte_record.new.self fields before read on c.in-Ok-true.ensures.flexible).1 in
    rw c.if-self.false (sym c.self.view_is ∙ ap (λ ended. cond ended [] (records_ahead told c.self.inside.reader)) c.if-self.false ∙ took)

pub returns-in-Ok-false-clause-read : goal.returns-in-Ok-false-clause-read
returns-in-Ok-false-clause-read c =
    let before = c.self.invariant c.if-self.false in
    let read = rw c.in-Ok-false.field-0-test at (c.in-Ok-false.ensures.reads before.plain before.ready) in
    let none = took-missing told c.self.inside.reader c.read_byte_record.new.self (fields_of c.read_byte_record.new.row) before read in
    (sym c.self.view_is ∙ ap (λ ended. cond ended [] (records_ahead told c.self.inside.reader)) c.if-self.false ∙ none, refl)
