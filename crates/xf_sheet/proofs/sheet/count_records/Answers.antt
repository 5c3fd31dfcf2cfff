-- Each record is one of those that are left.
use Rattle.std.proofs.Common.{◌∙◌, sym, ap, length, arith}
use Rattle.csv.specs.Records.{fields_of}
use Rattle.xf_sheet.proofs.SheetFacts.{even-next, kept-end, kept-next}
use Rattle.xf_sheet.proofs.sheet.count_records.Goals as goal

pub loop-record-preserved : goal.loop-record-preserved
loop-record-preserved c =
    let fields = fields_of c.read.new.fields in
    let next = rw c.if-branch.true at c.in_ok-read.ensures.read in
    record {
      count = omega (arith, ap length next, c.loop-record.invariant.count);
      even = even-next c.args.width c.loop-record.number fields c.loop-record.reader c.read.new.self next (sym c.len.ensures ∙ c.if-len-width.false) ∙ c.loop-record.invariant.even;
      kept = kept-next fields c.loop-record.reader c.read.new.self c.loop-record.places.items c.keep_numbers.new.places.items next c.keep_numbers.ensures ∙ c.loop-record.invariant.kept;
    }

pub returns-clause-kept : goal.returns-clause-kept
returns-clause-kept c =
    let none = (rw c.if-branch.false at c.in_ok-read.ensures.read).0 in
    sym (kept-end c.loop-record.reader c.loop-record.places.items none) ∙ c.loop-record.invariant.kept
