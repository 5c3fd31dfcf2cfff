-- What is said of the records that are left and of the places so far is what is said of all.
use Rattle.std.proofs.Common.{◌≡◌, ◌+◌, length, filter}
use Rattle.std.specs.List.{position_or_len}
use Rattle.xf_sheet.specs.Sheet.{is_number_column}
use Rattle.xf_sheet.proofs.SheetFacts.{is_uneven}
use Rattle.xf_sheet.proofs.sheet.count_records.Given as goal

abbrev pub invariant-loop-record : goal.invariant-loop-record
invariant-loop-record l = record {
  count : l.number + length l.reader ≡ length l.initial.reader;
  even : l.number + position_or_len (is_uneven l.width) l.reader ≡ position_or_len (is_uneven l.width) l.initial.reader;
  kept : filter (is_number_column l.reader) l.places.items ≡ filter (is_number_column l.initial.reader) l.initial.places.items;
}

abbrev pub decreases-loop-record : goal.decreases-loop-record
decreases-loop-record l = length l.reader
