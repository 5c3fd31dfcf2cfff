-- The rows so far with those of the records that are left are the rows of all records.
use Rattle.std.proofs.Common.{◌≡◌, ◌+◌, [], length}
use Rattle.std.specs.List.{AllByRecursion}
use Rattle.xf_base.specs.Schema.{IsRowOf}
use Rattle.xf_load.specs.Load.{row_of}
use Rattle.xf_load.proofs.LoadFacts.{loaded_from}
use Rattle.xf_load.proofs.load.records_within.Given as goal

abbrev pub invariant-loop-rows : goal.invariant-loop-rows
invariant-loop-rows l = record {
  same : loaded_from (row_of l.columns l.places l.width) l.limit l.rows l.count l.reader ≡ loaded_from (row_of l.columns l.places l.width) l.limit [] 0 l.initial.reader;
  left : l.count + length l.reader ≡ length l.initial.reader;
  of_schema : AllByRecursion (IsRowOf l.columns) l.rows;
}

abbrev pub decreases-loop-rows : goal.decreases-loop-rows
decreases-loop-rows l = length l.reader
