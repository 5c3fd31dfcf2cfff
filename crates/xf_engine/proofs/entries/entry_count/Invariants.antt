-- The count so far is that of the dimensions so far.
use Rattle.std.proofs.Common.{◌≡◌, ◌≤◌, ◌*◌, ◌^◌, take, sum_by}
use Rattle.xf_engine.specs.Held.{held_count}
use Rattle.xf_engine.proofs.entries.entry_count.Given as goal

abbrev pub invariant-loop-dimension : goal.invariant-loop-dimension
invariant-loop-dimension g l = record {
  count : l.count ≡ sum_by held_count (take l.dimension-index l.dimensions);
  few : l.count ≤ l.dimension-index * 2 ^ 57;
}
