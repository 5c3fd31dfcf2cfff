-- The count so far is that of the rows so far.
use Rattle.std.proofs.Common.{◌≡◌, ◌≤◌, take}
use Rattle.xf_engine.specs.Answers.{passing_in}
use Rattle.xf_engine.specs.Held.{live_dimensions}
use Rattle.xf_engine.proofs.counts.passing_count.Given as goal

abbrev pub invariant-loop-place : goal.invariant-loop-place
invariant-loop-place g l = record {
  count : l.count ≡ passing_in g.A.Accessor.keys_of g.P.Predicate.says_to (live_dimensions l.dimensions) (take l.place l.rows);
  few : l.count ≤ l.place;
}
