-- The count so far is what moves in the rows so far, at most a key or the row itself each.
use Rattle.std.proofs.Common.{◌≡◌, ◌+◌, ◌≤◌, length, take, sum_by}
use Rattle.xf_filter.specs.Filter.{filter_of}
use Rattle.xf_model.specs.Moved.{moved_keys}
use Rattle.xf_engine.proofs.counts.moved_count.Given as goal

abbrev pub invariant-loop-place : goal.invariant-loop-place
invariant-loop-place g l = record {
  count : l.count ≡ sum_by (moved_keys (filter_of g.P.Predicate.says_to l.old) (filter_of g.P.Predicate.says_to l.new)) (take l.place l.keys);
  few : l.count ≤ sum_by length (take l.place l.keys) + l.place;
}
