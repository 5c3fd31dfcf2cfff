-- The values so far are in place.
use Rattle.std.proofs.Common.{◌≡◌, length}
use Rattle.xf_engine.specs.Folding.{regrouped}
use Rattle.xf_engine.proofs.grouping.regroup.Given as goal

abbrev pub invariant-loop-value : goal.invariant-loop-value
invariant-loop-value g l = record {
  count : l.place ≡ length l.yielded;
  same : l.groups ≡ regrouped l.initial.groups l.yielded;
}
