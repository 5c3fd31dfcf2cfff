-- The values so far are in place.
use Rattle.std.proofs.Common.{◌≡◌, length}
use Rattle.xf_engine.specs.Folding.{revalued}
use Rattle.xf_engine.proofs.whole.revalue.Given as goal

abbrev pub invariant-loop-value : goal.invariant-loop-value
invariant-loop-value g l = record {
  count : l.place ≡ length l.yielded;
  same : l.wholes ≡ revalued l.initial.wholes l.yielded;
}
