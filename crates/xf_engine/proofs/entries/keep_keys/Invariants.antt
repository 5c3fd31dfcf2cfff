-- The dimensions so far keep the first rows alone.
use Rattle.std.proofs.Common.{◌≡◌}
use Rattle.xf_engine.specs.Held.{kept_keys}
use Rattle.xf_engine.proofs.Swept.{swept}
use Rattle.xf_engine.proofs.entries.keep_keys.Given as goal

abbrev pub invariant-loop-place : goal.invariant-loop-place
invariant-loop-place g l = l.dimensions ≡ swept (kept_keys l.count) l.place l.initial.dimensions
