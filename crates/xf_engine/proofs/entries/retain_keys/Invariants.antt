-- The dimensions so far keep the keys of the rows that are not gone.
use Rattle.std.proofs.Common.{◌≡◌}
use Rattle.xf_engine.specs.Held.{retained_keys}
use Rattle.xf_engine.proofs.Swept.{swept}
use Rattle.xf_engine.proofs.entries.retain_keys.Given as goal

abbrev pub invariant-loop-place : goal.invariant-loop-place
invariant-loop-place g l = l.dimensions ≡ swept (retained_keys l.gone) l.place l.initial.dimensions
