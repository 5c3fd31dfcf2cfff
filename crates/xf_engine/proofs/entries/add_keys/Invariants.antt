-- The dimensions so far have the keys of the new rows too.
use Rattle.std.proofs.Common.{◌≡◌}
use Rattle.xf_engine.specs.Held.{with_keys_of}
use Rattle.xf_engine.proofs.Swept.{swept}
use Rattle.xf_engine.proofs.entries.add_keys.Given as goal

abbrev pub invariant-loop-place : goal.invariant-loop-place
invariant-loop-place g l = l.dimensions ≡ swept (with_keys_of g.A.Accessor.keys_of l.rows) l.place l.initial.dimensions
