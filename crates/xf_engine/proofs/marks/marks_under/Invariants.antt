-- The marks are those of the rows so far.
use Rattle.std.proofs.Common.{◌≡◌, map, take}
use Rattle.xf_engine.specs.Held.{keys_pass}
use Rattle.xf_engine.proofs.marks.marks_under.Given as goal

abbrev pub invariant-loop-place : goal.invariant-loop-place
invariant-loop-place g l = l.marks.items ≡ map (keys_pass g.P.Predicate.says_to l.filter) (take l.place l.keys)
