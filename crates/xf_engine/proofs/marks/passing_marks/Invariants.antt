-- The marks are those of the rows so far.
use Rattle.std.proofs.Common.{◌≡◌, map}
use Rattle.std.specs.List.{range_with_len}
use Rattle.xf_engine.specs.Held.{passes_each_at}
use Rattle.xf_engine.proofs.marks.passing_marks.Given as goal

abbrev pub invariant-loop-place : goal.invariant-loop-place
invariant-loop-place g l = l.marks.items ≡ map (passes_each_at g.P.Predicate.says_to l.dimensions) (range_with_len 0 l.place)
