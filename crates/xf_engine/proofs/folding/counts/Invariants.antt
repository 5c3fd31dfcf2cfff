-- The marks are those of the places so far.
use Rattle.std.proofs.Common.{◌≡◌, map}
use Rattle.std.specs.List.{range_with_len}
use Rattle.xf_engine.specs.Folding.{counts_at}
use Rattle.xf_engine.proofs.folding.counts.Given as goal

abbrev pub invariant-loop-place : goal.invariant-loop-place
invariant-loop-place g l = l.counts.items ≡ map (counts_at g.P.Predicate.says_to l.counting l.dimensions l.own) (range_with_len 0 l.place)
