-- The pairs are those of the places so far.
use Rattle.std.proofs.Common.{◌≡◌}
use Rattle.std.specs.List.{flat_map, range_with_len}
use Rattle.xf_engine.specs.Listing.{pairs_at, told}
use Rattle.xf_engine.proofs.listing.collect_pairs.Given as goal

abbrev pub invariant-loop-place : goal.invariant-loop-place
invariant-loop-place g l = told l.pairs.items ≡ flat_map (pairs_at g.P.Predicate.says_to l.dimensions l.own) (range_with_len 0 l.place)
