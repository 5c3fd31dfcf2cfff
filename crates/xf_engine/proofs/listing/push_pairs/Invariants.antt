-- The pairs of the keys so far are behind those that were there.
use Rattle.std.proofs.Common.{◌≡◌, ◌++◌, filter, map, take}
use Rattle.xf_engine.specs.Listing.{told}
use Rattle.xf_filter.specs.Filter.{filter_of}
use Rattle.xf_engine.proofs.listing.push_pairs.Given as goal

abbrev pub invariant-loop-key : goal.invariant-loop-key
invariant-loop-key g l = told l.pairs.items ≡ told l.initial.pairs.items ++ map (λ key. (key, l.place)) (filter (filter_of g.P.Predicate.says_to l.own).holds (take l.key-index l.keys))
