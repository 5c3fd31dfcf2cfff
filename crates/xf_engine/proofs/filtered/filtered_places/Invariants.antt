-- The places are those of the rows so far.
use Rattle.std.proofs.Common.{◌≡◌}
use Rattle.std.specs.List.{flat_map, range_with_len}
use Rattle.xf_engine.specs.Listing.{place_at}
use Rattle.xf_engine.specs.State.{id_numbers}
use Rattle.xf_engine.proofs.filtered.filtered_places.Given as goal

abbrev pub invariant-loop-place : goal.invariant-loop-place
invariant-loop-place g l = l.places.items ≡ flat_map (place_at g.P.Predicate.says_to l.dimensions (id_numbers l.ignored)) (range_with_len 0 l.place)
