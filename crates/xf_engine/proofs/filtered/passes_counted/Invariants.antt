-- The row passes the dimensions so far, or they are ignored.
use Rattle.std.proofs.Common.{◌≡◌, true, take}
use Rattle.std.specs.List.{list_all}
use Rattle.xf_engine.specs.Listing.{passes_unless}
use Rattle.xf_engine.specs.State.{id_numbers}
use Rattle.xf_engine.proofs.filtered.passes_counted.Given as goal

abbrev pub invariant-loop-dimension : goal.invariant-loop-dimension
invariant-loop-dimension g l = list_all (passes_unless g.P.Predicate.says_to (id_numbers l.ignored) l.place) (take l.dimension-index l.dimensions) ≡ true
