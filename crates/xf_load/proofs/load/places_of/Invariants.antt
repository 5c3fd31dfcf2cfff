-- The places are those of the columns so far.
use Rattle.std.specs.List.{enumerate_from}
use Rattle.csv.specs.Records.{fields_of}
use Rattle.xf_load.specs.Load.{place_of}
use Rattle.xf_load.proofs.FallibleFacts.{IsReadTo}
use Rattle.xf_load.proofs.load.places_of.Given as goal

abbrev pub invariant-loop-index : goal.invariant-loop-index
invariant-loop-index l = IsReadTo (place_of (fields_of l.header)) (enumerate_from 0 l.columns) l.places.items l.index
