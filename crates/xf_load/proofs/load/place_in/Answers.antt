-- The first field that is the name ends the search.
use Rattle.std.proofs.Common.{[], sym, arith}
use borrow.Author.Count.{below_more}
use Rattle.std.specs.Str.{bytes_eq}
use Rattle.csv.specs.Records.{fields_of}
use Rattle.xf_load.proofs.FieldFacts.{name-test, position-found, position-none}
use Rattle.xf_load.proofs.load.place_in.Goals as goal

pub loop-place-preserved : goal.loop-place-preserved
loop-place-preserved c =
    below_more _ _ c.loop-place.invariant (name-test c.get.result c.args.name (fields_of c.args.header.now) c.loop-place.place _ (omega arith) c.get.ensures.value c.if-eq.ensures)

pub returns-then-eq : goal.returns-then-eq
returns-then-eq c =
    let here = name-test c.get.result c.args.name (fields_of c.args.header.now) c.loop-place.place _ (omega arith) c.get.ensures.value c.if-eq.ensures in
    sym (position-found (bytes_eq c.args.name.now) (fields_of c.args.header.now) c.loop-place.place [] (omega arith) c.loop-place.invariant here)

pub returns : goal.returns
returns c = sym (position-none (bytes_eq c.args.name.now) (fields_of c.args.header.now) [] (λ k within. c.loop-place.invariant k (omega arith)))
