-- Each column has its place, or is the first that the header lacks.
use Rattle.std.proofs.Common.{◌∙◌, ◌<◌, inr, length, sym, ap, Ok, arith}
use Rattle.std.specs.List.{enumerate_from}
use Rattle.std.proofs.lemmas.List.FromFn.{length-enumerate_from}
use Rattle.csv.specs.Records.{fields_of}
use Rattle.xf_load.specs.Load.{place_of}
use Rattle.xf_load.specs.declared.load.LoadRefusal.TheVariants.{MissingColumn}
use Rattle.xf_load.proofs.FallibleFacts.{IsReadTo-all, IsReadTo-more, IsReadTo-refused}
use Rattle.xf_load.proofs.LoadFacts.{numbered-at, place_of-found, place_of-missing}
use Rattle.xf_load.proofs.load.places_of.Goals as goal

pub returns-in_default : goal.returns-in_default
returns-in_default c =
    let header = fields_of c.args.header.now in
    let columns = c.args.columns.now in
    let i = c.loop-index.index in
    let column = c.index-columns-index.result in
    let within : i < length (enumerate_from 0 columns) = omega (arith, length-enumerate_from 0 columns) in
    let missing = place_of-missing header i column c.as_bytes.result.now (c.as_bytes.ensures.value ∙ c.as_str.ensures) c.in_default.ensures in
    inr (sym (IsReadTo-refused (place_of header) (enumerate_from 0 columns) c.loop-index.places.items i (i, column) (MissingColumn i) within (numbered-at columns i column (omega arith) c.index-columns-index.is) missing c.loop-index.invariant))

pub loop-index-preserved : goal.loop-index-preserved
loop-index-preserved c =
    let header = fields_of c.args.header.now in
    let columns = c.args.columns.now in
    let i = c.loop-index.index in
    let column = c.index-columns-index.result in
    let within : i < length (enumerate_from 0 columns) = omega (arith, length-enumerate_from 0 columns) in
    let found = place_of-found header i column c.as_bytes.result.now c.in-Some.place (c.as_bytes.ensures.value ∙ c.as_str.ensures) c.in-Some.ensures in
    rw c.in_ok-push.ensures.items (IsReadTo-more (place_of header) (enumerate_from 0 columns) c.loop-index.places.items i (i, column) c.in-Some.place within (numbered-at columns i column (omega arith) c.index-columns-index.is) found c.loop-index.invariant)

pub returns : goal.returns
returns c =
    let columns = c.args.columns.now in
    inr (ap Ok c.from_vec.ensures ∙ sym (IsReadTo-all (place_of (fields_of c.args.header.now)) (enumerate_from 0 columns) c.loop-index.places.items c.loop-index.index (omega (arith, length-enumerate_from 0 columns)) c.loop-index.invariant))
