-- One value more is made ready.
use Rattle.std.proofs.Common.{subst, arith}
use Rattle.std.proofs.lemmas.List.{take_all}
use Rattle.std.specs.List.{AllByRecursion}
use Rattle.xf_group.specs.Admitted.{IsReadyAt}
use Rattle.xf_group.specs.Held.{keys_at_positions, keys_of}
use Rattle.xf_group.proofs.PreparedPlaces.{prepared_more, prepared_next}
use Rattle.xf_group.proofs.ready.prepare_each.Goals as goal

pub returns-in_err-prepare-clause-kept : goal.returns-in_err-prepare-clause-kept
returns-in_err-prepare-clause-kept g c =
    prepared_more g.R.Reducer.meaning_of (g.R.Reducer.IsReady c.args.reducer.now) c.args.entries.now c.loop-position.entries c.args.positions.now c.loop-position.position-index c.index-entries-position.result c.prepare.new.value
    c.requires.within c.loop-position-test.true c.loop-position.invariant.kept c.prepare.ensures.meaning c.prepare.ensures.kept c.prepare.ensures.calls

pub loop-position-preserved : goal.loop-position-preserved
loop-position-preserved g c =
    let meaning_of = g.R.Reducer.meaning_of in
    let IsReady = g.R.Reducer.IsReady c.args.reducer.now in
    let first = c.args.entries.now in
    let old = c.loop-position.entries in
    let positions = c.args.positions.now in
    let i = c.loop-position.position-index in
    let d = c.index-entries-position.result in
    let value = c.prepare.new.value in
    record {
      ready = prepared_next meaning_of IsReady first old positions i d value c.requires.within c.loop-position-test.true c.loop-position.invariant.kept c.prepare.ensures.meaning c.prepare.ensures.kept c.prepare.ensures.calls
          c.args.row.now c.requires.sorted c.in_ok-prepare.ensures.ready c.loop-position.invariant.ready;
      kept = prepared_more meaning_of IsReady first old positions i d value c.requires.within c.loop-position-test.true c.loop-position.invariant.kept c.prepare.ensures.meaning c.prepare.ensures.kept c.prepare.ensures.calls;
    }

pub returns-clause-ready : goal.returns-clause-ready
returns-clause-ready g c =
    let all = take_all c.loop-position.position-index c.args.positions.now (omega (arith, c.loop-position-test.false)) in
    subst (λ positions. AllByRecursion (λ key. IsReadyAt (g.R.Reducer.IsReady c.args.reducer.now) c.loop-position.entries key c.args.row.now) (keys_at_positions (keys_of c.args.entries.now) positions)) all c.loop-position.invariant.ready
