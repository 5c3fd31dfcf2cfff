use Rattle.std.proofs.Common.{◌≡◌, []}
use Rattle.xf_app.proofs.LineFacts.{strip_bom-le}
use Rattle.xf_app.proofs.Replayed.{done-by, ends-told, going-more, going-start, none-left, refused-by, stops-told}
use Rattle.xf_app.proofs.replay.replay.Goals as goal
use Rattle.xf_app.specs.Ends.{sides}

pub loop-rest-init : goal.loop-rest-init
loop-rest-init g c =
    going-start c.args.session c.args.bytes.now c.text_of-rest.result.now (sides (g.D.Depot.account c.args.depot.now) (g.S.Sink.account c.args.sink.now)) c.text_of-rest.ensures (strip_bom-le c.args.bytes.now)

pub returns-in-Err-clause-told : goal.returns-in-Err-clause-told
returns-in-Err-clause-told g c =
    stops-told c.args.session c.args.bytes.now c.loop-rest.session c.advance.new.session c.loop-rest.tally c.advance.new.tally c.loop-rest.rest.now c.first_line.result.0.now c.first_line.result.1.now
    (sides (g.D.Depot.account c.args.depot.now) (g.S.Sink.account c.args.sink.now)) (sides (g.D.Depot.account c.loop-rest.depot) (g.S.Sink.account c.loop-rest.sink))
    (sides (g.D.Depot.account c.advance.new.depot) (g.S.Sink.account c.advance.new.sink)) c.in-Err.status
    c.loop-rest.invariant c.first_line.ensures.first c.in-Err.ensures.counted c.in-Err.ensures.told

pub loop-rest-preserved : goal.loop-rest-preserved
loop-rest-preserved g c =
    going-more c.args.session c.args.bytes.now c.loop-rest.session c.advance.new.session c.loop-rest.tally c.advance.new.tally c.loop-rest.rest.now c.first_line.result.0.now c.first_line.result.1.now
    (sides (g.D.Depot.account c.args.depot.now) (g.S.Sink.account c.args.sink.now)) (sides (g.D.Depot.account c.loop-rest.depot) (g.S.Sink.account c.loop-rest.sink))
    (sides (g.D.Depot.account c.advance.new.depot) (g.S.Sink.account c.advance.new.sink))
    c.loop-rest.invariant c.first_line.ensures.first c.first_line.ensures.shorter c.advance.ensures.files c.in_default.ensures.follows c.in_default.ensures.counted c.in_default.ensures.told

pub returns-then-tally-eq0-clause-told : goal.returns-then-tally-eq0-clause-told
returns-then-tally-eq0-clause-told g c =
    let none : c.loop-rest.rest.now ≡ [] = none-left c.loop-rest.rest.now c.is_empty.result c.is_empty.ensures c.loop-rest-test.false in
    ends-told c.args.session c.args.bytes.now c.loop-rest.session c.loop-rest.tally c.loop-rest.rest.now
    (sides (g.D.Depot.account c.args.depot.now) (g.S.Sink.account c.args.sink.now)) (sides (g.D.Depot.account c.loop-rest.depot) (g.S.Sink.account c.loop-rest.sink))
    _ c.loop-rest.invariant none (done-by c.loop-rest.tally.refusals c.if-tally-eq0.true)

pub returns-clause-told : goal.returns-clause-told
returns-clause-told g c =
    let none : c.loop-rest.rest.now ≡ [] = none-left c.loop-rest.rest.now c.is_empty.result c.is_empty.ensures c.loop-rest-test.false in
    ends-told c.args.session c.args.bytes.now c.loop-rest.session c.loop-rest.tally c.loop-rest.rest.now
    (sides (g.D.Depot.account c.args.depot.now) (g.S.Sink.account c.args.sink.now)) (sides (g.D.Depot.account c.loop-rest.depot) (g.S.Sink.account c.loop-rest.sink))
    _ c.loop-rest.invariant none (refused-by c.loop-rest.tally.refusals c.if-tally-eq0.false)
