use Rattle.std.proofs.Common.{length}
use Rattle.xf_app.proofs.Replayed.{Going}
use Rattle.xf_app.proofs.replay.replay.Given as goal
use Rattle.xf_app.specs.Ends.{sides}

-- how far the session has come
abbrev pub invariant-loop-rest : goal.invariant-loop-rest
invariant-loop-rest g l =
    Going l.initial.session l.bytes l.session l.tally l.rest
    (sides (g.D.Depot.account l.initial.depot) (g.S.Sink.account l.initial.sink)) (sides (g.D.Depot.account l.depot) (g.S.Sink.account l.sink))

abbrev pub decreases-loop-rest : goal.decreases-loop-rest
decreases-loop-rest g l = length l.rest
