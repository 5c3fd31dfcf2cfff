-- The wholes of the board so far are there.
use Rattle.xf_session.proofs.Phases.{Taken}
use Rattle.xf_session.specs.Start.{with_wholes}
use Rattle.xf_session.proofs.session.Session.declare_wholes.Given as goal

abbrev pub invariant-loop-place : goal.invariant-loop-place
invariant-loop-place g l = Taken with_wholes (λ board. board.wholes) l.initial.self.cross.limits l.initial.self.board l.place l.self
