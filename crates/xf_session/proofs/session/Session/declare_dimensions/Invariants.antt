-- The dimensions of the board so far are there.
use Rattle.xf_session.proofs.Phases.{Taken}
use Rattle.xf_session.specs.Start.{with_dimensions}
use Rattle.xf_session.proofs.session.Session.declare_dimensions.Given as goal

abbrev pub invariant-loop-place : goal.invariant-loop-place
invariant-loop-place g l = Taken with_dimensions (λ board. board.dimensions) l.initial.self.cross.limits l.initial.self.board l.place l.self
