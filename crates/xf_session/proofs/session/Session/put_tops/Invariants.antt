use Rattle.std.proofs.Common.{take}
use Rattle.xf_reply.specs.Put.{Puts}
use Rattle.xf_session.specs.Command.{group_tops}
use Rattle.xf_session.specs.Outcome.{entry_lines}
use Rattle.xf_session.proofs.session.Session.put_tops.Given as goal

-- the lines so far
abbrev pub invariant-loop-top : goal.invariant-loop-top
invariant-loop-top g l = Puts l.initial.out.items l.out.items (entry_lines l.form (take l.top-index (group_tops l.self l.id.0 l.count)))
