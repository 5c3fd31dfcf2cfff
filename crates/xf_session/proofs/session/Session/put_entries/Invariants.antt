use Rattle.std.proofs.Common.{take}
use Rattle.xf_reply.specs.Put.{Puts}
use Rattle.xf_session.specs.Command.{group_entries}
use Rattle.xf_session.specs.Outcome.{entry_lines}
use Rattle.xf_session.proofs.session.Session.put_entries.Given as goal

-- the lines so far
abbrev pub invariant-loop-position : goal.invariant-loop-position
invariant-loop-position g l = Puts l.initial.out.items l.out.items (entry_lines l.form (take l.position (group_entries l.self l.id.0)))
