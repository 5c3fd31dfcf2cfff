use Rattle.std.proofs.Common.{take, flat_map}
use Rattle.xf_reply.specs.Put.{Puts}
use Rattle.xf_session.proofs.AnswerLines.{line_at}
use Rattle.xf_session.proofs.session.Session.put_records.Given as goal

-- the lines so far
abbrev pub invariant-loop-place : goal.invariant-loop-place
invariant-loop-place g l = Puts l.initial.out.items l.out.items (flat_map (line_at l.columns l.self.cross.rows) (take l.place-index l.places))
