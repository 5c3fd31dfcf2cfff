use Rattle.std.proofs.Common.{take}
use Rattle.xf_reply.specs.Answer.{field_words}
use Rattle.xf_reply.specs.Put.{PutsIf}
use Rattle.xf_reply.proofs.answer.put_fields.Given as goal

-- the fields so far
abbrev pub invariant-loop-field : goal.invariant-loop-field
invariant-loop-field l = PutsIf (Unit {0}) l.initial.out.items l.out.items (field_words (take l.field-index l.fields))
