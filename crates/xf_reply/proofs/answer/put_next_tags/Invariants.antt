use Rattle.std.proofs.Common.{◌<◌, take}
use Rattle.xf_reply.specs.Answer.{behind}
use Rattle.xf_reply.specs.Put.{PutsIf}
use Rattle.xf_reply.proofs.answer.put_next_tags.Given as goal

-- the tags so far
abbrev pub invariant-loop-tag : goal.invariant-loop-tag
invariant-loop-tag l = PutsIf (l.separator < 128) l.initial.out.items l.out.items (behind l.separator (take l.tag-index l.tags))
