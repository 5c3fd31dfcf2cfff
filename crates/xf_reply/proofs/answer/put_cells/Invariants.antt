use Rattle.std.proofs.Common.{length, take, flat_map}
use Rattle.std.specs.List.{AllByRecursion, zip}
use Rattle.xf_base.specs.Schema.{IsColumn}
use Rattle.xf_reply.specs.Answer.{cell_words}
use Rattle.xf_reply.specs.Put.{PutsIf}
use Rattle.xf_reply.proofs.answer.put_cells.Given as goal

-- the cells so far
abbrev pub invariant-loop-column : goal.invariant-loop-column
invariant-loop-column l = PutsIf (AllByRecursion IsColumn l.columns) l.initial.out.items l.out.items (flat_map cell_words (take (length l.yielded) (zip l.columns l.cells)))
