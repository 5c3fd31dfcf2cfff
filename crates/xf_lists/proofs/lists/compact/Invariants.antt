-- The lists that are kept so far are in front, and after them come those of the rest.
use Rattle.xf_base.specs.Gone.{kept}
use Rattle.xf_lists.proofs.CutAt.{IsCompact}
use Rattle.xf_lists.specs.Lists.{cut_at}
use Rattle.xf_lists.proofs.lists.compact.Given as goal

abbrev pub invariant-loop-place : goal.invariant-loop-place
invariant-loop-place g l = IsCompact l.gone l.ends l.items l.count l.place l.start l.filled (kept l.gone (cut_at 0 l.initial.ends l.initial.items))
