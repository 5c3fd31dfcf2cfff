use Rattle.xf_filter.proofs.read.+predicate_at.Given as goal

abbrev pub decreases-predicate_at : goal.decreases-predicate_at
decreases-predicate_at l = l.depth
