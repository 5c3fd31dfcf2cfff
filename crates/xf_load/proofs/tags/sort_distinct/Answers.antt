-- The sort moves texts, and the `dedup` drops those that are the same as the one before.
use Rattle.xf_load.proofs.TagFacts.{distinct_from_sort}
use Rattle.xf_load.proofs.tags.sort_distinct.Goals as goal

pub returns : goal.returns
returns c =
    distinct_from_sort c.args.texts.now.items c.sort_unstable.new.self.items c.dedup.new.self.items c.sort_unstable.ensures.permutation c.sort_unstable.ensures.sorted c.dedup.ensures.filtered
