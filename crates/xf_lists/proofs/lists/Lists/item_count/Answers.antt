-- The items of all lists are the whole vector.
use Rattle.std.proofs.Common.{rules, arith}
use Rattle.xf_lists.proofs.CutAt.{cut_sum}
use Rattle.xf_lists.proofs.lists.Lists.item_count.Goals as goal

pub returns-clause-count : goal.returns-clause-count
returns-clause-count g c =
    let whole = cut_sum 0 c.self.inside.ends.items c.self.inside.items.items c.self.invariant.0 in
    rw (← c.self.view_is) (grind (arith, rules, whole, c.as_slice.ensures.value))
