-- The copies are the items so far.
use Rattle.std.proofs.Common.{◌≡◌, take}
use Rattle.xf_filter.proofs.stock_predicate.copy_items.Given as goal

abbrev pub invariant-loop-item : goal.invariant-loop-item
invariant-loop-item l = l.copies.items ≡ take l.item-index l.items
