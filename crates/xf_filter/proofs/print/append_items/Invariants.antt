use Rattle.std.proofs.Common.{take, flat_map}
use Rattle.xf_filter.specs.Words.{Appends, item_words}
use Rattle.xf_filter.proofs.print.append_items.Given as goal

abbrev pub invariant-loop-item : goal.invariant-loop-item
invariant-loop-item l = Appends l.fn.out.items l.out.items (flat_map item_words (take l.item-index l.items))
