use Rattle.std.proofs.Common.{◌≡◌, map, take}
use Rattle.xf_filter.specs.Resolving.{resolved_item}
use Rattle.xf_filter.proofs.resolving.items_of.Given as goal

abbrev pub invariant-loop-item : goal.invariant-loop-item
invariant-loop-item l = l.resolved.items ≡ map (resolved_item l.form) (take l.item-index l.items)
