-- None of the items so far has a key of another kind.
use Rattle.std.proofs.Common.{◌≡◌, drop, flat_map}
use Rattle.xf_filter.specs.Filter.{first_other, item_keys}
use Rattle.xf_filter.proofs.stock_predicate.first_misfit.Given as goal

abbrev pub invariant-loop-item : goal.invariant-loop-item
invariant-loop-item l = first_other l.kind (flat_map item_keys l.items) ≡ first_other l.kind (flat_map item_keys (drop l.item-index l.items))
