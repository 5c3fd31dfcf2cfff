use Rattle.std.proofs.Common.{◌≡◌, ◌≤◌, ◌+◌, ◌-◌, ◌∷◌, [], length}
use Rattle.xf_filter.specs.Reading.{items_at, with_front}
use Rattle.xf_filter.proofs.read.items_after.Given as goal

abbrev pub invariant-loop-alloc : goal.invariant-loop-alloc
invariant-loop-alloc l = record {
  read : with_front l.items.items (items_at (length l.words + 1 - length l.items.items) l.rest) ≡ with_front (l.fn.first ∷ []) (items_at (length l.words) l.words);
  left : length l.rest + length l.items.items ≤ length l.words + 1;
}

abbrev pub decreases-loop-alloc : goal.decreases-loop-alloc
decreases-loop-alloc l = length l.rest
