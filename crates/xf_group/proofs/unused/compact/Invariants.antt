-- The entries that stay are moved to the front so far, with their new positions, and the rest is as it was.
use Rattle.std.proofs.Common.{◌≡◌, ℕ, ◌<◌, ◌≤◌, ◌++◌, false, true, length, take, drop, get_or, not}
use Rattle.std.specs.List.{count_by}
use Rattle.xf_base.specs.Gone.{kept}
use Rattle.xf_group.specs.Used.{unused_marks}
use Rattle.xf_group.proofs.unused.compact.Given as goal

abbrev pub invariant-loop-position : goal.invariant-loop-position
invariant-loop-position g l = record {
  moved : l.count ≤ l.position;
  same : length l.entries ≡ length l.initial.entries;
  numbers : length l.numbers ≡ length l.initial.numbers;
  left : take l.count l.entries ++ kept (drop l.position (unused_marks l.initial.numbers)) (drop l.position l.entries) ≡ kept (unused_marks l.initial.numbers) l.initial.entries;
  counted : l.count ≡ count_by not (take l.position (unused_marks l.initial.numbers));
  placed : (k : ℕ) → k < l.position → get_or (unused_marks l.initial.numbers) k true ≡ false → get_or l.numbers k 0 ≡ count_by not (take k (unused_marks l.initial.numbers));
  rest : (k : ℕ) → l.position ≤ k → get_or l.numbers k 0 ≡ get_or l.initial.numbers k 0;
}
