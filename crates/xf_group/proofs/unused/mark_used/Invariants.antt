-- The positions of the places so far are marked, and no others.
use Rattle.std.proofs.Common.{◌≡◌, ℕ, ◌<◌, cond, length, get_or, take}
use Rattle.xf_group.specs.Used.{is_used}
use Rattle.xf_group.proofs.unused.mark_used.Given as goal

abbrev pub invariant-loop-place : goal.invariant-loop-place
invariant-loop-place l = record {
  same : length l.numbers ≡ length l.fn.numbers;
  marked : (k : ℕ) → k < length l.numbers → get_or l.numbers k 0 ≡ cond (is_used (take l.place l.places) k) 1 0;
}
