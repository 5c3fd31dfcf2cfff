-- The positions so far are marked, and the others as they were.
use Rattle.std.proofs.Common.{◌≡◌, ℕ, ◌<◌, cond, length, get_or, take}
use Rattle.xf_group.specs.Used.{is_listed}
use Rattle.xf_group.proofs.unused.mark_each.Given as goal

abbrev pub invariant-loop-position : goal.invariant-loop-position
invariant-loop-position l =
    (k : ℕ) → k < length l.initial.numbers → get_or l.numbers k 0 ≡ cond (is_listed (take l.position-index l.positions) k) 1 (get_or l.initial.numbers k 0)
