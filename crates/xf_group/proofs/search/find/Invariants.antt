-- The key is above the entries before the interval and below those after it, and the steps that are left suffice for it.
use Rattle.std.proofs.Common.{◌≡◌, ℕ, ◌+◌, ◌-◌, ◌<◌, ◌≤◌, length, get_or}
use Rattle.std.specs.declared.cmp.Ordering.TheVariants.{Less, Greater}
use Rattle.xf_base.specs.Key.{key_cmp}
use Rattle.xf_group.proofs.HalvedDigits.{digit_count}
use Rattle.xf_group.proofs.search.find.Given as goal

abbrev pub invariant-loop-low : goal.invariant-loop-low
invariant-loop-low g l = record {
  order : l.low ≤ l.high;
  inside : l.high ≤ length l.entries;
  above : (k : ℕ) (d : _) → k < l.low → key_cmp l.key (get_or l.entries k d).key ≡ Greater;
  below : (k : ℕ) (d : _) → l.high ≤ k → k < length l.entries → key_cmp l.key (get_or l.entries k d).key ≡ Less;
  cost : l.steps + digit_count (l.high - l.low) ≤ l.initial.steps + digit_count (length l.entries);
}

abbrev pub decreases-loop-low : goal.decreases-loop-low
decreases-loop-low g l = l.high - l.low
