use Rattle.std.proofs.Common.{◌≡◌, ◌≤◌, ℕ, ◌<◌, length, take, get_or, not}
use Rattle.std.specs.List.{count_by}
use Rattle.xf_base.proofs.gone.counts_of.Given as goal

abbrev pub invariant-loop-gone : goal.invariant-loop-gone
invariant-loop-gone l = record {
  each : length l.counts.items ≡ l.gone-index;
  counted : (place : ℕ) → place < length l.counts.items → get_or l.counts.items place 0 ≡ count_by not (take place l.marks);
  count : l.count ≡ count_by not (take l.gone-index l.marks);
  few : l.count ≤ l.gone-index;
}
