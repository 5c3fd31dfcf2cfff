use Rattle.std.proofs.Common.{◌≡◌, ◌≤◌, ◌++◌, length, take, drop}
use Rattle.xf_base.specs.Gone.{kept}
use Rattle.xf_base.proofs.gone.compact.Given as goal

-- what is kept so far, and after it what is kept of the rest
abbrev pub invariant-loop-place : goal.invariant-loop-place
invariant-loop-place g l = record {
  moved : l.count ≤ l.place;
  same : length l.items ≡ length l.gone;
  left : take l.count l.items ++ kept (drop l.place l.gone) (drop l.place l.items) ≡ kept l.gone l.initial.items;
}
