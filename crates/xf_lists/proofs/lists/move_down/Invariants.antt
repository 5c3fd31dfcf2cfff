use Rattle.std.proofs.Common.{◌≡◌, ◌+◌, ◌-◌, ◌++◌, take, drop}
use Rattle.xf_lists.proofs.lists.move_down.Given as goal

-- what has been moved, and after it what is still to be moved
abbrev pub invariant-loop-place : goal.invariant-loop-place
invariant-loop-place g l = record {
  next : l.next + l.start ≡ l.to + l.place;
  moved : take l.next l.items ++ take (l.end - l.place) (drop l.place l.items) ≡ take l.to l.initial.items ++ take (l.end - l.start) (drop l.start l.initial.items);
  later : drop l.end l.items ≡ drop l.end l.initial.items;
}
