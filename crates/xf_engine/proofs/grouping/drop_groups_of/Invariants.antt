-- The groups so far are of other dimensions, and those that stay are the same.
use Rattle.std.proofs.Common.{◌≡◌, ◌-◌, ◌≤◌, true, length, take}
use Rattle.std.specs.List.{filter, list_all}
use Rattle.xf_engine.specs.Held.{is_elsewhere}
use Rattle.xf_engine.proofs.grouping.drop_groups_of.Given as goal

abbrev pub invariant-loop-place : goal.invariant-loop-place
invariant-loop-place g l = record {
  same : filter (is_elsewhere l.dimension.0) l.groups.items ≡ filter (is_elsewhere l.dimension.0) l.initial.groups.items;
  seen : list_all (is_elsewhere l.dimension.0) (take l.place l.groups.items) ≡ true;
  within : l.place ≤ length l.groups.items;
}

abbrev pub decreases-loop-place : goal.decreases-loop-place
decreases-loop-place g l = length l.groups.items - l.place
