-- The positions so far, and as many fresh keys as are passed are below each key that is left.
use Rattle.std.proofs.Common.{◌≡◌, ◌≤◌, drop, length, map, take, Less}
use Rattle.std.specs.List.{AllByRecursion}
use Rattle.xf_base.specs.Key.{key_cmp}
use Rattle.xf_group.specs.Fresh.{new_positions}
use Rattle.xf_group.specs.Held.{keys_of}
use Rattle.xf_group.proofs.admit.new_positions.Given as goal

abbrev pub invariant-loop-position : goal.invariant-loop-position
invariant-loop-position g l = record {
  order : l.order.items ≡ new_positions (take l.position (keys_of l.entries)) (map (λ key. key.now) l.fresh);
  within : l.before ≤ length l.fresh;
  passed : AllByRecursion (λ other. AllByRecursion (λ key. key_cmp other key ≡ Less) (drop l.position (keys_of l.entries))) (take l.before (map (λ key. key.now) l.fresh));
}
