-- What is found are those of the keys so far that are not among the entries, and the entries that are passed are below each key that is left.
use Rattle.std.proofs.Common.{◌≡◌, ◌≤◌, drop, filter, length, map, not, take, Less}
use Rattle.std.specs.List.{AllByRecursion}
use Rattle.xf_base.specs.Key.{key_cmp}
use Rattle.xf_group.specs.Held.{keys_of}
use Rattle.xf_group.proofs.admit.unknown_keys.Given as goal
use Rattle.xf_model.specs.Laws.{is_among}

abbrev pub invariant-loop-key : goal.invariant-loop-key
invariant-loop-key g l = record {
  found : map (λ key. key.now) l.found.items ≡ filter (λ key. not (is_among key_cmp (keys_of l.entries) key)) (take l.key-index (map (λ key. key.now) l.keys));
  within : l.before ≤ length l.entries;
  passed : AllByRecursion (λ other. AllByRecursion (λ key. key_cmp other key ≡ Less) (drop l.key-index (map (λ key. key.now) l.keys))) (take l.before (keys_of l.entries));
}
