-- The lists so far ascend.
use Rattle.std.specs.List.{AllByRecursion}
use Rattle.std.specs.List.Sorted.{IsStrictlySortedBy}
use Rattle.xf_base.specs.Key.{key_cmp}
use Rattle.xf_group_cases.proofs.groups.keys_of.Given as goal

abbrev pub invariant-loop-text : goal.invariant-loop-text
invariant-loop-text l = AllByRecursion (IsStrictlySortedBy key_cmp) l.keys.items
