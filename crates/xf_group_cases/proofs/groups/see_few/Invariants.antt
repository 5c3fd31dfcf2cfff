-- The counts so far are such.
use Rattle.std.proofs.Common.{take}
use Rattle.std.specs.List.{AllByRecursion}
use Rattle.xf_group_cases.specs.Turned.{MayTurn}
use Rattle.xf_group_cases.proofs.groups.see_few.Given as goal

abbrev pub invariant-loop-position : goal.invariant-loop-position
invariant-loop-position g l = AllByRecursion (λ entry. MayTurn l.on entry.value) (take l.position l.group.entries)
