use Rattle.std.proofs.Common.{◌≡◌, ◌-◌, ◌^◌, min, length, sum_by, take}
use Rattle.xf_base.proofs.cell.ListOf+Text.total_bytes.Given as goal

abbrev pub invariant-loop-text : goal.invariant-loop-text
invariant-loop-text l = l.total ≡ min (sum_by length (take l.text-index l.text-items)) (2 ^ 64 - 1)
