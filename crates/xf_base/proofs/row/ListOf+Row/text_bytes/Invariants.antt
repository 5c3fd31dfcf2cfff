use Rattle.std.proofs.Common.{◌≡◌, ◌-◌, ◌^◌, min, sum_by, take}
use Rattle.xf_base.specs.Cell.{row_bytes}
use Rattle.xf_base.proofs.row.ListOf+Row.text_bytes.Given as goal

abbrev pub invariant-loop-row : goal.invariant-loop-row
invariant-loop-row l = l.total ≡ min (sum_by row_bytes (take l.row-index l.row-items)) (2 ^ 64 - 1)
