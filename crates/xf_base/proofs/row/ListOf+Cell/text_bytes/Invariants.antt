use Rattle.std.proofs.Common.{◌≡◌, ◌-◌, ◌^◌, min, take}
use Rattle.xf_base.specs.Cell.{row_bytes}
use Rattle.xf_base.proofs.row.ListOf+Cell.text_bytes.Given as goal

abbrev pub invariant-loop-cell : goal.invariant-loop-cell
invariant-loop-cell l = l.total ≡ min (row_bytes (take l.cell-index l.cell-items)) (2 ^ 64 - 1)
