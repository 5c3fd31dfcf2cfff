-- The rows so far are of the schema.
use Rattle.std.proofs.Common.{take}
use Rattle.std.specs.List.{AllByRecursion}
use Rattle.xf_base.specs.Schema.{IsRowOf}
use Rattle.xf_group_cases.proofs.groups.see_rows.Given as goal

abbrev pub invariant-loop-row : goal.invariant-loop-row
invariant-loop-row g l = AllByRecursion (IsRowOf l.schema) (take l.row-index l.rows)
