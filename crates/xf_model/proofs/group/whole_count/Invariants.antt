-- The number so far is that of the rows so far, and at most one for each.
use Rattle.std.proofs.Common.{◌≡◌, ◌≤◌, map, take}
use Rattle.xf_model.specs.Group.{count, whole_value}
use Rattle.xf_model.specs.Plain.{plain_dimension}
use Rattle.xf_model.proofs.group.whole_count.Given as goal

abbrev pub invariant-loop-row : goal.invariant-loop-row
invariant-loop-row l = record {
  counted : l.number ≡ whole_value count (map plain_dimension l.dimensions) (map (λ row. row.items) (take l.row-index l.rows));
  bounded : l.number ≤ l.row-index;
}
