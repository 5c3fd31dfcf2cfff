-- The number so far is what moves of the rows so far, and at most one for each.
use Rattle.std.proofs.Common.{◌≡◌, ◌≤◌, map, take}
use Rattle.xf_model.specs.Moved.{moved}
use Rattle.xf_model.specs.Plain.{column_keys, plain_filter}
use Rattle.xf_model.proofs.movement.moved.Given as goal

abbrev pub invariant-loop-row : goal.invariant-loop-row
invariant-loop-row l = record {
  moves : l.number ≡ moved (column_keys l.column) (plain_filter l.old) (plain_filter l.new) (map (λ row. row.items) (take l.row-index l.rows));
  bounded : l.number ≤ l.row-index;
}
