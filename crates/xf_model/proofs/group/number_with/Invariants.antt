-- The number so far is that of the rows so far, and at most one for each.
use Rattle.std.proofs.Common.{◌≡◌, ◌≤◌, Some, map, take}
use Rattle.std.specs.List.{filter}
use Rattle.std.specs.Ordering.{int_cmp}
use Rattle.xf_model.specs.Dimension.{selected}
use Rattle.xf_model.specs.Group.{count, fold_of, has_key}
use Rattle.xf_model.specs.Plain.{column_keys, plain_dimension}
use Rattle.xf_model.proofs.group.number_with.Given as goal

abbrev pub invariant-loop-row : goal.invariant-loop-row
invariant-loop-row l = record {
  counted : l.number ≡ fold_of count (filter (has_key int_cmp (column_keys l.column) l.key) (selected (map plain_dimension l.dimensions) (Some l.own) (map (λ row. row.items) (take l.row-index l.rows))));
  bounded : l.number ≤ l.row-index;
}
