-- What is found so far are the keys of the rows so far.
use Rattle.std.proofs.Common.{◌≡◌, map, take}
use Rattle.std.specs.List.{flat_map}
use Rattle.xf_model.specs.Plain.{column_keys}
use Rattle.xf_model.proofs.group.column_numbers.Given as goal

abbrev pub invariant-loop-row : goal.invariant-loop-row
invariant-loop-row l = l.found.items ≡ flat_map (column_keys l.column) (map (λ row. row.items) (take l.row-index l.rows))
