-- The rows found so far are those selected of the rows so far.
use Rattle.std.proofs.Common.{◌≡◌, map, take}
use Rattle.xf_model.specs.Dimension.{selected}
use Rattle.xf_model.specs.Plain.{plain_dimension}
use Rattle.xf_model.proofs.dimension.selected.Given as goal

abbrev pub invariant-loop-row : goal.invariant-loop-row
invariant-loop-row l = map (λ row. row.now.items) l.found.items ≡ selected (map plain_dimension l.dimensions) l.but (map (λ row. row.items) (take l.row-index l.rows))
