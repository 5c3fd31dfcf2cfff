-- What is found so far are the pairs of the rows so far.
use Rattle.std.proofs.Common.{◌≡◌, map, take}
use Rattle.xf_model.specs.Bottom.{pairs_of}
use Rattle.xf_model.specs.Plain.{plain_dimension}
use Rattle.xf_model.proofs.bottom.pairs_of.Given as goal

abbrev pub invariant-loop-place : goal.invariant-loop-place
invariant-loop-place l = l.found.items ≡ pairs_of (map plain_dimension l.dimensions) (plain_dimension l.own) (map (λ row. row.items) (take l.place l.rows))
