-- Each id so far is one of a dimension.
use Rattle.std.proofs.Common.{◌≡◌, false, not, take}
use Rattle.std.specs.List.{list_any}
use Rattle.xf_engine.specs.Held.{held_ids}
use Rattle.xf_engine.specs.State.{id_numbers, is_taken}
use Rattle.xf_engine.proofs.filtered.first_missing.Given as goal

abbrev pub invariant-loop-id : goal.invariant-loop-id
invariant-loop-id g l = list_any (λ id. not (is_taken (held_ids l.dimensions) id)) (take l.id-index (id_numbers l.ids)) ≡ false
