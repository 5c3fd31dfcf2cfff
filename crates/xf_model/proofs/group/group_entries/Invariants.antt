-- The entries so far are those of the keys so far.
use Rattle.std.proofs.Common.{◌≡◌, map, take}
use Rattle.xf_model.specs.Plain.{key_and_number}
use Rattle.xf_model.proofs.Plain.{entry_at}
use Rattle.xf_model.proofs.group.group_entries.Given as goal

abbrev pub invariant-loop-key : goal.invariant-loop-key
invariant-loop-key l = map key_and_number l.entries.items ≡ map (entry_at l.dimensions l.own l.column (map (λ row. row.items) l.rows)) (take l.key-index l.key-items)
