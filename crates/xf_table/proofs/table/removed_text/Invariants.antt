use Rattle.xf_table.proofs.KeptRows.{IsRemoved}
use Rattle.xf_table.proofs.table.removed_text.Given as goal

-- so much is removed up to a place
abbrev pub invariant-loop-place : goal.invariant-loop-place
invariant-loop-place l = IsRemoved l.gone l.rows l.place l.removed
