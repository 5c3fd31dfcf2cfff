use Rattle.std.proofs.Common.{◌≡◌, drop}
use Rattle.std.specs.List.{enumerate_from}
use Rattle.xf_table.specs.Append.{mismatch_of}
use Rattle.xf_table.proofs.table.first_mismatch.Given as goal

-- the first among the rows that are left is the first of all
abbrev pub invariant-loop-place : goal.invariant-loop-place
invariant-loop-place l = mismatch_of l.schema (enumerate_from l.place (drop l.place l.rows)) ≡ mismatch_of l.schema (enumerate_from 0 l.rows)
