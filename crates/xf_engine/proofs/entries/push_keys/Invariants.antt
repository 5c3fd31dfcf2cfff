-- The keys of the rows so far stand after those that were there.
use Rattle.std.proofs.Common.{◌≡◌, ◌++◌, map, take}
use Rattle.xf_engine.proofs.entries.push_keys.Given as goal

abbrev pub invariant-loop-row : goal.invariant-loop-row
invariant-loop-row g l = l.keys ≡ l.initial.keys ++ map (g.A.Accessor.keys_of l.accessor) (take l.row-index l.rows)
