-- The value has those that count of the rows so far.
use Rattle.std.proofs.Common.{◌≡◌, ◌++◌}
use Rattle.xf_engine.proofs.FoldedGroup.{whole_of_first}
use Rattle.xf_engine.proofs.fold.take_rows.Given as goal

abbrev pub invariant-loop-place : goal.invariant-loop-place
invariant-loop-place g l = g.R.Reducer.meaning_of l.value ≡ whole_of_first (g.R.Reducer.folding l.reducer) (l.rows.held.now ++ l.rows.added.now) l.counts l.place
