-- The group has those that count of the rows so far.
use Rattle.std.proofs.Common.{◌++◌}
use Rattle.xf_engine.proofs.FoldedGroup.{HasFirst}
use Rattle.xf_engine.proofs.fold.add_rows.Given as goal

abbrev pub invariant-loop-place : goal.invariant-loop-place
invariant-loop-place g l = HasFirst g.R.Reducer.meaning_of g.R.Reducer.folding l.fn.group (l.rows.held.now ++ l.rows.added.now) l.counts l.place l.group
