-- The value is that of the rows so far, and stays ready for one more.
use Rattle.std.proofs.Common.{◌≡◌, replicate}
use Rattle.xf_model.specs.Group.{fold_of}
use Rattle.xf_group_cases.proofs.bounds.repeated.Given as goal

abbrev pub invariant-loop-time : goal.invariant-loop-time
invariant-loop-time g l = record {
  ready : g.R.Reducer.IsReady l.reducer l.value l.row;
  meaning : g.R.Reducer.meaning_of l.value ≡ fold_of (g.R.Reducer.folding l.reducer) (replicate l._time l.row);
}
