-- The value is that of the rows so far, and they are of the schema.
use Rattle.std.proofs.Common.{◌≡◌, take}
use Rattle.std.specs.List.{AllByRecursion}
use Rattle.xf_base.specs.Schema.{IsRowOf}
use Rattle.xf_model.specs.Group.{fold_of}
use Rattle.xf_group_cases.proofs.folds.folded.Given as goal

abbrev pub invariant-loop-row : goal.invariant-loop-row
invariant-loop-row g l = record {
  of_schema : AllByRecursion (IsRowOf l.schema) (take l.row-index l.rows);
  meaning : g.R.Reducer.meaning_of l.value ≡ fold_of (g.R.Reducer.folding l.reducer) (take l.row-index l.rows);
}
