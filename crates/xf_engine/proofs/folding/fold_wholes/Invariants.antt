-- The wholes so far are folded.
use Rattle.std.proofs.Common.{◌++◌, take}
use Rattle.xf_engine.specs.Folding.{AreValuesFor, dimensions_then, rows_then}
use Rattle.xf_engine.specs.Held.{live_dimensions}
use Rattle.xf_engine.proofs.folding.fold_wholes.Given as goal

abbrev pub invariant-loop-whole : goal.invariant-loop-whole
invariant-loop-whole g l =
    AreValuesFor g.A.Accessor.keys_of g.P.Predicate.says_to g.R.Reducer.meaning_of g.R.Reducer.folding (dimensions_then l.counting (live_dimensions l.dimensions)) (rows_then l.counting (l.rows.held.now ++ l.rows.added.now)) (take l.whole-index l.wholes) l.folded.items
