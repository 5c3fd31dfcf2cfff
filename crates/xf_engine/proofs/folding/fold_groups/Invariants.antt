-- The groups so far are folded.
use Rattle.std.proofs.Common.{◌++◌, take}
use Rattle.xf_engine.specs.Folding.{AreFoldedFor, dimensions_then, rows_then}
use Rattle.xf_engine.specs.Held.{live_dimensions}
use Rattle.xf_engine.proofs.folding.fold_groups.Given as goal

abbrev pub invariant-loop-group : goal.invariant-loop-group
invariant-loop-group g l =
    AreFoldedFor g.A.Accessor.keys_of g.P.Predicate.says_to g.G.Rounding.rounded g.R.Reducer.meaning_of g.R.Reducer.folding (dimensions_then l.counting (live_dimensions l.dimensions)) (rows_then l.counting (l.rows.held.now ++ l.rows.added.now)) (take l.group-index l.groups) l.folded.items
