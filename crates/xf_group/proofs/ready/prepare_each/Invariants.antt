-- The values at the positions so far are ready, and the entries are kept.
use Rattle.std.proofs.Common.{take}
use Rattle.std.specs.List.{AllByRecursion}
use Rattle.xf_group.specs.Admitted.{IsReadyAt}
use Rattle.xf_group.specs.Fresh.{AreKept}
use Rattle.xf_group.specs.Held.{keys_at_positions, keys_of}
use Rattle.xf_group.proofs.ready.prepare_each.Given as goal

abbrev pub invariant-loop-position : goal.invariant-loop-position
invariant-loop-position g l = record {
  ready : AllByRecursion (λ key. IsReadyAt (g.R.Reducer.IsReady l.reducer) l.entries key l.row) (keys_at_positions (keys_of l.fn.entries) (take l.position-index l.positions));
  kept : AreKept g.R.Reducer.meaning_of (g.R.Reducer.IsReady l.reducer) g.R.Reducer.calls l.fn.entries l.entries;
}
