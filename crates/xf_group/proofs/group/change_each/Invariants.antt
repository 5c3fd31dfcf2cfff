-- The values at the positions so far are changed, at a step each.
use Rattle.std.proofs.Common.{◌≡◌, ◌+◌, take}
use Rattle.xf_group.specs.Changed.{changed_meaning}
use Rattle.xf_group.specs.ChangedAt.{AreChangedAt}
use Rattle.xf_group.proofs.group.change_each.Given as goal

abbrev pub invariant-loop-position : goal.invariant-loop-position
invariant-loop-position g l = record {
  changed : AreChangedAt g.R.Reducer.meaning_of (λ meaning. changed_meaning (g.R.Reducer.folding l.reducer) (g.R.Reducer.undo l.reducer) l.on meaning l.row) (g.R.Reducer.IsReady l.reducer) g.R.Reducer.calls (take l.position-index l.positions) l.initial.entries l.entries;
  spent : l.steps ≡ l.initial.steps + l.position-index;
}
