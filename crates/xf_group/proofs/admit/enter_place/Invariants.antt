-- The positions so far are those of the keys so far, whose values are ready, and the entries are kept.
use Rattle.std.proofs.Common.{◌≡◌, ◌+◌, ◌*◌, ◌<◌, ◌≤◌, length, take}
use Rattle.std.specs.List.{AllByRecursion}
use Rattle.xf_group.specs.Admitted.{IsReadyAt}
use Rattle.xf_group.specs.Fresh.{AreKept}
use Rattle.xf_group.specs.Held.{keys_at_positions, keys_of}
use Rattle.xf_model.specs.Digits.{digits}
use Rattle.xf_group.proofs.admit.enter_place.Given as goal

abbrev pub invariant-loop-key : goal.invariant-loop-key
invariant-loop-key g l = record {
  positions : keys_at_positions (keys_of l.entries) l.own.items ≡ take l.key-index l.keys;
  within : AllByRecursion (λ position. position < length l.entries) l.own.items;
  ready : AllByRecursion (λ key. IsReadyAt (g.R.Reducer.IsReady l.reducer) l.entries key l.row) (take l.key-index l.keys);
  kept : AreKept g.R.Reducer.meaning_of (g.R.Reducer.IsReady l.reducer) g.R.Reducer.calls l.fn.entries l.entries;
  cost : l.steps ≤ l.fn.steps + digits (length l.fn.entries) * l.key-index;
}
