-- The places so far have the keys of the lists so far, whose values are ready, and the entries are kept.
use Rattle.std.proofs.Common.{◌≡◌, ◌+◌, ◌*◌, ◌≤◌, [], ◌++◌, length, sum_by, take}
use Rattle.xf_group.specs.Admitted.{AreReady}
use Rattle.xf_group.specs.Fresh.{AreKept}
use Rattle.xf_group.specs.Held.{AreWithin, key_lists, keys_of}
use Rattle.xf_model.specs.Digits.{digits}
use Rattle.xf_group.proofs.admit.enter_places.Given as goal

abbrev pub invariant-loop-place : goal.invariant-loop-place
invariant-loop-place g l = record {
  places : key_lists (keys_of l.entries.items) l.places ≡ key_lists (keys_of l.fn.entries.items) l.fn.places ++ take l.place l.keys;
  begun : take (length l.fn.places) l.places ≡ l.fn.places;
  within : AreWithin (length l.entries.items) l.places;
  ready : AreReady (g.R.Reducer.IsReady l.reducer) l.entries.items (take l.place l.rows) (take l.place l.keys);
  kept : AreKept g.R.Reducer.meaning_of (g.R.Reducer.IsReady l.reducer) g.R.Reducer.calls l.fn.entries.items l.entries.items;
  own : l.own.items ≡ [];
  cost : l.steps ≤ l.fn.steps + digits (length l.fn.entries.items) * sum_by length (take l.place l.keys);
}
