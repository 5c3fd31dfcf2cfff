-- The key is above all keys so far.
use Rattle.std.proofs.Common.{◌≡◌, ◌++◌, drop, take}
use Rattle.xf_base.specs.Key.{key_cmp}
use Rattle.xf_model.specs.Group.{with_key}
use Rattle.xf_engine.proofs.rounded.insert_key.Given as goal

abbrev pub invariant-loop-place : goal.invariant-loop-place
invariant-loop-place l = record {
  same : l.keys.items ≡ l.fn.keys.items;
  key : l.key ≡ l.fn.key;
  above : take l.place l.keys.items ++ with_key key_cmp l.key (drop l.place l.keys.items) ≡ with_key key_cmp l.key l.keys.items;
}
