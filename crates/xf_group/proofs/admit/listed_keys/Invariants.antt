-- What is found are the keys of the lists so far, and those of this list so far.
use Rattle.std.proofs.Common.{◌≡◌, ◌++◌, map, take}
use Rattle.std.specs.List.{flat_map}
use Rattle.xf_group.proofs.admit.listed_keys.Given as goal

abbrev pub invariant-loop-key : goal.invariant-loop-key
invariant-loop-key l = map (λ key. key.now) l.found.items ≡ flat_map (λ own. own) (take l.list-index l.keys) ++ take l.key-index l.key-items

abbrev pub invariant-loop-list : goal.invariant-loop-list
invariant-loop-list l = map (λ key. key.now) l.found.items ≡ flat_map (λ own. own) (take l.list-index l.keys)
