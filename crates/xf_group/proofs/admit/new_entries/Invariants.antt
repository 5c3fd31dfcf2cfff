-- The entries so far are of the keys so far, and each means nothing.
use Rattle.std.proofs.Common.{◌≡◌, map, take}
use Rattle.std.specs.List.{AllByRecursion}
use Rattle.xf_group.specs.Held.{keys_of}
use Rattle.xf_group.proofs.admit.new_entries.Given as goal

abbrev pub invariant-loop-key : goal.invariant-loop-key
invariant-loop-key g l = record {
  keys : keys_of l.added.items ≡ map (λ key. key.now) (take l.key-index l.fresh);
  meanings : AllByRecursion (λ entry. g.R.Reducer.meaning_of entry.value ≡ (g.R.Reducer.folding l.reducer).initial) l.added.items;
}
