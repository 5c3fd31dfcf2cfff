-- The entries so far are of the keys so far, and each means nothing.
use Rattle.std.proofs.Common.{◌≡◌, take}
use Rattle.std.specs.List.{AllByRecursion}
use Rattle.xf_group.specs.Held.{keys_of}
use Rattle.xf_group.proofs.ready.empty_entries.Given as goal

abbrev pub invariant-loop-entry : goal.invariant-loop-entry
invariant-loop-entry g l = record {
  keys : keys_of l.emptied.items ≡ keys_of (take l.entry-index l.entries);
  meanings : AllByRecursion (λ entry. g.R.Reducer.meaning_of entry.value ≡ (g.R.Reducer.folding l.reducer).initial) l.emptied.items;
}
