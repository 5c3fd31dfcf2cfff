-- The numbers of the entries so far.
use Rattle.std.proofs.Common.{◌≡◌, take}
use Rattle.xf_engine.specs.Folding.{entry_numbers}
use Rattle.xf_engine.proofs.cross.groups.all_numbers.Given as goal

abbrev pub invariant-loop-position : goal.invariant-loop-position
invariant-loop-position g l = l.numbers.items ≡ take l.position (entry_numbers (λ value. g.R.Reducer.rank_of l.group.reducer (g.R.Reducer.meaning_of value) l.field) l.group.entries)
