-- The numbers of the entries at the positions so far.
use Rattle.std.proofs.Common.{◌≡◌, flat_map, slice_get, take}
use Rattle.std.specs.Option.{option_to_list}
use Rattle.xf_engine.specs.Folding.{entry_numbers}
use Rattle.xf_engine.proofs.cross.groups.numbers_at.Given as goal

abbrev pub invariant-loop-position : goal.invariant-loop-position
invariant-loop-position g l = l.numbers.items ≡ entry_numbers (λ value. g.R.Reducer.rank_of l.group.reducer (g.R.Reducer.meaning_of value) l.field) (flat_map (λ position. option_to_list (slice_get l.group.entries position)) (take l.position-index l.positions))
