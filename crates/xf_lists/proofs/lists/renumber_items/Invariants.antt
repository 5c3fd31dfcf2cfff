-- The items so far are renumbered, and those after them stand as they were.
use Rattle.std.proofs.Common.{◌≡◌, ◌++◌, drop, map, take}
use Rattle.std.specs.Prelude.{slice_index}
use Rattle.xf_lists.proofs.lists.renumber_items.Given as goal

abbrev pub invariant-loop-place : goal.invariant-loop-place
invariant-loop-place l = l.items ≡ map (slice_index l.numbers) (take l.place l.initial.items) ++ drop l.place l.initial.items
