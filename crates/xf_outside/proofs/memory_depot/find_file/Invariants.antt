-- What is left holds the answer for all.
use Rattle.std.proofs.Common.{◌≡◌, drop}
use Rattle.std.specs.FinMap as map
use Rattle.xf_base.specs.Key.{text_cmp}
use Rattle.xf_outside.specs.Shelf.{entries_of, file_map}
use Rattle.xf_outside.proofs.memory_depot.find_file.Given as goal

abbrev pub invariant-loop-own : goal.invariant-loop-own
invariant-loop-own l = map.find text_cmp l.name (entries_of (drop l.own-index l.files)) ≡ map.get (file_map (entries_of l.files)) l.name
