-- The values so far are those of the parts so far.
use Rattle.std.proofs.Common.{◌≡◌, map, take}
use Rattle.std.specs.List.{AllByRecursion}
use Rattle.serde_json.specs.View.{view}
use Rattle.xf_board.proofs.printed.elements_of.Given as goal

abbrev pub invariant-loop-part : goal.invariant-loop-part
invariant-loop-part g l = record {
  exact : map view l.values.items ≡ map (g.T.Printed.printed l.schema) (take l.part-index l.parts);
  known : AllByRecursion g.T.Printed.known (take l.part-index l.parts);
}
