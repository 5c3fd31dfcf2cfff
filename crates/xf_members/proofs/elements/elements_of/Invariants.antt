-- The items so far and the elements that are left give what all elements give.
use Rattle.std.proofs.Common.{◌≡◌, length, []}
use Rattle.xf_members.specs.Reading.{AllAfter}
use Rattle.xf_members.proofs.Each.{EachFrom}
use Rattle.xf_members.proofs.elements.elements_of.Given as goal

abbrev pub invariant-loop-value : goal.invariant-loop-value
invariant-loop-value g l = record {
  exact : EachFrom (g.E.ElementRule.walk l.rule) l.path l.items l.values l.value-index;
  kept : AllAfter (g.E.ElementRule.Keeps l.rule) [] l.items;
  count : length l.items ≡ l.value-index;
}
