-- The positions of the ranks so far.
use Rattle.std.proofs.Common.{◌≡◌, map, take}
use Rattle.xf_group.proofs.group.positions_of.Given as goal

abbrev pub invariant-loop-position : goal.invariant-loop-position
invariant-loop-position l = l.positions.items ≡ map (λ at. at.1) (take l.position-index l.ranks)
