-- What is left of the place, among what is left of the numbers, is the place among all of them.
use Rattle.std.proofs.Common.{◌≡◌}
use Rattle.xf_reduce.specs.Stock.{number_in_place}
use Rattle.xf_reduce.specs.Tallies.{numbers_in}
use Rattle.xf_reduce.proofs.tallies.Tallies.at.Given as goal

abbrev pub invariant-loop-number : goal.invariant-loop-number
invariant-loop-number l = number_in_place (numbers_in l.number-iterator) l.left ≡ number_in_place (numbers_in l.fn.self) l.fn.place
