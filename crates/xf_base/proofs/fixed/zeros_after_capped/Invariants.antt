use Rattle.std.proofs.Common.{◌≡◌, min, replicate}
use Rattle.xf_base.specs.Fixed.{number_after}
use Rattle.xf_base.proofs.fixed.zeros_after_capped.Given as goal

abbrev pub invariant-loop : goal.invariant-loop
invariant-loop l = l.number ≡ min (number_after l.front (replicate l.counter 48)) 1000000000000001
