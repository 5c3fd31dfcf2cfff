use Rattle.std.proofs.Common.{◌≡◌, min, take}
use Rattle.xf_base.specs.Fixed.{number_after}
use Rattle.xf_base.proofs.fixed.number_after_capped.Given as goal

abbrev pub invariant-loop-digit : goal.invariant-loop-digit
invariant-loop-digit l = l.number ≡ min (number_after l.front (take l.digit-index l.digits)) 1000000000000001
