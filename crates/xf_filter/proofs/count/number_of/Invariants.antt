use Rattle.std.proofs.Common.{◌≡◌, ◌^◌, ◌<◌, take}
use Rattle.xf_base.specs.Fixed.{number_after}
use Rattle.xf_filter.proofs.count.number_of.Given as goal

abbrev pub invariant-loop-byte : goal.invariant-loop-byte
invariant-loop-byte l = record {
  value : l.number ≡ number_after 0 (take l.byte-index l.digits);
  small : l.number < 10 ^ l.byte-index;
}
