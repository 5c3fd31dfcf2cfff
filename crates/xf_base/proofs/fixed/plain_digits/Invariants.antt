use Rattle.std.proofs.Common.{◌≡◌, ◌^◌, ◌<◌, true, take}
use Rattle.std.specs.Char.{is_ascii_digit}
use Rattle.std.specs.List.{list_all}
use Rattle.xf_base.specs.Fixed.{number_after}
use Rattle.xf_base.proofs.fixed.plain_digits.Given as goal

abbrev pub invariant-loop-byte : goal.invariant-loop-byte
invariant-loop-byte l = record {
  digits : list_all is_ascii_digit (take l.byte-index l.text) ≡ true;
  value : l.number ≡ number_after 0 (take l.byte-index l.text);
  small : l.number < 10 ^ l.byte-index;
}
