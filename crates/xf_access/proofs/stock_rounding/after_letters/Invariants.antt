use Rattle.std.specs.Str.Iter.{chars_rest}
use Rattle.xf_access.proofs.Letters.{IsBegun}
use Rattle.xf_access.proofs.stock_rounding.after_letters.Given as goal

abbrev pub invariant-loop-left : goal.invariant-loop-left
invariant-loop-left l = IsBegun l.count l.text l.left (chars_rest l.rest)
