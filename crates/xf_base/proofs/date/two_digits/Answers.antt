use Rattle.std.proofs.Common.{sym}
use Rattle.xf_base.proofs.WriteDates.{with_zeros-two}
use Rattle.xf_base.proofs.date.two_digits.Goals as goal

pub returns : goal.returns
returns c = sym (with_zeros-two c.args.number c.requires)
