use Rattle.xf_base.proofs.WriteDates.{date_digits}
use Rattle.xf_base.proofs.date.date_text.Goals as goal

pub returns : goal.returns
returns c =
    date_digits c.args.year c.args.month c.args.day _ _ _ _ c.requires.year c.requires.month c.requires.day c.two_digits.ensures c.two_digits-2.ensures c.two_digits-3.ensures c.two_digits-4.ensures
