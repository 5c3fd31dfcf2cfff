use Rattle.xf_base.proofs.Utf8Texts.{IsUtf8-fixed_text}
use Rattle.xf_base.proofs.fixed.put_fixed.Goals as goal

pub returns-then-is_err-clause-utf8 : goal.returns-then-is_err-clause-utf8
returns-then-is_err-clause-utf8 c = IsUtf8-fixed_text c.args.number c.args.decimals c.ranges.number

pub returns-else-is_err-clause-utf8 : goal.returns-else-is_err-clause-utf8
returns-else-is_err-clause-utf8 c = IsUtf8-fixed_text c.args.number c.args.decimals c.ranges.number
