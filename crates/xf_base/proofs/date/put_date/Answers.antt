use Rattle.xf_base.proofs.Utf8Texts.{IsUtf8-day_text}
use Rattle.xf_base.proofs.date.put_date.Goals as goal

pub returns-in_err-extend_from_slice-in-Some-clause-utf8 :
    goal.returns-in_err-extend_from_slice-in-Some-clause-utf8
returns-in_err-extend_from_slice-in-Some-clause-utf8 c = IsUtf8-day_text c.args.day c.ranges.day

pub returns-in_ok-extend_from_slice-in-Some-clause-utf8 :
    goal.returns-in_ok-extend_from_slice-in-Some-clause-utf8
returns-in_ok-extend_from_slice-in-Some-clause-utf8 c = IsUtf8-day_text c.args.day c.ranges.day
