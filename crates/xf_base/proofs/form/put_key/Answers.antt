use Rattle.xf_base.proofs.Utf8Texts.{IsUtf8-key_text}
use Rattle.xf_base.proofs.form.put_key.Goals as goal

pub returns-in-Num-clause-utf8 : goal.returns-in-Num-clause-utf8
returns-in-Num-clause-utf8 c = IsUtf8-key_text c.args.form.now c.args.key.now

pub returns-then-is_err-clause-utf8 : goal.returns-then-is_err-clause-utf8
returns-then-is_err-clause-utf8 c = IsUtf8-key_text c.args.form.now c.args.key.now

pub returns-else-is_err-clause-utf8 : goal.returns-else-is_err-clause-utf8
returns-else-is_err-clause-utf8 c = IsUtf8-key_text c.args.form.now c.args.key.now
