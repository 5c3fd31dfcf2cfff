use Rattle.xf_base.proofs.Utf8Words.{IsUtf8-word_text}
use Rattle.xf_base.proofs.word.put_word.Goals as goal

pub returns-then-is_err-clause-utf8 : goal.returns-then-is_err-clause-utf8
returns-then-is_err-clause-utf8 c = IsUtf8-word_text c.args.text.now

pub returns-else-is_err-clause-utf8 : goal.returns-else-is_err-clause-utf8
returns-else-is_err-clause-utf8 c = IsUtf8-word_text c.args.text.now
