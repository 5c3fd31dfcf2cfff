use Rattle.std.proofs.Common.{◌∙◌, inr, refl, sym, true≢false}
use Rattle.serde_json.specs.View.{view}
use Rattle.xf_board.proofs.Texts.{json-none, json-some}
use Rattle.xf_board.proofs.read.json_of.Goals as goal

pub returns-in-Ok-clause-ok : goal.returns-in-Ok-clause-ok
returns-in-Ok-clause-ok c = json-some c.args.bytes.now (view c.in-Ok.value) c.in-Ok.ensures.ok.0 c.in-Ok.ensures.ok.1

pub returns-in-Err-2-clause-err : goal.returns-in-Err-2-clause-err
returns-in-Err-2-clause-err c =
    inr (refl, json-none c.args.bytes.now (c.in-Err.ensures.err (λ memory. true≢false (sym (c.is_memory.ensures.1 memory) ∙ c.if-is_memory.false))))
