use Rattle.std.proofs.Common.{◌≡◌, ◌∙◌, ◌-◌, List, drop, Ok, Err, sym, ap, subst}
use Rattle.xf_filter.specs.declared.filter_syntax.ReadError.{ReadError}
use Rattle.xf_filter.specs.declared.raw_filter.RawItemParts.{RawItemParts}
use Rattle.xf_filter.specs.Words.{Word, item_words}
use Rattle.xf_filter.specs.Reading.{Fails, item_of}
use Rattle.xf_filter.proofs.Again.{item_of_again}
use Rattle.xf_filter.proofs.Found.{item_of_found}
use Rattle.xf_filter.proofs.Steps.{one_answer, no_answer}
use Rattle.xf_filter.proofs.read.read_item.Goals as goal

pub returns-in-Ok-clause-found : goal.returns-in-Ok-clause-found
returns-in-Ok-clause-found c =
    let ws : List Word = drop (c.args.first - 1) c.args.words.now in
    subst (λ (h : RawItemParts). ws ≡ item_words h) (sym c.of.ensures) (item_of_found ws c.in-Ok.form (ap item_of (sym c.from_number.ensures) ∙ c.in-Ok.ensures))

pub returns-in-Ok-clause-only : goal.returns-in-Ok-clause-only
returns-in-Ok-clause-only c = λ item spelled.
    let ws : List Word = drop (c.args.first - 1) c.args.words.now in
    ap (λ (x : RawItemParts). Ok x) (one_answer (item_of ws) item c.in-Ok.form (ap item_of spelled ∙ item_of_again item) (ap item_of (sym c.from_number.ensures) ∙ c.in-Ok.ensures) ∙ sym c.of.ensures)

pub returns-in-Err-Fault-clause-only : goal.returns-in-Err-Fault-clause-only
returns-in-Err-Fault-clause-only c = λ item spelled.
    let ws : List Word = drop (c.args.first - 1) c.args.words.now in
    let failed : item_of c.from_number.result.now ≡ Err c.in-Err-Fault.fault = subst (λ (e : ReadError). Fails e (item_of c.from_number.result.now)) c.in-Err-Fault.field-0-is c.in-Err-Fault.ensures in
    absurd (no_answer (item_of ws) item c.in-Err-Fault.fault (ap item_of spelled ∙ item_of_again item) (ap item_of (sym c.from_number.ensures) ∙ failed))
