use Rattle.std.proofs.Common.{◌≡◌, ◌∙◌, ◌≤◌, ◌-◌, List, length, drop, Ok, Err, sym, ap, subst}
use Rattle.xf_filter.specs.declared.filter_syntax.ReadError.{ReadError}
use Rattle.xf_filter.specs.declared.raw_filter.RawFilterParts.{RawFilterParts}
use Rattle.xf_filter.specs.Spelling.{SpellsFilter, filter_depth}
use Rattle.xf_filter.specs.Words.{Word}
use Rattle.xf_filter.specs.Reading.{Fails, filter_of}
use Rattle.std.proofs.lemmas.List.{length-drop}
use Rattle.xf_filter.proofs.Bad.{number_bad}
use Rattle.xf_filter.proofs.Again.{filter_again}
use Rattle.xf_filter.proofs.Found.{filter_found}
use Rattle.xf_filter.proofs.Steps.{one_answer, no_answer}
use Rattle.xf_filter.proofs.read.read_filter.Goals as goal

pub of-requires : goal.of-requires
of-requires c =
    let f = filter_found c.from_number.result.now c.in-Ok.form c.in-Ok.ensures in
    (f.0, c.from_number.result.now, f.1)

pub returns-in-Ok-clause-found : goal.returns-in-Ok-clause-found
returns-in-Ok-clause-found c =
    let ws : List Word = drop (c.args.first - 1) c.args.words.now in
    subst (λ (h : RawFilterParts). (filter_depth h ≤ 16) × SpellsFilter h ws) (sym c.of.ensures) (filter_found ws c.in-Ok.form (ap filter_of (sym c.from_number.ensures) ∙ c.in-Ok.ensures))

pub returns-in-Ok-clause-only : goal.returns-in-Ok-clause-only
returns-in-Ok-clause-only c = λ filter spelled deep.
    let ws : List Word = drop (c.args.first - 1) c.args.words.now in
    ap (λ (x : RawFilterParts). Ok x) (one_answer (filter_of ws) filter c.in-Ok.form (filter_again filter ws spelled deep) (ap filter_of (sym c.from_number.ensures) ∙ c.in-Ok.ensures) ∙ sym c.of.ensures)

pub returns-in-Err-Fault-clause-only : goal.returns-in-Err-Fault-clause-only
returns-in-Err-Fault-clause-only c = λ filter spelled deep.
    let ws : List Word = drop (c.args.first - 1) c.args.words.now in
    let failed : filter_of c.from_number.result.now ≡ Err c.in-Err-Fault.fault = subst (λ (e : ReadError). Fails e (filter_of c.from_number.result.now)) c.in-Err-Fault.field-0-is c.in-Err-Fault.ensures in
    absurd (no_answer (filter_of ws) filter c.in-Err-Fault.fault (filter_again filter ws spelled deep) (ap filter_of (sym c.from_number.ensures) ∙ failed))

pub returns-in-Err-Fault-clause-bad : goal.returns-in-Err-Fault-clause-bad
returns-in-Err-Fault-clause-bad c = λ number told.
    let ws : List Word = drop (c.args.first - 1) c.args.words.now in
    let failed : filter_of c.from_number.result.now ≡ Err c.in-Err-Fault.fault = subst (λ (e : ReadError). Fails e (filter_of c.from_number.result.now)) c.in-Err-Fault.field-0-is c.in-Err-Fault.ensures in
    number_bad ws c.args.first (length c.args.words.now) number c.in-Err-Fault.fault c.numbered.result c.requires.first.0 c.requires.first.1 (length-drop (c.args.first - 1) c.args.words.now) (ap filter_of (sym c.from_number.ensures) ∙ failed) c.numbered.ensures cc
