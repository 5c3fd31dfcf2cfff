-- a file that is no sheet is refused for the same cause
use Rattle.std.proofs.Common.{Result, ap, inl, inr, sym}
use Rattle.std.specs.Result.{result_map_both}
use Rattle.xf_session.specs.Start.{cause_of_sheet, start_of}
use Rattle.xf_sheet.specs.SheetParts.{SheetParts}
use Rattle.xf_sheet.specs.declared.sheet.SheetRefusal.{SheetRefusal}
use Rattle.xf_session.proofs.session.Session.from_csv.Goals as goal

pub returns-in-Err-clause-refused : goal.returns-in-Err-clause-refused
returns-in-Err-clause-refused c = elim c.start_refusal.ensures [
  | inl memory ↦ inl memory.1
  | inr told ↦ elim c.in-Err.ensures.sheet [
    | inl clash ↦ absurd (told.0 (cc clash))
    | inr same ↦ inr (cause_of_sheet c.in-Err.refusal, told.1, ap (λ (read : Result SheetParts SheetRefusal). result_map_both (start_of c.args.limits) cause_of_sheet read) (sym same))
  ]
]
