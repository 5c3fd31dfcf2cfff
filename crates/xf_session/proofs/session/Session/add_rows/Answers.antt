use Rattle.std.proofs.Common.{IfOk, inl, inr, lit≤, refl, subst, sym, arith}
use Rattle.std.specs.List.{AllByRecursion}
use Rattle.xf_base.specs.Schema.{IsRowOf}
use Rattle.xf_session.proofs.AddedRows.{does-added, does-nothing, does-refused, never-mismatched}
use Rattle.xf_session.specs.Arrivals.{rows_outcome}
use Rattle.xf_session.specs.Asked.{IsLoadReply}
use Rattle.xf_session.specs.Does.{Does}
use Rattle.xf_session.specs.State.{Session, session_of}
use Rattle.xf_session.proofs.session.Session.add_rows.Goals as goal
use Rattle.xf_session.proofs.session.Session.add_rows.Goals.{in-Ok, in-Err-TooManyRecords, in-Err-TooMuchText, in-Err-TooManyEntries, in-Err-OutOfMemory}

pub unreachable-requires : goal.unreachable-requires
unreachable-requires g c =
    let s = c.self.inside in
    let of = subst (λ (s : Session). AllByRecursion (IsRowOf s.cross.columns) c.args.rows) (sym c.self.view_is) c.requires in
    never-mismatched s.cross c.args.rows c.in-Err-KindMismatch.field-0 c.in-Err-KindMismatch.field-0-0 c.in-Err-KindMismatch.field-0-1 of c.in-Err-KindMismatch.ensures.refused c.in-Err-KindMismatch.field-0-is

pub returns-clause-command : goal.returns-clause-command
returns-clause-command g c =
    let s = c.self.inside in
    let rows = c.args.rows in
    let new = c.add_records.new.self in
    let result = c.match-add_records.result in
    let of = subst (λ (s : Session). AllByRecursion (IsRowOf s.cross.columns) rows) (sym c.self.view_is) c.requires in
    subst (λ (old : Session). Does (rows_outcome old rows) old (session_of s.board new s.dimensions s.groups s.wholes) result) c.self.view_is
    (elim c.match-add_records.branch [
      | in-Ok w ↦ does-added s.board s.cross new s.dimensions s.groups s.wholes rows c.len-count.result result of w.in-Ok.ensures.ok w.in-Ok.ensures.accepted c.len-count.ensures w.result-is
      | in-Err-TooManyRecords w ↦ does-refused s.board s.cross new s.dimensions s.groups s.wholes rows _ _ _ result of w.in-Err-TooManyRecords.ensures.err w.in-Err-TooManyRecords.ensures.refused w.in-Err-TooManyRecords.field-0-is refl w.result-is
      | in-Err-TooMuchText w ↦ does-refused s.board s.cross new s.dimensions s.groups s.wholes rows _ _ _ result of w.in-Err-TooMuchText.ensures.err w.in-Err-TooMuchText.ensures.refused w.in-Err-TooMuchText.field-0-is refl w.result-is
      | in-Err-TooManyEntries w ↦ does-refused s.board s.cross new s.dimensions s.groups s.wholes rows _ _ _ result of w.in-Err-TooManyEntries.ensures.err w.in-Err-TooManyEntries.ensures.refused w.in-Err-TooManyEntries.field-0-is refl w.result-is
      | in-Err-OutOfMemory w ↦ does-nothing (rows_outcome (session_of s.board s.cross s.dimensions s.groups s.wholes) rows) s.board s.cross new s.dimensions s.groups s.wholes _ result w.in-Err-OutOfMemory.ensures.err w.result-is
    ])

pub returns-clause-loads : goal.returns-clause-loads
returns-clause-loads g c = elim c.match-add_records.branch [
  | in-Ok w ↦ subst (λ r. IfOk r IsLoadReply) (sym w.result-is) (inl (c.len-count.result, refl))
  | in-Err-TooManyRecords w ↦ subst (λ r. IfOk r IsLoadReply) (sym w.result-is) (inr (_, refl, (lit≤ tt, lit≤ tt, λ is. absurd (omega arith))))
  | in-Err-TooMuchText w ↦ subst (λ r. IfOk r IsLoadReply) (sym w.result-is) (inr (_, refl, (lit≤ tt, lit≤ tt, λ is. absurd (omega arith))))
  | in-Err-TooManyEntries w ↦ subst (λ r. IfOk r IsLoadReply) (sym w.result-is) (inr (_, refl, (lit≤ tt, lit≤ tt, λ is. absurd (omega arith))))
  | in-Err-OutOfMemory w ↦ subst (λ r. IfOk r IsLoadReply) (sym w.result-is) tt
]
