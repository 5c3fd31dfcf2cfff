use Rattle.std.proofs.Common.{◌≡◌, ◌∙◌, List, get_or, Some, slice_get, ap, subst, refl, sym, arith}
use Rattle.xf_base.specs.declared.column.Column.{Column}
use Rattle.std.specs.List.{AllByRecursion}
use Rattle.xf_base.specs.Schema.{IsColumn}
use Rattle.xf_reply.specs.Put.{Puts}
use Rattle.xf_session.proofs.AnswerLines.{line_at, lines-placed, puts-all, puts-next, puts-row}
use Rattle.xf_session.specs.Outcome.{record_lines}
use Rattle.xf_session.specs.Command.{placed_at}
use Rattle.xf_session.specs.State.{Session}
use Rattle.xf_session.proofs.session.Session.put_records.Goals as goal

pub loop-place-preserved : goal.loop-place-preserved
loop-place-preserved g c =
    let columns = c.as_slice-columns.result.now in
    let rows = c.args.self.now.cross.rows in
    let places = c.args.places.now in
    let i = c.loop-place.place-index in
    let place = get_or places i 0 in
    let at : Some c.row-row.result.now ≡ slice_get rows place = subst (λ (s : Session). Some c.row-row.result.now ≡ slice_get s.cross.rows place) c.self.view_is c.row-row.ensures in
    let sound = subst (AllByRecursion IsColumn) (sym c.as_slice-columns.ensures.value) c.as_slice-columns.ensures.sound in
    puts-next (line_at columns rows) places i 0 place c.loop-place-test.true refl c.loop-place.invariant
    (puts-row columns rows place c.row-row.result.now at sound c.in_ok-put_record.ensures.ok c.in_ok-put_record.ensures.utf8)

pub returns : goal.returns
returns g c =
    let columns = c.as_slice-columns.result.now in
    let rows = c.args.self.now.cross.rows in
    let places = c.args.places.now in
    let same : columns ≡ c.args.self.now.cross.columns = c.as_slice-columns.ensures.value ∙ c.schema.ensures ∙ ap (λ (s : Session). s.cross.columns) c.self.view_is in
    let old = c.args.out.now.items in
    let new = c.loop-place.out.items in
    subst (λ (columns : List Column). Puts old new (record_lines columns (placed_at rows places))) same
    (subst (Puts old new) (lines-placed columns rows places) (puts-all (line_at columns rows) places c.loop-place.place-index (omega arith) c.loop-place.invariant))
