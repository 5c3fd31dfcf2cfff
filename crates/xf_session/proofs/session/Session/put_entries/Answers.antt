use Rattle.std.proofs.Common.{◌≡◌, ◌∙◌, ◌<◌, true, List, length, Some, slice_get, ap, subst, sym, arith}
use Rattle.std.specs.Option.{IfSome, option_and_then}
use Rattle.xf_base.specs.declared.column.Column.{Column}
use Rattle.xf_engine.specs.State.{group_named}
use Rattle.xf_reduce.specs.StockReducer.{stock_fits, stock_meaning}
use Rattle.xf_reply.specs.Answer.{entry_line}
use Rattle.xf_session.proofs.AnswerLines.{puts-all, puts-at}
use Rattle.xf_session.proofs.EntryFields.{StockGroup, at-told, entries_in, fields-under, puts-entry, puts-none, told_of, within-told}
use Rattle.xf_session.specs.Command.{fields_of, group_entries}
use Rattle.xf_session.specs.Outcome.{KeyFields}
use Rattle.xf_session.specs.State.{Session}
use Rattle.xf_session.proofs.session.Session.put_entries.Goals as goal

pub returns-in_default : goal.returns-in_default
returns-in_default g c =
    let cross = c.args.self.now.cross in
    puts-none c.args.form.now cross.columns (entries_in cross) (group_named cross c.args.id.0) c.in_default.ensures.reducer

pub group_at-requires : goal.group_at-requires
group_at-requires g c =
    let s = c.args.self.now in
    let id = c.args.id.0 in
    let i = c.loop-position.position in
    let below : i < length (group_entries s id) = omega arith in
    subst (λ (s : Session). IfSome (group_named s.cross id) (λ (group : StockGroup). i < length (entries_in s.cross group))) (sym c.self.view_is)
    (within-told s.cross.columns (entries_in s.cross) (group_named s.cross id) i below)

pub tell_fields-requires : goal.tell_fields-requires
tell_fields-requires g c =
    let same = c.schema.ensures ∙ ap (λ (s : Session). s.cross.columns) c.self.view_is in
    subst (λ (columns : List Column). stock_fits c.in-Some.reducer.now columns ≡ true) (sym same) c.in-Some.ensures.fits

pub loop-position-preserved : goal.loop-position-preserved
loop-position-preserved g c =
    let s = c.args.self.now in
    let id = c.args.id.0 in
    let columns = s.cross.columns in
    let form = c.args.form.now in
    let i = c.loop-position.position in
    let key = c.in-Ok.entry.key.now in
    let meaning = stock_meaning c.in-Ok.entry.value.now in
    let reducer = c.in-Some.reducer.now in
    let there = subst (λ (s : Session). option_and_then (λ (group : StockGroup). slice_get (entries_in s.cross group) i) (group_named s.cross id) ≡ Some (key, meaning)) c.self.view_is c.in-Ok.ensures.entry in
    let same : c.schema.result.now ≡ columns = c.schema.ensures ∙ ap (λ (s : Session). s.cross.columns) c.self.view_is in
    let told = fields-under columns c.schema.result.now reducer meaning c.as_slice.result.now c.tell_fields.new.fields.items
    c.as_slice.ensures.value c.in_ok-tell_fields.ensures same in
    puts-at (λ (entry : KeyFields). entry_line form entry.0 entry.1) (told_of columns (entries_in s.cross) (group_named s.cross id)) i (key, fields_of columns reducer meaning)
    (at-told columns (entries_in s.cross) (group_named s.cross id) reducer i key meaning (sym c.in-Some.ensures.reducer) there) c.loop-position.invariant
    (puts-entry form key c.as_slice.result.now (fields_of columns reducer meaning) told c.in_ok-put_entry.ensures.ok c.in_ok-put_entry.ensures.utf8)

pub returns : goal.returns
returns g c =
    puts-all (λ (entry : KeyFields). entry_line c.args.form.now entry.0 entry.1) (group_entries c.args.self.now c.args.id.0) c.loop-position.position (omega arith) c.loop-position.invariant
