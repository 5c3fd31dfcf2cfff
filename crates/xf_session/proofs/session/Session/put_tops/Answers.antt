use Rattle.std.proofs.Common.{◌≡◌, ◌∙◌, ℕ, ◌≤◌, true, List, length, Option, Some, slice_get, ap, refl, subst, sym, arith}
use Rattle.std.proofs.lemmas.Option.{slice_get_read}
use Rattle.xf_access.specs.Round.{rounded_key}
use Rattle.xf_access.specs.Stock.{keys_of_row}
use Rattle.xf_base.specs.declared.column.Column.{Column}
use Rattle.xf_engine.specs.Answers.{group_top_of}
use Rattle.xf_engine.specs.State.{group_named}
use Rattle.xf_engine.specs.declared.key_number.KeyNumber.{KeyNumber}
use Rattle.xf_filter.specs.Stock.{stock_says}
use Rattle.xf_reduce.specs.StockReducer.{stock_field, stock_fits, stock_meaning, stock_of}
use Rattle.xf_reply.specs.Answer.{entry_line}
use Rattle.xf_session.proofs.AnswerLines.{puts-all, puts-at}
use Rattle.xf_session.proofs.EntryFields.{entries_in, fields-under, first-field, in-ascends, puts-entry, puts-none, top-size, top-there, top-told, tops_in}
use Rattle.xf_session.specs.Command.{fields_of, group_tops}
use Rattle.xf_session.specs.Outcome.{KeyFields}
use Rattle.xf_session.specs.State.{Session}
use Rattle.xf_session.proofs.session.Session.put_tops.Goals as goal

-- the first entries of a group, as the crossfilter of a session lists them
abbrev tops_listed : Session → ℕ → ℕ → Option (List KeyNumber)
tops_listed s id count = group_top_of keys_of_row stock_says rounded_key stock_of stock_field s.cross id count 0

pub returns-in_default : goal.returns-in_default
returns-in_default g c =
    let cross = c.args.self.now.cross in
    puts-none c.args.form.now cross.columns (tops_in (entries_in cross) c.args.count) (group_named cross c.args.id.0) c.in_default.ensures.reducer

pub group_top-requires : goal.group_top-requires
group_top-requires g c = first-field (group_named c.self.inside.cross c.args.id.0)

pub tell_fields-requires : goal.tell_fields-requires
tell_fields-requires g c =
    let same = c.schema.ensures ∙ ap (λ (s : Session). s.cross.columns) c.self.view_is in
    subst (λ (columns : List Column). stock_fits c.in-Some.reducer.now columns ≡ true) (sym same) c.in-Some.ensures.fits

pub returns-in_default-group_value : goal.returns-in_default-group_value
returns-in_default-group_value g c =
    let s = c.args.self.now in
    let id = c.args.id.0 in
    let shown = c.in-Ok.tops.items in
    let i = c.loop-top.top-index in
    let top = c.top-item.result in
    let listed = subst (λ (s : Session). tops_listed s id c.args.count ≡ Some shown) c.self.view_is c.in-Ok.ensures.entries in
    let tops = c.as_slice-top-items.result.now in
    let read = subst (λ (tops : List KeyNumber). slice_get tops i ≡ Some top) c.as_slice-top-items.ensures.value in
    let there : slice_get tops i ≡ Some top = slice_get_read tops (length tops) i top refl c.loop-top-test.true c.top-item.is in
    absurd (top-there (entries_in s.cross) (in-ascends s.cross) c.args.count (group_named s.cross id) c.in-Some.reducer.now shown i top
    (sym c.in-Some.ensures.reducer) listed (read there) c.in_default-group_value.ensures)

pub loop-top-preserved : goal.loop-top-preserved
loop-top-preserved g c =
    let s = c.args.self.now in
    let id = c.args.id.0 in
    let columns = s.cross.columns in
    let form = c.args.form.now in
    let reducer = c.in-Some.reducer.now in
    let meaning = stock_meaning c.in-Some-group_value.value.now in
    let shown = c.in-Ok.tops.items in
    let i = c.loop-top.top-index in
    let top = c.top-item.result in
    let listed = subst (λ (s : Session). tops_listed s id c.args.count ≡ Some shown) c.self.view_is c.in-Ok.ensures.entries in
    let tops = c.as_slice-top-items.result.now in
    let read = subst (λ (tops : List KeyNumber). slice_get tops i ≡ Some top) c.as_slice-top-items.ensures.value in
    let there : slice_get tops i ≡ Some top = slice_get_read tops (length tops) i top refl c.loop-top-test.true c.top-item.is in
    let same : c.schema.result.now ≡ columns = c.schema.ensures ∙ ap (λ (s : Session). s.cross.columns) c.self.view_is in
    let told = fields-under columns c.schema.result.now reducer meaning c.as_slice.result.now c.tell_fields.new.fields.items
    c.as_slice.ensures.value c.in_ok-tell_fields.ensures same in
    puts-at (λ (entry : KeyFields). entry_line form entry.0 entry.1) (group_tops s id c.args.count) i (top.key, fields_of columns reducer meaning)
    (top-told columns (entries_in s.cross) (in-ascends s.cross) c.args.count (group_named s.cross id) reducer shown i top meaning
    (sym c.in-Some.ensures.reducer) listed (read there) c.in-Some-group_value.ensures) c.loop-top.invariant
    (puts-entry form top.key c.as_slice.result.now (fields_of columns reducer meaning) told c.in_ok-put_entry.ensures.ok c.in_ok-put_entry.ensures.utf8)

pub returns : goal.returns
returns g c =
    let s = c.args.self.now in
    let id = c.args.id.0 in
    let count = c.args.count in
    let shown = c.in-Ok.tops.items in
    let listed = subst (λ (s : Session). tops_listed s id count ≡ Some shown) c.self.view_is c.in-Ok.ensures.entries in
    let size : length shown ≡ length (group_tops s id count) = top-size s.cross.columns (entries_in s.cross) count (group_named s.cross id) shown listed in
    let same : length c.as_slice-top-items.result.now ≡ length shown = ap length c.as_slice-top-items.ensures.value in
    let past : length (group_tops s id count) ≤ c.loop-top.top-index = omega arith in
    puts-all (λ (entry : KeyFields). entry_line c.args.form.now entry.0 entry.1) (group_tops s id count) c.loop-top.top-index past c.loop-top.invariant
