use Rattle.std.proofs.Common.{◌≡◌, ◌∙◌, ℕ, List, Option, Some, None, option_map, ap, sym}
use Rattle.std.specs.List.{find}
use Rattle.std.specs.Option.{option_and_then}
use Rattle.std.specs.Ordering.{is_eq}
use Rattle.xf_access.specs.Round.{rounded_key}
use Rattle.xf_access.specs.Stock.{keys_of_row}
use Rattle.xf_base.specs.Key.{key_cmp}
use Rattle.xf_base.specs.declared.column.Column.{Column}
use Rattle.xf_base.specs.declared.key.Key.{Key}
use Rattle.xf_engine.specs.Answers.{entries_of, meaning_of_key}
use Rattle.xf_engine.specs.State.{group_named}
use Rattle.xf_filter.specs.Stock.{stock_says}
use Rattle.xf_reduce.specs.StockReducer.{stock_meaning, stock_of}
use Rattle.xf_reduce.specs.declared.stock_reducer.StockReducer.{StockReducer}
use Rattle.xf_reply.specs.Answer.{entry_line, none_line}
use Rattle.xf_reply.specs.declared.answer.Field.{Field}
use Rattle.xf_session.proofs.AnswerLines.{puts-ok}
use Rattle.xf_session.proofs.EntryFields.{StockGroup, reducer_in, value-told}
use Rattle.xf_session.specs.Command.{Kept, fields_of, group_entries}
use Rattle.xf_session.specs.Outcome.{KeyFields, found_line}
use Rattle.xf_session.specs.State.{Session}
use Rattle.xf_session.proofs.session.Session.put_entry_of.Goals as goal

abbrev entries : Session → StockGroup → List (Key × Kept)
entries s = entries_of keys_of_row stock_says rounded_key stock_of s.cross

-- what is found by a key among the entries of a group, by what the value of the key means
entry-found : (s : Session) (id : ℕ) (reducer : StockReducer) (key : Key) (value : Option Kept)
    → Some reducer ≡ reducer_in (group_named s.cross id)
    → value ≡ option_and_then (λ (group : StockGroup). meaning_of_key (entries s group) key) (group_named s.cross id)
    → find (λ (entry : KeyFields). is_eq (key_cmp entry.0 key)) (group_entries s id)
    ≡ option_map (λ (meaning : Kept). (key, fields_of s.cross.columns reducer meaning)) value
entry-found s id reducer key value own is =
    value-told s.cross.columns (entries s) (group_named s.cross id) reducer key (sym own)
    ∙ ap (option_map (λ (meaning : Kept). (key, fields_of s.cross.columns reducer meaning))) (sym is)

pub returns-in_default-group_value : goal.returns-in_default-group_value
returns-in_default-group_value g c =
    let reducer = c.in-Some.reducer.now in
    let put = c.put_none-in_default-group_value in
    let none = entry-found c.args.self.now c.args.id.0 reducer c.args.key.now None c.in-Some.ensures.reducer c.in_default-group_value.ensures in
    puts-ok c.args.out.now.items put.new.out.items put.result none_line _ (sym (ap (found_line c.args.form.now) none)) put.ensures.ok put.ensures.utf8

pub returns : goal.returns
returns g c =
    let form = c.args.form.now in
    let key = c.args.key.now in
    let reducer = c.in-Some.reducer.now in
    let meaning = stock_meaning c.in-Some-group_value.value.now in
    let one = entry-found c.args.self.now c.args.id.0 reducer key (Some meaning) c.in-Some.ensures.reducer c.in-Some-group_value.ensures in
    let columns : c.schema.result.now ≡ c.args.self.now.cross.columns = c.schema.ensures ∙ ap (λ (s : Session). s.cross.columns) c.self.view_is in
    let fields : c.as_slice.result.now ≡ fields_of c.args.self.now.cross.columns reducer meaning =
    c.as_slice.ensures.value ∙ c.in_ok-tell_fields.ensures ∙ ap (λ (columns : List Column). fields_of columns reducer meaning) columns in
    let told = ap (λ (fields : List Field). entry_line form key fields) fields ∙ sym (ap (found_line form) one) in
    puts-ok c.args.out.now.items c.put_entry.new.out.items c.put_entry.result _ _ told c.put_entry.ensures.ok c.put_entry.ensures.utf8
