use Rattle.std.proofs.Common.{◌≡◌, ◌∙◌, true, List, [], ◌++◌, Option, Some, OnOk, option_map, append-nil, ap, subst, sym}
use Rattle.xf_base.specs.declared.column.Column.{Column}
use Rattle.xf_engine.specs.State.{whole_named}
use Rattle.xf_reduce.specs.StockReducer.{stock_fits, stock_meaning}
use Rattle.xf_reply.specs.Answer.{field_words}
use Rattle.xf_reply.specs.declared.answer.Field.{Field}
use Rattle.xf_session.proofs.EntryFields.{StockWhole, means_in, whole-is, whole-none, whole_told}
use Rattle.xf_session.specs.Command.{fields_of, whole_fields}
use Rattle.xf_session.specs.State.{Session}
use Rattle.xf_session.proofs.session.Session.put_whole.Goals as goal

pub returns-in_default : goal.returns-in_default
returns-in_default c =
    let cross = c.args.self.now.cross in
    let old = c.args.out.now.items in
    let none = whole-none cross.columns (means_in cross) (whole_named cross c.args.id.0) c.in_default.ensures.reducer in
    sym (append-nil old) ∙ ap (λ (fields : List Field). old ++ field_words fields) (sym none)

pub returns-in_default-whole : goal.returns-in_default-whole
returns-in_default-whole c =
    let old = c.args.out.now.items in
    let none : [] ≡ whole_fields c.args.self.now c.args.id.0 =
    subst (λ (s : Session). [] ≡ whole_fields s c.args.id.0) c.self.view_is
    (sym (ap (λ (found : Option StockWhole). whole_told c.self.inside.cross.columns (means_in c.self.inside.cross) found) c.in_default-whole.ensures.refused.1)) in
    sym (append-nil old) ∙ ap (λ (fields : List Field). old ++ field_words fields) none

pub tell_fields-requires : goal.tell_fields-requires
tell_fields-requires c =
    let same = c.schema.ensures ∙ ap (λ (s : Session). s.cross.columns) c.self.view_is in
    subst (λ (columns : List Column). stock_fits c.in-Some.reducer.now columns ≡ true) (sym same) c.in-Some.ensures.fits

pub returns : goal.returns
returns c =
    let s = c.args.self.now in
    let id = c.args.id.0 in
    let old = c.args.out.now.items in
    let new = c.put_fields.new.out.items in
    let reducer = c.in-Some.reducer.now in
    let meaning = stock_meaning c.in-Ok.value.now in
    let same : c.schema.result.now ≡ s.cross.columns = c.schema.ensures ∙ ap (λ (s : Session). s.cross.columns) c.self.view_is in
    let value : option_map (means_in s.cross) (whole_named s.cross id) ≡ Some meaning =
    subst (λ (s : Session). option_map (means_in s.cross) (whole_named s.cross id) ≡ Some meaning) c.self.view_is c.in-Ok.ensures.value in
    let told : c.as_slice.result.now ≡ whole_fields s id =
    c.as_slice.ensures.value ∙ c.in_ok-tell_fields.ensures ∙ ap (λ (columns : List Column). fields_of columns reducer meaning) same
    ∙ sym (whole-is s.cross.columns (means_in s.cross) (whole_named s.cross id) reducer meaning (sym c.in-Some.ensures.reducer) value) in
    subst (λ (fields : List Field). OnOk c.put_fields.result (new ≡ old ++ field_words fields)) told c.put_fields.ensures.ok
