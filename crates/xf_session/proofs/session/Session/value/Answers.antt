use Rattle.std.proofs.Common.{◌≡◌, ◌∙◌, ℕ, List, ◌++◌, Some, Ok, ap, sym}
use Rattle.std.specs.List.{find}
use Rattle.std.specs.Ordering.{is_eq}
use Rattle.xf_base.specs.Form.{key_of_word}
use Rattle.xf_base.specs.Key.{key_cmp}
use Rattle.xf_base.specs.declared.form.KeyForm.{KeyForm}
use Rattle.xf_base.specs.declared.key.Key.{Key}
use Rattle.xf_reply.specs.declared.reply.Reply.TheVariants.{Answer}
use Rattle.xf_session.proofs.AskedNames.{told-group}
use Rattle.xf_session.specs.Command.{entry_at, group_entries, group_form}
use Rattle.xf_session.specs.Outcome.{KeyFields, found_line}
use Rattle.xf_session.specs.State.{Name, named}
use Rattle.xf_session.proofs.session.Session.value.Goals as goal

pub returns-clause-answer : goal.returns-clause-answer
returns-clause-answer g c =
    let s = c.args.self.now in
    let id = c.in-Some.id in
    let word = c.args.word.now in
    let own = group_form s id.0 in
    let at = λ (key : Key). find (λ (entry : KeyFields). is_eq (key_cmp entry.0 key)) (group_entries s id.0) in
    let found : Some id ≡ named s.groups c.args.name = sym c.in-Some.is ∙ c.group.ensures ∙ ap (λ (name : Name). named s.groups name) c.as_str.ensures in
    let key : c.in_ok-key.key ≡ key_of_word own word = c.in_ok-key.ensures ∙ ap (λ (form : KeyForm). key_of_word form word) c.group_form-form.ensures in
    let is : c.from_vec.result ≡ found_line own (at (key_of_word own word)) =
    c.from_vec.ensures ∙ c.in_ok-put_entry_of.ensures.appended ∙ ap (λ (old : List ℕ). old ++ found_line c.group_form-form.result (at c.in_ok-key.key)) c.new-out.ensures.items
    ∙ ap (λ (form : KeyForm). found_line form (at c.in_ok-key.key)) c.group_form-form.ensures ∙ ap (λ (key : Key). found_line own (at key)) key in
    told-group {E = Unit {0}} s c.args.name id (λ id. entry_at s id word) (Ok (Answer c.from_vec.result)) found (ap Answer is)
