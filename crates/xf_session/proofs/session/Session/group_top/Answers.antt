use Rattle.std.proofs.Common.{◌≡◌, ◌∙◌, ℕ, List, ◌++◌, Some, Ok, ap, sym}
use Rattle.xf_base.specs.declared.form.KeyForm.{KeyForm}
use Rattle.xf_reply.specs.declared.reply.Reply.TheVariants.{Answer}
use Rattle.xf_session.proofs.AskedNames.{told-group}
use Rattle.xf_session.specs.Command.{group_form, group_tops, tops_at}
use Rattle.xf_session.specs.Outcome.{entry_lines}
use Rattle.xf_session.specs.State.{Name, named}
use Rattle.xf_session.proofs.session.Session.group_top.Goals as goal

pub returns-clause-answer : goal.returns-clause-answer
returns-clause-answer g c =
    let s = c.args.self.now in
    let id = c.in-Some.id in
    let form = c.group_form-form.result in
    let shown = group_tops s id.0 c.args.count in
    let found : Some id ≡ named s.groups c.args.name = sym c.in-Some.is ∙ c.group.ensures ∙ ap (λ (name : Name). named s.groups name) c.as_str.ensures in
    let is : c.from_vec.result ≡ entry_lines (group_form s id.0) shown =
    c.from_vec.ensures ∙ c.in_ok-put_tops.ensures.appended ∙ ap (λ (old : List ℕ). old ++ entry_lines form shown) c.new-out.ensures.items
    ∙ ap (λ (form : KeyForm). entry_lines form shown) c.group_form-form.ensures in
    told-group {E = Unit {0}} s c.args.name id (λ id. tops_at s id c.args.count) (Ok (Answer c.from_vec.result)) found (ap Answer is)
