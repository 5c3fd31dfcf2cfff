-- the session stays one with a dimension more, and is as it was where the crossfilter refuses it
use Rattle.std.proofs.Common.{◌≡◌, ◌∷◌, [], ◌++◌, ◌∙◌, ap}
use Rattle.xf_session.proofs.Added.{dimension-added, kept-with-dimension}
use Rattle.xf_session.proofs.LastNames.{pushed-gone}
use Rattle.xf_session.specs.Command.{with_dimension, without_name}
use Rattle.xf_session.specs.State.{Name, Session, session_of}
use Rattle.xf_session.specs.declared.naming.Naming.{Naming}
use Rattle.xf_session.proofs.session.Session.push_dimension.Goals as goal

pub invariant_of-self-in-Ok : goal.invariant_of-self-in-Ok
invariant_of-self-in-Ok g c =
    let session : Session = session_of c.self.inside.board c.self.inside.cross c.self.inside.dimensions c.self.inside.groups c.self.inside.wholes in
    let naming : Naming = record { id = c.in-Ok.id; form = c.form-form.result } in
    let unknown : Naming = record { id = record { 0 = 0 }; form = c.form-form.result } in
    let added : c.set_last.new.self ≡ c.self.inside.dimensions ++ (c.args.name.now, naming) ∷ [] =
    c.set_last.ensures c.self.inside.dimensions c.args.name.now unknown c.in_ok-push.ensures.ok in
    rw (added, c.in-Ok.ensures.ok)
    (kept-with-dimension session c.args.name.now c.args.accessor c.in-Ok.id c.form-form.result c.self.invariant
    (rw (← c.self.view_is) at c.requires.absent) c.form-form.ensures)

pub returns-in-Ok-clause-ok : goal.returns-in-Ok-clause-ok
returns-in-Ok-clause-ok g c =
    let session : Session = session_of c.self.inside.board c.self.inside.cross c.self.inside.dimensions c.self.inside.groups c.self.inside.wholes in
    let naming : Naming = record { id = c.in-Ok.id; form = c.form-form.result } in
    let unknown : Naming = record { id = record { 0 = 0 }; form = c.form-form.result } in
    let added : c.set_last.new.self ≡ c.self.inside.dimensions ++ (c.args.name.now, naming) ∷ [] =
    c.set_last.ensures c.self.inside.dimensions c.args.name.now unknown c.in_ok-push.ensures.ok in
    rw (added, c.in-Ok.ensures.ok)
    (dimension-added session c.args.name.now c.args.accessor c.in-Ok.id c.form-form.result c.in-Ok.ensures.id c.form-form.ensures
    ∙ ap (λ (s : Session). with_dimension s c.args.name.now c.args.accessor) c.self.view_is)

pub invariant_of-self-in-Err : goal.invariant_of-self-in-Err
invariant_of-self-in-Err g c =
    let unknown : Naming = record { id = record { 0 = 0 }; form = c.form-form.result } in
    let gone : c.remove.new.self ≡ c.self.inside.dimensions =
    c.remove.ensures ∙ ap (λ (text : Name). without_name text c.push.new.self) c.as_str.ensures ∙ ap (without_name c.args.name.now) c.in_ok-push.ensures.ok
    ∙ pushed-gone c.self.inside.dimensions c.args.name.now unknown (rw (← c.self.view_is) at c.requires.absent) in
    rw (gone, c.in-Err.ensures.err) c.self.invariant

pub returns-in-Err-clause-err : goal.returns-in-Err-clause-err
returns-in-Err-clause-err g c =
    let unknown : Naming = record { id = record { 0 = 0 }; form = c.form-form.result } in
    let gone : c.remove.new.self ≡ c.self.inside.dimensions =
    c.remove.ensures ∙ ap (λ (text : Name). without_name text c.push.new.self) c.as_str.ensures ∙ ap (without_name c.args.name.now) c.in_ok-push.ensures.ok
    ∙ pushed-gone c.self.inside.dimensions c.args.name.now unknown (rw (← c.self.view_is) at c.requires.absent) in
    rw (gone, c.in-Err.ensures.err) c.self.view_is
