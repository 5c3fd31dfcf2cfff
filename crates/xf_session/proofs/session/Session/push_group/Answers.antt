-- the session stays one with a group more, and is as it was where its name is not kept
use Rattle.std.proofs.Common.{◌≡◌, ◌∷◌, [], ◌++◌, ◌∙◌, sym, ap}
use Rattle.xf_engine.specs.Changes as change
use Rattle.xf_session.proofs.Added.{group-added, group-undone, kept-with-group, where-done, where-failed}
use Rattle.xf_session.specs.Command.{with_group}
use Rattle.xf_session.specs.State.{Session, StockState, session_of}
use Rattle.xf_session.proofs.session.Session.push_group.Goals as goal

pub invariant_of-self-then-is_err : goal.invariant_of-self-then-is_err
invariant_of-self-then-is_err g c =
    let same : c.push.new.self ≡ c.self.inside.groups = where-failed c.push.result (c.push.new.self ≡ c.self.inside.groups) c.push.ensures.err (sym c.is_err.ensures.value ∙ c.if-is_err.true) in
    let undone : c.dispose_group-gone.new.self ≡ c.self.inside.cross =
    c.dispose_group-gone.ensures.state ∙ ap (λ (cross : StockState). change.without_group cross c.in_ok-id.id.0) c.in_ok-id.ensures.ok
    ∙ group-undone c.self.inside.cross c.in_ok-id.id.0 c.args.naming.id.0 c.args.rounding c.args.reducer c.in_ok-id.ensures.id in
    rw (same, undone) c.self.invariant

pub returns-then-is_err-clause-err : goal.returns-then-is_err-clause-err
returns-then-is_err-clause-err g c =
    let same : c.push.new.self ≡ c.self.inside.groups = where-failed c.push.result (c.push.new.self ≡ c.self.inside.groups) c.push.ensures.err (sym c.is_err.ensures.value ∙ c.if-is_err.true) in
    let undone : c.dispose_group-gone.new.self ≡ c.self.inside.cross =
    c.dispose_group-gone.ensures.state ∙ ap (λ (cross : StockState). change.without_group cross c.in_ok-id.id.0) c.in_ok-id.ensures.ok
    ∙ group-undone c.self.inside.cross c.in_ok-id.id.0 c.args.naming.id.0 c.args.rounding c.args.reducer c.in_ok-id.ensures.id in
    rw (same, undone) c.self.view_is

pub invariant_of-self-else-is_err : goal.invariant_of-self-else-is_err
invariant_of-self-else-is_err g c =
    let session : Session = session_of c.self.inside.board c.self.inside.cross c.self.inside.dimensions c.self.inside.groups c.self.inside.wholes in
    let added : c.push.new.self ≡ c.self.inside.groups ++ (c.args.name.now, c.in_ok-id.id) ∷ [] =
    where-done c.push.result (c.push.new.self ≡ c.self.inside.groups ++ (c.args.name.now, c.in_ok-id.id) ∷ []) c.push.ensures.ok (sym c.is_err.ensures.value ∙ c.if-is_err.false) in
    rw (added, c.in_ok-id.ensures.ok)
    (kept-with-group session c.args.name.now c.args.naming.id.0 c.args.rounding c.args.reducer c.in_ok-id.id c.self.invariant (rw (← c.self.view_is) at c.requires.absent))

pub returns-clause-ok : goal.returns-clause-ok
returns-clause-ok g c =
    let session : Session = session_of c.self.inside.board c.self.inside.cross c.self.inside.dimensions c.self.inside.groups c.self.inside.wholes in
    let added : c.push.new.self ≡ c.self.inside.groups ++ (c.args.name.now, c.in_ok-id.id) ∷ [] =
    where-done c.push.result (c.push.new.self ≡ c.self.inside.groups ++ (c.args.name.now, c.in_ok-id.id) ∷ []) c.push.ensures.ok (sym c.is_err.ensures.value ∙ c.if-is_err.false) in
    rw (added, c.in_ok-id.ensures.ok)
    (group-added session c.args.name.now c.args.dimension.now c.args.naming c.args.rounding c.args.reducer c.in_ok-id.id (rw (← c.self.view_is) at c.requires.found) c.in_ok-id.ensures.id
    ∙ ap (λ (s : Session). with_group s c.args.name.now c.args.dimension.now c.args.rounding c.args.reducer) c.self.view_is)
