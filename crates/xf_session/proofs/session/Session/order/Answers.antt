-- another order changes no name
use Rattle.xf_engine.specs.Changes as change
use Rattle.xf_group.specs.Order.{order_field}
use Rattle.xf_session.proofs.Kept.{kept_as, kept_with_order}
use Rattle.xf_session.specs.State.{session_of}
use Rattle.xf_session.proofs.session.Session.order.Goals as goal

pub invariant_of-self : goal.invariant_of-self
invariant_of-self c =
    let s = session_of c.self.inside.board c.self.inside.cross c.self.inside.dimensions c.self.inside.groups c.self.inside.wholes in
    let field = order_field c.order_of-order.result in
    kept_as s c.order_group-found.new.self (change.with_order s.cross c.in-Some.id.0 field) c.order_group-found.ensures.state
    (kept_with_order s c.in-Some.id.0 field c.self.invariant)
