-- the filter with the item toggled is of the dimension's kind where the item is
use Rattle.std.proofs.Common.{sym, subst}
use Rattle.xf_session.proofs.Toggled.{toggles}
use Rattle.xf_session.specs.Does.{Does}
use Rattle.xf_session.specs.Outcome.{Outcome}
use Rattle.xf_session.proofs.session.Session.toggle.Goals as goal

pub returns : goal.returns
returns g c =
    let e = toggles c.args.self.now c.args.name c.in-Some.naming c.args.words.now c.in-Some.old.now c.in_ok-filter.filter c.in_ok-item.item (sym c.in-Some.ensures.naming) c.in-Some.ensures.filter c.in-Some.ensures.kind c.in_ok-item.ensures c.in_ok-filter.ensures in
    subst (λ (outcome : Outcome). Does outcome c.args.self.now c.set_filter.new.self c.set_filter.result) e c.set_filter.ensures
