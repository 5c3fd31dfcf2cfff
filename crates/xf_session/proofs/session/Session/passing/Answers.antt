use Rattle.std.proofs.Common.{◌≡◌, ◌∙◌, ℕ, ap, subst}
use Rattle.xf_access.specs.Stock.{keys_of_row}
use Rattle.xf_engine.specs.Answers.{passing_count}
use Rattle.xf_filter.specs.Stock.{stock_says}
use Rattle.xf_model.specs.Replay.{accepted}
use Rattle.xf_session.specs.Does.{Tells}
use Rattle.xf_session.specs.Outcome.{Number}
use Rattle.xf_session.specs.State.{Session}
use Rattle.xf_session.proofs.session.Session.passing.Goals as goal

pub returns-clause-answer : goal.returns-clause-answer
returns-clause-answer g c =
    let is : c.passing_count.result ≡ passing_count keys_of_row stock_says c.args.self.now.cross =
    c.passing_count.ensures ∙ ap (λ (s : Session). passing_count keys_of_row stock_says s.cross) c.self.view_is in
    subst (λ (count : ℕ). Tells (accepted c.args.self.now (Number count)) c.number.result) is c.number.ensures.answer
