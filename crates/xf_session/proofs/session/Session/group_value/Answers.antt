use Rattle.std.proofs.Common.{◌∙◌, ap, sym}
use Rattle.std.specs.Option.{option_and_then}
use Rattle.xf_engine.specs.Answers.{meaning_of_key}
use Rattle.xf_engine.specs.State.{group_named}
use Rattle.xf_session.proofs.EntryFields.{StockGroup, entries_in}
use Rattle.xf_session.specs.State.{Session}
use Rattle.xf_session.proofs.session.Session.group_value.Goals as goal

pub returns-in-Ok : goal.returns-in-Ok
returns-in-Ok g c =
    let id = c.args.id.0 in
    let key = c.args.key.now in
    c.in-Ok.ensures.value
    ∙ ap (λ (s : Session). option_and_then (λ (group : StockGroup). meaning_of_key (entries_in s.cross group) key) (group_named s.cross id)) c.self.view_is

pub returns-in-Err : goal.returns-in-Err
returns-in-Err g c =
    let id = c.args.id.0 in
    let key = c.args.key.now in
    let cross = c.self.inside.cross in
    sym (ap (option_and_then (λ (group : StockGroup). meaning_of_key (entries_in cross group) key)) c.in-Err.ensures.refused.1)
    ∙ ap (λ (s : Session). option_and_then (λ (group : StockGroup). meaning_of_key (entries_in s.cross group) key) (group_named s.cross id)) c.self.view_is
