use Rattle.std.proofs.Common.{◌≡◌, ◌∙◌, ℕ, ◌<◌, List, [], Some, length, option_map, ap, subst, sym, unwrap_or}
use Rattle.std.specs.List.{AllByRecursion}
use Rattle.xf_access.specs.Stock.{keys_of_row}
use Rattle.xf_engine.specs.Answers.{bottom_of}
use Rattle.xf_filter.specs.Stock.{stock_says}
use Rattle.xf_model.specs.Replay.{accepted}
use Rattle.xf_session.proofs.AskedNames.{told-dimension, told-some}
use Rattle.xf_session.proofs.WithinRows.{bottom-listed}
use Rattle.xf_session.specs.Command.{records_at}
use Rattle.xf_session.specs.Does.{Tells}
use Rattle.xf_session.specs.State.{Session, named}
use Rattle.xf_session.specs.declared.naming.Naming.{Naming}
use Rattle.xf_session.proofs.session.Session.bottom.Goals as goal

pub listed-requires : goal.listed-requires
listed-requires g c =
    let below = bottom-listed keys_of_row stock_says c.self.inside.cross c.in-Some.id.0 c.args.count c.unwrap_or.result c.in-Ok.places.items c.in-Ok.ensures.places in
    let here = subst (λ (s : Session). AllByRecursion (λ place. place < length s.cross.rows) c.in-Ok.places.items) c.self.view_is below in
    subst (λ (places : List ℕ). AllByRecursion (λ place. place < length c.args.self.now.cross.rows) places) (sym c.as_slice.ensures.value) here

pub returns-in-Ok-clause-answer : goal.returns-in-Ok-clause-answer
returns-in-Ok-clause-answer g c =
    let s = c.args.self.now in
    let id = c.in-Some.id.0 in
    let one : bottom_of keys_of_row stock_says s.cross id c.args.count c.unwrap_or.result ≡ Some c.in-Ok.places.items =
    subst (λ (s : Session). bottom_of keys_of_row stock_says s.cross id c.args.count c.unwrap_or.result ≡ Some c.in-Ok.places.items) c.self.view_is c.in-Ok.ensures.places in
    let two = subst (λ offset. bottom_of keys_of_row stock_says s.cross id c.args.count offset ≡ Some c.in-Ok.places.items) c.unwrap_or.ensures one in
    let shown = told-some (bottom_of keys_of_row stock_says s.cross id c.args.count (unwrap_or c.args.offset 0)) c.in-Ok.places.items c.as_slice.result.now two c.as_slice.ensures.value in
    let found : Some c.in-Some.id ≡ option_map (λ (naming : Naming). naming.id) (named s.dimensions c.args.name) =
    sym c.in-Some.is ∙ c.dimension.ensures ∙ ap (λ (name : List ℕ). option_map (λ (naming : Naming). naming.id) (named s.dimensions name)) c.as_str.ensures in
    told-dimension s c.args.name c.in-Some.id (λ id. records_at s (unwrap_or (bottom_of keys_of_row stock_says s.cross id c.args.count (unwrap_or c.args.offset 0)) [])) c.listed.result found
    (subst (λ (places : List ℕ). Tells (accepted s (records_at s places)) c.listed.result) shown c.listed.ensures.answer)
