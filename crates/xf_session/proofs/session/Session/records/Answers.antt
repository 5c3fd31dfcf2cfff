use Rattle.std.proofs.Common.{◌≡◌, ◌∙◌, ℕ, ◌<◌, ◌≤◌, List, None, length, map, ap, subst, sym, arith}
use Rattle.std.specs.List.{AllByRecursion}
use Rattle.std.proofs.lemmas.List.{drop_all, take_all}
use Rattle.xf_access.specs.Stock.{keys_of_row}
use Rattle.xf_engine.specs.Answers.{all_filtered_of}
use Rattle.xf_engine.specs.State.{id_numbers}
use Rattle.xf_filter.specs.Stock.{stock_says}
use Rattle.xf_model.specs.Replay.{accepted}
use Rattle.xf_session.proofs.AskedNames.{told-names}
use Rattle.xf_session.proofs.WithinRows.{all_filtered-below}
use Rattle.xf_session.specs.Command.{first_cause, no_dimension, records_at, records_but}
use Rattle.xf_session.specs.Does.{Tells}
use Rattle.xf_session.specs.State.{Name, Session, dimension_id_of}
use Rattle.xf_session.proofs.session.Session.records.Goals as goal

pub listed-requires : goal.listed-requires
listed-requires g c =
    let ids = id_numbers c.as_slice.result.now in
    let cross = c.self.inside.cross in
    let below = all_filtered-below keys_of_row stock_says cross ids in
    let one = subst (λ (places : List ℕ). AllByRecursion (λ place. place < length cross.rows) places) (sym c.in-Ok.ensures.places) below in
    let here = subst (λ (s : Session). AllByRecursion (λ place. place < length s.cross.rows) c.in-Ok.places.items) c.self.view_is one in
    subst (λ (places : List ℕ). AllByRecursion (λ place. place < length c.args.self.now.cross.rows) places) (sym c.as_slice-in-Ok.ensures.value) here

pub returns-in-Ok-clause-answer : goal.returns-in-Ok-clause-answer
returns-in-Ok-clause-answer g c =
    let s = c.args.self.now in
    let names = c.args.names in
    let i = c.loop-name.name-index in
    let past : length names ≤ i = omega (arith, ap length c.as_slice-name-items.ensures) in
    let none : first_cause (map (no_dimension s) names) ≡ None =
    c.loop-name.invariant.live ∙ ap (λ (names : List Name). first_cause (map (no_dimension s) names)) (drop_all i names past) in
    let ids : id_numbers c.loop-name.ids.items ≡ map (dimension_id_of s) names =
    c.loop-name.invariant.ids ∙ ap (map (dimension_id_of s)) (take_all i names past) in
    let shown : c.as_slice-in-Ok.result.now ≡ all_filtered_of keys_of_row stock_says s.cross (map (dimension_id_of s) names) =
    c.as_slice-in-Ok.ensures.value ∙ c.in-Ok.ensures.places ∙ ap (λ (s : Session). all_filtered_of keys_of_row stock_says s.cross (id_numbers c.as_slice.result.now)) c.self.view_is
    ∙ ap (all_filtered_of keys_of_row stock_says s.cross) (ap id_numbers c.as_slice.ensures.value ∙ ids) in
    told-names s names (records_but s names) c.listed.result none (subst (λ (places : List ℕ). Tells (accepted s (records_at s places)) c.listed.result) shown c.listed.ensures.answer)
