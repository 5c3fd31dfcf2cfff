use Rattle.std.proofs.Common.{◌≡◌, ◌∙◌, ℕ, List, [], ◌∷◌, ◌++◌, length, Result, Ok, ap, subst, sym}
use Rattle.xf_base.specs.declared.cell.Cell.{Cell}
use Rattle.xf_base.specs.declared.column.Column.{Column}
use Rattle.xf_load.proofs.LoadFacts.{Tells-Ok}
use Rattle.xf_load.specs.declared.load.LoadRefusal.{LoadRefusal}
use Rattle.xf_session.proofs.ReadRows.{add-outcome}
use Rattle.xf_session.specs.Arrivals.{row_outcome, rows_outcome}
use Rattle.xf_session.specs.Command.{row_of_words}
use Rattle.xf_session.specs.Does.{Does, no_files}
use Rattle.xf_session.specs.Outcome.{Outcome}
use Rattle.xf_session.specs.State.{Session}
use Rattle.xf_session.proofs.session.Session.add.Goals as goal

pub returns-clause-command : goal.returns-clause-command
returns-clause-command g c =
    let s = c.args.self.now in
    let words = c.args.words.now in
    let new = c.add_rows.new.self in
    let result = c.add_rows.result in
    let columns : c.schema-schema.result.now ≡ s.cross.columns = c.schema-schema.ensures ∙ ap (λ (s : Session). s.cross.columns) c.self.view_is in
    let even : length words ≡ length s.cross.columns = sym c.len.ensures ∙ c.if-len.false ∙ c.len-2.ensures ∙ ap (λ (columns : List Column). length columns) columns in
    let shown : row_of_words c.schema-schema.result.now c.as_slice.result.now ≡ Ok c.in-Ok.row = Tells-Ok c.in-Ok.row _ c.in-Ok.ensures.row in
    let is : row_of_words s.cross.columns words ≡ Ok c.in-Ok.row =
    subst (λ (columns : List Column). row_of_words columns words ≡ Ok c.in-Ok.row) columns
    (subst (λ (words : List (List ℕ)). row_of_words c.schema-schema.result.now words ≡ Ok c.in-Ok.row) c.as_slice.ensures shown) in
    let one : c.push.new.self ≡ c.in-Ok.row ∷ [] = c.in_ok-push.ensures.ok ∙ ap (λ (rows : List (List Cell)). rows ++ c.in-Ok.row ∷ []) c.new-rows.ensures in
    let told = subst (λ (rows : List (List Cell)). Does (rows_outcome s rows) s new result) one c.add_rows.ensures.command in
    subst (λ (outcome : Outcome). Does outcome s new result) (sym (add-outcome no_files s words even))
    (subst (λ (read : Result (List Cell) LoadRefusal). Does (row_outcome s read) s new result) (sym is) told)
