use Rattle.std.proofs.Common.{◌≡◌, ◌∙◌, List, Result, Ok, ap, subst, sym, arith}
use Rattle.xf_base.specs.declared.cell.Cell.{Cell}
use Rattle.xf_base.specs.declared.column.Column.{Column}
use Rattle.xf_load.proofs.LoadFacts.{rows_of-loaded}
use Rattle.xf_load.specs.Load.{rows_of}
use Rattle.xf_load.specs.declared.load.LoadRefusal.{LoadRefusal}
use Rattle.xf_session.specs.Arrivals.{read_outcome}
use Rattle.xf_session.specs.Does.{Does}
use Rattle.xf_session.specs.State.{Session}
use Rattle.xf_session.proofs.session.Session.add_file.Goals as goal

pub returns-clause-command : goal.returns-clause-command
returns-clause-command g c =
    let s = c.args.self.now in
    let bytes = c.args.bytes.now in
    let rows = c.in-Ok.loaded.rows in
    let is : rows_of c.schema.result.now bytes ≡ Ok rows = rows_of-loaded c.schema.result.now bytes c.behind-self.inside.rows c.in-Ok.loaded c.in-Ok.ensures.loaded (omega arith) in
    let here : rows_of s.cross.columns bytes ≡ Ok rows =
    subst (λ (columns : List Column). rows_of columns bytes ≡ Ok rows) (c.schema.ensures ∙ ap (λ (s : Session). s.cross.columns) c.self.view_is) is in
    subst (λ (read : Result (List (List Cell)) LoadRefusal). Does (read_outcome s read) s c.add_rows.new.self c.add_rows.result) (sym here) c.add_rows.ensures.command
