-- the dimension of the next column
use Rattle.std.proofs.Common.{◌≡◌, ◌∙◌, ◌∷◌, [], ◌++◌, ◌<◌, List, ap, get_or, length, map, sym, take, arith}
use Rattle.std.specs.List.{enumerate_from}
use Rattle.xf_access.specs.declared.stock_accessor.StockAccessor.TheVariants.{Column as ColumnOf}
use Rattle.xf_base.specs.declared.column.Column.{Column}
use Rattle.xf_base.specs.declared.form.AtomForm.TheVariants.{Fixed}
use Rattle.xf_base.specs.declared.form.KeyForm.TheVariants.{One}
use Rattle.xf_board.specs.declared.parts.DimensionSpec.{DimensionSpec}
use Rattle.xf_session.proofs.StandardBoard.{column-next}
use Rattle.xf_session.specs.Start.{column_dimension}
use Rattle.xf_session.specs.State.{Name}
use Rattle.xf_session.proofs.standard.column_dimensions.Goals as goal

pub loop-place-preserved : goal.loop-place-preserved
loop-place-preserved c =
    let columns = c.args.schema.now in
    let place = c.loop-place.place in
    let d = c.index-as_slice-place.result in
    let inside : place < length columns = rw c.len-place-end.ensures at c.loop-place-test.true in
    c.in_ok-push.ensures.ok
    ∙ ap (λ (done : List DimensionSpec). done ++ record { name = c.in_ok-name.name; from = ColumnOf place (One (Fixed 0)) } ∷ []) c.loop-place.invariant
    ∙ ap (λ (name : Name). map column_dimension (enumerate_from 0 (take place columns)) ++ record { name = name; from = ColumnOf place (One (Fixed 0)) } ∷ []) (c.in_ok-name.ensures ∙ ap (λ (columns : List Column). (get_or columns place d).name) c.as_slice.ensures.value)
    ∙ sym (column-next 0 columns place place d (omega arith) inside)
