use Rattle.std.proofs.Common.{◌≡◌, ◌∙◌, ◌<◌, ◌≤◌, List, length, get_or, flat_map, sym, ap, subst, arith, rules}
use Rattle.std.specs.Iterator.Adapters.{zip_first, zip_second}
use Rattle.std.specs.List.{AllByRecursion, zip}
use Rattle.std.specs.Slice.Iter.{iter_rest}
use Rattle.std.proofs.lemmas.List.{length_push, take_all}
use Rattle.std.proofs.lemmas.Slice.Zip.{get_or-zip, length-zip, zip_end, zip_turn}
use Rattle.xf_base.specs.Schema.{IsColumn}
use Rattle.xf_base.specs.declared.cell.Cell.{Cell}
use Rattle.xf_base.specs.declared.column.Column.{Column}
use Rattle.xf_reply.specs.Answer.{cell_words}
use Rattle.xf_reply.specs.Put.{PutsIf}
use Rattle.xf_reply.proofs.Puts.{all_at, puts_more, puts_under}
use Rattle.xf_reply.proofs.answer.put_cells.Goals as goal

pub loop-column-preserved : goal.loop-column-preserved
loop-column-preserved c =
    let columns = c.args.columns.now in
    let cells = c.args.cells.now in
    let n = length c.loop-column.yielded in
    let first : iter_rest (zip_first c.into_iter-column-iterator.result) ≡ columns = search rules in
    let second : iter_rest (zip_second c.into_iter-column-iterator.result) ≡ cells = search rules in
    let turn = zip_turn columns cells c.loop-column.yielded c.into_iter-column-iterator.result c.loop-column.column-iterator c.next.new.self c.next.result first second c.loop-column.yielded_by (c.in-Some.column, c.in-Some.cell) c.in-Some.is c.next.ensures.steps in
    let column = c.in-Some.column.now in
    let cell = c.in-Some.cell.now in
    let within : n < length (zip columns cells) = omega (arith, length-zip columns cells, turn.0, turn.1) in
    let at : get_or (zip columns cells) n (column, cell) ≡ (column, cell) =
    get_or-zip columns cells n (column, cell) turn.0 turn.1 ∙ ap (λ (x : Column). (x, get_or cells n cell)) (sym (turn.2 column)) ∙ ap (λ (y : Cell). (column, y)) (sym (turn.3 cell)) in
    let next = puts_under (λ (all : AllByRecursion IsColumn columns). (all_at IsColumn columns n column turn.0 (turn.2 column) all).kind) c.in_ok-put_next_cell.ensures in
    let more = length_push c.loop-column.yielded (c.in-Some.column, c.in-Some.cell) in
    rw more (puts_more cell_words (zip columns cells) n (column, cell) within at c.loop-column.invariant next)

pub returns : goal.returns
returns c =
    let columns = c.args.columns.now in
    let cells = c.args.cells.now in
    let first : iter_rest (zip_first c.into_iter-column-iterator.result) ≡ columns = search rules in
    let second : iter_rest (zip_second c.into_iter-column-iterator.result) ≡ cells = search rules in
    let end = zip_end columns cells c.loop-column.yielded c.into_iter-column-iterator.result c.loop-column.column-iterator c.next.new.self c.next.result first second c.loop-column.yielded_by c.in-None.is c.next.ensures.steps in
    let past : length (zip columns cells) ≤ length c.loop-column.yielded = omega (arith, length-zip columns cells, end) in
    let all = take_all (length c.loop-column.yielded) (zip columns cells) past in
    subst (λ (pairs : List (Column × Cell)). PutsIf (AllByRecursion IsColumn columns) c.args.out.now.items c.loop-column.out.items (flat_map cell_words pairs)) all c.loop-column.invariant
