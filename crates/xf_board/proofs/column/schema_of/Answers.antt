-- Each column that is taken is one of those, and is sound.
use Rattle.std.proofs.Common.{◌∙◌, sym, subst, length}
use Rattle.std.specs.List.{AllByRecursion}
use Rattle.std.proofs.lemmas.Iterator.Adapters.{YieldsList-from_vec}
use Rattle.std.proofs.lemmas.Iterator.Consumers.{YieldsList-end, YieldsList-turn}
use Rattle.std.proofs.lemmas.List.{map-id}
use Rattle.std.proofs.lemmas.List.Elements.{All-from_recursion, All-get_or}
use Rattle.xf_base.specs.Schema.{IsColumn}
use Rattle.xf_board.proofs.column.schema_of.Goals as goal

pub push-requires : goal.push-requires
push-requires c =
    let columns = c.into_vec-column-items.result.items in
    let taken = YieldsList-from_vec {s = c.into_iter-column-iterator.result} columns c.into_iter-column-iterator.ensures.into_iter_gives.0 (c.into_iter-column-iterator.ensures.into_iter_gives.1 ∙ c.into_vec-column-items.result.ok.0) in
    let turn = YieldsList-turn taken c.loop-column.yielded c.loop-column.column-iterator c.loop-column.yielded_by c.next.result c.next.new.self c.in-Some.column c.in-Some.is c.next.ensures.steps in
    let all : AllByRecursion IsColumn columns = subst (λ xs. AllByRecursion IsColumn xs) (sym c.into_vec-column-items.ensures) c.requires in
    subst (λ column. IsColumn column) (sym turn.1) (All-get_or IsColumn columns (length c.loop-column.yielded) c.in-Some.column turn.0 (All-from_recursion IsColumn columns all))

pub returns : goal.returns
returns c =
    let columns = c.into_vec-column-items.result.items in
    let taken = YieldsList-from_vec {s = c.into_iter-column-iterator.result} columns c.into_iter-column-iterator.ensures.into_iter_gives.0 (c.into_iter-column-iterator.ensures.into_iter_gives.1 ∙ c.into_vec-column-items.result.ok.0) in
    let end = YieldsList-end taken c.loop-column.yielded c.loop-column.column-iterator c.loop-column.yielded_by c.next.result c.next.new.self c.in-None.is c.next.ensures.steps in
    c.loop-column.invariant ∙ sym (map-id c.loop-column.yielded) ∙ end.0 ∙ c.into_vec-column-items.ensures
