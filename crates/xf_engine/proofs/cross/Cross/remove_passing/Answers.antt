-- The rows that pass every dimension are gone.
use Rattle.std.proofs.Common.{◌≡◌, List, Bool, length, map, ap, ◌∙◌}
use Rattle.std.proofs.lemmas.List.{length-map}
use Rattle.std.specs.List.{range_with_len}
use Rattle.xf_base.specs.declared.cell.Cell.{Cell}
use Rattle.xf_engine.specs.Held.{passes_each_at}
use Rattle.xf_engine.specs.State.{dimensions_of}
use Rattle.xf_engine.proofs.Removed.{kept-without, marks-rows}
use Rattle.xf_engine.proofs.RowsRefolded.{counted-removed, removed-state}
use Rattle.xf_model.specs.Dimension.{passes_each}
use Rattle.xf_engine.proofs.cross.Cross.remove_passing.Goals as goal

pub remove-requires : goal.remove-requires
remove-requires g c =
    let keys_of = g.A.Accessor.keys_of in
    let says = g.P.Predicate.says_to in
    let items = c.self.inside.dimensions.items in
    let before = c.args.self.now in
    let test : List Cell → Bool = passes_each (dimensions_of keys_of says before.dimensions) in
    let marked : c.in_ok-gone.gone ≡ map test before.rows =
    c.in_ok-gone.ensures
    ∙ c.in_ok-marks.ensures
    ∙ ap (λ held. map (passes_each_at says held) (range_with_len 0 c.len-count.result)) c.as_slice.ensures.value
    ∙ ap (λ count. map (passes_each_at says items) (range_with_len 0 count)) c.len-count.ensures
    ∙ marks-rows keys_of says c.self.inside.table.rows items c.self.invariant.keys
    ∙ ap (λ s. map (passes_each (dimensions_of keys_of says s.dimensions)) s.rows) c.self.view_is in
    ap length marked ∙ length-map before.rows test

pub returns-clause-removed : goal.returns-clause-removed
returns-clause-removed g c =
    let keys_of = g.A.Accessor.keys_of in
    let says = g.P.Predicate.says_to in
    let items = c.self.inside.dimensions.items in
    let before = c.args.self.now in
    let test : List Cell → Bool = passes_each (dimensions_of keys_of says before.dimensions) in
    let marked : c.in_ok-gone.gone ≡ map test before.rows =
    c.in_ok-gone.ensures
    ∙ c.in_ok-marks.ensures
    ∙ ap (λ held. map (passes_each_at says held) (range_with_len 0 c.len-count.result)) c.as_slice.ensures.value
    ∙ ap (λ count. map (passes_each_at says items) (range_with_len 0 count)) c.len-count.ensures
    ∙ marks-rows keys_of says c.self.inside.table.rows items c.self.invariant.keys
    ∙ ap (λ s. map (passes_each (dimensions_of keys_of says s.dimensions)) s.rows) c.self.view_is in
    counted-removed c.remove.result test before c.remove.new.self c.in_ok-gone.gone marked c.remove.ensures.count c.remove.ensures.state

pub returns-clause-ok : goal.returns-clause-ok
returns-clause-ok g c =
    let keys_of = g.A.Accessor.keys_of in
    let says = g.P.Predicate.says_to in
    let items = c.self.inside.dimensions.items in
    let before = c.args.self.now in
    let test : List Cell → Bool = passes_each (dimensions_of keys_of says before.dimensions) in
    let marked : c.in_ok-gone.gone ≡ map test before.rows =
    c.in_ok-gone.ensures
    ∙ c.in_ok-marks.ensures
    ∙ ap (λ held. map (passes_each_at says held) (range_with_len 0 c.len-count.result)) c.as_slice.ensures.value
    ∙ ap (λ count. map (passes_each_at says items) (range_with_len 0 count)) c.len-count.ensures
    ∙ marks-rows keys_of says c.self.inside.table.rows items c.self.invariant.keys
    ∙ ap (λ s. map (passes_each (dimensions_of keys_of says s.dimensions)) s.rows) c.self.view_is in
    removed-state c.remove.result c.remove.new.self c.remove.ensures.state (kept-without test before c.in_ok-gone.gone marked)
