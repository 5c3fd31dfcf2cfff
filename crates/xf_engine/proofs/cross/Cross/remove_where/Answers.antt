-- The rows whose keys pass the filter are gone.
use Rattle.std.proofs.Common.{rules, ◌≡◌, ◌+◌, ◌<◌, List, Bool, Some, filter, option_map, length, map, sym, ap, subst, ◌∙◌}
use Rattle.std.proofs.lemmas.List.{length-map}
use Rattle.xf_base.specs.Gone.{kept}
use Rattle.xf_base.specs.declared.cell.Cell.{Cell}
use Rattle.xf_engine.specs.Answers.{passes_under}
use Rattle.xf_engine.specs.Changes.{without_under}
use Rattle.xf_engine.specs.Held.{keys_pass, live_dimension}
use Rattle.xf_engine.specs.State.{LiveDimension, dimension_named, dimension_place}
use Rattle.xf_engine.proofs.HeldCounts.{keys-at}
use Rattle.xf_engine.proofs.HeldStates.{placed-dimension}
use Rattle.xf_engine.proofs.Named.{find-placed-dimension}
use Rattle.xf_engine.proofs.Refolded.{dimension-within}
use Rattle.xf_engine.proofs.Removed.{kept-without, marks-keys, removed-count}
use Rattle.xf_engine.proofs.cross.Cross.remove_where.Goals as goal

pub index-requires : goal.index-requires
index-requires g c =
    let told = ap (λ s. dimension_place s c.args.id.0) c.self.view_is ∙ c.in_ok-place.ensures.place in
    let long : length c.self.inside.dimensions.items ≡ c.self.inside.dimensions.len = search rules in
    subst (λ n. c.in_ok-place.place < n) long (dimension-within c.args.id.0 c.self.inside.dimensions.items c.in_ok-place.place told)

pub remove-requires : goal.remove-requires
remove-requires g c =
    let keys_of = g.A.Accessor.keys_of in
    let says = g.P.Predicate.says_to in
    let under = c.args.filter.now in
    let items = c.self.inside.dimensions.items in
    let rows = c.self.inside.table.rows in
    let place = c.in_ok-place.place in
    let own = c.index.result.now in
    let before = c.args.self.now in
    let told = ap (λ s. dimension_place s c.args.id.0) c.self.view_is ∙ c.in_ok-place.ensures.place in
    let within = (placed-dimension c.args.id.0 items place own told).0 in
    let holds = keys-at keys_of rows items place own c.self.invariant.keys within c.index.ensures in
    let test : List Cell → Bool = passes_under keys_of says under (live_dimension own) in
    let marked : c.in_ok-gone.gone ≡ map test before.rows =
    c.in_ok-gone.ensures
    ∙ c.in_ok-marks.ensures
    ∙ ap (map (keys_pass says under)) holds
    ∙ marks-keys says under (keys_of own.accessor) rows
    ∙ ap (λ s. map test s.rows) c.self.view_is in
    ap length marked ∙ length-map before.rows test

pub returns-clause-removed : goal.returns-clause-removed
returns-clause-removed g c =
    let keys_of = g.A.Accessor.keys_of in
    let says = g.P.Predicate.says_to in
    let under = c.args.filter.now in
    let items = c.self.inside.dimensions.items in
    let rows = c.self.inside.table.rows in
    let place = c.in_ok-place.place in
    let own = c.index.result.now in
    let before = c.args.self.now in
    let told = ap (λ s. dimension_place s c.args.id.0) c.self.view_is ∙ c.in_ok-place.ensures.place in
    let within = (placed-dimension c.args.id.0 items place own told).0 in
    let holds = keys-at keys_of rows items place own c.self.invariant.keys within c.index.ensures in
    let test : List Cell → Bool = passes_under keys_of says under (live_dimension own) in
    let marked : c.in_ok-gone.gone ≡ map test before.rows =
    c.in_ok-gone.ensures
    ∙ c.in_ok-marks.ensures
    ∙ ap (map (keys_pass says under)) holds
    ∙ marks-keys says under (keys_of own.accessor) rows
    ∙ ap (λ s. map test s.rows) c.self.view_is in
    let named : dimension_named before c.args.id.0 ≡ Some (live_dimension own) = sym (ap (λ s. dimension_named s c.args.id.0) c.self.view_is) ∙ find-placed-dimension c.args.id.0 items place own told ∙ ap (λ d. Some (live_dimension d)) (sym c.index.ensures) in
    let sum : c.in_ok-remove.field-0 + length (kept c.in_ok-gone.gone before.rows) ≡ length before.rows = ap (λ s. c.in_ok-remove.field-0 + length s.rows) (sym c.in_ok-remove.ensures.state) ∙ c.in_ok-remove.ensures.count in
    ap Some (removed-count test before.rows c.in_ok-gone.gone c.in_ok-remove.field-0 marked sum)
    ∙ sym (ap (option_map (λ (live : LiveDimension g.row.A.Denot g.row.P.Denot). length (filter (passes_under keys_of says c.args.filter.now live) before.rows))) named)

pub returns-clause-ok : goal.returns-clause-ok
returns-clause-ok g c =
    let keys_of = g.A.Accessor.keys_of in
    let says = g.P.Predicate.says_to in
    let under = c.args.filter.now in
    let items = c.self.inside.dimensions.items in
    let rows = c.self.inside.table.rows in
    let place = c.in_ok-place.place in
    let own = c.index.result.now in
    let before = c.args.self.now in
    let told = ap (λ s. dimension_place s c.args.id.0) c.self.view_is ∙ c.in_ok-place.ensures.place in
    let within = (placed-dimension c.args.id.0 items place own told).0 in
    let holds = keys-at keys_of rows items place own c.self.invariant.keys within c.index.ensures in
    let test : List Cell → Bool = passes_under keys_of says under (live_dimension own) in
    let marked : c.in_ok-gone.gone ≡ map test before.rows =
    c.in_ok-gone.ensures
    ∙ c.in_ok-marks.ensures
    ∙ ap (map (keys_pass says under)) holds
    ∙ marks-keys says under (keys_of own.accessor) rows
    ∙ ap (λ s. map test s.rows) c.self.view_is in
    let named : dimension_named before c.args.id.0 ≡ Some (live_dimension own) = sym (ap (λ s. dimension_named s c.args.id.0) c.self.view_is) ∙ find-placed-dimension c.args.id.0 items place own told ∙ ap (λ d. Some (live_dimension d)) (sym c.index.ensures) in
    c.in_ok-remove.ensures.state ∙ kept-without test before c.in_ok-gone.gone marked ∙ sym (ap (without_under keys_of says before c.args.filter.now) named)
