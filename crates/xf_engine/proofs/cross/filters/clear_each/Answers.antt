use Rattle.std.proofs.Common.{rules, ◌+◌, get_or, refl, sym, ap, ◌∙◌, arith}
use Rattle.xf_engine.specs.Held.{held_moved, held_unfiltered, most_moved}
use Rattle.xf_filter.specs.declared.filter.Filter.TheVariants.{All}
use Rattle.xf_engine.proofs.Cleared.{sum-swept}
use Rattle.xf_engine.proofs.HeldCounts.{sum-part}
use Rattle.xf_engine.proofs.MovedKeys.{sum_below}
use Rattle.xf_engine.proofs.Swept.{swept_all, swept_at, swept_none, swept_step}
use Rattle.xf_engine.proofs.cross.filters.clear_each.Goals as goal

pub loop-place-init : goal.loop-place-init
loop-place-init g c = record { cleared = sym (swept_none held_unfiltered c.args.dimensions.now); moved = refl; few = omega arith }

pub refilter-moved-requires : goal.refilter-moved-requires
refilter-moved-requires g c =
    let d = c.index-dimensions-place.result in
    let at = ap (λ held. most_moved (get_or held c.loop-place.place d)) c.loop-place.invariant.cleared ∙ ap most_moved (swept_at held_unfiltered c.loop-place.place c.args.dimensions.now d) in
    record { few = omega (arith, at, sum-part most_moved c.args.dimensions.now c.loop-place.place d c.loop-place-test.true, c.requires) }

pub overflow_add-moved : goal.overflow_add-moved
overflow_add-moved g c =
    let d = c.index-dimensions-place.result in
    let next = sum-swept held_unfiltered most_moved c.loop-place.place c.args.dimensions.now c.loop-place.dimensions d c.loop-place.invariant.cleared c.loop-place-test.true in
    omega (arith, next, sum_below most_moved c.args.dimensions.now (c.loop-place.place + 1), c.loop-place.invariant.few, c.refilter-moved.ensures.few, c.requires)

pub loop-place-preserved : goal.loop-place-preserved
loop-place-preserved g c =
    let d = c.index-dimensions-place.result in
    let moved = sum-swept held_unfiltered (held_moved g.P.Predicate.says_to All) c.loop-place.place c.args.dimensions.now c.loop-place.dimensions d c.loop-place.invariant.cleared c.loop-place-test.true in
    let most = sum-swept held_unfiltered most_moved c.loop-place.place c.args.dimensions.now c.loop-place.dimensions d c.loop-place.invariant.cleared c.loop-place-test.true in
    record {
      cleared = swept_step held_unfiltered c.loop-place.place _ c.args.dimensions.now c.loop-place.dimensions _ d c.loop-place.invariant.cleared c.loop-place-test.true refl c.refilter-moved.ensures.filter;
      moved = omega (arith, moved, c.loop-place.invariant.moved, c.refilter-moved.ensures.moved);
      few = omega (arith, most, c.loop-place.invariant.few, c.refilter-moved.ensures.few);
    }

pub returns-clause-cleared : goal.returns-clause-cleared
returns-clause-cleared g c = c.loop-place.invariant.cleared ∙ swept_all held_unfiltered c.loop-place.place c.args.dimensions.now (search rules)
