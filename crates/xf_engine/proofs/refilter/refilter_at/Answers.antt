-- The values are folded under the new filter, and where that fails the old one is put back.
use Rattle.std.proofs.Common.{◌≡◌, true, set, get_or, Some, option_map, sym, ap, subst, ◌∙◌, arith}
use Rattle.std.proofs.lemmas.Option.{slice_get-get_or}
use Rattle.std.specs.List.{AllByRecursion}
use Rattle.xf_engine.specs.Held.{held_moved, live_dimensions, most_moved}
use Rattle.xf_engine.specs.Refolded.{filtered_at}
use Rattle.xf_engine.specs.State.{is_taken}
use Rattle.xf_engine.specs.declared.grouping.Grouping.{Grouping}
use Rattle.xf_group.specs.Group.{Grouped}
use Rattle.xf_engine.proofs.HeldCounts.{sum-part}
use Rattle.xf_engine.proofs.HeldStates.{held-restored}
use Rattle.xf_engine.proofs.Refolded.{filtered-set, folded-length, keys-stay, moved-at, set-ids, set-places, values-length}
use Rattle.xf_engine.proofs.refilter.refilter_at.Goals as goal

pub refold_values-folded-requires-clause-live : goal.refold_values-folded-requires-clause-live
refold_values-folded-requires-clause-live g c =
    subst (λ ids. AllByRecursion {X = Grouping g.row.G.Denot (Grouped g.row.R.Denot g.row.R-Value.Denot)} (λ held. is_taken ids held.dimension.0 ≡ true) c.args.groups.now)
    (sym (set-ids c.args.dimensions.now c.args.place c.index-dimensions-place.result c.replace-old.new.dest)) c.requires.live

pub refold_values-folded-requires-clause-places : goal.refold_values-folded-requires-clause-places
refold_values-folded-requires-clause-places g c =
    set-places g.A.Accessor.keys_of g.G.Rounding.rounded c.args.table.now.rows c.args.dimensions.now c.args.place c.index-dimensions-place.result c.replace-old.new.dest c.args.groups.now c.requires.places

pub returns-in_default-clause-same_filters : goal.returns-in_default-clause-same_filters
returns-in_default-clause-same_filters g c =
    rw c.replace-old.ensures.value (held-restored c.args.dimensions.now c.args.place c.index-dimensions-place.result c.index-dimensions-place-in_default.result c.replace-old.new.dest c.requires.place)

pub moved_count-moved-requires : goal.moved_count-moved-requires
moved_count-moved-requires g c =
    let e = c.index-dimensions-place-2.result in
    let same = keys-stay c.args.dimensions.now c.args.place c.index-dimensions-place.result e c.replace-old.new.dest in
    record { few = rw same (omega (arith, sum-part most_moved c.args.dimensions.now c.args.place e c.requires.place, c.requires.few)) }

pub put_values-requires-clause-groups : goal.put_values-requires-clause-groups
put_values-requires-clause-groups g c =
    folded-length g.A.Accessor.keys_of g.P.Predicate.says_to g.G.Rounding.rounded g.R.Reducer.meaning_of g.R.Reducer.folding _ c.args.table.now.rows c.args.groups.now c.in-Ok.folded.groups.items c.in-Ok.ensures.groups

pub put_values-requires-clause-wholes : goal.put_values-requires-clause-wholes
put_values-requires-clause-wholes g c =
    let held = c.args.dimensions.now in
    let now = set held c.args.place (record (get_or held c.args.place c.index-dimensions-place.result) { filter = c.replace-old.new.dest }) in
    values-length g.A.Accessor.keys_of g.P.Predicate.says_to g.R.Reducer.meaning_of g.R.Reducer.folding (live_dimensions now) c.args.table.now.rows c.args.wholes.now c.in-Ok.folded.wholes.items c.in-Ok.ensures.wholes

pub returns-clause-moved : goal.returns-clause-moved
returns-clause-moved g c =
    let says = g.P.Predicate.says_to in
    let held = c.args.dimensions.now in
    let d = c.index-dimensions-place.result in
    ap (option_map (held_moved says c.args.filter)) (slice_get-get_or held c.args.place d c.requires.place)
    ∙ ap Some (sym (c.moved_count-moved.ensures.moved ∙ moved-at says held c.args.place d c.index-dimensions-place-2.result c.replace-old.result c.args.filter c.replace-old.new.dest c.requires.place c.replace-old.ensures.value c.replace-old.ensures.after))

pub returns-clause-filter : goal.returns-clause-filter
returns-clause-filter g c =
    filtered-set c.args.dimensions.now c.args.place c.index-dimensions-place.result c.replace-old.new.dest c.requires.place
    ∙ ap (λ new. filtered_at c.args.place new c.args.dimensions.now) c.replace-old.ensures.after
