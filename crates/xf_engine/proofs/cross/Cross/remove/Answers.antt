-- What is left are the rows that are not gone, with their keys and with the values that were folded for them.
use Rattle.std.proofs.Common.{rules, ◌≡◌, length, map, sym, ap, subst, ◌∙◌, arith}
use Rattle.std.proofs.lemmas.List.{length-map}
use Rattle.xf_engine.specs.Held.{HoldEach, live_dimensions, retained_keys, state_of}
use Rattle.xf_engine.specs.State.{State}
use Rattle.xf_engine.proofs.Passes.{hold_each-rows}
use Rattle.xf_engine.proofs.Refolded.{fold-live, fold-places, fold-suit, fold-whole_suit, folded-length, given-back, values-length}
use Rattle.xf_engine.proofs.Removed.{kept-fewer}
use Rattle.xf_engine.proofs.RowsRefolded.{cross-retained, regrouped-back, revalued-back}
use Rattle.xf_base.specs.Gone.{kept}
use Rattle.xf_table.specs.Table.{Contents}
use Rattle.xf_engine.proofs.cross.Cross.remove.Goals as goal

pub refold_values-requires-clause-live : goal.refold_values-requires-clause-live
refold_values-requires-clause-live g c = rw (c.as_slice.ensures.value, c.as_slice-2.ensures.value) (fold-live c.self.inside.dimensions.items c.self.inside.groups.items c.self.invariant.state.live)

pub refold_values-requires-clause-places : goal.refold_values-requires-clause-places
refold_values-requires-clause-places g c =
    rw (c.as_slice.ensures.value, c.as_slice-2.ensures.value)
    (fold-places g.A.Accessor.keys_of g.P.Predicate.says_to g.G.Rounding.rounded g.R.Reducer.meaning_of g.R.Reducer.folding (state_of c.self.inside.table c.self.inside.dimensions.items c.self.inside.groups.items c.self.inside.wholes.items c.self.inside.events) c.self.inside.groups.items c.self.invariant.entries)

pub refold_values-requires-clause-group_suit : goal.refold_values-requires-clause-group_suit
refold_values-requires-clause-group_suit g c =
    rw c.as_slice-2.ensures.value (fold-suit g.R.Reducer.fits_to c.self.inside.table.columns c.self.inside.table.rows c.self.inside.groups.items c.self.invariant.state.of_schema c.self.invariant.state.group_fit)

pub refold_values-requires-clause-whole_suit : goal.refold_values-requires-clause-whole_suit
refold_values-requires-clause-whole_suit g c =
    rw c.as_slice-3.ensures.value (fold-whole_suit g.R.Reducer.fits_to c.self.inside.table.columns c.self.inside.table.rows c.self.inside.wholes.items c.self.invariant.state.of_schema c.self.invariant.state.whole_fit)

pub retain_keys-requires : goal.retain_keys-requires
retain_keys-requires g c =
    let items = c.self.inside.dimensions.items in
    let marks : length c.self.inside.table.rows ≡ length c.args.gone.now = ap (λ (s : State _ _ _ _). length s.rows) c.self.view_is ∙ sym c.requires in
    rw c.deref_mut.ensures.value (subst (λ count. HoldEach count items) marks (hold_each-rows g.A.Accessor.keys_of c.self.inside.table.rows items c.self.invariant.keys))

pub put_values-requires-clause-groups : goal.put_values-requires-clause-groups
put_values-requires-clause-groups g c =
    let lives = live_dimensions c.as_slice.result.now in
    let rows = kept c.args.gone.now c.self.inside.table.rows in
    rw c.deref_mut-2.ensures.value (
    folded-length g.A.Accessor.keys_of g.P.Predicate.says_to g.G.Rounding.rounded g.R.Reducer.meaning_of g.R.Reducer.folding lives rows c.as_slice-2.result.now c.in_ok-folded.folded.groups.items c.in_ok-folded.ensures.groups
    ∙ ap length c.as_slice-2.ensures.value
    )

pub put_values-requires-clause-wholes : goal.put_values-requires-clause-wholes
put_values-requires-clause-wholes g c =
    let lives = live_dimensions c.as_slice.result.now in
    let rows = kept c.args.gone.now c.self.inside.table.rows in
    rw c.deref_mut-3.ensures.value (
    values-length g.A.Accessor.keys_of g.P.Predicate.says_to g.R.Reducer.meaning_of g.R.Reducer.folding lives rows c.as_slice-3.result.now c.in_ok-folded.folded.wholes.items c.in_ok-folded.ensures.wholes
    ∙ ap length c.as_slice-3.ensures.value
    )

pub overflow_sub-result : goal.overflow_sub-result
overflow_sub-result g c =
    omega (arith, c.len.ensures, ap (λ (table : Contents). length table.rows) c.retain.ensures, c.len-before.ensures, kept-fewer c.args.gone.now c.self.inside.table.rows)

pub invariant_of-self : goal.invariant_of-self
invariant_of-self g c =
    let gone = c.args.gone.now in
    let inside = c.self.inside in
    let items = inside.dimensions.items in
    let folded = c.in_ok-folded.folded in
    let dimensions = given-back inside.dimensions.len items c.retain_keys.new.dimensions (map (retained_keys gone) items) (search rules) (c.retain_keys.ensures ∙ ap (map (retained_keys gone)) c.deref_mut.ensures.value) (length-map items (retained_keys gone)) in
    let groups = regrouped-back inside.groups.len inside.groups.items c.put_values.new.groups c.deref_mut-2.result.now folded.groups.items (search rules) c.put_values.ensures.groups c.deref_mut-2.ensures.value in
    let wholes = revalued-back inside.wholes.len inside.wholes.items c.put_values.new.wholes c.deref_mut-3.result.now folded.wholes.items (search rules) c.put_values.ensures.wholes c.deref_mut-3.ensures.value in
    rw (c.retain.ensures, dimensions, groups, wholes, c.one_more-self-inside.ensures)
    (cross-retained c.self.invariant gone c.as_slice.result.now c.as_slice-2.result.now c.as_slice-3.result.now folded.groups.items folded.wholes.items c.as_slice.ensures.value c.as_slice-2.ensures.value c.as_slice-3.ensures.value c.in_ok-folded.ensures.groups c.in_ok-folded.ensures.wholes).0

pub returns-clause-count : goal.returns-clause-count
returns-clause-count g c =
    rw (← c.self.view_is) (omega (arith, c.len.ensures, ap (λ (table : Contents). length table.rows) c.retain.ensures, c.len-before.ensures, kept-fewer c.args.gone.now c.self.inside.table.rows))

pub returns-clause-state : goal.returns-clause-state
returns-clause-state g c =
    let gone = c.args.gone.now in
    let inside = c.self.inside in
    let items = inside.dimensions.items in
    let folded = c.in_ok-folded.folded in
    let dimensions = given-back inside.dimensions.len items c.retain_keys.new.dimensions (map (retained_keys gone) items) (search rules) (c.retain_keys.ensures ∙ ap (map (retained_keys gone)) c.deref_mut.ensures.value) (length-map items (retained_keys gone)) in
    let groups = regrouped-back inside.groups.len inside.groups.items c.put_values.new.groups c.deref_mut-2.result.now folded.groups.items (search rules) c.put_values.ensures.groups c.deref_mut-2.ensures.value in
    let wholes = revalued-back inside.wholes.len inside.wholes.items c.put_values.new.wholes c.deref_mut-3.result.now folded.wholes.items (search rules) c.put_values.ensures.wholes c.deref_mut-3.ensures.value in
    rw (c.retain.ensures, dimensions, groups, wholes, c.one_more-self-inside.ensures, ← c.self.view_is)
    (cross-retained c.self.invariant gone c.as_slice.result.now c.as_slice-2.result.now c.as_slice-3.result.now folded.groups.items folded.wholes.items c.as_slice.ensures.value c.as_slice-2.ensures.value c.as_slice-3.ensures.value c.in_ok-folded.ensures.groups c.in_ok-folded.ensures.wholes).1
