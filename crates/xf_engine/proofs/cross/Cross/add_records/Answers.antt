-- All rows are those that were held and those that came, with their keys and with the values that were folded for all; where memory is refused the keys go again.
use Rattle.std.proofs.Common.{rules, ◌≡◌, ◌⊎◌, ◌+◌, ◌≤◌, Some, None, Err, IfErr, List, ◌++◌, length, map, sum_by, take, drop, refl, sym, ap, subst, ◌∙◌, arith}
use Rattle.std.proofs.lemmas.List.{length-map}
use Rattle.std.proofs.lemmas.Result.{err_from_is_err_and}
use Rattle.std.specs.List.{AllByRecursion}
use Rattle.xf_base.specs.Bounds.{Bounds}
use Rattle.xf_base.specs.declared.cell.Cell.{Cell}
use Rattle.xf_engine.specs.Held.{HoldEach, IsEntryRefusal, held_count, kept_keys, live_dimensions, more_count, state_of, with_keys_of}
use Rattle.xf_engine.specs.Refusals.{add_refusal_of}
use Rattle.xf_engine.specs.declared.add_refusal.AddRefusal.TheVariants.{OutOfMemory}
use Rattle.xf_engine.specs.declared.dimension.Dimension.{Dimension}
use Rattle.xf_engine.proofs.Added.{added-rows, refused-rows}
use Rattle.xf_engine.proofs.HeldCounts.{held-entries, holds-more, more-entries}
use Rattle.xf_engine.proofs.Passes.{hold_each-rows}
use Rattle.xf_engine.proofs.Refolded.{fold-suit, fold-whole_suit, folded-length, given-back, on-err, values-length}
use Rattle.xf_engine.proofs.RowsRefolded.{added-live, added-places, cross-added, regrouped-back, revalued-back, sound-added, taken-back, where-done, where-failed}
use Rattle.xf_group.specs.Admitted.{SuitAll}
use Rattle.xf_table.specs.Append.{refusal_of}
use Rattle.xf_table.specs.Table.{with_rows as table_with_rows}
use Rattle.xf_engine.proofs.cross.Cross.add_records.Goals as goal

pub add_entries-requires-clause-within : goal.add_entries-requires-clause-within
add_entries-requires-clause-within g c =
    let have = held-entries g.A.Accessor.keys_of c.self.inside.table.rows c.self.inside.dimensions.items c.self.invariant.keys in
    let limit : c.behind-self.inside.entries ≡ c.self.inside.table.limits.entries = ap (λ (b : Bounds). b.entries) (c.behind-self.view_is ∙ c.limits.ensures) in
    rw c.deref_mut.ensures.value (omega (arith, have, limit, c.self.invariant.state.few_entries))

pub invariant_of-self : goal.invariant_of-self
invariant_of-self g c =
    let items = c.self.inside.dimensions.items in
    let same = given-back c.self.inside.dimensions.len items c.add_entries.new.dimensions items (search rules) (c.in_err-add_entries.ensures.same_keys ∙ c.deref_mut.ensures.value) refl in
    rw same c.self.invariant

pub returns-in_err-add_entries-clause-refused : goal.returns-in_err-add_entries-clause-refused
returns-in_err-add_entries-clause-refused g c =
    let keys_of = g.A.Accessor.keys_of in
    let inside = c.self.inside in
    let rows = c.args.rows in
    let cause = c.in_err-add_entries.field-0.0 in
    let none : refusal_of inside.table rows ≡ None = sym c.refusal_of.ensures ∙ c.in_default.is in
    let limit : c.behind-self.inside.entries ≡ inside.table.limits.entries = ap (λ (b : Bounds). b.entries) (c.behind-self.view_is ∙ c.limits.ensures) in
    let told : IsEntryRefusal inside.table.limits.entries (sum_by held_count inside.dimensions.items) (more_count keys_of rows inside.dimensions.items) cause =
    subst (λ held. IsEntryRefusal inside.table.limits.entries (sum_by held_count held) (more_count keys_of rows held) cause) c.deref_mut.ensures.value
    (subst (λ most. IsEntryRefusal most (sum_by held_count c.deref_mut.result.now) (more_count keys_of rows c.deref_mut.result.now) cause) limit c.in_err-add_entries.ensures.refused) in
    let returned = err_from_is_err_and c.from_residual.result c.from_residual.ensures.1 in
    subst (λ r. IfErr r (λ e. (e ≡ OutOfMemory) ⊎ (add_refusal_of keys_of c.args.self.now rows ≡ Some e))) (sym (returned.1 ∙ ap (λ e. Err e) returned.2))
    (rw (← c.self.view_is) (refused-rows keys_of inside.table inside.dimensions.items inside.groups.items inside.wholes.items inside.events rows cause c.self.invariant.keys none told))

pub returns-in_err-add_entries-clause-err : goal.returns-in_err-add_entries-clause-err
returns-in_err-add_entries-clause-err g c =
    let items = c.self.inside.dimensions.items in
    let same = given-back c.self.inside.dimensions.len items c.add_entries.new.dimensions items (search rules) (c.in_err-add_entries.ensures.same_keys ∙ c.deref_mut.ensures.value) refl in
    on-err c.from_residual.result _ (rw same c.self.view_is)

pub fold_values-folded-requires-clause-keys : goal.fold_values-folded-requires-clause-keys
fold_values-folded-requires-clause-keys g c =
    let grown : Dimension g.row.A.Denot g.row.P.Denot → Dimension g.row.A.Denot g.row.P.Denot = with_keys_of g.A.Accessor.keys_of c.args.rows in
    let items = c.self.inside.dimensions.items in
    let whole = given-back c.self.inside.dimensions.len items c.add_entries.new.dimensions (map grown items) (search rules) (c.in_ok-add_entries.ensures.keys ∙ ap (map grown) c.deref_mut.ensures.value) (length-map items grown) in
    rw (c.as_slice.ensures.value, whole, c.rows-2.ensures.rows) (holds-more g.A.Accessor.keys_of c.self.inside.table.rows c.args.rows items c.self.invariant.keys)

pub fold_values-folded-requires-clause-live : goal.fold_values-folded-requires-clause-live
fold_values-folded-requires-clause-live g c =
    let grown : Dimension g.row.A.Denot g.row.P.Denot → Dimension g.row.A.Denot g.row.P.Denot = with_keys_of g.A.Accessor.keys_of c.args.rows in
    let items = c.self.inside.dimensions.items in
    let whole = given-back c.self.inside.dimensions.len items c.add_entries.new.dimensions (map grown items) (search rules) (c.in_ok-add_entries.ensures.keys ∙ ap (map grown) c.deref_mut.ensures.value) (length-map items grown) in
    rw (c.as_slice.ensures.value, whole, c.as_slice-2.ensures.value) (added-live c.self.invariant c.args.rows)

pub fold_values-folded-requires-clause-places : goal.fold_values-folded-requires-clause-places
fold_values-folded-requires-clause-places g c =
    let grown : Dimension g.row.A.Denot g.row.P.Denot → Dimension g.row.A.Denot g.row.P.Denot = with_keys_of g.A.Accessor.keys_of c.args.rows in
    let items = c.self.inside.dimensions.items in
    let whole = given-back c.self.inside.dimensions.len items c.add_entries.new.dimensions (map grown items) (search rules) (c.in_ok-add_entries.ensures.keys ∙ ap (map grown) c.deref_mut.ensures.value) (length-map items grown) in
    rw (c.as_slice.ensures.value, whole, c.as_slice-2.ensures.value, c.rows-2.ensures.rows) (added-places c.self.invariant c.args.rows)

pub fold_values-folded-requires-clause-group_suit : goal.fold_values-folded-requires-clause-group_suit
fold_values-folded-requires-clause-group_suit g c =
    let keys_of = g.A.Accessor.keys_of in
    let suits = g.R.Reducer.fits_to in
    let inside = c.self.inside in
    let rows = c.args.rows in
    let none : refusal_of inside.table rows ≡ None = sym c.refusal_of.ensures ∙ c.in_default.is in
    let limit : c.behind-self.inside.entries ≡ inside.table.limits.entries = ap (λ (b : Bounds). b.entries) (c.behind-self.view_is ∙ c.limits.ensures) in
    let room : sum_by held_count inside.dimensions.items + more_count keys_of rows inside.dimensions.items ≤ inside.table.limits.entries =
    subst (λ held. sum_by held_count held + more_count keys_of rows held ≤ inside.table.limits.entries) c.deref_mut.ensures.value (omega (arith, limit, c.in_ok-add_entries.ensures.room)) in
    let sound = sound-added c.self.invariant rows none room in
    subst (λ (all : List (List Cell)). AllByRecursion (λ held. SuitAll (suits held.group.reducer) all) c.as_slice-2.result.now) (ap (λ own. own ++ rows) (sym c.rows-2.ensures.rows))
    (subst (λ groups. AllByRecursion (λ held. SuitAll (suits held.group.reducer) (inside.table.rows ++ rows)) groups) (sym c.as_slice-2.ensures.value)
    (fold-suit suits inside.table.columns (inside.table.rows ++ rows) inside.groups.items sound.of_schema c.self.invariant.state.group_fit))

pub fold_values-folded-requires-clause-whole_suit : goal.fold_values-folded-requires-clause-whole_suit
fold_values-folded-requires-clause-whole_suit g c =
    let keys_of = g.A.Accessor.keys_of in
    let suits = g.R.Reducer.fits_to in
    let inside = c.self.inside in
    let rows = c.args.rows in
    let none : refusal_of inside.table rows ≡ None = sym c.refusal_of.ensures ∙ c.in_default.is in
    let limit : c.behind-self.inside.entries ≡ inside.table.limits.entries = ap (λ (b : Bounds). b.entries) (c.behind-self.view_is ∙ c.limits.ensures) in
    let room : sum_by held_count inside.dimensions.items + more_count keys_of rows inside.dimensions.items ≤ inside.table.limits.entries =
    subst (λ held. sum_by held_count held + more_count keys_of rows held ≤ inside.table.limits.entries) c.deref_mut.ensures.value (omega (arith, limit, c.in_ok-add_entries.ensures.room)) in
    let sound = sound-added c.self.invariant rows none room in
    subst (λ (all : List (List Cell)). AllByRecursion (λ held. SuitAll (suits held.reducer) all) c.as_slice-3.result.now) (ap (λ own. own ++ rows) (sym c.rows-2.ensures.rows))
    (subst (λ wholes. AllByRecursion (λ held. SuitAll (suits held.reducer) (inside.table.rows ++ rows)) wholes) (sym c.as_slice-3.ensures.value)
    (fold-whole_suit suits inside.table.columns (inside.table.rows ++ rows) inside.wholes.items sound.of_schema c.self.invariant.state.whole_fit))

pub fold_values-folded-requires-clause-few : goal.fold_values-folded-requires-clause-few
fold_values-folded-requires-clause-few g c =
    let keys_of = g.A.Accessor.keys_of in
    let inside = c.self.inside in
    let rows = c.args.rows in
    let none : refusal_of inside.table rows ≡ None = sym c.refusal_of.ensures ∙ c.in_default.is in
    let limit : c.behind-self.inside.entries ≡ inside.table.limits.entries = ap (λ (b : Bounds). b.entries) (c.behind-self.view_is ∙ c.limits.ensures) in
    let room : sum_by held_count inside.dimensions.items + more_count keys_of rows inside.dimensions.items ≤ inside.table.limits.entries =
    subst (λ held. sum_by held_count held + more_count keys_of rows held ≤ inside.table.limits.entries) c.deref_mut.ensures.value (omega (arith, limit, c.in_ok-add_entries.ensures.room)) in
    let sound = sound-added c.self.invariant rows none room in
    rw c.rows-2.ensures.rows (omega (arith, sound.few_rows, sound.limits.rows))

pub invariant_of-self-in_default-folded : goal.invariant_of-self-in_default-folded
invariant_of-self-in_default-folded g c =
    let keys_of = g.A.Accessor.keys_of in
    let grown : Dimension g.row.A.Denot g.row.P.Denot → Dimension g.row.A.Denot g.row.P.Denot = with_keys_of keys_of c.args.rows in
    let count = c.len-count.result in
    let len = c.self.inside.dimensions.len in
    let items = c.self.inside.dimensions.items in
    let long : length items ≡ len = search rules in
    let each : HoldEach count items = subst (λ n. HoldEach n items) (sym c.len-count.ensures) (hold_each-rows keys_of c.self.inside.table.rows items c.self.invariant.keys) in
    let whole = given-back len items c.add_entries.new.dimensions (map grown items) long (c.in_ok-add_entries.ensures.keys ∙ ap (map grown) c.deref_mut.ensures.value) (length-map items grown) in
    let as_many = ap length whole ∙ length-map items grown in
    let same = given-back len (take len (c.add_entries.new.dimensions ++ drop (length c.add_entries.new.dimensions) items)) c.keep_keys.new.dimensions items (as_many ∙ long) (c.keep_keys.ensures ∙ ap (map (kept_keys count)) (c.deref_mut-in_default-folded.ensures.value ∙ whole) ∙ taken-back keys_of c.args.rows count items each) (sym as_many) in
    rw same c.self.invariant

pub returns-in_default-folded-clause-err : goal.returns-in_default-folded-clause-err
returns-in_default-folded-clause-err g c =
    let keys_of = g.A.Accessor.keys_of in
    let grown : Dimension g.row.A.Denot g.row.P.Denot → Dimension g.row.A.Denot g.row.P.Denot = with_keys_of keys_of c.args.rows in
    let count = c.len-count.result in
    let len = c.self.inside.dimensions.len in
    let items = c.self.inside.dimensions.items in
    let long : length items ≡ len = search rules in
    let each : HoldEach count items = subst (λ n. HoldEach n items) (sym c.len-count.ensures) (hold_each-rows keys_of c.self.inside.table.rows items c.self.invariant.keys) in
    let whole = given-back len items c.add_entries.new.dimensions (map grown items) long (c.in_ok-add_entries.ensures.keys ∙ ap (map grown) c.deref_mut.ensures.value) (length-map items grown) in
    let as_many = ap length whole ∙ length-map items grown in
    let same = given-back len (take len (c.add_entries.new.dimensions ++ drop (length c.add_entries.new.dimensions) items)) c.keep_keys.new.dimensions items (as_many ∙ long) (c.keep_keys.ensures ∙ ap (map (kept_keys count)) (c.deref_mut-in_default-folded.ensures.value ∙ whole) ∙ taken-back keys_of c.args.rows count items each) (sym as_many) in
    rw same c.self.view_is

pub invariant_of-self-then-is_err : goal.invariant_of-self-then-is_err
invariant_of-self-then-is_err g c =
    let keys_of = g.A.Accessor.keys_of in
    let grown : Dimension g.row.A.Denot g.row.P.Denot → Dimension g.row.A.Denot g.row.P.Denot = with_keys_of keys_of c.args.rows in
    let count = c.len-count.result in
    let len = c.self.inside.dimensions.len in
    let items = c.self.inside.dimensions.items in
    let long : length items ≡ len = search rules in
    let each : HoldEach count items = subst (λ n. HoldEach n items) (sym c.len-count.ensures) (hold_each-rows keys_of c.self.inside.table.rows items c.self.invariant.keys) in
    let whole = given-back len items c.add_entries.new.dimensions (map grown items) long (c.in_ok-add_entries.ensures.keys ∙ ap (map grown) c.deref_mut.ensures.value) (length-map items grown) in
    let as_many = ap length whole ∙ length-map items grown in
    let same = given-back len (take len (c.add_entries.new.dimensions ++ drop (length c.add_entries.new.dimensions) items)) c.keep_keys-then-is_err.new.dimensions items (as_many ∙ long) (c.keep_keys-then-is_err.ensures ∙ ap (map (kept_keys count)) (c.deref_mut-then-is_err.ensures.value ∙ whole) ∙ taken-back keys_of c.args.rows count items each) (sym as_many) in
    let table : c.push.new.self ≡ c.self.inside.table = where-failed c.push.result (c.push.new.self ≡ c.self.inside.table) c.push.ensures.err (sym c.is_err.ensures.value ∙ c.if-is_err.true) in
    rw (table, same) c.self.invariant

pub returns-then-is_err-clause-err : goal.returns-then-is_err-clause-err
returns-then-is_err-clause-err g c =
    let keys_of = g.A.Accessor.keys_of in
    let grown : Dimension g.row.A.Denot g.row.P.Denot → Dimension g.row.A.Denot g.row.P.Denot = with_keys_of keys_of c.args.rows in
    let count = c.len-count.result in
    let len = c.self.inside.dimensions.len in
    let items = c.self.inside.dimensions.items in
    let long : length items ≡ len = search rules in
    let each : HoldEach count items = subst (λ n. HoldEach n items) (sym c.len-count.ensures) (hold_each-rows keys_of c.self.inside.table.rows items c.self.invariant.keys) in
    let whole = given-back len items c.add_entries.new.dimensions (map grown items) long (c.in_ok-add_entries.ensures.keys ∙ ap (map grown) c.deref_mut.ensures.value) (length-map items grown) in
    let as_many = ap length whole ∙ length-map items grown in
    let same = given-back len (take len (c.add_entries.new.dimensions ++ drop (length c.add_entries.new.dimensions) items)) c.keep_keys-then-is_err.new.dimensions items (as_many ∙ long) (c.keep_keys-then-is_err.ensures ∙ ap (map (kept_keys count)) (c.deref_mut-then-is_err.ensures.value ∙ whole) ∙ taken-back keys_of c.args.rows count items each) (sym as_many) in
    let table : c.push.new.self ≡ c.self.inside.table = where-failed c.push.result (c.push.new.self ≡ c.self.inside.table) c.push.ensures.err (sym c.is_err.ensures.value ∙ c.if-is_err.true) in
    rw (table, same) c.self.view_is

pub put_values-requires-clause-groups : goal.put_values-requires-clause-groups
put_values-requires-clause-groups g c =
    let lives = live_dimensions c.as_slice.result.now in
    let all = c.rows-2.result.now ++ c.args.rows in
    rw c.deref_mut-2.ensures.value (
    folded-length g.A.Accessor.keys_of g.P.Predicate.says_to g.G.Rounding.rounded g.R.Reducer.meaning_of g.R.Reducer.folding lives all c.as_slice-2.result.now c.in-Ok.folded.groups.items c.in-Ok.ensures.groups
    ∙ ap length c.as_slice-2.ensures.value
    )

pub put_values-requires-clause-wholes : goal.put_values-requires-clause-wholes
put_values-requires-clause-wholes g c =
    let lives = live_dimensions c.as_slice.result.now in
    let all = c.rows-2.result.now ++ c.args.rows in
    rw c.deref_mut-3.ensures.value (
    values-length g.A.Accessor.keys_of g.P.Predicate.says_to g.R.Reducer.meaning_of g.R.Reducer.folding lives all c.as_slice-3.result.now c.in-Ok.folded.wholes.items c.in-Ok.ensures.wholes
    ∙ ap length c.as_slice-3.ensures.value
    )

pub invariant_of-self-2 : goal.invariant_of-self-2
invariant_of-self-2 g c =
    let keys_of = g.A.Accessor.keys_of in
    let grown : Dimension g.row.A.Denot g.row.P.Denot → Dimension g.row.A.Denot g.row.P.Denot = with_keys_of keys_of c.args.rows in
    let inside = c.self.inside in
    let rows = c.args.rows in
    let items = inside.dimensions.items in
    let folded = c.in-Ok.folded in
    let none : refusal_of inside.table rows ≡ None = sym c.refusal_of.ensures ∙ c.in_default.is in
    let limit : c.behind-self.inside.entries ≡ inside.table.limits.entries = ap (λ (b : Bounds). b.entries) (c.behind-self.view_is ∙ c.limits.ensures) in
    let room : sum_by held_count items + more_count keys_of rows items ≤ inside.table.limits.entries =
    subst (λ held. sum_by held_count held + more_count keys_of rows held ≤ inside.table.limits.entries) c.deref_mut.ensures.value (omega (arith, limit, c.in_ok-add_entries.ensures.room)) in
    let whole = given-back inside.dimensions.len items c.add_entries.new.dimensions (map grown items) (search rules) (c.in_ok-add_entries.ensures.keys ∙ ap (map grown) c.deref_mut.ensures.value) (length-map items grown) in
    let groups = regrouped-back inside.groups.len inside.groups.items c.put_values.new.groups c.deref_mut-2.result.now folded.groups.items (search rules) c.put_values.ensures.groups c.deref_mut-2.ensures.value in
    let wholes = revalued-back inside.wholes.len inside.wholes.items c.put_values.new.wholes c.deref_mut-3.result.now folded.wholes.items (search rules) c.put_values.ensures.wholes c.deref_mut-3.ensures.value in
    let table : c.push.new.self ≡ table_with_rows inside.table rows = where-done c.push.result (c.push.new.self ≡ table_with_rows inside.table rows) c.push.ensures.ok (sym c.is_err.ensures.value ∙ c.if-is_err.false) in
    rw (table, whole, groups, wholes, c.one_more-self-inside.ensures)
    (cross-added c.self.invariant rows (c.rows-2.result.now ++ rows) c.as_slice.result.now c.as_slice-2.result.now c.as_slice-3.result.now folded.groups.items folded.wholes.items none room
    (ap (λ own. own ++ rows) c.rows-2.ensures.rows) (c.as_slice.ensures.value ∙ whole) c.as_slice-2.ensures.value c.as_slice-3.ensures.value c.in-Ok.ensures.groups c.in-Ok.ensures.wholes).0

pub returns-clause-ok : goal.returns-clause-ok
returns-clause-ok g c =
    let keys_of = g.A.Accessor.keys_of in
    let grown : Dimension g.row.A.Denot g.row.P.Denot → Dimension g.row.A.Denot g.row.P.Denot = with_keys_of keys_of c.args.rows in
    let inside = c.self.inside in
    let rows = c.args.rows in
    let items = inside.dimensions.items in
    let folded = c.in-Ok.folded in
    let none : refusal_of inside.table rows ≡ None = sym c.refusal_of.ensures ∙ c.in_default.is in
    let limit : c.behind-self.inside.entries ≡ inside.table.limits.entries = ap (λ (b : Bounds). b.entries) (c.behind-self.view_is ∙ c.limits.ensures) in
    let room : sum_by held_count items + more_count keys_of rows items ≤ inside.table.limits.entries =
    subst (λ held. sum_by held_count held + more_count keys_of rows held ≤ inside.table.limits.entries) c.deref_mut.ensures.value (omega (arith, limit, c.in_ok-add_entries.ensures.room)) in
    let whole = given-back inside.dimensions.len items c.add_entries.new.dimensions (map grown items) (search rules) (c.in_ok-add_entries.ensures.keys ∙ ap (map grown) c.deref_mut.ensures.value) (length-map items grown) in
    let groups = regrouped-back inside.groups.len inside.groups.items c.put_values.new.groups c.deref_mut-2.result.now folded.groups.items (search rules) c.put_values.ensures.groups c.deref_mut-2.ensures.value in
    let wholes = revalued-back inside.wholes.len inside.wholes.items c.put_values.new.wholes c.deref_mut-3.result.now folded.wholes.items (search rules) c.put_values.ensures.wholes c.deref_mut-3.ensures.value in
    let table : c.push.new.self ≡ table_with_rows inside.table rows = where-done c.push.result (c.push.new.self ≡ table_with_rows inside.table rows) c.push.ensures.ok (sym c.is_err.ensures.value ∙ c.if-is_err.false) in
    rw (table, whole, groups, wholes, c.one_more-self-inside.ensures, ← c.self.view_is)
    (cross-added c.self.invariant rows (c.rows-2.result.now ++ rows) c.as_slice.result.now c.as_slice-2.result.now c.as_slice-3.result.now folded.groups.items folded.wholes.items none room
    (ap (λ own. own ++ rows) c.rows-2.ensures.rows) (c.as_slice.ensures.value ∙ whole) c.as_slice-2.ensures.value c.as_slice-3.ensures.value c.in-Ok.ensures.groups c.in-Ok.ensures.wholes).1

pub returns-clause-accepted : goal.returns-clause-accepted
returns-clause-accepted g c =
    let keys_of = g.A.Accessor.keys_of in
    let inside = c.self.inside in
    let rows = c.args.rows in
    let items = inside.dimensions.items in
    let none : refusal_of inside.table rows ≡ None = sym c.refusal_of.ensures ∙ c.in_default.is in
    let limit : c.behind-self.inside.entries ≡ inside.table.limits.entries = ap (λ (b : Bounds). b.entries) (c.behind-self.view_is ∙ c.limits.ensures) in
    let room : sum_by held_count items + more_count keys_of rows items ≤ inside.table.limits.entries =
    subst (λ held. sum_by held_count held + more_count keys_of rows held ≤ inside.table.limits.entries) c.deref_mut.ensures.value (omega (arith, limit, c.in_ok-add_entries.ensures.room)) in
    let have = held-entries keys_of inside.table.rows items c.self.invariant.keys in
    let more = more-entries keys_of rows items in
    rw (← c.self.view_is) (added-rows keys_of (state_of inside.table items inside.groups.items inside.wholes.items inside.events) rows none (omega (arith, have, more, room)))
