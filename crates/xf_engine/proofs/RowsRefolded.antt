-- Rows that come or go, with all groups and wholes folded anew: what is kept then is the state after it.
use Rattle.std.proofs.Common.{◌≡◌, ℕ, suc, ◌+◌, ◌≤◌, Bool, true, false, List, [], ◌∷◌, ◌++◌, None, Result, Ok, Err, IfOk, OnErr, OnOk, is_err, length, map, take, drop, refl, sym, ap, subst, ◌∙◌, arith}
use Rattle.std.specs.List.{AllByRecursion, filter, sum_by}
use Rattle.xf_base.specs.Gone.{kept}
use Rattle.xf_base.specs.declared.cell.Cell.{Cell}
use Rattle.xf_base.specs.declared.column.Column.{Column}
use Rattle.xf_base.specs.declared.key.Key.{Key}
use Rattle.xf_base.specs.declared.kind.KeyKind.{KeyKind}
use Rattle.xf_engine.specs.Changes.{once_added, once_removed, with_rows}
use Rattle.xf_engine.specs.Folding.{AreFoldedFor, AreValuesFor, regrouped, revalued}
use Rattle.xf_engine.specs.Held.{HoldEach, HoldsPlacesOf, IsCross, held_count, held_ids, kept_keys, live_dimensions, live_groups, more_count, retained_keys, state_of, with_kept, with_keys_of}
use Rattle.xf_engine.specs.State.{IsState, LiveDimension, State, dimension_ids, is_taken}
use Rattle.xf_engine.specs.declared.dimension.Dimension.{Dimension}
use Rattle.xf_engine.specs.declared.events.Events.{Events}
use Rattle.xf_engine.specs.declared.grouping.Grouping.{Grouping}
use Rattle.xf_engine.specs.declared.whole.Whole.{Whole}
use Rattle.xf_engine.proofs.Added.{taken-few}
use Rattle.xf_engine.proofs.HeldCounts.{held-entries, holds-more, more-entries}
use Rattle.xf_engine.proofs.HeldStates.{folded-reducers, held-regrouped, held-with_rows, keys-unseen}
use Rattle.xf_engine.proofs.Kept.{kept-takes_back}
use Rattle.xf_engine.proofs.Refolded.{cross-refolded, fold-live, fold-places, given-back}
use Rattle.xf_engine.proofs.Removed.{held-with_kept, holds-kept, removed-count, retained-live, sound-with_kept}
use Rattle.xf_engine.proofs.Sound.{sound-with_rows}
use Rattle.xf_group.specs.Group.{Grouped}
use Rattle.xf_model.specs.Group.{Reducer}
use Rattle.xf_table.specs.Append.{refusal_of}
use Rattle.xf_table.specs.Table.{Contents, kept_rows}
use Rattle.xf_table.specs.Table.{with_rows as table_with_rows}

-- ---- values that were put in place in lists that were lent

regrouped-length : {G T : Type 0} (groups : List (Grouping G T)) (values : List T) → length (regrouped groups values) ≡ length groups
regrouped-length [] values = refl
regrouped-length (group ∷ groups) [] = refl
regrouped-length (group ∷ groups) (value ∷ values) = ap (λ n. suc n) (regrouped-length groups values)

revalued-length : {R V : Type 0} (wholes : List (Whole R V)) (values : List V) → length (revalued wholes values) ≡ length wholes
revalued-length [] values = refl
revalued-length (whole ∷ wholes) [] = refl
revalued-length (whole ∷ wholes) (value ∷ values) = ap (λ n. suc n) (revalued-length wholes values)

pub regrouped-back : {G T : Type 0} (n : ℕ) (groups back lent : List (Grouping G T)) (values : List T) → length groups ≡ n → back ≡ regrouped lent values → lent ≡ groups → take n (back ++ drop (length back) groups) ≡ regrouped groups values
regrouped-back n groups back lent values long put same = given-back n groups back (regrouped groups values) long (put ∙ ap (λ gs. regrouped gs values) same) (regrouped-length groups values)

pub revalued-back : {R V : Type 0} (n : ℕ) (wholes back lent : List (Whole R V)) (values : List V) → length wholes ≡ n → back ≡ revalued lent values → lent ≡ wholes → take n (back ++ drop (length back) wholes) ≡ revalued wholes values
revalued-back n wholes back lent values long put same = given-back n wholes back (revalued wholes values) long (put ∙ ap (λ ws. revalued ws values) same) (revalued-length wholes values)

-- ---- rows that go

-- what is kept without them, with the values that were folded for those that stay, is kept of the state without them
pub cross-retained : {A G P R V M : Type 0} {keys_of : A → List Cell → List Key} {fits_to : A → List Column → Bool} {kind_of : A → KeyKind} {says : P → Key → Bool} {keys_in : P → List Key} {rounded : G → Key → Key} {suits : R → List Column → Bool} {fields : R → ℕ} {meaning_of : V → M} {folding : R → Reducer (List Cell) M} {table : Contents} {held : List (Dimension A P)} {groups : List (Grouping G (Grouped R V))} {wholes : List (Whole R V)} {events : Events}
    → IsCross keys_of fits_to kind_of says keys_in rounded suits fields meaning_of folding table held groups wholes events
    → (gone : List Bool) (dimensions_then : List (Dimension A P)) (groups_then : List (Grouping G (Grouped R V))) (wholes_then : List (Whole R V)) (folded : List (Grouped R V)) (values : List V)
    → dimensions_then ≡ held → groups_then ≡ groups → wholes_then ≡ wholes
    → AreFoldedFor keys_of says rounded meaning_of folding (live_dimensions dimensions_then) (kept gone table.rows) groups_then folded
    → AreValuesFor keys_of says meaning_of folding (live_dimensions dimensions_then) (kept gone table.rows) wholes_then values
    → IsCross keys_of fits_to kind_of says keys_in rounded suits fields meaning_of folding (kept_rows gone table) (map (retained_keys gone) held) (regrouped groups folded) (revalued wholes values) (once_removed events)
    × (state_of (kept_rows gone table) (map (retained_keys gone) held) (regrouped groups folded) (revalued wholes values) (once_removed events) ≡ with_kept gone (state_of table held groups wholes events))
cross-retained {A = A} {G = G} {P = P} {R = R} {V = V} {keys_of = keys_of} {fits_to = fits_to} {kind_of = kind_of} {says = says} {keys_in = keys_in} {rounded = rounded} {suits = suits} {fields = fields} {meaning_of = meaning_of} {folding = folding} {table = table} {held = held} {groups = groups} {wholes = wholes} {events = events} is gone dimensions_then groups_then wholes_then folded values same_dimensions same_groups same_wholes are_folded are_values =
    let left : List (Dimension A P) = map (retained_keys gone) held in
    let lives : List (LiveDimension A P) = live_dimensions held in
    let rows : List (List Cell) = kept gone table.rows in
    let for_groups : AreFoldedFor keys_of says rounded meaning_of folding lives rows groups folded =
    subst (λ gs. AreFoldedFor keys_of says rounded meaning_of folding lives rows gs folded) same_groups
    (subst (λ ds. AreFoldedFor keys_of says rounded meaning_of folding (live_dimensions ds) rows groups_then folded) same_dimensions are_folded) in
    let for_wholes : AreValuesFor keys_of says meaning_of folding lives rows wholes values =
    subst (λ ws. AreValuesFor keys_of says meaning_of folding lives rows ws values) same_wholes
    (subst (λ ds. AreValuesFor keys_of says meaning_of folding (live_dimensions ds) rows wholes_then values) same_dimensions are_values) in
    let without = held-with_kept table held groups wholes events gone in
    let sound : IsState keys_of fits_to kind_of keys_in suits fields (state_of (kept_rows gone table) left groups wholes (once_removed events)) =
    subst (IsState keys_of fits_to kind_of keys_in suits fields) (sym without) (sound-with_kept keys_of fits_to kind_of keys_in suits fields (state_of table held groups wholes events) gone is.state) in (
      cross-refolded keys_of fits_to kind_of says keys_in rounded suits fields meaning_of folding lives rows (kept_rows gone table) left groups (regrouped groups folded) wholes (revalued wholes values) (once_removed events)
          sound (holds-kept keys_of table.rows held gone is.keys) (retained-live gone held) refl
          (record { values = folded; folded = for_groups; placed = refl }) (record { values = values; folded = for_wholes; placed = refl }),
      held-regrouped (kept_rows gone table) left groups wholes (once_removed events) folded values (folded-reducers keys_of says rounded meaning_of folding lives rows groups folded for_groups) ∙ without,
    )

-- where that was done, so many are gone as pass the test
pub counted-removed : {A G P R E : Type 0} (result : Result ℕ E) (test : List Cell → Bool) (before after : State A G P R) (gone : List Bool) → gone ≡ map test before.rows → IfOk result (λ count. count + length after.rows ≡ length before.rows) → OnOk result (after ≡ with_kept gone before) → IfOk result (λ count. count ≡ length (filter test before.rows))
counted-removed (Ok count) test before after gone marked told state =
    removed-count test before.rows gone count marked (ap (λ (s : State _ _ _ _). count + length s.rows) (sym state) ∙ told)
counted-removed (Err error) test before after gone marked told state = tt

pub removed-state : {X E S : Type 0} {there other : S} (result : Result X E) (after : S) → OnOk result (after ≡ there) → there ≡ other → OnOk result (after ≡ other)
removed-state (Ok count) after state same = state ∙ same
removed-state (Err error) after state same = tt

-- ---- rows that come

-- the state with them is sound where the table takes them and their entries are within the limit
pub sound-added : {A G P R V M : Type 0} {keys_of : A → List Cell → List Key} {fits_to : A → List Column → Bool} {kind_of : A → KeyKind} {says : P → Key → Bool} {keys_in : P → List Key} {rounded : G → Key → Key} {suits : R → List Column → Bool} {fields : R → ℕ} {meaning_of : V → M} {folding : R → Reducer (List Cell) M} {table : Contents} {held : List (Dimension A P)} {groups : List (Grouping G (Grouped R V))} {wholes : List (Whole R V)} {events : Events}
    → IsCross keys_of fits_to kind_of says keys_in rounded suits fields meaning_of folding table held groups wholes events
    → (rows : List (List Cell)) → refusal_of table rows ≡ None → sum_by held_count held + more_count keys_of rows held ≤ table.limits.entries
    → IsState keys_of fits_to kind_of keys_in suits fields (with_rows (state_of table held groups wholes events) rows)
sound-added {keys_of = keys_of} {fits_to = fits_to} {kind_of = kind_of} {keys_in = keys_in} {suits = suits} {fields = fields} {table = table} {held = held} {groups = groups} {wholes = wholes} {events = events} is rows none room =
    let few = taken-few table rows none in
    let have = held-entries keys_of table.rows held is.keys in
    let more = more-entries keys_of rows held in
    sound-with_rows keys_of fits_to kind_of keys_in suits fields (state_of table held groups wholes events) rows is.state few.1 few.0 (omega (arith, have, more, room))

-- what is asked of a fold over all rows
pub added-live : {A G P R V M : Type 0} {keys_of : A → List Cell → List Key} {fits_to : A → List Column → Bool} {kind_of : A → KeyKind} {says : P → Key → Bool} {keys_in : P → List Key} {rounded : G → Key → Key} {suits : R → List Column → Bool} {fields : R → ℕ} {meaning_of : V → M} {folding : R → Reducer (List Cell) M} {table : Contents} {held : List (Dimension A P)} {groups : List (Grouping G (Grouped R V))} {wholes : List (Whole R V)} {events : Events}
    → IsCross keys_of fits_to kind_of says keys_in rounded suits fields meaning_of folding table held groups wholes events
    → (rows : List (List Cell)) → AllByRecursion (λ group. is_taken (held_ids (map (with_keys_of keys_of rows) held)) group.dimension.0 ≡ true) groups
added-live {keys_of = keys_of} {held = held} {groups = groups} is rows =
    fold-live (map (with_keys_of keys_of rows) held) groups
    (subst (λ lives. AllByRecursion (λ group. is_taken (dimension_ids lives) group.dimension ≡ true) (live_groups groups)) (sym (keys-unseen keys_of rows held)) is.state.live)

pub added-places : {A G P R V M : Type 0} {keys_of : A → List Cell → List Key} {fits_to : A → List Column → Bool} {kind_of : A → KeyKind} {says : P → Key → Bool} {keys_in : P → List Key} {rounded : G → Key → Key} {suits : R → List Column → Bool} {fields : R → ℕ} {meaning_of : V → M} {folding : R → Reducer (List Cell) M} {table : Contents} {held : List (Dimension A P)} {groups : List (Grouping G (Grouped R V))} {wholes : List (Whole R V)} {events : Events}
    → IsCross keys_of fits_to kind_of says keys_in rounded suits fields meaning_of folding table held groups wholes events
    → (rows : List (List Cell)) → AllByRecursion (HoldsPlacesOf keys_of rounded (live_dimensions (map (with_keys_of keys_of rows) held)) table.rows) groups
added-places {keys_of = keys_of} {says = says} {rounded = rounded} {meaning_of = meaning_of} {folding = folding} {table = table} {held = held} {groups = groups} {wholes = wholes} {events = events} is rows =
    subst (λ lives. AllByRecursion (HoldsPlacesOf keys_of rounded lives table.rows) groups) (sym (keys-unseen keys_of rows held)) (fold-places keys_of says rounded meaning_of folding (state_of table held groups wholes events) groups is.entries)

-- what is kept with them, with the values that were folded for all, is kept of the state with them
pub cross-added : {A G P R V M : Type 0} {keys_of : A → List Cell → List Key} {fits_to : A → List Column → Bool} {kind_of : A → KeyKind} {says : P → Key → Bool} {keys_in : P → List Key} {rounded : G → Key → Key} {suits : R → List Column → Bool} {fields : R → ℕ} {meaning_of : V → M} {folding : R → Reducer (List Cell) M} {table : Contents} {held : List (Dimension A P)} {groups : List (Grouping G (Grouped R V))} {wholes : List (Whole R V)} {events : Events}
    → IsCross keys_of fits_to kind_of says keys_in rounded suits fields meaning_of folding table held groups wholes events
    → (rows all : List (List Cell)) (dimensions_then : List (Dimension A P)) (groups_then : List (Grouping G (Grouped R V))) (wholes_then : List (Whole R V)) (folded : List (Grouped R V)) (values : List V)
    → refusal_of table rows ≡ None → sum_by held_count held + more_count keys_of rows held ≤ table.limits.entries
    → all ≡ table.rows ++ rows → dimensions_then ≡ map (with_keys_of keys_of rows) held → groups_then ≡ groups → wholes_then ≡ wholes
    → AreFoldedFor keys_of says rounded meaning_of folding (live_dimensions dimensions_then) all groups_then folded
    → AreValuesFor keys_of says meaning_of folding (live_dimensions dimensions_then) all wholes_then values
    → IsCross keys_of fits_to kind_of says keys_in rounded suits fields meaning_of folding (table_with_rows table rows) (map (with_keys_of keys_of rows) held) (regrouped groups folded) (revalued wholes values) (once_added events)
    × (state_of (table_with_rows table rows) (map (with_keys_of keys_of rows) held) (regrouped groups folded) (revalued wholes values) (once_added events) ≡ with_rows (state_of table held groups wholes events) rows)
cross-added {A = A} {G = G} {P = P} {R = R} {V = V} {keys_of = keys_of} {fits_to = fits_to} {kind_of = kind_of} {says = says} {keys_in = keys_in} {rounded = rounded} {suits = suits} {fields = fields} {meaning_of = meaning_of} {folding = folding} {table = table} {held = held} {groups = groups} {wholes = wholes} {events = events} is rows all dimensions_then groups_then wholes_then folded values none room same_rows same_dimensions same_groups same_wholes are_folded are_values =
    let grown : List (Dimension A P) = map (with_keys_of keys_of rows) held in
    let lives : List (LiveDimension A P) = live_dimensions grown in
    let for_groups : AreFoldedFor keys_of says rounded meaning_of folding lives (table.rows ++ rows) groups folded =
    subst (λ rs. AreFoldedFor keys_of says rounded meaning_of folding lives rs groups folded) same_rows
    (subst (λ gs. AreFoldedFor keys_of says rounded meaning_of folding lives all gs folded) same_groups
    (subst (λ ds. AreFoldedFor keys_of says rounded meaning_of folding (live_dimensions ds) all groups_then folded) same_dimensions are_folded)) in
    let for_wholes : AreValuesFor keys_of says meaning_of folding lives (table.rows ++ rows) wholes values =
    subst (λ rs. AreValuesFor keys_of says meaning_of folding lives rs wholes values) same_rows
    (subst (λ ws. AreValuesFor keys_of says meaning_of folding lives all ws values) same_wholes
    (subst (λ ds. AreValuesFor keys_of says meaning_of folding (live_dimensions ds) all wholes_then values) same_dimensions are_values)) in
    let more = held-with_rows keys_of table held groups wholes events rows in
    let sound : IsState keys_of fits_to kind_of keys_in suits fields (state_of (table_with_rows table rows) grown groups wholes (once_added events)) =
    subst (IsState keys_of fits_to kind_of keys_in suits fields) (sym more) (sound-added is rows none room) in (
      cross-refolded keys_of fits_to kind_of says keys_in rounded suits fields meaning_of folding lives (table.rows ++ rows) (table_with_rows table rows) grown groups (regrouped groups folded) wholes (revalued wholes values) (once_added events)
          sound (holds-more keys_of table.rows rows held is.keys) refl refl
          (record { values = folded; folded = for_groups; placed = refl }) (record { values = values; folded = for_wholes; placed = refl }),
      held-regrouped (table_with_rows table rows) grown groups wholes (once_added events) folded values (folded-reducers keys_of says rounded meaning_of folding lives (table.rows ++ rows) groups folded for_groups) ∙ more,
    )

-- the keys of rows that are not taken after all go again
pub taken-back : {A P : Type 0} (keys_of : A → List Cell → List Key) (rows : List (List Cell)) (count : ℕ) (held : List (Dimension A P)) → HoldEach count held → map (kept_keys count) (map (with_keys_of keys_of rows) held) ≡ held
taken-back keys_of rows count [] each = refl
taken-back keys_of rows count (one ∷ held) each =
    let first = (kept-takes_back keys_of rows count (one ∷ held) each).0.0 in
    let rest = taken-back keys_of rows count held each.1 in
    λ i. first i ∷ rest i

-- what holds where a call failed, and where it was done
pub where-failed : {X E : Type 0} (result : Result X E) (P : Type 0) → OnErr result P → is_err result ≡ true → P
where-failed (Ok value) P told failed = absurd cc
where-failed (Err error) P told failed = told

pub where-done : {X E : Type 0} (result : Result X E) (P : Type 0) → OnOk result P → is_err result ≡ false → P
where-done (Ok value) P told done = told
where-done (Err error) P told done = absurd cc
