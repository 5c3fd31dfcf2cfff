-- Rows that are added, or refused.
use Rattle.std.proofs.Common.{◌≡◌, ◌⊎◌, inl, inr, ⊎_elim, ℕ, ◌+◌, ◌<◌, ◌≤◌, nat_le, nat_lt, Bool, true, false, cond, List, [], ◌++◌, Option, Some, None, length, take, drop, refl, sym, ap, ◌∙◌, arith}
use Rattle.std.proofs.Math.ListN.{drop_of_length-le}
use Rattle.std.proofs.lemmas.Bool.Decides.{nat_tests}
use Rattle.std.proofs.lemmas.List.{append-nil, take_all}
use Rattle.std.specs.List.{AllByRecursion, enumerate_from, sum_by}
use Rattle.xf_base.specs.Schema.{IsRowOf}
use Rattle.xf_base.specs.declared.cell.Cell.{Cell}
use Rattle.xf_base.specs.declared.key.Key.{Key}
use Rattle.xf_engine.specs.Held.{HoldsKeysOf, IsEntryRefusal, held_count, more_count, state_of}
use Rattle.xf_engine.specs.Refusals.{add_refusal_after, add_refusal_of, dimension_refusal_of, table_of}
use Rattle.xf_engine.specs.State.{State, entries_by, entry_count}
use Rattle.xf_engine.specs.declared.add_refusal.AddRefusal.{AddRefusal}
use Rattle.xf_engine.specs.declared.add_refusal.AddRefusal.TheVariants as add
use Rattle.xf_engine.specs.declared.dimension.Dimension.{Dimension}
use Rattle.xf_engine.specs.declared.dimension_refusal.DimensionRefusal.TheVariants as dimension
use Rattle.xf_engine.specs.declared.events.Events.{Events}
use Rattle.xf_engine.specs.declared.grouping.Grouping.{Grouping}
use Rattle.xf_engine.specs.declared.whole.Whole.{Whole}
use Rattle.xf_engine.proofs.HeldCounts.{held-entries, more-entries}
use Rattle.xf_group.specs.Group.{Grouped}
use Rattle.xf_table.proofs.Refusals.{rows-from_no_mismatch}
use Rattle.xf_table.specs.Append.{mismatch_of, refusal_of}
use Rattle.xf_table.specs.Table.{Contents}

-- where none of three causes is told, the first does not hold and the last is none
parts : {E : Type 0} (a b : Bool) (x y : E) (m : Option E) → cond a (Some x) (cond b (Some y) m) ≡ None → (a ≡ false) × (m ≡ None)
parts true b x y m none = absurd cc
parts false true x y m none = absurd cc
parts false false x y m none = (refl, none)

-- rows that the table takes are few and of the columns
pub taken-few : (table : Contents) (rows : List (List Cell)) → refusal_of table rows ≡ None → (length table.rows + length rows ≤ table.limits.rows) × AllByRecursion (IsRowOf table.columns) rows
taken-few table rows none =
    let told = parts (nat_lt table.limits.rows (length table.rows + length rows)) _ _ _ (mismatch_of table.columns (enumerate_from 0 rows)) none in
    (grind (arith, nat_tests, told.0), rows-from_no_mismatch table.columns rows 0 told.1)

-- such rows are taken where the entries stay within the limit
pub added-rows : {A G P R : Type 0} (keys_of : A → List Cell → List Key) (state : State A G P R) (rows : List (List Cell)) → refusal_of (table_of state) rows ≡ None → entry_count keys_of state state.rows + entry_count keys_of state rows ≤ state.limits.entries → add_refusal_of keys_of state rows ≡ None
added-rows keys_of state rows none room =
    let test : nat_lt state.limits.entries (entry_count keys_of state state.rows + entry_count keys_of state rows) ≡ false = grind (arith, nat_tests, room) in
    ap (add_refusal_after keys_of state rows) none
    ∙ ap (λ b. cond b (Some (add.TooManyEntries (entry_count keys_of state state.rows) (entry_count keys_of state rows) state.limits.entries)) None) test

-- and are refused where they do not
refused-entries : {A G P R : Type 0} (keys_of : A → List Cell → List Key) (state : State A G P R) (rows : List (List Cell)) → refusal_of (table_of state) rows ≡ None → state.limits.entries < entry_count keys_of state state.rows + entry_count keys_of state rows → add_refusal_of keys_of state rows ≡ Some (add.TooManyEntries (entry_count keys_of state state.rows) (entry_count keys_of state rows) state.limits.entries)
refused-entries keys_of state rows none full =
    let test : nat_lt state.limits.entries (entry_count keys_of state state.rows + entry_count keys_of state rows) ≡ true = grind (arith, nat_tests, full) in
    ap (add_refusal_after keys_of state rows) none
    ∙ ap (λ b. cond b (Some (add.TooManyEntries (entry_count keys_of state state.rows) (entry_count keys_of state rows) state.limits.entries)) None) test

pub refused-rows : {A G P R V : Type 0} (keys_of : A → List Cell → List Key) (table : Contents) (held : List (Dimension A P)) (groups : List (Grouping G (Grouped R V))) (wholes : List (Whole R V)) (events : Events) (rows : List (List Cell)) (cause : AddRefusal) → AllByRecursion (HoldsKeysOf keys_of table.rows) held → refusal_of table rows ≡ None → IsEntryRefusal table.limits.entries (sum_by held_count held) (more_count keys_of rows held) cause → (cause ≡ add.OutOfMemory) ⊎ (add_refusal_of keys_of (state_of table held groups wholes events) rows ≡ Some cause)
refused-rows {A} {G} {P} {R} keys_of table held groups wholes events rows cause hold none told =
    let state : State A G P R = state_of table held groups wholes events in
    let have : sum_by held_count held ≡ entry_count keys_of state state.rows = held-entries keys_of table.rows held hold in
    let more : more_count keys_of rows held ≡ entry_count keys_of state rows = more-entries keys_of rows held in
    ⊎_elim (λ memory. inl memory) (λ full.
    let same : cause ≡ add.TooManyEntries (entry_count keys_of state state.rows) (entry_count keys_of state rows) table.limits.entries = full.0 ∙ (λ i. add.TooManyEntries (have i) (more i) table.limits.entries) in
    inr (refused-entries keys_of state rows none (omega (arith, full.1, have, more)) ∙ ap Some (sym same))) told

-- a slice that stands for a whole list
pub whole-slice : {X : Type 0} (n : ℕ) (xs ys : List X) → length ys ≡ n → length xs ≡ n → take n (ys ++ drop (length ys) xs) ≡ ys
whole-slice n xs ys new old =
    let rest : drop (length ys) xs ≡ [] = drop_of_length-le xs (omega (arith, new, old)) in
    ap (λ zs. take n (ys ++ zs)) rest ∙ ap (take n) (append-nil ys) ∙ take_all n ys (omega (arith, new))

-- a dimension is refused where its entries would be too many, and taken where neither limit is reached
pub refused-dimension : {A G P R : Type 0} (keys_of : A → List Cell → List Key) (state : State A G P R) (accessor : A) → length state.dimensions < state.limits.dimensions → state.limits.entries < entry_count keys_of state state.rows + entries_by keys_of state.rows accessor → dimension_refusal_of keys_of state accessor ≡ Some (dimension.TooManyEntries (entry_count keys_of state state.rows) (entries_by keys_of state.rows accessor) state.limits.entries)
refused-dimension keys_of state accessor few full =
    let first : nat_le state.limits.dimensions (length state.dimensions) ≡ false = grind (arith, nat_tests, few) in
    let second : nat_lt state.limits.entries (entry_count keys_of state state.rows + entries_by keys_of state.rows accessor) ≡ true = grind (arith, nat_tests, full) in
    rw (first, second) refl

pub accepted-dimension : {A G P R : Type 0} (keys_of : A → List Cell → List Key) (state : State A G P R) (accessor : A) → length state.dimensions < state.limits.dimensions → entry_count keys_of state state.rows + entries_by keys_of state.rows accessor ≤ state.limits.entries → dimension_refusal_of keys_of state accessor ≡ None
accepted-dimension keys_of state accessor few room =
    let first : nat_le state.limits.dimensions (length state.dimensions) ≡ false = grind (arith, nat_tests, few) in
    let second : nat_lt state.limits.entries (entry_count keys_of state state.rows + entries_by keys_of state.rows accessor) ≡ false = grind (arith, nat_tests, room) in
    rw (first, second) refl
