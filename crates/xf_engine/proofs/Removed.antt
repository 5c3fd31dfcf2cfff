-- Rows that are removed, with their keys.
use Rattle.std.proofs.Common.{◌≡◌, ℕ, zero, suc, ◌+◌, ◌≤◌, Bool, true, false, not, cond, List, [], ◌∷◌, ◌++◌, Some, length, map, take, slice_get, refl, sym, ap, subst, ◌∙◌, arith}
use Rattle.std.proofs.lemmas.List.Filters.{length-filter_both}
use Rattle.std.proofs.lemmas.List.Sums.{sum_by-cons}
use Rattle.std.specs.List.{AllByRecursion, filter, range_with_len, sum_by}
use Rattle.xf_base.proofs.KeptItems.{kept-tested}
use Rattle.xf_base.specs.Gone.{kept}
use Rattle.xf_base.specs.Schema.{IsRowOf}
use Rattle.xf_base.specs.declared.cell.Cell.{Cell}
use Rattle.xf_base.specs.declared.column.Column.{Column}
use Rattle.xf_base.specs.declared.key.Key.{Key}
use Rattle.xf_base.specs.declared.kind.KeyKind.{KeyKind}
use Rattle.xf_engine.specs.Changes.{once_removed, without_rows}
use Rattle.xf_engine.specs.Held.{HoldsKeysOf, keys_pass, live_dimension, live_dimensions, passes_each_at, retained_keys, state_of, with_kept}
use Rattle.xf_engine.specs.State.{IsState, LiveDimension, State, dimensions_of, entries_by}
use Rattle.xf_engine.specs.declared.dimension.Dimension.{Dimension}
use Rattle.xf_engine.specs.declared.events.Events.{Events}
use Rattle.xf_engine.specs.declared.grouping.Grouping.{Grouping}
use Rattle.xf_engine.specs.declared.whole.Whole.{Whole}
use Rattle.xf_engine.proofs.Passes.{passes_each_at-row}
use Rattle.xf_filter.specs.declared.filter.Filter.{Filter}
use Rattle.xf_group.specs.Group.{Grouped}
use Rattle.xf_model.specs.Dimension.{passes_each}
use Rattle.xf_table.specs.Table.{Contents, kept_rows}

-- what is made of those that are kept is kept of what is made of all
kept-map : {X Y : Type 0} (f : X → Y) (gone : List Bool) (xs : List X) → kept gone (map f xs) ≡ map f (kept gone xs)
kept-map f [] xs = refl
kept-map f (mark ∷ gone) [] = refl
kept-map f (mark ∷ gone) (x ∷ xs) =
    elim mark as (λ b. cond b (kept gone (map f xs)) (f x ∷ kept gone (map f xs)) ≡ map f (cond b (kept gone xs) (x ∷ kept gone xs))) [
      | true ↦ kept-map f gone xs
      | false ↦ ap (λ rest. f x ∷ rest) (kept-map f gone xs)
    ]

-- no more is kept than there is
kept-less : {X : Type 0} (f : X → ℕ) (gone : List Bool) (xs : List X) → sum_by f (kept gone xs) ≤ sum_by f xs
kept-less f [] xs = omega arith
kept-less f (mark ∷ gone) [] = omega arith
kept-less f (mark ∷ gone) (x ∷ xs) =
    elim mark as (λ b. sum_by f (cond b (kept gone xs) (x ∷ kept gone xs)) ≤ sum_by f (x ∷ xs)) [
      | true ↦ omega (arith, sum_by-cons f x xs, kept-less f gone xs)
      | false ↦ omega (arith, sum_by-cons f x xs, sum_by-cons f x (kept gone xs), kept-less f gone xs)
    ]

pub kept-fewer : {X : Type 0} (gone : List Bool) (xs : List X) → length (kept gone xs) ≤ length xs
kept-fewer [] xs = omega arith
kept-fewer (mark ∷ gone) [] = omega arith
kept-fewer (mark ∷ gone) (x ∷ xs) =
    elim mark as (λ b. length (cond b (kept gone xs) (x ∷ kept gone xs)) ≤ length (x ∷ xs)) [
      | true ↦ omega (arith, kept-fewer gone xs)
      | false ↦ omega (arith, kept-fewer gone xs)
    ]

-- what holds of each holds of those that are kept
kept-all : {X : Type 0} (Q : X → Type 0) (gone : List Bool) (xs : List X) → AllByRecursion Q xs → AllByRecursion Q (kept gone xs)
kept-all Q [] xs all = tt
kept-all Q (mark ∷ gone) [] all = tt
kept-all Q (mark ∷ gone) (x ∷ xs) all =
    let rest : AllByRecursion Q (kept gone xs) = kept-all Q gone xs all.1 in
    elim mark as (λ b. AllByRecursion Q (cond b (kept gone xs) (x ∷ kept gone xs))) [ true ↦ rest | false ↦ (all.0, rest) ]

-- the keys of the rows that are kept are held
pub holds-kept : {A P : Type 0} (keys_of : A → List Cell → List Key) (rows : List (List Cell)) (held : List (Dimension A P)) (gone : List Bool) → AllByRecursion (HoldsKeysOf keys_of rows) held → AllByRecursion (HoldsKeysOf keys_of (kept gone rows)) (map (retained_keys gone) held)
holds-kept keys_of rows [] gone hold = tt
holds-kept keys_of rows (one ∷ held) gone hold = (ap (kept gone) hold.0 ∙ kept-map (keys_of one.accessor) gone rows, holds-kept keys_of rows held gone hold.1)

pub retained-live : {A P : Type 0} (gone : List Bool) (held : List (Dimension A P)) → live_dimensions (map (retained_keys gone) held) ≡ live_dimensions held
retained-live gone [] = refl
retained-live gone (one ∷ held) = ap (λ lives. live_dimension one ∷ lives) (retained-live gone held)

-- what is held without the rows that are gone is the state without them
pub held-with_kept : {A G P R V : Type 0} (table : Contents) (held : List (Dimension A P)) (groups : List (Grouping G (Grouped R V))) (wholes : List (Whole R V)) (events : Events) (gone : List Bool) → state_of (kept_rows gone table) (map (retained_keys gone) held) groups wholes (once_removed events) ≡ with_kept gone (state_of table held groups wholes events)
held-with_kept table held groups wholes events gone = ap (λ lives. record (with_kept gone (state_of table held groups wholes events)) { dimensions = lives }) (retained-live gone held)

-- a state stays sound
entries-kept : {A P : Type 0} (keys_of : A → List Cell → List Key) (lives : List (LiveDimension A P)) (gone : List Bool) (rows : List (List Cell)) → sum_by (λ live. entries_by keys_of (kept gone rows) live.accessor) lives ≤ sum_by (λ live. entries_by keys_of rows live.accessor) lives
entries-kept keys_of [] gone rows = omega arith
entries-kept {A} {P} keys_of (live ∷ lives) gone rows =
    omega (
      arith,
      sum_by-cons (λ (d : LiveDimension A P). entries_by keys_of (kept gone rows) d.accessor) live lives,
      sum_by-cons (λ (d : LiveDimension A P). entries_by keys_of rows d.accessor) live lives,
      kept-less (λ row. length (keys_of live.accessor row)) gone rows,
      entries-kept keys_of lives gone rows,
    )

pub sound-with_kept : {A G P R : Type 0} (keys_of : A → List Cell → List Key) (fits_to : A → List Column → Bool) (kind_of : A → KeyKind) (keys_in : P → List Key) (suits : R → List Column → Bool) (fields : R → ℕ) (state : State A G P R) (gone : List Bool) → IsState keys_of fits_to kind_of keys_in suits fields state → IsState keys_of fits_to kind_of keys_in suits fields (with_kept gone state)
sound-with_kept keys_of fits_to kind_of keys_in suits fields state gone is =
    record {
      limits = is.limits;
      of_schema = kept-all (IsRowOf state.columns) gone state.rows is.of_schema;
      fit = is.fit;
      filters = is.filters;
      group_fit = is.group_fit;
      group_fields = is.group_fields;
      whole_fit = is.whole_fit;
      distinct = is.distinct;
      distinct_groups = is.distinct_groups;
      distinct_wholes = is.distinct_wholes;
      live = is.live;
      few_rows = omega (arith, kept-fewer gone state.rows, is.few_rows);
      few_entries = omega (arith, entries-kept keys_of state.dimensions gone state.rows, is.few_entries);
      few_dimensions = is.few_dimensions;
      few_groups = is.few_groups;
    }

-- marks that are made place by place are those of the rows
map-places : {X Y : Type 0} (f : ℕ → Y) (g : X → Y) (start : ℕ) (xs : List X) → ((i : ℕ) (x : X) → slice_get xs i ≡ Some x → f (start + i) ≡ g x) → map f (range_with_len start (length xs)) ≡ map g xs
map-places f g start [] same = refl
map-places {X} {Y} f g start (x ∷ xs) same =
    let here : start + 0 ≡ start = omega arith in
    let first : f start ≡ g x = subst (λ n. f n ≡ g x) here (same 0 x refl) in
    let rest : map f (range_with_len (start + 1) (length xs)) ≡ map g xs =
    map-places f g (start + 1) xs (λ i y there. let next : start + suc i ≡ start + 1 + i = omega arith in subst (λ n. f n ≡ g y) next (same (suc i) y there)) in
    λ i. first i ∷ rest i

pub marks-rows : {A P : Type 0} (keys_of : A → List Cell → List Key) (says : P → Key → Bool) (rows : List (List Cell)) (held : List (Dimension A P)) → AllByRecursion (HoldsKeysOf keys_of rows) held → map (passes_each_at says held) (range_with_len 0 (length rows)) ≡ map (passes_each (dimensions_of keys_of says (live_dimensions held))) rows
marks-rows keys_of says rows held hold =
    map-places (passes_each_at says held) (passes_each (dimensions_of keys_of says (live_dimensions held))) 0 rows
    (λ i row there. let here : i ≡ 0 + i = omega arith in
    subst (λ n. passes_each_at says held n ≡ passes_each (dimensions_of keys_of says (live_dimensions held)) row) here (passes_each_at-row keys_of says rows held i row hold there))

-- the image of one element more
map-taken : {X Y : Type 0} (f : X → Y) (xs : List X) (i : ℕ) (x : X) → Some x ≡ slice_get xs i → map f (take (suc i) xs) ≡ map f (take i xs) ++ f x ∷ []
map-taken f [] i x e = absurd cc
map-taken f (z ∷ xs) zero x e = let same : z ≡ x = cc in ap (λ w. f w ∷ []) same
map-taken f (z ∷ xs) (suc i) x e = ap (λ rest. f z ∷ rest) (map-taken f xs i x e)

pub map-next : {X Y : Type 0} (f : X → Y) (xs : List X) (i : ℕ) (x : X) (before after : List Y) (y : Y) → Some x ≡ slice_get xs i → before ≡ map f (take i xs) → y ≡ f x → after ≡ before ++ y ∷ [] → after ≡ map f (take (i + 1) xs)
map-next f xs i x before after y there so_far image pushed =
    let next : i + 1 ≡ suc i = omega arith in
    pushed ∙ ap (λ front. front ++ y ∷ []) so_far ∙ ap (λ z. map f (take i xs) ++ z ∷ []) image ∙ sym (map-taken f xs i x there) ∙ ap (λ n. map f (take n xs)) (sym next)

-- marks of keys are those of the rows whose keys they are
pub marks-keys : {P : Type 0} (says : P → Key → Bool) (filter : Filter P) (keys : List Cell → List Key) (rows : List (List Cell)) → map (keys_pass says filter) (map keys rows) ≡ map (λ row. keys_pass says filter (keys row)) rows
marks-keys says filter keys [] = refl
marks-keys says filter keys (row ∷ rows) = ap (λ rest. keys_pass says filter (keys row) ∷ rest) (marks-keys says filter keys rows)

-- what a test marked is gone
pub kept-without : {A G P R : Type 0} (test : List Cell → Bool) (state : State A G P R) (gone : List Bool) → gone ≡ map test state.rows → with_kept gone state ≡ without_rows test state
kept-without test state gone marked =
    ap (λ rows. record state { rows = rows; events = once_removed state.events }) (ap (λ marks. kept marks state.rows) marked ∙ kept-tested test state.rows)

-- so many rows are gone as pass the test
pub removed-count : (test : List Cell → Bool) (rows : List (List Cell)) (gone : List Bool) (count : ℕ) → gone ≡ map test rows → count + length (kept gone rows) ≡ length rows → count ≡ length (filter test rows)
removed-count test rows gone count marked sum =
    let same : kept gone rows ≡ filter (λ row. not (test row)) rows = ap (λ marks. kept marks rows) marked ∙ kept-tested test rows in
    omega (arith, ap length same, length-filter_both test (λ row. not (test row)) (λ row. refl) rows, sum)
