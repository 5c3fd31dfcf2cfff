-- What groups and wholes hold: as they are folded anew, where a state differs in nothing that they see, and where a dimension without a filter comes or goes.
use Rattle.std.proofs.Common.{◌≡◌, ℕ, zero, suc, ◌<◌, ◌≤◌, ◌==◌, nat_lt, Bool, true, false, not, ◌&&◌, cond, List, [], ◌∷◌, ◌++◌, Option, Some, None, length, map, get_or, set, slice_get, refl, sym, ap, ◌∙◌, arith}
use Rattle.std.proofs.lemmas.Bool.Decides.{nat_tests}
use Rattle.std.proofs.lemmas.List.Folds.{find_at, list_all-map}
use Rattle.std.proofs.lemmas.List.Quantifiers.{position-Some}
use Rattle.std.proofs.lemmas.Option.{slice_get_past}
use Rattle.std.specs.List.{AllByRecursion, filter, find, flat_map, list_all, position, position_or_len, remove}
use Rattle.xf_base.specs.Key.{key_cmp}
use Rattle.xf_base.specs.declared.cell.Cell.{Cell}
use Rattle.xf_base.specs.declared.key.Key.{Key}
use Rattle.xf_engine.specs.Answers.{entries_under, keys_under}
use Rattle.xf_engine.specs.Changes.{with_dimension, without_dimension}
use Rattle.xf_engine.specs.Folding.{AreFoldedFor, AreValuesFor, regrouped, revalued}
use Rattle.xf_engine.specs.Held.{HoldsGroupOf, HoldsWholeOf, is_elsewhere, live_groups, places_under}
use Rattle.xf_engine.specs.State.{AreDistinct, LiveDimension, State, dimension_ids, dimension_of, dimension_place, dimensions_of, has_id, is_taken}
use Rattle.xf_engine.specs.declared.grouping.Grouping.{Grouping}
use Rattle.xf_engine.specs.declared.whole.Whole.{Whole}
use Rattle.xf_filter.specs.declared.filter.Filter.TheVariants.{All}
use Rattle.xf_group.specs.Group.{Grouped}
use Rattle.xf_group.specs.declared.order.GroupOrder.{GroupOrder}
use Rattle.xf_model.specs.Dimension.{passes, passes_each}
use Rattle.xf_model.specs.Group.{Reducer, distinct_keys, fold_of, group_keys, has_key, rounded_keys, whole_value}
use Rattle.xf_engine.proofs.ById.{apart, filter-at, map-remove}

-- ---- as they are folded

-- groups that are put in place hold the entries of each state with the dimensions and the rows that they were folded for
pub holds-folded : {A G P R V M : Type 0} (keys_of : A → List Cell → List Key) (says : P → Key → Bool) (rounded : G → Key → Key) (meaning_of : V → M) (folding : R → Reducer (List Cell) M) (lives : List (LiveDimension A P)) (rows : List (List Cell)) (state : State A G P R) (groups : List (Grouping G (Grouped R V))) (folded : List (Grouped R V))
    → state.dimensions ≡ lives → state.rows ≡ rows → AreFoldedFor keys_of says rounded meaning_of folding lives rows groups folded
    → AllByRecursion (HoldsGroupOf keys_of says rounded meaning_of folding state) (regrouped groups folded)
holds-folded keys_of says rounded meaning_of folding lives rows state [] [] same_dimensions same_rows each = tt
holds-folded keys_of says rounded meaning_of folding lives rows state [] (value ∷ folded) same_dimensions same_rows each = absurd each
holds-folded keys_of says rounded meaning_of folding lives rows state (group ∷ groups) [] same_dimensions same_rows each = absurd each
holds-folded keys_of says rounded meaning_of folding lives rows state (group ∷ groups) (value ∷ folded) same_dimensions same_rows each = (
  (
    each.0.places
        ∙ ap (λ ds. places_under keys_of (rounded group.rounding) (find (has_id group.dimension.0) ds) rows) (sym same_dimensions)
        ∙ ap (places_under keys_of (rounded group.rounding) (find (has_id group.dimension.0) state.dimensions)) (sym same_rows),
    each.0.entries
        ∙ ap (λ ds. entries_under keys_of says ds rows (rounded group.rounding) (folding group.group.reducer) (position (has_id group.dimension.0) ds)) (sym same_dimensions)
        ∙ ap (λ rs. entries_under keys_of says state.dimensions rs (rounded group.rounding) (folding group.group.reducer) (position (has_id group.dimension.0) state.dimensions)) (sym same_rows)
        ∙ ap (λ reducer. entries_under keys_of says state.dimensions state.rows (rounded group.rounding) (folding reducer) (position (has_id group.dimension.0) state.dimensions)) (sym each.0.reducer),
  ),
  holds-folded keys_of says rounded meaning_of folding lives rows state groups folded same_dimensions same_rows each.1,
)

-- so do wholes
pub values-folded : {A G P R V M : Type 0} (keys_of : A → List Cell → List Key) (says : P → Key → Bool) (meaning_of : V → M) (folding : R → Reducer (List Cell) M) (lives : List (LiveDimension A P)) (rows : List (List Cell)) (state : State A G P R) (wholes : List (Whole R V)) (values : List V)
    → state.dimensions ≡ lives → state.rows ≡ rows → AreValuesFor keys_of says meaning_of folding lives rows wholes values
    → AllByRecursion (HoldsWholeOf keys_of says meaning_of folding state) (revalued wholes values)
values-folded keys_of says meaning_of folding lives rows state [] [] same_dimensions same_rows each = tt
values-folded keys_of says meaning_of folding lives rows state [] (value ∷ values) same_dimensions same_rows each = absurd each
values-folded keys_of says meaning_of folding lives rows state (whole ∷ wholes) [] same_dimensions same_rows each = absurd each
values-folded keys_of says meaning_of folding lives rows state (whole ∷ wholes) (value ∷ values) same_dimensions same_rows each = (
  each.0
      ∙ ap (λ ds. whole_value (folding whole.reducer) (dimensions_of keys_of says ds) rows) (sym same_dimensions)
      ∙ ap (λ rs. whole_value (folding whole.reducer) (dimensions_of keys_of says state.dimensions) rs) (sym same_rows),
  values-folded keys_of says meaning_of folding lives rows state wholes values same_dimensions same_rows each.1,
)

-- ---- where a state differs in nothing that they see

-- what holds of each holds where something that follows from it is asked
all-then : {X : Type 0} (P Q : X → Type 0) → ((x : X) → P x → Q x) → (xs : List X) → AllByRecursion P xs → AllByRecursion Q xs
all-then P Q then [] all = tt
all-then P Q then (x ∷ xs) all = (then x all.0, all-then P Q then xs all.1)

-- groups are held of any other state with these dimensions and rows
pub holds-same : {A G P R V M : Type 0} (keys_of : A → List Cell → List Key) (says : P → Key → Bool) (rounded : G → Key → Key) (meaning_of : V → M) (folding : R → Reducer (List Cell) M) (state other : State A G P R) (groups : List (Grouping G (Grouped R V)))
    → other.dimensions ≡ state.dimensions → other.rows ≡ state.rows → AllByRecursion (HoldsGroupOf keys_of says rounded meaning_of folding state) groups
    → AllByRecursion (HoldsGroupOf keys_of says rounded meaning_of folding other) groups
holds-same keys_of says rounded meaning_of folding state other groups same_dimensions same_rows =
    all-then (HoldsGroupOf keys_of says rounded meaning_of folding state) (HoldsGroupOf keys_of says rounded meaning_of folding other)
    (λ held holds. (
      holds.0
          ∙ ap (λ ds. places_under keys_of (rounded held.rounding) (find (has_id held.dimension.0) ds) state.rows) (sym same_dimensions)
          ∙ ap (places_under keys_of (rounded held.rounding) (find (has_id held.dimension.0) other.dimensions)) (sym same_rows),
      holds.1
          ∙ ap (λ ds. entries_under keys_of says ds state.rows (rounded held.rounding) (folding held.group.reducer) (position (has_id held.dimension.0) ds)) (sym same_dimensions)
          ∙ ap (λ rs. entries_under keys_of says other.dimensions rs (rounded held.rounding) (folding held.group.reducer) (position (has_id held.dimension.0) other.dimensions)) (sym same_rows),
    ))
    groups

-- so are wholes
pub values-same : {A G P R V M : Type 0} (keys_of : A → List Cell → List Key) (says : P → Key → Bool) (meaning_of : V → M) (folding : R → Reducer (List Cell) M) (state other : State A G P R) (wholes : List (Whole R V))
    → other.dimensions ≡ state.dimensions → other.rows ≡ state.rows → AllByRecursion (HoldsWholeOf keys_of says meaning_of folding state) wholes
    → AllByRecursion (HoldsWholeOf keys_of says meaning_of folding other) wholes
values-same keys_of says meaning_of folding state other wholes same_dimensions same_rows =
    all-then (HoldsWholeOf keys_of says meaning_of folding state) (HoldsWholeOf keys_of says meaning_of folding other)
    (λ held holds. holds
    ∙ ap (λ ds. whole_value (folding held.reducer) (dimensions_of keys_of says ds) state.rows) (sym same_dimensions)
    ∙ ap (λ rs. whole_value (folding held.reducer) (dimensions_of keys_of says other.dimensions) rs) (sym same_rows))
    wholes

-- a group that is ranked by another field holds the same entries
pub holds-ordered : {A G P R V M : Type 0} (keys_of : A → List Cell → List Key) (says : P → Key → Bool) (rounded : G → Key → Key) (meaning_of : V → M) (folding : R → Reducer (List Cell) M) (state : State A G P R) (groups : List (Grouping G (Grouped R V))) (place : ℕ) (d : Grouping G (Grouped R V)) (order : GroupOrder)
    → AllByRecursion (HoldsGroupOf keys_of says rounded meaning_of folding state) groups
    → AllByRecursion (HoldsGroupOf keys_of says rounded meaning_of folding state) (set groups place (record (get_or groups place d) { order = order }))
holds-ordered keys_of says rounded meaning_of folding state [] zero d order all = tt
holds-ordered keys_of says rounded meaning_of folding state [] (suc place) d order all = tt
holds-ordered keys_of says rounded meaning_of folding state (group ∷ groups) zero d order all = all
holds-ordered keys_of says rounded meaning_of folding state (group ∷ groups) (suc place) d order all = (all.0, holds-ordered keys_of says rounded meaning_of folding state groups place d order all.1)

-- ---- what a group shows, whatever the place of its dimension

-- whether each passes but the first that a group is of
abbrev pub others : {X : Type 0} → (X → Bool) → (X → Bool) → List X → Bool
others test own [] = true
others test own (x ∷ xs) = cond (own x) (list_all test xs) (test x && others test own xs)

-- each of the keys of all rows, with the fold of the rows that pass and have it
abbrev pub shown : {Meaning : Type 0} → (List Cell → List Key) → Reducer (List Cell) Meaning → (List Cell → Bool) → List (List Cell) → List (Key × Meaning)
shown {Meaning = Meaning} keys reducer passes rows = map {B = Key × Meaning} (λ key. (key, fold_of reducer (filter (has_key key_cmp keys key) (filter passes rows)))) (group_keys key_cmp keys rows)

filter-alike : {X : Type 0} (p q : X → Bool) → ((x : X) → p x ≡ q x) → (xs : List X) → filter p xs ≡ filter q xs
filter-alike p q same [] = refl
filter-alike p q same (x ∷ xs) = (λ i. cond (same x i) (x ∷ filter-alike p q same xs i) (filter-alike p q same xs i))

-- rows that pass alike are shown alike
pub shown-alike : {Meaning : Type 0} (keys : List Cell → List Key) (reducer : Reducer (List Cell) Meaning) (p q : List Cell → Bool) (rows : List (List Cell)) → ((row : List Cell) → p row ≡ q row) → shown keys reducer p rows ≡ shown keys reducer q rows
shown-alike {Meaning} keys reducer p q rows same =
    ap (λ some. map {B = Key × Meaning} (λ key. (key, fold_of reducer (filter (has_key key_cmp keys key) some))) (group_keys key_cmp keys rows)) (filter-alike p q same rows)

-- where the first one of its own is at a place, the others are all but that one
others-at : {X : Type 0} (test own : X → Bool) (xs : List X) (place : ℕ) (d : X) → place < length xs → ((k : ℕ) → k < place → own (get_or xs k d) ≡ false) → own (get_or xs place d) ≡ true → list_all test (remove xs place) ≡ others test own xs
others-at test own [] place d within before here = absurd (omega (arith, within))
others-at test own (x ∷ xs) zero d within before here = rw here refl
others-at test own (x ∷ xs) (suc place) d within before here =
    rw (before 0 (omega arith)) (ap (λ b. test x && b) (others-at test own xs place d (omega (arith, within)) (λ k early. before (suc k) (omega (arith, early))) here))

found-at : {X : Type 0} (own : X → Bool) (xs : List X) (place : ℕ) (d : X) → place < length xs → ((k : ℕ) → k < place → own (get_or xs k d) ≡ false) → own (get_or xs place d) ≡ true → slice_get xs place ≡ find own xs
found-at own [] place d within before here = absurd (omega (arith, within))
found-at own (x ∷ xs) zero d within before here = rw here refl
found-at own (x ∷ xs) (suc place) d within before here =
    rw (before 0 (omega arith)) (found-at own xs place d (omega (arith, within)) (λ k early. before (suc k) (omega (arith, early))) here)

pub found-placed : {X : Type 0} (own : X → Bool) (xs : List X) (place : ℕ) → position own xs ≡ Some place → slice_get xs place ≡ find own xs
found-placed own [] place told = refl
found-placed own (x ∷ xs) place told = let at = position-Some own (x ∷ xs) place x told in found-at own (x ∷ xs) place x at.0 at.2 at.1

others-placed : {X : Type 0} (test own : X → Bool) (xs : List X) (place : ℕ) → position own xs ≡ Some place → list_all test (remove xs place) ≡ others test own xs
others-placed test own [] place told = absurd cc
others-placed test own (x ∷ xs) place told = let at = position-Some own (x ∷ xs) place x told in others-at test own (x ∷ xs) place x at.0 at.2 at.1

-- whether a row passes a live dimension
abbrev pub passes_live : {A P : Type 0} → (A → List Cell → List Key) → (P → Key → Bool) → List Cell → LiveDimension A P → Bool
passes_live keys_of says row live = passes (dimension_of keys_of says live) row

-- it passes those that are left of all where it passes each of them
passes_each-remove : {A P : Type 0} (keys_of : A → List Cell → List Key) (says : P → Key → Bool) (lives : List (LiveDimension A P)) (place : ℕ) (row : List Cell) → passes_each (remove (dimensions_of keys_of says lives) place) row ≡ list_all (passes_live keys_of says row) (remove lives place)
passes_each-remove keys_of says lives place row =
    ap (λ ds. passes_each ds row) (sym (map-remove (dimension_of keys_of says) lives place)) ∙ list_all-map (λ dimension. passes dimension row) (dimension_of keys_of says) (remove lives place)

-- where no dimension is a group's own it shows nothing
no_keys : (round : Key → Key) (rows : List (List Cell)) → flat_map (rounded_keys key_cmp round (λ row. [])) rows ≡ []
no_keys round [] = refl
no_keys round (row ∷ rows) = no_keys round rows

shown-no_keys : {Meaning : Type 0} (round : Key → Key) (reducer : Reducer (List Cell) Meaning) (passes : List Cell → Bool) (rows : List (List Cell)) → shown (rounded_keys key_cmp round (λ row. [])) reducer passes rows ≡ []
shown-no_keys {Meaning} round reducer passes rows =
    ap (λ all. map {B = Key × Meaning} (λ key. (key, fold_of reducer (filter (has_key key_cmp (rounded_keys key_cmp round (λ row. [])) key) (filter passes rows)))) (distinct_keys key_cmp all)) (no_keys round rows)

past-end : (n at : ℕ) → cond (nat_lt at n) (Some at) None ≡ None → n ≤ at
past-end n at told = elim (nat_lt at n) as (λ b. nat_lt at n ≡ b → cond b (Some at) None ≡ None → n ≤ at) [ true ↦ λ e t. absurd cc | false ↦ λ e t. grind (arith, nat_tests, e) ] refl told

unplaced : {X : Type 0} (own : X → Bool) (xs : List X) → position own xs ≡ None → find own xs ≡ None
unplaced own xs told = find_at own xs ∙ slice_get_past xs (position_or_len own xs) (past-end (length xs) (position_or_len own xs) told)

-- the entries under the first dimension of a group's own are shown by that dimension's keys, of the rows that pass the others
pub entries-shown : {A P Meaning : Type 0} (keys_of : A → List Cell → List Key) (says : P → Key → Bool) (lives : List (LiveDimension A P)) (rows : List (List Cell)) (round : Key → Key) (reducer : Reducer (List Cell) Meaning) (own : LiveDimension A P → Bool)
    → entries_under keys_of says lives rows round reducer (position own lives) ≡ shown (rounded_keys key_cmp round (keys_under keys_of (find own lives))) reducer (λ row. others (passes_live keys_of says row) own lives) rows
entries-shown {A} {P} {Meaning} keys_of says lives rows round reducer own = go (position own lives) refl
  where
    go : (at : Option ℕ) → position own lives ≡ at → entries_under keys_of says lives rows round reducer at ≡ shown (rounded_keys key_cmp round (keys_under keys_of (find own lives))) reducer (λ row. others (passes_live keys_of says row) own lives) rows
    go None told =
        sym (shown-no_keys round reducer (λ row. others (passes_live keys_of says row) own lives) rows)
        ∙ ap (λ live. shown (rounded_keys key_cmp round (keys_under keys_of live)) reducer (λ row. others (passes_live keys_of says row) own lives) rows) (sym (unplaced own lives told))
    go (Some place) told =
        shown-alike (rounded_keys key_cmp round (keys_under keys_of (slice_get lives place))) reducer (passes_each (remove (dimensions_of keys_of says lives) place)) (λ row. others (passes_live keys_of says row) own lives) rows
        (λ row. passes_each-remove keys_of says lives place row ∙ others-placed (passes_live keys_of says row) own lives place told)
        ∙ ap (λ live. shown (rounded_keys key_cmp round (keys_under keys_of live)) reducer (λ row. others (passes_live keys_of says row) own lives) rows) (found-placed own lives place told)

-- dimensions of which the first own one and the others are alike show the same entries
pub entries-alike : {A P Meaning : Type 0} (keys_of : A → List Cell → List Key) (says : P → Key → Bool) (lives less : List (LiveDimension A P)) (rows : List (List Cell)) (round : Key → Key) (reducer : Reducer (List Cell) Meaning) (own : LiveDimension A P → Bool)
    → find own less ≡ find own lives → ((row : List Cell) → others (passes_live keys_of says row) own less ≡ others (passes_live keys_of says row) own lives)
    → entries_under keys_of says lives rows round reducer (position own lives) ≡ entries_under keys_of says less rows round reducer (position own less)
entries-alike keys_of says lives less rows round reducer own same_own same_others =
    entries-shown keys_of says lives rows round reducer own
    ∙ ap (λ live. shown (rounded_keys key_cmp round (keys_under keys_of live)) reducer (λ row. others (passes_live keys_of says row) own lives) rows) (sym same_own)
    ∙ shown-alike (rounded_keys key_cmp round (keys_under keys_of (find own less))) reducer (λ row. others (passes_live keys_of says row) own lives) (λ row. others (passes_live keys_of says row) own less) rows (λ row. sym (same_others row))
    ∙ sym (entries-shown keys_of says less rows round reducer own)

-- dimensions that rows pass alike give wholes the same
pub whole-alike : {A P Meaning : Type 0} (keys_of : A → List Cell → List Key) (says : P → Key → Bool) (lives less : List (LiveDimension A P)) (rows : List (List Cell)) (reducer : Reducer (List Cell) Meaning)
    → ((row : List Cell) → list_all (passes_live keys_of says row) less ≡ list_all (passes_live keys_of says row) lives)
    → whole_value reducer (dimensions_of keys_of says lives) rows ≡ whole_value reducer (dimensions_of keys_of says less) rows
whole-alike keys_of says lives less rows reducer same =
    ap (fold_of reducer) (filter-alike (passes_each (dimensions_of keys_of says lives)) (passes_each (dimensions_of keys_of says less))
    (λ row. list_all-map (λ dimension. passes dimension row) (dimension_of keys_of says) lives ∙ sym (same row) ∙ sym (list_all-map (λ dimension. passes dimension row) (dimension_of keys_of says) less)) rows)

-- every row passes a dimension without a filter
unfiltered-passes : {A P : Type 0} (keys_of : A → List Cell → List Key) (says : P → Key → Bool) (row : List Cell) (live : LiveDimension A P) → live.filter ≡ All → passes_live keys_of says row live ≡ true
unfiltered-passes {A} {P} keys_of says row live free = ap (λ filter. passes_live keys_of says row (record live { filter = filter })) free

-- ---- one more at the end that each row passes

list_all-last : {X : Type 0} (test : X → Bool) (xs : List X) (last : X) → test last ≡ true → list_all test (xs ++ last ∷ []) ≡ list_all test xs
list_all-last test [] last passed = ap (λ b. b && true) passed
list_all-last test (x ∷ xs) last passed = ap (λ b. test x && b) (list_all-last test xs last passed)

others-last : {X : Type 0} (test own : X → Bool) (xs : List X) (last : X) → test last ≡ true → others test own (xs ++ last ∷ []) ≡ others test own xs
others-last test own [] last passed = elim (own last) as (λ b. cond b true (test last && true) ≡ true) [ true ↦ refl | false ↦ ap (λ b. b && true) passed ]
others-last test own (x ∷ xs) last passed = (λ i. cond (own x) (list_all-last test xs last passed i) (test x && others-last test own xs last passed i))

find-last : {X : Type 0} (own : X → Bool) (xs : List X) (last : X) → own last ≡ false → find own (xs ++ last ∷ []) ≡ find own xs
find-last own [] last other = ap (λ b. cond b (Some last) None) other
find-last own (x ∷ xs) last other = ap (cond (own x) (Some x)) (find-last own xs last other)

-- ---- without one that each row passes

list_all-less : {X : Type 0} (test : X → Bool) (xs : List X) (place : ℕ) (d : X) → test (get_or xs place d) ≡ true → list_all test (remove xs place) ≡ list_all test xs
list_all-less test [] zero d passed = refl
list_all-less test [] (suc place) d passed = refl
list_all-less test (x ∷ xs) zero d passed = ap (λ b. b && list_all test xs) (sym passed)
list_all-less test (x ∷ xs) (suc place) d passed = ap (λ b. test x && b) (list_all-less test xs place d passed)

others-less : {X : Type 0} (test own : X → Bool) (xs : List X) (place : ℕ) (d : X) → test (get_or xs place d) ≡ true → own (get_or xs place d) ≡ false → others test own (remove xs place) ≡ others test own xs
others-less test own [] zero d passed other = refl
others-less test own [] (suc place) d passed other = refl
others-less test own (x ∷ xs) zero d passed other = rw (other, passed) refl
others-less test own (x ∷ xs) (suc place) d passed other = (λ i. cond (own x) (list_all-less test xs place d passed i) (test x && others-less test own xs place d passed other i))

find-less : {X : Type 0} (own : X → Bool) (xs : List X) (place : ℕ) (d : X) → own (get_or xs place d) ≡ false → find own (remove xs place) ≡ find own xs
find-less own [] zero d other = refl
find-less own [] (suc place) d other = refl
find-less own (x ∷ xs) zero d other = rw other refl
find-less own (x ∷ xs) (suc place) d other = ap (cond (own x) (Some x)) (find-less own xs place d other)

-- ---- a dimension without a filter comes

-- groups of live dimensions hold the entries of a state with one dimension more at the end, which has no filter and another id
pub holds-with_last : {A G P R V M : Type 0} (keys_of : A → List Cell → List Key) (says : P → Key → Bool) (rounded : G → Key → Key) (meaning_of : V → M) (folding : R → Reducer (List Cell) M) (state more : State A G P R) (last : LiveDimension A P) (groups : List (Grouping G (Grouped R V)))
    → more.dimensions ≡ state.dimensions ++ last ∷ [] → more.rows ≡ state.rows → last.filter ≡ All → is_taken (dimension_ids state.dimensions) last.id ≡ false
    → AllByRecursion (λ group. is_taken (dimension_ids state.dimensions) group.dimension ≡ true) (live_groups groups)
    → AllByRecursion (HoldsGroupOf keys_of says rounded meaning_of folding state) groups
    → AllByRecursion (HoldsGroupOf keys_of says rounded meaning_of folding more) groups
holds-with_last keys_of says rounded meaning_of folding state more last [] one_more same_rows free fresh live all = tt
holds-with_last {A} {G} {P} keys_of says rounded meaning_of folding state more last (group ∷ groups) one_more same_rows free fresh live all =
    let own : LiveDimension A P → Bool = has_id group.dimension.0 in
    let longer : List (LiveDimension A P) = state.dimensions ++ last ∷ [] in
    let other : own last ≡ false = apart last.id group.dimension.0 (dimension_ids state.dimensions) fresh live.0 in (
      (
        all.0.0
            ∙ ap (λ found. places_under keys_of (rounded group.rounding) found state.rows) (sym (find-last own state.dimensions last other))
            ∙ ap (λ ds. places_under keys_of (rounded group.rounding) (find own ds) state.rows) (sym one_more)
            ∙ ap (places_under keys_of (rounded group.rounding) (find own more.dimensions)) (sym same_rows),
        all.0.1
            ∙ entries-alike keys_of says state.dimensions longer state.rows (rounded group.rounding) (folding group.group.reducer) own
            (find-last own state.dimensions last other)
            (λ row. others-last (passes_live keys_of says row) own state.dimensions last (unfiltered-passes keys_of says row last free))
            ∙ ap (λ ds. entries_under keys_of says ds state.rows (rounded group.rounding) (folding group.group.reducer) (position own ds)) (sym one_more)
            ∙ ap (λ rs. entries_under keys_of says more.dimensions rs (rounded group.rounding) (folding group.group.reducer) (position own more.dimensions)) (sym same_rows),
      ),
      holds-with_last keys_of says rounded meaning_of folding state more last groups one_more same_rows free fresh live.1 all.1,
    )

-- wholes keep their values
pub values-with_last : {A G P R V M : Type 0} (keys_of : A → List Cell → List Key) (says : P → Key → Bool) (meaning_of : V → M) (folding : R → Reducer (List Cell) M) (state more : State A G P R) (last : LiveDimension A P) (wholes : List (Whole R V))
    → more.dimensions ≡ state.dimensions ++ last ∷ [] → more.rows ≡ state.rows → last.filter ≡ All
    → AllByRecursion (HoldsWholeOf keys_of says meaning_of folding state) wholes
    → AllByRecursion (HoldsWholeOf keys_of says meaning_of folding more) wholes
values-with_last {A} {G} {P} keys_of says meaning_of folding state more last wholes one_more same_rows free =
    let longer : List (LiveDimension A P) = state.dimensions ++ last ∷ [] in
    all-then (HoldsWholeOf keys_of says meaning_of folding state) (HoldsWholeOf keys_of says meaning_of folding more)
    (λ held holds. holds
    ∙ whole-alike keys_of says state.dimensions longer state.rows (folding held.reducer) (λ row. list_all-last (passes_live keys_of says row) state.dimensions last (unfiltered-passes keys_of says row last free))
    ∙ ap (λ ds. whole_value (folding held.reducer) (dimensions_of keys_of says ds) state.rows) (sym one_more)
    ∙ ap (λ rs. whole_value (folding held.reducer) (dimensions_of keys_of says more.dimensions) rs) (sym same_rows))
    wholes

-- so it is of the state with a dimension more
pub holds-with_dimension : {A G P R V M : Type 0} (keys_of : A → List Cell → List Key) (says : P → Key → Bool) (rounded : G → Key → Key) (meaning_of : V → M) (folding : R → Reducer (List Cell) M) (state : State A G P R) (id : ℕ) (accessor : A) (groups : List (Grouping G (Grouped R V)))
    → is_taken (dimension_ids state.dimensions) id ≡ false
    → AllByRecursion (λ group. is_taken (dimension_ids state.dimensions) group.dimension ≡ true) (live_groups groups)
    → AllByRecursion (HoldsGroupOf keys_of says rounded meaning_of folding state) groups
    → AllByRecursion (HoldsGroupOf keys_of says rounded meaning_of folding (with_dimension state id accessor)) groups
holds-with_dimension keys_of says rounded meaning_of folding state id accessor groups fresh =
    holds-with_last keys_of says rounded meaning_of folding state (with_dimension state id accessor) (record { id = id; accessor = accessor; filter = All }) groups refl refl refl fresh

pub values-with_dimension : {A G P R V M : Type 0} (keys_of : A → List Cell → List Key) (says : P → Key → Bool) (meaning_of : V → M) (folding : R → Reducer (List Cell) M) (state : State A G P R) (id : ℕ) (accessor : A) (wholes : List (Whole R V))
    → AllByRecursion (HoldsWholeOf keys_of says meaning_of folding state) wholes
    → AllByRecursion (HoldsWholeOf keys_of says meaning_of folding (with_dimension state id accessor)) wholes
values-with_dimension keys_of says meaning_of folding state id accessor wholes =
    values-with_last keys_of says meaning_of folding state (with_dimension state id accessor) (record { id = id; accessor = accessor; filter = All }) wholes refl refl refl

-- ---- a dimension without a filter goes

same-number : (a b : ℕ) → (a == b) ≡ true → a ≡ b
same-number a b same = grind (arith, nat_tests, same)

turned : (a b : ℕ) → (a == b) ≡ false → (b == a) ≡ false
turned a b apart = grind (arith, nat_tests, apart)

-- groups of other dimensions hold the entries of a state without the dimension at a place, which has no filter
pub holds-without_place : {A G P R V M : Type 0} (keys_of : A → List Cell → List Key) (says : P → Key → Bool) (rounded : G → Key → Key) (meaning_of : V → M) (folding : R → Reducer (List Cell) M) (state less : State A G P R) (id place : ℕ) (d : LiveDimension A P) (groups : List (Grouping G (Grouped R V)))
    → less.dimensions ≡ remove state.dimensions place → less.rows ≡ state.rows → (get_or state.dimensions place d).id ≡ id → (get_or state.dimensions place d).filter ≡ All
    → AllByRecursion (HoldsGroupOf keys_of says rounded meaning_of folding state) groups
    → AllByRecursion (HoldsGroupOf keys_of says rounded meaning_of folding less) (filter (is_elsewhere id) groups)
holds-without_place keys_of says rounded meaning_of folding state less id place d [] one_less same_rows here free all = tt
holds-without_place {A} {G} {P} keys_of says rounded meaning_of folding state less id place d (group ∷ groups) one_less same_rows here free all =
    keep (group.dimension.0 == id) refl (holds-without_place keys_of says rounded meaning_of folding state less id place d groups one_less same_rows here free all.1)
  where
    own : LiveDimension A P → Bool
    own = has_id group.dimension.0

    keep : (b : Bool) → (group.dimension.0 == id) ≡ b → AllByRecursion (HoldsGroupOf keys_of says rounded meaning_of folding less) (filter (is_elsewhere id) groups) → AllByRecursion (HoldsGroupOf keys_of says rounded meaning_of folding less) (cond (not b) (group ∷ filter (is_elsewhere id) groups) (filter (is_elsewhere id) groups))
    keep true same rest = rest
    keep false elsewhere rest =
        let other : own (get_or state.dimensions place d) ≡ false = ap (λ n. n == group.dimension.0) here ∙ turned group.dimension.0 id elsewhere in (
          (
            all.0.0
                ∙ ap (λ found. places_under keys_of (rounded group.rounding) found state.rows) (sym (find-less own state.dimensions place d other))
                ∙ ap (λ ds. places_under keys_of (rounded group.rounding) (find own ds) state.rows) (sym one_less)
                ∙ ap (places_under keys_of (rounded group.rounding) (find own less.dimensions)) (sym same_rows),
            all.0.1
                ∙ entries-alike keys_of says state.dimensions (remove state.dimensions place) state.rows (rounded group.rounding) (folding group.group.reducer) own
                (find-less own state.dimensions place d other)
                (λ row. others-less (passes_live keys_of says row) own state.dimensions place d (unfiltered-passes keys_of says row (get_or state.dimensions place d) free) other)
                ∙ ap (λ ds. entries_under keys_of says ds state.rows (rounded group.rounding) (folding group.group.reducer) (position own ds)) (sym one_less)
                ∙ ap (λ rs. entries_under keys_of says less.dimensions rs (rounded group.rounding) (folding group.group.reducer) (position own less.dimensions)) (sym same_rows),
          ),
          rest,
        )

pub values-without_place : {A G P R V M : Type 0} (keys_of : A → List Cell → List Key) (says : P → Key → Bool) (meaning_of : V → M) (folding : R → Reducer (List Cell) M) (state less : State A G P R) (place : ℕ) (d : LiveDimension A P) (wholes : List (Whole R V))
    → less.dimensions ≡ remove state.dimensions place → less.rows ≡ state.rows → (get_or state.dimensions place d).filter ≡ All
    → AllByRecursion (HoldsWholeOf keys_of says meaning_of folding state) wholes
    → AllByRecursion (HoldsWholeOf keys_of says meaning_of folding less) wholes
values-without_place keys_of says meaning_of folding state less place d wholes one_less same_rows free =
    all-then (HoldsWholeOf keys_of says meaning_of folding state) (HoldsWholeOf keys_of says meaning_of folding less)
    (λ held holds. holds
    ∙ whole-alike keys_of says state.dimensions (remove state.dimensions place) state.rows (folding held.reducer) (λ row. list_all-less (passes_live keys_of says row) state.dimensions place d (unfiltered-passes keys_of says row (get_or state.dimensions place d) free))
    ∙ ap (λ ds. whole_value (folding held.reducer) (dimensions_of keys_of says ds) state.rows) (sym one_less)
    ∙ ap (λ rs. whole_value (folding held.reducer) (dimensions_of keys_of says less.dimensions) rs) (sym same_rows))
    wholes

-- so it is of the state without the dimension of an id
pub holds-without_dimension : {A G P R V M : Type 0} (keys_of : A → List Cell → List Key) (says : P → Key → Bool) (rounded : G → Key → Key) (meaning_of : V → M) (folding : R → Reducer (List Cell) M) (state : State A G P R) (id place : ℕ) (d : LiveDimension A P) (groups : List (Grouping G (Grouped R V)))
    → AreDistinct (dimension_ids state.dimensions) → dimension_place state id ≡ Some place → (get_or state.dimensions place d).filter ≡ All
    → AllByRecursion (HoldsGroupOf keys_of says rounded meaning_of folding state) groups
    → AllByRecursion (HoldsGroupOf keys_of says rounded meaning_of folding (without_dimension state id)) (filter (is_elsewhere id) groups)
holds-without_dimension {A} {G} {P} keys_of says rounded meaning_of folding state id place d groups distinct told free =
    let at = position-Some (has_id id) state.dimensions place d told in
    holds-without_place keys_of says rounded meaning_of folding state (without_dimension state id) id place d groups
    (filter-at (λ (live : LiveDimension A P). live.id) id state.dimensions place d distinct at.0 at.1) refl (same-number (get_or state.dimensions place d).id id at.1) free

pub values-without_dimension : {A G P R V M : Type 0} (keys_of : A → List Cell → List Key) (says : P → Key → Bool) (meaning_of : V → M) (folding : R → Reducer (List Cell) M) (state : State A G P R) (id place : ℕ) (d : LiveDimension A P) (wholes : List (Whole R V))
    → AreDistinct (dimension_ids state.dimensions) → dimension_place state id ≡ Some place → (get_or state.dimensions place d).filter ≡ All
    → AllByRecursion (HoldsWholeOf keys_of says meaning_of folding state) wholes
    → AllByRecursion (HoldsWholeOf keys_of says meaning_of folding (without_dimension state id)) wholes
values-without_dimension {A} {G} {P} keys_of says meaning_of folding state id place d wholes distinct told free =
    let at = position-Some (has_id id) state.dimensions place d told in
    values-without_place keys_of says meaning_of folding state (without_dimension state id) place d wholes
    (filter-at (λ (live : LiveDimension A P). live.id) id state.dimensions place d distinct at.0 at.1) refl free
