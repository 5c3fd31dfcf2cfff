-- The places that a crossfilter lists are places of its rows.
use Rattle.std.proofs.Common.{◌≡◌, ℕ, ◌+◌, ◌<◌, ◌≤◌, Bool, true, false, cond, List, [], ◌∷◌, drop, filter, flat_map, length, map, reverse, take, Option, Some, None, option_map, subst, sym, arith}
use Rattle.std.specs.List.{AllByRecursion, enumerate_from}
use Rattle.std.specs.declared.cmp.Ordering.{Ordering}
use Rattle.std.proofs.lemmas.Grind.{reverse_onto}
use Rattle.xf_base.specs.Key.{key_cmp}
use Rattle.xf_base.specs.declared.cell.Cell.{Cell}
use Rattle.xf_base.specs.declared.key.Key.{Key}
use Rattle.xf_engine.proofs.Passes.{all-drop, all-take}
use Rattle.xf_engine.specs.Answers.{all_filtered_of, bottom_of, top_of}
use Rattle.xf_engine.specs.State.{LiveDimension, State, dimension_named, dimension_of, dimensions_of}
use Rattle.xf_model.proofs.AscendingKeys.{all-distinct_keys}
use Rattle.xf_model.specs.Bottom.{bottom, pair_cmp, pairs_of, places_of, row_pairs, top}
use Rattle.xf_model.specs.Dimension.{Dimension, passes_each}
use Rattle.xf_table.proofs.Refusals.{all-append}

-- places below a limit
abbrev pub AreBelow : ℕ → List ℕ → Type 0
AreBelow limit places = AllByRecursion (λ place. place < limit) places

-- what holds of each item of a list holds of what is made of it
all-map : {X Y : Type 0} (P : Y → Type 0) (f : X → Y) (xs : List X) → AllByRecursion (λ x. P (f x)) xs → AllByRecursion P (map f xs)
all-map P f [] all = tt
all-map P f (x ∷ xs) all = (all.0, all-map P f xs all.1)

all-reverse : {X : Type 0} (P : X → Type 0) (xs : List X) → AllByRecursion P xs → AllByRecursion P (reverse xs)
all-reverse P [] all = tt
all-reverse P (x ∷ xs) all = subst (AllByRecursion P) (sym (reverse_onto xs x [])) (all-append P (reverse xs) (x ∷ []) (all-reverse P xs all.1) (all.0, tt))

-- ---- the rows that pass

placed-more : {Row : Type 0} (limit start : ℕ) (row : Row) (passes : Bool) (later : List (ℕ × Row)) → start < limit → AllByRecursion (λ (at : ℕ × Row). at.0 < limit) later
    → AllByRecursion (λ (at : ℕ × Row). at.0 < limit) (cond passes ((start, row) ∷ later) later)
placed-more limit start row true later below all = (below, all)
placed-more limit start row false later below all = all

placed-below : {Row : Type 0} (test : Row → Bool) (limit start : ℕ) (rows : List Row) → start + length rows ≤ limit
    → AllByRecursion (λ (at : ℕ × Row). at.0 < limit) (filter (λ (at : ℕ × Row). test at.1) (enumerate_from start rows))
placed-below test limit start [] few = tt
placed-below test limit start (row ∷ rows) few = placed-more limit start row (test row) (filter (λ at. test at.1) (enumerate_from (start + 1) rows)) (omega arith) (placed-below test limit (start + 1) rows (omega arith))

pub all_filtered-below : {A G P R : Type 0} (keys_of : A → List Cell → List Key) (says : P → Key → Bool) (state : State A G P R) (ignored : List ℕ)
    → AreBelow (length state.rows) (all_filtered_of keys_of says state ignored)
all_filtered-below keys_of says state ignored =
    all-map (λ place. place < length state.rows) (λ (at : ℕ × List Cell). at.0) _ (placed-below _ (length state.rows) 0 state.rows (omega arith))

-- ---- the rows with the least and the greatest keys

row_pairs-below : {Row Key : Type 0} (dimensions : List (Dimension Row Key)) (own : Dimension Row Key) (limit place : ℕ) (row : Row) (passes : Bool) (keys : List Key) → place < limit
    → AllByRecursion (λ (pair : Key × ℕ). pair.1 < limit) (cond passes (map (λ key. (key, place)) keys) [])
row_pairs-below dimensions own limit place row true [] below = tt
row_pairs-below dimensions own limit place row true (key ∷ keys) below = (below, row_pairs-below dimensions own limit place row true keys below)
row_pairs-below dimensions own limit place row false keys below = tt

pairs-below : {Row Key : Type 0} (dimensions : List (Dimension Row Key)) (own : Dimension Row Key) (limit start : ℕ) (rows : List Row) → start + length rows ≤ limit
    → AllByRecursion (λ (pair : Key × ℕ). pair.1 < limit) (flat_map (row_pairs dimensions own) (enumerate_from start rows))
pairs-below dimensions own limit start [] few = tt
pairs-below dimensions own limit start (row ∷ rows) few =
    all-append (λ pair. pair.1 < limit) (row_pairs dimensions own (start, row)) _
    (row_pairs-below dimensions own limit start row (passes_each dimensions row) (filter own.chosen.holds (own.keys row)) (omega arith))
    (pairs-below dimensions own limit (start + 1) rows (omega arith))

bottom-below : {Row Key : Type 0} (cmp : Key → Key → Ordering) (dimensions : List (Dimension Row Key)) (own : Dimension Row Key) (rows : List Row)
    → AllByRecursion (λ (pair : Key × ℕ). pair.1 < length rows) (bottom cmp dimensions own rows)
bottom-below cmp dimensions own rows =
    all-distinct_keys (pair_cmp cmp) (λ pair. pair.1 < length rows) (pairs_of dimensions own rows) (pairs-below dimensions own (length rows) 0 rows (omega arith))

places-below : {Key : Type 0} (limit k offset : ℕ) (pairs : List (Key × ℕ)) → AllByRecursion (λ (pair : Key × ℕ). pair.1 < limit) pairs → AreBelow limit (places_of k offset pairs)
places-below {Key = Key} limit k offset pairs all =
    let P : Key × ℕ → Type 0 = λ pair. pair.1 < limit in
    all-map (λ place. place < limit) (λ (pair : Key × ℕ). pair.1) (take k (drop offset pairs)) (all-take P k (drop offset pairs) (all-drop P offset pairs all))

-- those that are told of a dimension that may not be live
bottom_for-below : {A P : Type 0} (keys_of : A → List Cell → List Key) (says : P → Key → Bool) (lives : List (LiveDimension A P)) (rows : List (List Cell)) (k offset : ℕ) (found : Option (LiveDimension A P)) (places : List ℕ)
    → option_map (λ live. places_of k offset (bottom key_cmp (dimensions_of keys_of says lives) (dimension_of keys_of says live) rows)) found ≡ Some places → AreBelow (length rows) places
bottom_for-below keys_of says lives rows k offset (Some live) places is =
    subst (AreBelow (length rows)) (cc is) (places-below (length rows) k offset (bottom key_cmp (dimensions_of keys_of says lives) (dimension_of keys_of says live) rows) (bottom-below key_cmp (dimensions_of keys_of says lives) (dimension_of keys_of says live) rows))
bottom_for-below keys_of says lives rows k offset None places is = absurd (cc is)

pub bottom-listed : {A G P R : Type 0} (keys_of : A → List Cell → List Key) (says : P → Key → Bool) (state : State A G P R) (id k offset : ℕ) (places : List ℕ)
    → bottom_of keys_of says state id k offset ≡ Some places → AreBelow (length state.rows) places
bottom-listed keys_of says state id k offset places is = bottom_for-below keys_of says state.dimensions state.rows k offset (dimension_named state id) places is

top_for-below : {A P : Type 0} (keys_of : A → List Cell → List Key) (says : P → Key → Bool) (lives : List (LiveDimension A P)) (rows : List (List Cell)) (k offset : ℕ) (found : Option (LiveDimension A P)) (places : List ℕ)
    → option_map (λ live. places_of k offset (top key_cmp (dimensions_of keys_of says lives) (dimension_of keys_of says live) rows)) found ≡ Some places → AreBelow (length rows) places
top_for-below keys_of says lives rows k offset (Some live) places is =
    let pairs = bottom key_cmp (dimensions_of keys_of says lives) (dimension_of keys_of says live) rows in
    subst (AreBelow (length rows)) (cc is) (places-below (length rows) k offset (reverse pairs) (all-reverse (λ (pair : Key × ℕ). pair.1 < length rows) pairs (bottom-below key_cmp (dimensions_of keys_of says lives) (dimension_of keys_of says live) rows)))
top_for-below keys_of says lives rows k offset None places is = absurd (cc is)

pub top-listed : {A G P R : Type 0} (keys_of : A → List Cell → List Key) (says : P → Key → Bool) (state : State A G P R) (id k offset : ℕ) (places : List ℕ)
    → top_of keys_of says state id k offset ≡ Some places → AreBelow (length state.rows) places
top-listed keys_of says state id k offset places is = top_for-below keys_of says state.dimensions state.rows k offset (dimension_named state id) places is
