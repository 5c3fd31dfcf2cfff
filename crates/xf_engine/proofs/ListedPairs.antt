-- A listing's pairs, by the keys that dimensions hold, are those of the definitions.
use Rattle.std.proofs.Common.{◌≡◌, ℕ, ◌+◌, Bool, true, false, cond, List, [], ◌∷◌, ◌++◌, Bor, Some, map, take, drop, reverse, length, slice_get, unwrap_or, refl, sym, ap, subst, ◌∙◌, arith}
use Rattle.std.proofs.lemmas.List.{append-nil}
use mathlib.Core.List.{reverse_aux}
use Rattle.std.proofs.lemmas.List.Sorted.{IsPermutation-map}
use Rattle.std.specs.List.{AllByRecursion, drop-map, filter, flat_map, range_with_len, take-map}
use Rattle.std.specs.List.Sorted.{IsPermutation, IsSorted, IsStrictlySortedBy}
use Rattle.std.specs.Ordering.{nat_cmp, ordering_then}
use Rattle.xf_base.specs.Key.{key_cmp}
use Rattle.xf_base.specs.KeyOrder.{key_cmp_total}
use Rattle.xf_base.specs.declared.cell.Cell.{Cell}
use Rattle.xf_base.specs.declared.key.Key.{Key}
use Rattle.xf_base.proofs.EqualKeys.{key_cmp-equal}
use Rattle.xf_engine.specs.Held.{HoldsKeysOf, keys_at, live_dimension, live_dimensions, passes_each_at}
use Rattle.xf_engine.specs.Listing.{pairs_at, told}
use Rattle.xf_engine.specs.State.{dimension_of, dimensions_of}
use Rattle.xf_engine.specs.declared.dimension.Dimension.{Dimension}
use Rattle.xf_engine.proofs.Passes.{keys_at-row, passes_each_at-row}
use Rattle.xf_engine.proofs.Places.{flat_map-places, flat_map-range_next}
use Rattle.xf_engine.proofs.SortedPairs.{bottom-from_rising, rising_from_sorted}
use Rattle.xf_filter.specs.Filter.{filter_of}
use Rattle.xf_model.specs.Bottom.{bottom, pairs_of, places_of, row_pairs}
use Rattle.xf_model.specs.Dimension.{passes_each}
use Rattle.xf_model.proofs.BottomPairs.{pair_cmp-total}

-- the pairs of a place are those of the row there
pairs_at-row : {A P : Type 0} (keys_of : A → List Cell → List Key) (says : P → Key → Bool) (rows : List (List Cell)) (dimensions : List (Dimension A P)) (own : Dimension A P) (place : ℕ) (row : List Cell) → AllByRecursion (HoldsKeysOf keys_of rows) dimensions → HoldsKeysOf keys_of rows own → slice_get rows place ≡ Some row → pairs_at says dimensions own place ≡ row_pairs (dimensions_of keys_of says (live_dimensions dimensions)) (dimension_of keys_of says (live_dimension own)) (place, row)
pairs_at-row keys_of says rows dimensions own place row each holds there =
    let pairs : List Key → List (Key × ℕ) = λ keys. map (λ key. (key, place)) (filter (filter_of says own.filter).holds keys) in
    ap (λ passes. cond passes (pairs (keys_at own place)) []) (passes_each_at-row keys_of says rows dimensions place row each there)
    ∙ ap (λ keys. cond (passes_each (dimensions_of keys_of says (live_dimensions dimensions)) row) (pairs keys) []) (keys_at-row keys_of rows own place row holds there)

-- the pairs of all places are those of all rows
pub pairs_at-rows : {A P : Type 0} (keys_of : A → List Cell → List Key) (says : P → Key → Bool) (rows : List (List Cell)) (dimensions : List (Dimension A P)) (own : Dimension A P) → AllByRecursion (HoldsKeysOf keys_of rows) dimensions → HoldsKeysOf keys_of rows own → flat_map (pairs_at says dimensions own) (range_with_len 0 (length rows)) ≡ pairs_of (dimensions_of keys_of says (live_dimensions dimensions)) (dimension_of keys_of says (live_dimension own)) rows
pairs_at-rows keys_of says rows dimensions own each holds =
    flat_map-places (pairs_at says dimensions own) (row_pairs (dimensions_of keys_of says (live_dimensions dimensions)) (dimension_of keys_of says (live_dimension own))) 0 rows
    (λ i row there. let here : i ≡ 0 + i = omega arith in
    subst (λ n. pairs_at says dimensions own n ≡ row_pairs (dimensions_of keys_of says (live_dimensions dimensions)) (dimension_of keys_of says (live_dimension own)) (n, row)) here (pairs_at-row keys_of says rows dimensions own i row each holds there))

-- sorted, they are those of `bottom`
pub bottom-from_sorted : {A P : Type 0} (keys_of : A → List Cell → List Key) (says : P → Key → Bool) (rows : List (List Cell)) (dimensions : List (Dimension A P)) (own : Dimension A P) (found sorted : List (Bor Key × ℕ)) → AllByRecursion (HoldsKeysOf keys_of rows) dimensions → HoldsKeysOf keys_of rows own → AllByRecursion (λ row. IsStrictlySortedBy key_cmp (keys_of own.accessor row)) rows → told found ≡ flat_map (pairs_at says dimensions own) (range_with_len 0 (length rows)) → IsPermutation found sorted → IsSorted (λ x y. ordering_then (key_cmp x.0.now y.0.now) (nat_cmp x.1 y.1)) sorted → told sorted ≡ bottom key_cmp (dimensions_of keys_of says (live_dimensions dimensions)) (dimension_of keys_of says (live_dimension own)) rows
bottom-from_sorted keys_of says rows dimensions own found sorted each holds ascending collected moved rising =
    let pair : Bor Key × ℕ → Key × ℕ = λ pair. (pair.0.now, pair.1) in
    let all = collected ∙ pairs_at-rows keys_of says rows dimensions own each holds in
    bottom-from_rising key_cmp_total key_cmp-equal (dimensions_of keys_of says (live_dimensions dimensions)) (dimension_of keys_of says (live_dimension own)) rows (told sorted) ascending
    (subst (λ pairs. IsPermutation pairs (told sorted)) all (IsPermutation-map pair found sorted moved))
    (rising_from_sorted (pair_cmp-total key_cmp_total) pair sorted rising)

-- the pairs of a row
abbrev pairs_under : {A P : Type 0} → (P → Key → Bool) → Dimension A P → ℕ → List Key → List (Key × ℕ)
pairs_under says own place keys = map (λ key. (key, place)) (filter (filter_of says own.filter).holds keys)

-- one place more that passes
pub told-passing : {A P : Type 0} (says : P → Key → Bool) (dimensions : List (Dimension A P)) (own : Dimension A P) (place : ℕ) (keys : List Key) (before after : List (Bor Key × ℕ)) → passes_each_at says dimensions place ≡ true → Some keys ≡ slice_get own.keys place → told before ≡ flat_map (pairs_at says dimensions own) (range_with_len 0 place) → told after ≡ told before ++ map (λ key. (key, place)) (filter (filter_of says own.filter).holds keys) → told after ≡ flat_map (pairs_at says dimensions own) (range_with_len 0 (place + 1))
told-passing says dimensions own place keys before after passing there so_far pushed =
    let here : pairs_under says own place keys ≡ pairs_at says dimensions own place =
    ap (pairs_under says own place) (ap (λ found. unwrap_or found []) there) ∙ ap (λ b. cond b (pairs_under says own place (keys_at own place)) []) (sym passing) in
    pushed ∙ ap (λ front. front ++ pairs_under says own place keys) so_far ∙ ap (λ last. flat_map (pairs_at says dimensions own) (range_with_len 0 place) ++ last) here ∙ sym (flat_map-range_next (pairs_at says dimensions own) place)

-- one place more that does not
pub told-failing : {A P : Type 0} (says : P → Key → Bool) (dimensions : List (Dimension A P)) (own : Dimension A P) (place : ℕ) (before : List (Bor Key × ℕ)) → passes_each_at says dimensions place ≡ false → told before ≡ flat_map (pairs_at says dimensions own) (range_with_len 0 place) → told before ≡ flat_map (pairs_at says dimensions own) (range_with_len 0 (place + 1))
told-failing says dimensions own place before failing so_far =
    let here : [] ≡ pairs_at says dimensions own place = ap (λ b. cond b (pairs_under says own place (keys_at own place)) []) (sym failing) in
    so_far ∙ sym (append-nil (flat_map (pairs_at says dimensions own) (range_with_len 0 place))) ∙ ap (λ last. flat_map (pairs_at says dimensions own) (range_with_len 0 place) ++ last) here ∙ sym (flat_map-range_next (pairs_at says dimensions own) place)

places_told : (pairs : List (Bor Key × ℕ)) → map (λ (pair : Bor Key × ℕ). pair.1) pairs ≡ map (λ (pair : Key × ℕ). pair.1) (told pairs)
places_told [] = refl
places_told (pair ∷ pairs) = ap (λ rest. pair.1 ∷ rest) (places_told pairs)

-- the places of the first pairs
pub places-first : (k offset : ℕ) (pairs : List (Bor Key × ℕ)) (all : List (Key × ℕ)) → told pairs ≡ all → map (λ (pair : Bor Key × ℕ). pair.1) (take k (drop offset pairs)) ≡ places_of k offset all
places-first k offset pairs all seen =
    let pair : Bor Key × ℕ → Key × ℕ = λ pair. (pair.0.now, pair.1) in
    places_told (take k (drop offset pairs))
    ∙ ap (map (λ (pair : Key × ℕ). pair.1)) (sym (take-map pair k (drop offset pairs)) ∙ ap (take k) (sym (drop-map pair offset pairs)))
    ∙ ap (places_of k offset) seen

reverse-told : (pairs done : List (Bor Key × ℕ)) → told (reverse_aux pairs done) ≡ reverse_aux (told pairs) (told done)
reverse-told [] done = refl
reverse-told (pair ∷ pairs) done = reverse-told pairs (pair ∷ done)

-- and of the last, backwards
pub places-last : (k offset : ℕ) (pairs : List (Bor Key × ℕ)) (all : List (Key × ℕ)) → told pairs ≡ all → map (λ (pair : Bor Key × ℕ). pair.1) (take k (drop offset (reverse pairs))) ≡ places_of k offset (reverse all)
places-last k offset pairs all seen = places-first k offset (reverse pairs) (reverse all) (reverse-told pairs [] ∙ ap reverse seen)
