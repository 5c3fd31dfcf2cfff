-- Pairs of keys and places: their order, and what `bottom` is of them.
use Rattle.std.proofs.Common.{◌≡◌, ◌↔◌, ℕ, ◌+◌, ◌<◌, List, [], ◌∷◌, ◌++◌, get_or, length, map, take, refl, ap, ◌∙◌, arith}
use Rattle.std.proofs.lemmas.Bool.{true≢false}
use Rattle.std.proofs.lemmas.Cmp.{nat_cmp_total}
use Rattle.std.proofs.lemmas.Grind.{flat_map-append}
use Rattle.std.proofs.lemmas.List.{append-nil, length-map, length-take-le, map-append, take_more}
use Rattle.std.specs.Cmp.{IsTotalOrder, on_total, then_total}
use Rattle.std.specs.FinMap.{IsAntisymmetric, nat_cmp-IsAntisymmetric}
use Rattle.std.specs.List.{Contains, enumerate_from, flat_map}
use Rattle.std.specs.List.Sorted.{IsStrictlySortedBy, IsPermutation}
use Rattle.std.specs.Ordering.{is_gt, is_lt, nat_cmp, ordering_then}
use Rattle.std.specs.declared.cmp.Ordering.{Ordering}
use Rattle.std.specs.declared.cmp.Ordering.TheVariants.{Less, Equal, Greater}
use Rattle.xf_model.specs.Bottom.{bottom, pair_cmp, pairs_of, row_pairs}
use Rattle.xf_model.specs.Dimension.{Dimension}
use Rattle.xf_model.proofs.AscendingKeys.{Contains-distinct_keys_iff, distinct_keys-from_members, distinct_keys-from_permutation, sorted-distinct_keys}

-- pairs are ordered totally where their keys are
pub pair_cmp-total : {Key : Type 0} {cmp : Key → Key → Ordering} → IsTotalOrder cmp → IsTotalOrder (pair_cmp cmp)
pair_cmp-total {Key} {cmp} order = then_total (on_total (λ (pair : Key × ℕ). pair.0) order) (on_total (λ (pair : Key × ℕ). pair.1) nat_cmp_total)

both_equal : (first second : Ordering) → ordering_then first second ≡ Equal → (first ≡ Equal) × (second ≡ Equal)
both_equal Less second tied = absurd (true≢false (ap is_lt tied))
both_equal Equal second tied = (refl, tied)
both_equal Greater second tied = absurd (true≢false (ap is_gt tied))

-- only equal pairs tie where only equal keys do
pub pair_cmp-antisymmetric : {Key : Type 0} {cmp : Key → Key → Ordering} → IsAntisymmetric cmp → IsAntisymmetric (pair_cmp cmp)
pair_cmp-antisymmetric {Key} {cmp} exact one other tied =
    let both = both_equal (cmp one.0 other.0) (nat_cmp one.1 other.1) tied in
    let key : one.0 ≡ other.0 = exact one.0 other.0 both.0 in
    let place : one.1 ≡ other.1 = nat_cmp-IsAntisymmetric one.1 other.1 both.1 in
    λ i. (key i, place i)

-- the pairs of `bottom` ascend strictly
pub sorted-bottom : {Row Key : Type 0} {cmp : Key → Key → Ordering} → IsTotalOrder cmp → (dimensions : List (Dimension Row Key)) (own : Dimension Row Key) (rows : List Row) → IsStrictlySortedBy (pair_cmp cmp) (bottom cmp dimensions own rows)
sorted-bottom order dimensions own rows = sorted-distinct_keys (pair_cmp-total order) (pairs_of dimensions own rows)

-- they are the pairs of the selected rows
pub Contains-bottom : {Row Key : Type 0} {cmp : Key → Key → Ordering} → IsTotalOrder cmp → IsAntisymmetric cmp → (dimensions : List (Dimension Row Key)) (own : Dimension Row Key) (rows : List Row) (pair : Key × ℕ) → Contains (bottom cmp dimensions own rows) pair ↔ Contains (pairs_of dimensions own rows) pair
Contains-bottom order exact dimensions own rows pair = Contains-distinct_keys_iff (pair_cmp-total order) (pair_cmp-antisymmetric exact) (pairs_of dimensions own rows) pair

-- strictly ascending pairs are those of `bottom` where they are the pairs of the selected rows
pub bottom-from_members : {Row Key : Type 0} {cmp : Key → Key → Ordering} → IsTotalOrder cmp → IsAntisymmetric cmp → (dimensions : List (Dimension Row Key)) (own : Dimension Row Key) (rows : List Row) (found : List (Key × ℕ)) → IsStrictlySortedBy (pair_cmp cmp) found → ((pair : Key × ℕ) → Contains found pair ↔ Contains (pairs_of dimensions own rows) pair) → found ≡ bottom cmp dimensions own rows
bottom-from_members order exact dimensions own rows found sorted same =
    distinct_keys-from_members (pair_cmp-total order) (pair_cmp-antisymmetric exact) (pairs_of dimensions own rows) found sorted same

-- so are they where they are those pairs in another order
pub bottom-from_permutation : {Row Key : Type 0} {cmp : Key → Key → Ordering} → IsTotalOrder cmp → IsAntisymmetric cmp → (dimensions : List (Dimension Row Key)) (own : Dimension Row Key) (rows : List Row) (found : List (Key × ℕ)) → IsStrictlySortedBy (pair_cmp cmp) found → IsPermutation (pairs_of dimensions own rows) found → found ≡ bottom cmp dimensions own rows
bottom-from_permutation order exact dimensions own rows found sorted moved =
    distinct_keys-from_permutation (pair_cmp-total order) (pair_cmp-antisymmetric exact) (pairs_of dimensions own rows) found sorted moved

enumerate_from-push : {X : Type 0} (start : ℕ) (xs : List X) (x : X) → enumerate_from start (xs ++ x ∷ []) ≡ enumerate_from start xs ++ (start + length xs, x) ∷ []
enumerate_from-push start [] x = let same : start ≡ start + 0 = omega arith in ap (λ n. (n, x) ∷ []) same
enumerate_from-push start (y ∷ ys) x =
    let same : (start + 1) + length ys ≡ start + length (y ∷ ys) = omega arith in
    ap (λ rest. (start, y) ∷ rest) (enumerate_from-push (start + 1) ys x ∙ ap (λ n. enumerate_from (start + 1) ys ++ (n, x) ∷ []) same)

-- one row more adds its own pairs, under the next place
pub pairs_of-push : {Row Key : Type 0} (dimensions : List (Dimension Row Key)) (own : Dimension Row Key) (rows : List Row) (row : Row) → pairs_of dimensions own (rows ++ row ∷ []) ≡ pairs_of dimensions own rows ++ row_pairs dimensions own (length rows, row)
pairs_of-push dimensions own rows row =
    let same : 0 + length rows ≡ length rows = omega arith in
    ap (flat_map (row_pairs dimensions own)) (enumerate_from-push 0 rows row ∙ ap (λ n. enumerate_from 0 rows ++ (n, row) ∷ []) same)
    ∙ flat_map-append (row_pairs dimensions own) (enumerate_from 0 rows) ((length rows, row) ∷ [])
    ∙ ap (λ last. pairs_of dimensions own rows ++ last) (append-nil (row_pairs dimensions own (length rows, row)))

-- the same for the rows up to a place, seen by a function
pub pairs_of-take : {Stored Row Key : Type 0} (dimensions : List (Dimension Row Key)) (own : Dimension Row Key) (rows : List Stored) (see : Stored → Row) (place : ℕ) (d : Stored) → place < length rows → pairs_of dimensions own (map see (take (place + 1) rows)) ≡ pairs_of dimensions own (map see (take place rows)) ++ row_pairs dimensions own (place, see (get_or rows place d))
pairs_of-take dimensions own rows see place d within =
    let seen : map see (take (place + 1) rows) ≡ map see (take place rows) ++ see (get_or rows place d) ∷ [] = ap (map see) (take_more rows place d within) ∙ map-append see (take place rows) (get_or rows place d ∷ []) in
    let many : length (map see (take place rows)) ≡ place = length-map (take place rows) see ∙ length-take-le place rows (omega arith) in
    ap (pairs_of dimensions own) seen
    ∙ pairs_of-push dimensions own (map see (take place rows)) (see (get_or rows place d))
    ∙ ap (λ n. pairs_of dimensions own (map see (take place rows)) ++ row_pairs dimensions own (n, see (get_or rows place d))) many
