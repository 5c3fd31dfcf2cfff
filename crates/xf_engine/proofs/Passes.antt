-- Rows that pass dimensions, by the keys that the dimensions hold.
use Rattle.std.proofs.Common.{◌≡◌, ℕ, zero, suc, ◌+◌, ◌-◌, ◌<◌, Bool, false, ◌&&◌, ◌||◌, List, [], ◌∷◌, Some, take, drop, length, get_or, slice_get, unwrap_or, refl, sym, ap, ◌∙◌, add-one, arith}
use Rattle.std.proofs.lemmas.List.{length-drop, length-map, take_all}
use Rattle.std.proofs.lemmas.List.Folds.{list_all-append}
use Rattle.std.proofs.lemmas.Option.{slice_get-map}
use Rattle.std.specs.List.{AllByRecursion, list_all, list_any, remove}
use Rattle.std.specs.Option.{option_map}
use Rattle.xf_base.specs.declared.cell.Cell.{Cell}
use Rattle.xf_base.specs.declared.key.Key.{Key}
use Rattle.xf_engine.specs.Held.{HoldEach, HoldsKeysOf, keys_at, live_dimension, live_dimensions, passes_at, passes_each_at}
use Rattle.xf_engine.specs.State.{dimension_of, dimensions_of}
use Rattle.xf_engine.specs.declared.dimension.Dimension.{Dimension}
use Rattle.xf_filter.specs.Filter.{filter_of}
use Rattle.xf_model.specs.Dimension.{passes, passes_each}

-- a test holds of all but one where it holds of those before and of those after
pub list_all-remove : {X : Type 0} (test : X → Bool) (xs : List X) (i : ℕ) → list_all test (remove xs i) ≡ (list_all test (take i xs) && list_all test (take (length xs - (i + 1)) (drop (i + 1) xs)))
list_all-remove test xs i =
    let rest : take (length xs - (i + 1)) (drop (i + 1) xs) ≡ drop (i + 1) xs = take_all (length xs - (i + 1)) (drop (i + 1) xs) (omega (arith, length-drop (i + 1) xs)) in
    rw (rest, list_all-append test (take i xs) (drop (suc i) xs), add-one i)

-- the keys that a dimension holds of a place are those of the row there
pub keys_at-row : {A P : Type 0} (keys_of : A → List Cell → List Key) (rows : List (List Cell)) (held : Dimension A P) (place : ℕ) (row : List Cell) → HoldsKeysOf keys_of rows held → slice_get rows place ≡ Some row → keys_at held place ≡ keys_of held.accessor row
keys_at-row keys_of rows held place row holds there =
    ap (λ keys. unwrap_or (slice_get keys place) []) holds
    ∙ ap (λ found. unwrap_or found []) (slice_get-map (keys_of held.accessor) rows place ∙ ap (option_map (keys_of held.accessor)) there)

-- so a place passes a dimension where its row does
pub passes_at-row : {A P : Type 0} (keys_of : A → List Cell → List Key) (says : P → Key → Bool) (rows : List (List Cell)) (held : Dimension A P) (place : ℕ) (row : List Cell) → HoldsKeysOf keys_of rows held → slice_get rows place ≡ Some row → passes_at says place held ≡ passes (dimension_of keys_of says (live_dimension held)) row
passes_at-row keys_of says rows held place row holds there =
    ap (λ keys. (filter_of says held.filter).is_all || list_any (filter_of says held.filter).holds keys) (keys_at-row keys_of rows held place row holds there)

-- and each dimension
pub passes_each_at-row : {A P : Type 0} (keys_of : A → List Cell → List Key) (says : P → Key → Bool) (rows : List (List Cell)) (held : List (Dimension A P)) (place : ℕ) (row : List Cell) → AllByRecursion (HoldsKeysOf keys_of rows) held → slice_get rows place ≡ Some row → passes_each_at says held place ≡ passes_each (dimensions_of keys_of says (live_dimensions held)) row
passes_each_at-row keys_of says rows [] place row hold there = refl
passes_each_at-row keys_of says rows (one ∷ held) place row hold there =
    let first : passes_at says place one ≡ passes (dimension_of keys_of says (live_dimension one)) row = passes_at-row keys_of says rows one place row hold.0 there in
    let rest : passes_each_at says held place ≡ passes_each (dimensions_of keys_of says (live_dimensions held)) row = passes_each_at-row keys_of says rows held place row hold.1 there in
    λ i. first i && rest i

-- where a filter is set a place passes where it holds for one of the keys that are held
pub passes_at-keys : {A P : Type 0} (says : P → Key → Bool) (held : Dimension A P) (place : ℕ) (keys : List Key) → (filter_of says held.filter).is_all ≡ false → Some keys ≡ slice_get held.keys place → list_any (filter_of says held.filter).holds keys ≡ passes_at says place held
passes_at-keys says held place keys set there =
    ap (λ own. list_any (filter_of says held.filter).holds own) (ap (λ found. unwrap_or found []) there)
    ∙ ap (λ b. b || list_any (filter_of says held.filter).holds (keys_at held place)) (sym set)

-- what holds of each holds of the first of them, of the others, and of the one at a place
pub all-take : {X : Type 0} (P : X → Type 0) (n : ℕ) (xs : List X) → AllByRecursion P xs → AllByRecursion P (take n xs)
all-take P zero xs all = tt
all-take P (suc n) [] all = tt
all-take P (suc n) (x ∷ xs) all = (all.0, all-take P n xs all.1)

pub all-drop : {X : Type 0} (P : X → Type 0) (n : ℕ) (xs : List X) → AllByRecursion P xs → AllByRecursion P (drop n xs)
all-drop P zero xs all = all
all-drop P (suc n) [] all = tt
all-drop P (suc n) (x ∷ xs) all = all-drop P n xs all.1

pub all-at : {X : Type 0} (P : X → Type 0) (xs : List X) (i : ℕ) (d : X) → i < length xs → AllByRecursion P xs → P (get_or xs i d)
all-at P [] i d within all = absurd (omega arith)
all-at P (x ∷ xs) zero d within all = all.0
all-at P (x ∷ xs) (suc i) d within all = all-at P xs i d (omega arith) all.1

-- each dimension holds the keys of as many rows as there are
pub hold_each-rows : {A P : Type 0} (keys_of : A → List Cell → List Key) (rows : List (List Cell)) (held : List (Dimension A P)) → AllByRecursion (HoldsKeysOf keys_of rows) held → HoldEach (length rows) held
hold_each-rows keys_of rows [] hold = tt
hold_each-rows keys_of rows (one ∷ held) hold = (ap length hold.0 ∙ length-map rows (keys_of one.accessor), hold_each-rows keys_of rows held hold.1)
