-- Places as lists of positions: what keys they have when the keys move, and with one place more.
use Rattle.std.proofs.Common.{◌≡◌, ℕ, ◌<◌, List, [], ◌∷◌, ◌++◌, length, Some, slice_get, ap, ◌∙◌}
use Rattle.std.proofs.lemmas.List.{map-append}
use Rattle.std.proofs.lemmas.List.Concat.{flat_map-append}
use Rattle.std.specs.List.{AllByRecursion}
use Rattle.std.specs.Option.{option_to_list}
use Rattle.xf_base.specs.declared.key.Key.{Key}
use Rattle.xf_group.specs.Held.{AreWithin, key_lists, keys_at_positions}
use Rattle.xf_group.proofs.PlacedKeys.{all_then}

-- each key stands at its new position among all keys
abbrev pub Stand : List Key → List Key → (ℕ → ℕ) → Type 0
Stand keys all move = (place : ℕ) → place < length keys → slice_get all (move place) ≡ slice_get keys place

-- so do those at positions
pub places_stand : (keys all : List Key) (move : ℕ → ℕ) → Stand keys all move → (places : List (List ℕ)) → AreWithin (length keys) places → AllByRecursion (AllByRecursion (λ position. slice_get all (move position) ≡ slice_get keys position)) places
places_stand keys all move stand places within =
    all_then (AllByRecursion (λ position. position < length keys)) (AllByRecursion (λ position. slice_get all (move position) ≡ slice_get keys position))
    (λ positions inside. all_then (λ position. position < length keys) (λ position. slice_get all (move position) ≡ slice_get keys position) stand positions inside)
    places within

-- one position more has one key more
pub one_position_more : (keys : List Key) (positions : List ℕ) (position : ℕ) (key : Key) → slice_get keys position ≡ Some key → keys_at_positions keys (positions ++ position ∷ []) ≡ keys_at_positions keys positions ++ key ∷ []
one_position_more keys positions position key here =
    flat_map-append (λ position. option_to_list (slice_get keys position)) positions (position ∷ [])
    ∙ ap (λ one. keys_at_positions keys positions ++ (option_to_list one ++ [])) here

-- one place more has one list more
pub one_place_more : (keys : List Key) (places : List (List ℕ)) (place : List ℕ) → key_lists keys (places ++ place ∷ []) ≡ key_lists keys places ++ keys_at_positions keys place ∷ []
one_place_more keys places place = map-append (keys_at_positions keys) places (place ∷ [])

-- what holds of each of a list and of one more holds of each of both
pub all_more : {X : Type 0} (P : X → Type 0) (xs : List X) (x : X) → AllByRecursion P xs → P x → AllByRecursion P (xs ++ x ∷ [])
all_more P [] x all here = (here, tt)
all_more P (y ∷ ys) x all here = (all.0, all_more P ys x all.1 here)
