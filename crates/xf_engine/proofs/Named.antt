-- Dimensions, groups and wholes by their ids.
use Rattle.std.proofs.Common.{◌≡◌, ℕ, ◌+◌, ◌<◌, ◌≤◌, ◌==◌, nat_lt, not, Bool, true, false, cond, List, [], ◌∷◌, Some, None, length, map, get_or, slice_get, refl, ap, ◌∙◌, arith}
use Rattle.std.proofs.lemmas.Bool.Decides.{nat_tests}
use Rattle.std.proofs.lemmas.List.{get_or-map, length-map}
use Rattle.std.proofs.lemmas.List.Folds.{find_at}
use Rattle.std.proofs.lemmas.List.Quantifiers.{position-Some}
use Rattle.std.proofs.lemmas.List.Sums.{position_or_len_is}
use Rattle.std.proofs.lemmas.Option.{slice_get-get_or, slice_get_past}
use Rattle.std.specs.List.{find, position, position_or_len}
use Rattle.xf_engine.specs.Held.{live_dimension, live_dimensions, live_group, live_groups, live_whole, live_wholes}
use Rattle.xf_engine.specs.State.{group_has_id, has_id, whole_has_id}
use Rattle.xf_engine.specs.declared.dimension.Dimension.{Dimension}
use Rattle.xf_engine.specs.declared.grouping.Grouping.{Grouping}
use Rattle.xf_engine.specs.declared.whole.Whole.{Whole}
use Rattle.xf_group.specs.Group.{Grouped}

-- what is mapped is found where it was
position_or_len_map : {X Y : Type 0} (p : Y → Bool) (f : X → Y) (xs : List X) → position_or_len p (map f xs) ≡ position_or_len (λ x. p (f x)) xs
position_or_len_map p f [] = refl
position_or_len_map p f (x ∷ xs) = ap (λ later. cond (not (p (f x))) (1 + later) 0) (position_or_len_map p f xs)

position_map : {X Y : Type 0} (p : Y → Bool) (f : X → Y) (xs : List X) → position p (map f xs) ≡ position (λ x. p (f x)) xs
position_map p f xs =
    ap (λ at. cond (nat_lt at (length (map f xs))) (Some at) None) (position_or_len_map p f xs)
    ∙ ap (λ n. cond (nat_lt (position_or_len (λ x. p (f x)) xs) n) (Some (position_or_len (λ x. p (f x)) xs)) None) (length-map xs f)

pub position_live : {A P : Type 0} (id : ℕ) (held : List (Dimension A P)) → position (has_id id) (live_dimensions held) ≡ position (λ dimension. dimension.id.0 == id) held
position_live id held = position_map (has_id id) live_dimension held

pub position_live_group : {G R V : Type 0} (id : ℕ) (held : List (Grouping G (Grouped R V))) → position (group_has_id id) (live_groups held) ≡ position (λ group. group.id.0 == id) held
position_live_group id held = position_map (group_has_id id) live_group held

pub position_live_whole : {R V : Type 0} (id : ℕ) (held : List (Whole R V)) → position (whole_has_id id) (live_wholes held) ≡ position (λ whole. whole.id.0 == id) held
position_live_whole id held = position_map (whole_has_id id) live_whole held

-- where a place is told, what is found stands there
place-is : (n at place : ℕ) → cond (nat_lt at n) (Some at) None ≡ Some place → at ≡ place
place-is n at place told = elim (nat_lt at n) as (λ b. cond b (Some at) None ≡ Some place → at ≡ place) [ true ↦ λ e. cc | false ↦ λ e. absurd cc ] told

pub find-placed : {X : Type 0} (p : X → Bool) (xs : List X) (place : ℕ) (d : X) → position p xs ≡ Some place → find p xs ≡ Some (get_or xs place d)
find-placed p xs place d told =
    find_at p xs ∙ ap (slice_get xs) (place-is (length xs) (position_or_len p xs) place told) ∙ slice_get-get_or xs place d (position-Some p xs place d told).0

-- where none is told nothing is found
past-end : (n at : ℕ) → cond (nat_lt at n) (Some at) None ≡ None → n ≤ at
past-end n at told = elim (nat_lt at n) as (λ b. nat_lt at n ≡ b → cond b (Some at) None ≡ None → n ≤ at) [ true ↦ λ e t. absurd cc | false ↦ λ e t. grind (arith, nat_tests, e) ] refl told

pub find-unplaced : {X : Type 0} (p : X → Bool) (xs : List X) → position p xs ≡ None → find p xs ≡ None
find-unplaced p xs told = find_at p xs ∙ slice_get_past xs (position_or_len p xs) (past-end (length xs) (position_or_len p xs) told)

-- the first that passes is found, and where none does nothing is
pub position-found : {X : Type 0} (p : X → Bool) (xs : List X) (i : ℕ) (d : X) → i < length xs → ((k : ℕ) → k < i → p (get_or xs k d) ≡ false) → p (get_or xs i d) ≡ true → position p xs ≡ Some i
position-found p xs i d within before here =
    let at : position_or_len p xs ≡ i = position_or_len_is p xs i d (omega (arith, within)) before (λ _. here) in
    let test : nat_lt (position_or_len p xs) (length xs) ≡ true = grind (arith, nat_tests, at, within) in
    rw test (ap Some at)

none-at : {X : Type 0} (p : X → Bool) (xs : List X) (d : X) → ((k : ℕ) → k < length xs → p (get_or xs k d) ≡ false) → position p xs ≡ None
none-at p xs d none =
    let at : position_or_len p xs ≡ length xs = position_or_len_is p xs (length xs) d (omega arith) none (λ e. absurd (omega (arith, e))) in
    let test : nat_lt (position_or_len p xs) (length xs) ≡ false = grind (arith, nat_tests, at) in
    rw test refl

pub position-none : {X : Type 0} (p : X → Bool) (xs : List X) → ((d : X) (k : ℕ) → k < length xs → p (get_or xs k d) ≡ false) → position p xs ≡ None
position-none p [] none = refl
position-none p (x ∷ xs) none = none-at p (x ∷ xs) x (none x)

-- what is held at a place is found by its id
pub find-placed-group : {G R V : Type 0} (id : ℕ) (held : List (Grouping G (Grouped R V))) (place : ℕ) (d : Grouping G (Grouped R V)) → position (group_has_id id) (live_groups held) ≡ Some place → find (group_has_id id) (live_groups held) ≡ Some (live_group (get_or held place d))
find-placed-group id held place d told =
    let within : place < length held = omega (arith, (position-Some (group_has_id id) (live_groups held) place (live_group d) told).0, length-map held live_group) in
    find-placed (group_has_id id) (live_groups held) place (live_group d) told ∙ ap Some (get_or-map live_group held place d (live_group d) within)

pub find-placed-dimension : {A P : Type 0} (id : ℕ) (held : List (Dimension A P)) (place : ℕ) (d : Dimension A P) → position (has_id id) (live_dimensions held) ≡ Some place → find (has_id id) (live_dimensions held) ≡ Some (live_dimension (get_or held place d))
find-placed-dimension id held place d told =
    let within : place < length held = omega (arith, (position-Some (has_id id) (live_dimensions held) place (live_dimension d) told).0, length-map held live_dimension) in
    find-placed (has_id id) (live_dimensions held) place (live_dimension d) told ∙ ap Some (get_or-map live_dimension held place d (live_dimension d) within)

pub find-placed-whole : {R V : Type 0} (id : ℕ) (held : List (Whole R V)) (place : ℕ) (d : Whole R V) → position (whole_has_id id) (live_wholes held) ≡ Some place → find (whole_has_id id) (live_wholes held) ≡ Some (live_whole (get_or held place d))
find-placed-whole id held place d told =
    let within : place < length held = omega (arith, (position-Some (whole_has_id id) (live_wholes held) place (live_whole d) told).0, length-map held live_whole) in
    find-placed (whole_has_id id) (live_wholes held) place (live_whole d) told ∙ ap Some (get_or-map live_whole held place d (live_whole d) within)
