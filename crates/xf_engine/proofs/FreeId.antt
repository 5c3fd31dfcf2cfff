-- Ids that are taken: as long as every lower one is, there are at least as many of them.
use Rattle.std.proofs.Common.{◌≡◌, ℕ, zero, suc, ◌+◌, ◌<◌, ◌≤◌, ◌==◌, Bool, true, false, not, ◌||◌, cond, nat_lt, is_some, Some, None, List, [], ◌∷◌, length, map, refl, sym, ap, ◌∙◌, arith, ⊎_elim}
use Rattle.std.proofs.lemmas.Bool.Decides.{nat_tests}
use Rattle.std.proofs.lemmas.Bool.{cases_lt}
use Rattle.std.specs.List.{filter, list_any, position, position_or_len}
use Rattle.xf_engine.specs.Held.{held_group_ids, held_ids, held_whole_ids, live_dimensions}
use Rattle.xf_engine.proofs.Named.{position_live}
use Rattle.xf_engine.specs.declared.dimension.Dimension.{Dimension}
use Rattle.xf_engine.specs.declared.grouping.Grouping.{Grouping}
use Rattle.xf_engine.specs.declared.whole.Whole.{Whole}
use Rattle.xf_engine.specs.State.{has_id, id_numbers, is_taken}
use Rattle.xf_engine.specs.declared.ids.DimensionId.{DimensionId}

-- the ids but one
others : ℕ → List ℕ → List ℕ
others id ids = filter (λ taken. not (taken == id)) ids

-- where it is taken there are fewer of them
others-fewer : (id : ℕ) (ids : List ℕ) → length (others id ids) ≤ length ids
unfolding others
others-fewer id [] = omega arith
others-fewer id (first ∷ ids) =
    elim (first == id) as (λ b. length (cond (not b) (first ∷ others id ids) (others id ids)) ≤ suc (length ids)) [
      | true ↦ omega (arith, others-fewer id ids)
      | false ↦ omega (arith, others-fewer id ids)
    ]

others-less : (id : ℕ) (ids : List ℕ) → is_taken ids id ≡ true → length (others id ids) < length ids
unfolding others
others-less id [] taken = absurd cc
others-less id (first ∷ ids) taken =
    elim (first == id) as (λ b. (b || is_taken ids id ≡ true) → length (cond (not b) (first ∷ others id ids) (others id ids)) < suc (length ids)) [
      | true ↦ λ t. omega (arith, others-fewer id ids)
      | false ↦ λ t. omega (arith, others-less id ids t)
    ] taken

-- an id more, which is the one or stays
kept-or-other : (is : Bool) (first other : ℕ) (kept ids : List ℕ) → is_taken kept other ≡ is_taken ids other → (is ≡ true → (first == other) ≡ false) → is_taken (cond (not is) (first ∷ kept) kept) other ≡ ((first == other) || is_taken ids other)
kept-or-other true first other kept ids rest apart = rest ∙ ap (λ b. b || is_taken ids other) (sym (apart refl))
kept-or-other false first other kept ids rest apart = ap (λ b. (first == other) || b) rest

-- another id is taken among them as before
others-same : (id other : ℕ) (ids : List ℕ) → other < id → is_taken (others id ids) other ≡ is_taken ids other
unfolding others
others-same id other [] e = refl
others-same id other (first ∷ ids) e =
    let rest : is_taken (others id ids) other ≡ is_taken ids other = others-same id other ids e in
    let apart : (first == id) ≡ true → (first == other) ≡ false = λ same. grind (arith, nat_tests, same, e) in
    kept-or-other (first == id) first other (others id ids) ids rest apart

-- so there are as many as the lower ones that are taken
pub taken-few : (id : ℕ) (ids : List ℕ) → ((lower : ℕ) → lower < id → is_taken ids lower ≡ true) → id ≤ length ids
taken-few zero ids taken = omega arith
taken-few (suc id) ids taken =
    let less : length (others id ids) < length ids = others-less id ids (taken id (omega arith)) in
    let rest : id ≤ length (others id ids) = taken-few id (others id ids) (λ lower e. others-same id lower ids e ∙ taken lower (omega (arith, e))) in
    omega (arith, less, rest)

-- with the next one too
pub taken-next : (id : ℕ) (ids : List ℕ) → ((lower : ℕ) → lower < id → is_taken ids lower ≡ true) → is_taken ids id ≡ true → (lower : ℕ) → lower < id + 1 → is_taken ids lower ≡ true
taken-next id ids taken next lower e =
    ⊎_elim (λ less. taken lower less) (λ more. let same : id ≡ lower = omega (arith, e, more) in ap (is_taken ids) (sym same) ∙ next) (cases_lt lower id)

pub taken-few-next : (id : ℕ) (ids : List ℕ) → ((lower : ℕ) → lower < id → is_taken ids lower ≡ true) → is_taken ids id ≡ true → id + 1 ≤ length ids
taken-few-next id ids taken next =
    let few : suc id ≤ length ids = taken-few (suc id) ids (λ lower e. taken-next id ids taken next lower (omega (arith, e))) in
    omega (arith, few)

nat_lt-suc : (a b : ℕ) → nat_lt a b ≡ nat_lt (1 + a) (suc b)
nat_lt-suc a b = grind (arith, nat_tests)

-- an id is taken where what has it has a place
taken-within : {X : Type 0} (p : X → Bool) (xs : List X) → list_any p xs ≡ nat_lt (position_or_len p xs) (length xs)
taken-within p [] = refl
taken-within p (x ∷ xs) =
    let rest : list_any p xs ≡ nat_lt (position_or_len p xs) (length xs) = taken-within p xs in
    elim (p x) as (λ b. (b || list_any p xs) ≡ nat_lt (cond (not b) (1 + position_or_len p xs) 0) (suc (length xs))) [
      | true ↦ grind (arith, nat_tests)
      | false ↦ rest ∙ nat_lt-suc (position_or_len p xs) (length xs)
    ]

placed-within : {A : Type 0} (b : Bool) (at : A) → is_some (cond b (Some at) None) ≡ b
placed-within true at = refl
placed-within false at = refl

taken-placed : {X : Type 0} (p : X → Bool) (xs : List X) → list_any p xs ≡ is_some (position p xs)
taken-placed p xs = taken-within p xs ∙ sym (placed-within (nat_lt (position_or_len p xs) (length xs)) (position_or_len p xs))

-- the ids of what is held
pub taken-held : {X : Type 0} (of : X → ℕ) (id : ℕ) (held : List X) → is_taken (map of held) id ≡ list_any (λ x. of x == id) held
taken-held of id [] = refl
taken-held of id (one ∷ held) = ap (λ later. (of one == id) || later) (taken-held of id held)

pub taken_dimension : {A P : Type 0} (id : ℕ) (held : List (Dimension A P)) → is_some (position (has_id id) (live_dimensions held)) ≡ is_taken (held_ids held) id
taken_dimension id held =
    ap is_some (position_live id held) ∙ sym (taken-placed (λ dimension. dimension.id.0 == id) held) ∙ sym (taken-held (λ dimension. dimension.id.0) id held)

pub taken_group : {G T : Type 0} (id : ℕ) (held : List (Grouping G T)) → is_some (position (λ group. group.id.0 == id) held) ≡ is_taken (held_group_ids held) id
taken_group id held = sym (taken-placed (λ group. group.id.0 == id) held) ∙ sym (taken-held (λ group. group.id.0) id held)

pub taken_whole : {R V : Type 0} (id : ℕ) (held : List (Whole R V)) → is_some (position (λ whole. whole.id.0 == id) held) ≡ is_taken (held_whole_ids held) id
taken_whole id held = sym (taken-placed (λ whole. whole.id.0 == id) held) ∙ sym (taken-held (λ whole. whole.id.0) id held)

-- where nothing of an id has a place it is free, and where something has it is taken
pub free-unplaced : {X : Type 0} (of : X → ℕ) (id : ℕ) (xs : List X) → position (λ x. of x == id) xs ≡ None → is_taken (map of xs) id ≡ false
free-unplaced of id xs none = taken-held of id xs ∙ taken-placed (λ x. of x == id) xs ∙ ap is_some none

pub taken-if-placed : {X : Type 0} (of : X → ℕ) (id : ℕ) (xs : List X) → is_some (position (λ x. of x == id) xs) ≡ true → is_taken (map of xs) id ≡ true
taken-if-placed of id xs some = taken-held of id xs ∙ taken-placed (λ x. of x == id) xs ∙ some

-- what is taken has a place
pub placed-if-taken : {X : Type 0} (of : X → ℕ) (id : ℕ) (xs : List X) → is_taken (map of xs) id ≡ true → is_some (position (λ x. of x == id) xs) ≡ true
placed-if-taken of id xs taken = sym (taken-placed (λ x. of x == id) xs) ∙ sym (taken-held of id xs) ∙ taken

-- an id is one of some where one of them is the same
pub ids_taken : (id : ℕ) (ids : List DimensionId) → is_taken (id_numbers ids) id ≡ list_any (λ own. own.0 == id) ids
ids_taken id ids = taken-held (λ own. own.0) id ids
