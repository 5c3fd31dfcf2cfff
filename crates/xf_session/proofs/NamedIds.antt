-- Names by the ids that they stand for.
use Rattle.std.proofs.Common.{◌≡◌, ℕ, ◌+◌, ◌<◌, ◌≤◌, Bool, true, false, List, length, get_or, Option, Some, None, Ok, Err, option_and_then, option_map, slice_get, refl, sym, ap, ◌∙◌, arith, ⊎_elim}
use Rattle.std.proofs.lemmas.Bool.{cases_lt}
use Rattle.std.proofs.lemmas.Option.{slice_get-get_or}
use Rattle.std.specs.List.{find}
use Rattle.xf_engine.specs.Refusals.{dimension_id, no_group, unless_none}
use Rattle.xf_engine.specs.State.{LiveGroup}
use Rattle.xf_engine.specs.declared.ids.DimensionId.{DimensionId}
use Rattle.xf_engine.specs.declared.ids.NoGroup.{NoGroup}
use Rattle.xf_engine.proofs.Named.{find-placed, find-unplaced, position-found, position-none}

-- what stands at a place
stands : {X : Type 0} (xs : List X) (place : ℕ) (x d : X) → place < length xs → slice_get xs place ≡ Some x → get_or xs place d ≡ x
stands xs place x d within at = let e : Some (get_or xs place d) ≡ Some x = sym (slice_get-get_or xs place d within) ∙ at in cc

-- none of those before a place passes a test
abbrev pub NoneBefore : {X : Type 0} → (X → Bool) → List X → ℕ → Type 0
NoneBefore {X} test xs place = (earlier : ℕ) (d : X) → earlier < place → test (get_or xs earlier d) ≡ false

pub none-before-more : {X : Type 0} (test : X → Bool) (xs : List X) (place : ℕ) (x : X) → NoneBefore test xs place → place < length xs → slice_get xs place ≡ Some x → test x ≡ false → NoneBefore test xs (place + 1)
none-before-more test xs place x none within at fails = λ earlier d e.
    ⊎_elim (λ less. none earlier d less)
    (λ more. let same : place ≡ earlier = omega (arith, e, more) in ap (λ at. test (get_or xs at d)) (sym same) ∙ ap test (stands xs place x d within at) ∙ fails)
    (cases_lt earlier place)

-- the first that passes is found
pub found-first : {X : Type 0} (test : X → Bool) (xs : List X) (place : ℕ) (x : X) → NoneBefore test xs place → place < length xs → slice_get xs place ≡ Some x → test x ≡ true → find test xs ≡ Some x
found-first test xs place x none within at passes =
    let here : get_or xs place x ≡ x = stands xs place x x within at in
    find-placed test xs place x (position-found test xs place x within (λ earlier e. none earlier x e) (ap test here ∙ passes)) ∙ ap Some here

-- and nothing where none does
pub found-none : {X : Type 0} (test : X → Bool) (xs : List X) (count : ℕ) → NoneBefore test xs count → length xs ≤ count → find test xs ≡ None
found-none test xs count none all = find-unplaced test xs (position-none test xs (λ d earlier e. none earlier d (omega (arith, e, all))))

-- what a group's dimension has is told of it, and nothing where there is no such group
pub of-group : {G R X : Type 0} (has : ℕ → Option X) (id : ℕ) (dimension : DimensionId) (found : Option (LiveGroup G R))
    → Ok dimension ≡ unless_none (no_group id) (option_map dimension_id found) → option_and_then (λ group. has group.dimension) found ≡ has dimension.0
of-group has id dimension None told = absurd cc
of-group has id dimension (Some group) told =
    let same : dimension ≡ dimension_id group = cc in ap (λ (d : DimensionId). has d.0) (sym same)

pub of-no-group : {G R X : Type 0} (has : ℕ → Option X) (id : ℕ) (cause : NoGroup) (found : Option (LiveGroup G R))
    → Err cause ≡ unless_none (no_group id) (option_map dimension_id found) → option_and_then (λ group. has group.dimension) found ≡ None
of-no-group has id cause None told = refl
of-no-group has id cause (Some group) told = absurd cc

-- where something is found no cause is told
pub told-refused : {X Y E : Type 0} (error cause : E) (f : X → Y) (found : Option X) (x : X) → Err cause ≡ unless_none error (option_map f found) → found ≡ Some x → ⊥
told-refused error cause f None x told is = absurd cc
told-refused error cause f (Some y) x told is = absurd cc
