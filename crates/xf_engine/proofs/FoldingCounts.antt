-- Which rows count: what is marked place by place is marked row by row.
use Rattle.std.proofs.Common.{◌≡◌, ℕ, zero, suc, ◌+◌, Bool, true, false, not, ◌&&◌, List, [], ◌∷◌, Option, Some, None, length, map, slice_get, slice_index_or, zip, refl, sym, ap, subst, ◌∙◌, arith}
use Rattle.std.specs.List.{AllByRecursion, range_with_len, remove}
use Rattle.xf_base.specs.declared.cell.Cell.{Cell}
use Rattle.xf_base.specs.declared.key.Key.{Key}
use Rattle.xf_engine.specs.Changes.{unfiltered}
use Rattle.xf_engine.specs.Folding.{passes_but_at}
use Rattle.xf_engine.specs.Held.{HoldsKeysOf, live_dimension, live_dimensions}
use Rattle.xf_engine.specs.State.{LiveDimension, dimension_of, dimensions_of}
use Rattle.xf_engine.specs.declared.dimension.Dimension.{Dimension}
use Rattle.xf_engine.proofs.Passes.{passes_each_at-row}
use Rattle.xf_model.specs.Dimension as model

-- ---- all but one

remove-map : {X Y : Type 0} (f : X → Y) (xs : List X) (i : ℕ) → remove (map f xs) i ≡ map f (remove xs i)
remove-map f [] zero = refl
remove-map f [] (suc i) = refl
remove-map f (x ∷ xs) zero = refl
remove-map f (x ∷ xs) (suc i) = ap (λ rest. f x ∷ rest) (remove-map f xs i)

all_but-map : {X Y : Type 0} (f : X → Y) (own : Option ℕ) (xs : List X) → model.all_but own (map f xs) ≡ map f (model.all_but own xs)
all_but-map f None xs = refl
all_but-map f (Some i) xs = remove-map f xs i

remove-all : {X : Type 0} (Q : X → Type 0) (xs : List X) (i : ℕ) → AllByRecursion Q xs → AllByRecursion Q (remove xs i)
remove-all Q [] zero all = tt
remove-all Q [] (suc i) all = tt
remove-all Q (x ∷ xs) zero all = all.1
remove-all Q (x ∷ xs) (suc i) all = (all.0, remove-all Q xs i all.1)

all_but-all : {X : Type 0} (Q : X → Type 0) (own : Option ℕ) (xs : List X) → AllByRecursion Q xs → AllByRecursion Q (model.all_but own xs)
all_but-all Q None xs all = all
all_but-all Q (Some i) xs all = remove-all Q xs i all

-- ---- places and what stands there

-- what is made place by place is made of the elements
map-places : {X Y : Type 0} (f : ℕ → Y) (g : X → Y) (start : ℕ) (xs : List X) → ((i : ℕ) (x : X) → slice_get xs i ≡ Some x → f (start + i) ≡ g x) → map f (range_with_len start (length xs)) ≡ map g xs
map-places f g start [] same = refl
map-places {X} {Y} f g start (x ∷ xs) same =
    let here : start + 0 ≡ start = omega arith in
    let first : f start ≡ g x = subst (λ n. f n ≡ g x) here (same 0 x refl) in
    let rest : map f (range_with_len (start + 1) (length xs)) ≡ map g xs =
    map-places f g (start + 1) xs (λ i y there. let next : start + suc i ≡ start + 1 + i = omega arith in subst (λ n. f n ≡ g y) next (same (suc i) y there)) in
    λ i. first i ∷ rest i

marks-each : {X Y : Type 0} (f : ℕ → Y) (g : X → Y) (xs : List X) → ((i : ℕ) (x : X) → slice_get xs i ≡ Some x → f i ≡ g x) → map f (range_with_len 0 (length xs)) ≡ map g xs
marks-each f g xs same =
    map-places f g 0 xs (λ i x there. let here : i ≡ 0 + i = omega arith in subst (λ n. f n ≡ g x) here (same i x there))

-- a pair stands where both of its parts stand
zip-at : {X : Type 0} (xs : List X) (marks : List Bool) (i : ℕ) (one : X × Bool) → slice_get (zip xs marks) i ≡ Some one → (slice_get xs i ≡ Some one.0) × (slice_index_or marks i true ≡ one.1)
zip-at [] marks i one there = absurd cc
zip-at (x ∷ xs) [] i one there = absurd cc
zip-at {X} (x ∷ xs) (mark ∷ marks) zero one there = let same : (x, mark) ≡ one = cc in (ap (λ (pair : X × Bool). Some pair.0) same, ap (λ (pair : X × Bool). pair.1) same)
zip-at (x ∷ xs) (mark ∷ marks) (suc i) one there = zip-at xs marks i one there

zip-long : {X : Type 0} (xs : List X) (marks : List Bool) → length marks ≡ length xs → length (zip xs marks) ≡ length xs
zip-long [] marks long = refl
zip-long (x ∷ xs) [] long = absurd (omega (arith, long))
zip-long (x ∷ xs) (mark ∷ marks) long = ap suc (zip-long xs marks (omega (arith, long)))

-- ---- rows that count

-- the row of a place passes every dimension but one where the place does
passes_but-row : {A P : Type 0} (keys_of : A → List Cell → List Key) (says : P → Key → Bool) (rows : List (List Cell)) (held : List (Dimension A P)) (own : Option ℕ) (place : ℕ) (row : List Cell) → AllByRecursion (HoldsKeysOf keys_of rows) held → slice_get rows place ≡ Some row
    → passes_but_at says held own place ≡ model.passes_each (model.all_but own (dimensions_of keys_of says (live_dimensions held))) row
passes_but-row keys_of says rows held own place row hold there =
    let others = all_but-map (dimension_of keys_of says) own (live_dimensions held) ∙ ap (map (dimension_of keys_of says)) (all_but-map live_dimension own held) in
    passes_each_at-row keys_of says rows (model.all_but own held) place row (all_but-all (HoldsKeysOf keys_of rows) own held hold) there
    ∙ ap (λ dimensions. model.passes_each dimensions row) (sym others)

pub marks-passing : {A P : Type 0} (keys_of : A → List Cell → List Key) (says : P → Key → Bool) (rows : List (List Cell)) (held : List (Dimension A P)) (own : Option ℕ) → AllByRecursion (HoldsKeysOf keys_of rows) held
    → map (passes_but_at says held own) (range_with_len 0 (length rows)) ≡ map (model.passes_each (model.all_but own (dimensions_of keys_of says (live_dimensions held)))) rows
marks-passing keys_of says rows held own hold =
    marks-each (passes_but_at says held own) (model.passes_each (model.all_but own (dimensions_of keys_of says (live_dimensions held)))) rows (λ i row there. passes_but-row keys_of says rows held own i row hold there)

-- every row passes dimensions without filters
unfiltered-row : {A P : Type 0} (keys_of : A → List Cell → List Key) (says : P → Key → Bool) (lives : List (LiveDimension A P)) (row : List Cell) → model.passes_each (dimensions_of keys_of says (map unfiltered lives)) row ≡ true
unfiltered-row keys_of says [] row = refl
unfiltered-row keys_of says (live ∷ lives) row = unfiltered-row keys_of says lives row

pub marks-every : {A P : Type 0} (keys_of : A → List Cell → List Key) (says : P → Key → Bool) (rows : List (List Cell)) (lives : List (LiveDimension A P)) (own : Option ℕ)
    → map (λ place. true) (range_with_len 0 (length rows)) ≡ map (model.passes_each (model.all_but own (dimensions_of keys_of says (map unfiltered lives)))) rows
marks-every keys_of says rows lives own =
    let others = all_but-map (dimension_of keys_of says) own (map unfiltered lives) ∙ ap (map (dimension_of keys_of says)) (all_but-map unfiltered own lives) in
    marks-each (λ place. true) (model.passes_each (model.all_but own (dimensions_of keys_of says (map unfiltered lives)))) rows
    (λ i row there. sym (ap (λ dimensions. model.passes_each dimensions row) others ∙ unfiltered-row keys_of says (model.all_but own lives) row))

both_ways : (a b : Bool) → (not a && b) ≡ (b && not a)
both_ways true true = refl
both_ways true false = refl
both_ways false true = refl
both_ways false false = refl

-- of the rows that pass those stay that are not gone
pub marks-staying : {A P : Type 0} (keys_of : A → List Cell → List Key) (says : P → Key → Bool) (rows : List (List Cell)) (held : List (Dimension A P)) (own : Option ℕ) (gone : List Bool) → AllByRecursion (HoldsKeysOf keys_of rows) held → length gone ≡ length rows
    → map (λ place. not (slice_index_or gone place true) && passes_but_at says held own place) (range_with_len 0 (length rows))
    ≡ map (λ at. model.passes_each (model.all_but own (dimensions_of keys_of says (live_dimensions held))) at.0 && not at.1) (zip rows gone)
marks-staying {A} {P} keys_of says rows held own gone hold long =
    let passes : List Cell → Bool = model.passes_each (model.all_but own (dimensions_of keys_of says (live_dimensions held))) in
    let stays : ℕ → Bool = λ place. not (slice_index_or gone place true) && passes_but_at says held own place in
    let both : List Cell × Bool → Bool = λ at. passes at.0 && not at.1 in
    ap (λ n. map stays (range_with_len 0 n)) (sym (zip-long rows gone long))
    ∙ marks-each stays both (zip rows gone)
    (λ i one there.
    let at = zip-at rows gone i one there in
    let here : passes_but_at says held own i ≡ passes one.0 = passes_but-row keys_of says rows held own i one.0 hold at.0 in
    ap (λ mark. not mark && passes_but_at says held own i) at.1 ∙ ap (λ b. not one.1 && b) here ∙ both_ways one.1 (passes one.0))
