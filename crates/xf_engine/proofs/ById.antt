-- Lists whose elements have ids, no two the same: what is left, what is changed and what comes.
use Rattle.std.proofs.Common.{◌≡◌, ℕ, zero, suc, ◌<◌, ◌==◌, Bool, true, false, not, ◌||◌, cond, List, [], ◌∷◌, ◌++◌, length, map, get_or, set, refl, sym, ap, ◌∙◌, arith}
use Rattle.std.proofs.lemmas.Bool.Decides.{nat_tests}
use Rattle.std.proofs.lemmas.List.Folds.{list_any-append}
use Rattle.std.specs.List.{AllByRecursion, filter, remove}
use Rattle.xf_engine.specs.State.{AreDistinct, is_taken}

or-false : (a b : Bool) → (a || b) ≡ false → (a ≡ false) × (b ≡ false)
or-false true b e = absurd cc
or-false false b e = (refl, e)

or-both : (a b : Bool) → a ≡ false → b ≡ false → (a || (b || false)) ≡ false
or-both a b e f = ap (λ x. x || (b || false)) e ∙ ap (λ x. x || false) f

or-later : (a b : Bool) → b ≡ true → (a || b) ≡ true
or-later true b e = refl
or-later false b e = e

same-id : (a b : ℕ) → (a == b) ≡ true → a ≡ b
same-id a b e = grind (arith, nat_tests, e)

-- an id that is taken is none that is free
pub apart : (free id : ℕ) (ids : List ℕ) → is_taken ids free ≡ false → is_taken ids id ≡ true → (free == id) ≡ false
apart free id ids not_taken taken = go (free == id) refl
  where
    go : (b : Bool) → (free == id) ≡ b → (free == id) ≡ false
    go true e = let both : true ≡ false = sym taken ∙ ap (is_taken ids) (sym (same-id free id e)) ∙ not_taken in absurd cc
    go false e = e

-- what has no such id stays as it is
pub filter-free : {X : Type 0} (of : X → ℕ) (id : ℕ) (xs : List X) → is_taken (map of xs) id ≡ false → filter (λ x. not (of x == id)) xs ≡ xs
filter-free of id [] e = refl
filter-free {X} of id (x ∷ xs) e =
    let parts = or-false (of x == id) (is_taken (map of xs) id) e in
    let rest : List X = filter (λ y. not (of y == id)) xs in
    ap (λ b. cond (not b) (x ∷ rest) rest) parts.0 ∙ ap (λ ys. x ∷ ys) (filter-free of id xs parts.1)

pub map-free : {X : Type 0} (of : X → ℕ) (f : X → X) (id : ℕ) (xs : List X) → is_taken (map of xs) id ≡ false → map (λ x. cond (of x == id) (f x) x) xs ≡ xs
map-free of f id [] e = refl
map-free {X} of f id (x ∷ xs) e =
    let parts = or-false (of x == id) (is_taken (map of xs) id) e in
    let rest : List X = map (λ y. cond (of y == id) (f y) y) xs in
    ap (λ b. cond b (f x) x ∷ rest) parts.0 ∙ ap (λ ys. x ∷ ys) (map-free of f id xs parts.1)

-- the id of an element is taken
pub taken-at : {X : Type 0} (of : X → ℕ) (id : ℕ) (xs : List X) (i : ℕ) (d : X) → i < length xs → (of (get_or xs i d) == id) ≡ true → is_taken (map of xs) id ≡ true
taken-at of id [] i d e here = absurd (omega (arith, e))
taken-at of id (x ∷ xs) zero d e here = ap (λ b. b || is_taken (map of xs) id) here
taken-at of id (x ∷ xs) (suc i) d e here = or-later (of x == id) (is_taken (map of xs) id) (taken-at of id xs i d (omega (arith, e)) here)

-- the one with an id is left out, or changed
pub filter-at : {X : Type 0} (of : X → ℕ) (id : ℕ) (xs : List X) (i : ℕ) (d : X) → AreDistinct (map of xs) → i < length xs → (of (get_or xs i d) == id) ≡ true → filter (λ x. not (of x == id)) xs ≡ remove xs i
filter-at of id [] i d distinct e here = absurd (omega (arith, e))
filter-at {X} of id (x ∷ xs) zero d distinct e here =
    let rest : List X = filter (λ y. not (of y == id)) xs in
    ap (λ b. cond (not b) (x ∷ rest) rest) here ∙ filter-free of id xs (ap (is_taken (map of xs)) (sym (same-id (of x) id here)) ∙ distinct.0)
filter-at {X} of id (x ∷ xs) (suc i) d distinct e here =
    let rest : List X = filter (λ y. not (of y == id)) xs in
    let other : (of x == id) ≡ false = apart (of x) id (map of xs) distinct.0 (taken-at of id xs i d (omega (arith, e)) here) in
    ap (λ b. cond (not b) (x ∷ rest) rest) other ∙ ap (λ ys. x ∷ ys) (filter-at of id xs i d distinct.1 (omega (arith, e)) here)

pub map-at : {X : Type 0} (of : X → ℕ) (f : X → X) (id : ℕ) (xs : List X) (i : ℕ) (d : X) → AreDistinct (map of xs) → i < length xs → (of (get_or xs i d) == id) ≡ true → map (λ x. cond (of x == id) (f x) x) xs ≡ set xs i (f (get_or xs i d))
map-at of f id [] i d distinct e here = absurd (omega (arith, e))
map-at {X} of f id (x ∷ xs) zero d distinct e here =
    let rest : List X = map (λ y. cond (of y == id) (f y) y) xs in
    ap (λ b. cond b (f x) x ∷ rest) here ∙ ap (λ ys. f x ∷ ys) (map-free of f id xs (ap (is_taken (map of xs)) (sym (same-id (of x) id here)) ∙ distinct.0))
map-at {X} of f id (x ∷ xs) (suc i) d distinct e here =
    let rest : List X = map (λ y. cond (of y == id) (f y) y) xs in
    let other : (of x == id) ≡ false = apart (of x) id (map of xs) distinct.0 (taken-at of id xs i d (omega (arith, e)) here) in
    ap (λ b. cond b (f x) x ∷ rest) other ∙ ap (λ ys. x ∷ ys) (map-at of f id xs i d distinct.1 (omega (arith, e)) here)

-- ids stay distinct with a free one more
pub distinct-push : (ids : List ℕ) (id : ℕ) → AreDistinct ids → is_taken ids id ≡ false → AreDistinct (ids ++ id ∷ [])
distinct-push [] id distinct free = (refl, tt)
distinct-push (first ∷ ids) id distinct free =
    let parts = or-false (first == id) (is_taken ids id) free in
    let other : (id == first) ≡ false = grind (arith, nat_tests, parts.0) in
    (list_any-append (λ taken. taken == first) ids (id ∷ []) ∙ or-both (is_taken ids first) (id == first) distinct.0 other, distinct-push ids id distinct.1 parts.1)

-- without one
free-remove : (ids : List ℕ) (i id : ℕ) → is_taken ids id ≡ false → is_taken (remove ids i) id ≡ false
free-remove [] zero id e = refl
free-remove [] (suc i) id e = refl
free-remove (first ∷ ids) zero id e = (or-false (first == id) (is_taken ids id) e).1
free-remove (first ∷ ids) (suc i) id e =
    let parts = or-false (first == id) (is_taken ids id) e in
    ap (λ b. b || is_taken (remove ids i) id) parts.0 ∙ free-remove ids i id parts.1

pub distinct-remove : (ids : List ℕ) (i : ℕ) → AreDistinct ids → AreDistinct (remove ids i)
distinct-remove [] zero distinct = tt
distinct-remove [] (suc i) distinct = tt
distinct-remove (first ∷ ids) zero distinct = distinct.1
distinct-remove (first ∷ ids) (suc i) distinct = (free-remove ids i first distinct.0, distinct-remove ids i distinct.1)

-- without some
free-filter : {X : Type 0} (of : X → ℕ) (p : X → Bool) (id : ℕ) (xs : List X) → is_taken (map of xs) id ≡ false → is_taken (map of (filter p xs)) id ≡ false
free-filter of p id [] e = refl
free-filter of p id (x ∷ xs) e =
    let parts = or-false (of x == id) (is_taken (map of xs) id) e in
    let rest : is_taken (map of (filter p xs)) id ≡ false = free-filter of p id xs parts.1 in
    elim (p x) as (λ b. is_taken (map of (cond b (x ∷ filter p xs) (filter p xs))) id ≡ false) [
      | true ↦ ap (λ b. b || is_taken (map of (filter p xs)) id) parts.0 ∙ rest
      | false ↦ rest
    ]

pub distinct-filter : {X : Type 0} (of : X → ℕ) (p : X → Bool) (xs : List X) → AreDistinct (map of xs) → AreDistinct (map of (filter p xs))
distinct-filter of p [] distinct = tt
distinct-filter of p (x ∷ xs) distinct =
    let rest : AreDistinct (map of (filter p xs)) = distinct-filter of p xs distinct.1 in
    elim (p x) as (λ b. AreDistinct (map of (cond b (x ∷ filter p xs) (filter p xs)))) [
      | true ↦ (free-filter of p (of x) xs distinct.0, rest)
      | false ↦ rest
    ]

-- an id other than the one that goes stays taken
pub taken-remove : (ids : List ℕ) (i id : ℕ) → is_taken ids id ≡ true → (get_or ids i 0 == id) ≡ false → is_taken (remove ids i) id ≡ true
taken-remove [] zero id taken other = taken
taken-remove [] (suc i) id taken other = taken
taken-remove (first ∷ ids) zero id taken other = sym (ap (λ b. b || is_taken ids id) other) ∙ taken
taken-remove (first ∷ ids) (suc i) id taken other =
    elim (first == id) as (λ b. (b || is_taken ids id) ≡ true → (b || is_taken (remove ids i) id) ≡ true) [
      | true ↦ λ e. refl
      | false ↦ λ e. taken-remove ids i id e other
    ] taken

-- what is mapped of a list without one, and with another in its place
pub map-remove : {X Y : Type 0} (f : X → Y) (xs : List X) (i : ℕ) → map f (remove xs i) ≡ remove (map f xs) i
map-remove f [] zero = refl
map-remove f [] (suc i) = refl
map-remove f (x ∷ xs) zero = refl
map-remove f (x ∷ xs) (suc i) = ap (λ rest. f x ∷ rest) (map-remove f xs i)

pub map-set : {X Y : Type 0} (f : X → Y) (xs : List X) (i : ℕ) (y : X) → map f (set xs i y) ≡ set (map f xs) i (f y)
map-set f [] zero y = refl
map-set f [] (suc i) y = refl
map-set f (x ∷ xs) zero y = refl
map-set f (x ∷ xs) (suc i) y = ap (λ rest. f x ∷ rest) (map-set f xs i y)

-- what holds of each holds of those that stay, and of all with another in place of one
pub all-remove : {X : Type 0} (P : X → Type 0) (xs : List X) (i : ℕ) → AllByRecursion P xs → AllByRecursion P (remove xs i)
all-remove P [] zero all = tt
all-remove P [] (suc i) all = tt
all-remove P (x ∷ xs) zero all = all.1
all-remove P (x ∷ xs) (suc i) all = (all.0, all-remove P xs i all.1)

pub all-set : {X : Type 0} (P : X → Type 0) (xs : List X) (i : ℕ) (y : X) → AllByRecursion P xs → P y → AllByRecursion P (set xs i y)
all-set P [] zero y all more = tt
all-set P [] (suc i) y all more = tt
all-set P (x ∷ xs) zero y all more = (more, all.1)
all-set P (x ∷ xs) (suc i) y all more = (all.0, all-set P xs i y all.1 more)

pub all-filter : {X : Type 0} (P : X → Type 0) (p : X → Bool) (xs : List X) → AllByRecursion P xs → AllByRecursion P (filter p xs)
all-filter P p [] all = tt
all-filter P p (x ∷ xs) all =
    let rest : AllByRecursion P (filter p xs) = all-filter P p xs all.1 in
    elim (p x) as (λ b. AllByRecursion P (cond b (x ∷ filter p xs) (filter p xs))) [ true ↦ (all.0, rest) | false ↦ rest ]

pub all-push : {X : Type 0} (P : X → Type 0) (xs : List X) (y : X) → AllByRecursion P xs → P y → AllByRecursion P (xs ++ y ∷ [])
all-push P [] y all more = (more, tt)
all-push P (x ∷ xs) y all more = (all.0, all-push P xs y all.1 more)
