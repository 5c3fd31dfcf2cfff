-- Names, and what they name, in the same order: what is found by a name and by its id, and what stays when some go.
use Rattle.std.proofs.Common.{◌≡◌, ℕ, ◌==◌, Bool, true, false, not, ◌||◌, cond, List, [], ◌∷◌, ◌++◌, map, Some, refl, sym, ap, subst, ◌∙◌, arith}
use Rattle.std.proofs.lemmas.Bool.Decides.{nat_tests}
use Rattle.std.proofs.lemmas.List.{map-append}
use Rattle.std.specs.List.{AllByRecursion, filter, find}
use Rattle.std.specs.Str.{bytes_eq}
use Rattle.xf_engine.proofs.ById.{apart, filter-free}
use Rattle.xf_engine.specs.State.{AreDistinct, is_taken}
use Rattle.xf_session.proofs.NameLists.{same-name, without-absent}
use Rattle.xf_session.specs.Command.{without_name}
use Rattle.xf_session.specs.State.{AreDistinctNames, Name, is_among, named, names_in}

same-id : (id : ℕ) → (id == id) ≡ true
same-id id = grind (arith, nat_tests)

-- what is found has an id that is taken
pub found-taken : {X : Type 0} (of : X → ℕ) (id : ℕ) (xs : List X) (x : X) → find (λ y. of y == id) xs ≡ Some x → is_taken (map of xs) id ≡ true
found-taken of id [] x found = absurd cc
found-taken of id (y ∷ xs) x found =
    elim (of y == id) as (λ b. cond b (Some y) (find (λ z. of z == id) xs) ≡ Some x → (b || is_taken (map of xs) id) ≡ true) [
      | true ↦ λ e. refl
      | false ↦ λ e. found-taken of id xs x e
    ] found

module _ {V X K : Type 0} (key : V → K) (of : X → K) (id : K → ℕ) where
  -- what names stand for, in order, are these
  abbrev pub Name-each : List (Name × V) → List X → Type 0
  Name-each names xs = map (λ (entry : Name × V). key entry.1) names ≡ map of xs

  abbrev pub ids : List X → List ℕ
  ids xs = map (λ x. id (of x)) xs

  abbrev pub Found : K → List X → Type 0
  Found k xs = (x : X) × (find (λ y. id (of y) == id k) xs ≡ Some x) × (of x ≡ k)

  head-is : (entry : Name × V) (names : List (Name × V)) (x : X) (xs : List X) → Name-each (entry ∷ names) (x ∷ xs) → key entry.1 ≡ of x
  head-is entry names x xs each = cc

  tail-is : (entry : Name × V) (names : List (Name × V)) (x : X) (xs : List X) → Name-each (entry ∷ names) (x ∷ xs) → Name-each names xs
  tail-is entry names x xs each = cc

  -- one that stands first, or one that is found later and has another id
  found-now : (k : K) (x : X) (xs : List X) → k ≡ of x → Found k (x ∷ xs)
  found-now k x xs same =
      let here : (id (of x) == id k) ≡ true = ap (λ (other : K). id (of x) == id other) same ∙ same-id (id (of x)) in
      (x, ap (λ b. cond b (Some x) (find (λ y. id (of y) == id k) xs)) here, sym same)

  found-other : (k : K) (x : X) (xs : List X) → is_taken (ids xs) (id (of x)) ≡ false → Found k xs → (id (of x) == id k) ≡ false
  found-other k x xs free found = apart (id (of x)) (id k) (ids xs) free (found-taken (λ y. id (of y)) (id k) xs found.0 found.1)

  found-later : (k : K) (x : X) (xs : List X) → is_taken (ids xs) (id (of x)) ≡ false → Found k xs → Found k (x ∷ xs)
  found-later k x xs free found =
      (found.0, ap (λ b. cond b (Some x) (find (λ y. id (of y) == id k) xs)) (found-other k x xs free found) ∙ found.1, found.2)

  -- what a name stands for is found by its id
  pub named-found : (names : List (Name × V)) (xs : List X) (name : Name) (v : V) → Name-each names xs → AreDistinct (ids xs) → named names name ≡ Some v → Found (key v) xs
  named-found [] xs name v each distinct stands = absurd cc
  named-found (entry ∷ names) [] name v each distinct stands = absurd cc
  named-found (entry ∷ names) (x ∷ xs) name v each distinct stands =
      elim (bytes_eq name entry.0) as (λ b. cond b (Some entry.1) (named names name) ≡ Some v → Found (key v) (x ∷ xs)) [
        | true ↦ λ e. let same : entry.1 ≡ v = cc in found-now (key v) x xs (ap key (sym same) ∙ head-is entry names x xs each)
        | false ↦ λ e. found-later (key v) x xs distinct.0 (named-found names xs name v (tail-is entry names x xs each) distinct.1 e)
      ] stands

  -- without the name, and without what it stands for
  without-now : (name : Name) (entry : Name × V) (names : List (Name × V)) (x : X) (xs : List X) (v : V) → Name-each names xs → is_taken (ids xs) (id (of x)) ≡ false → is_among (names_in names) entry.0 ≡ false
      → name ≡ entry.0 → key v ≡ of x → Name-each (without_name name names) (filter (λ y. not (id (of y) == id (key v))) xs)
  without-now name entry names x xs v each free absent same stands =
      ap (map (λ (e : Name × V). key e.1)) (without-absent name names (ap (is_among (names_in names)) same ∙ absent)) ∙ each
      ∙ ap (map of) (sym (filter-free (λ y. id (of y)) (id (key v)) xs (ap (λ (k : K). is_taken (ids xs) (id k)) stands ∙ free)))

  step : (is : Bool) (entry : Name × V) (x : X) (names : List (Name × V)) (xs : List X) → key entry.1 ≡ of x → Name-each names xs
      → Name-each (cond (not is) (entry ∷ names) names) (cond (not is) (x ∷ xs) xs)
  step true entry x names xs same each = each
  step false entry x names xs same each = cc

  pub named-without : (names : List (Name × V)) (xs : List X) (name : Name) (v : V) → Name-each names xs → AreDistinct (ids xs) → AreDistinctNames (names_in names) → named names name ≡ Some v
      → Name-each (without_name name names) (filter (λ y. not (id (of y) == id (key v))) xs)
  named-without [] xs name v each distinct apart_names stands = absurd cc
  named-without (entry ∷ names) [] name v each distinct apart_names stands = absurd cc
  named-without (entry ∷ names) (x ∷ xs) name v each distinct apart_names stands =
      go (bytes_eq name entry.0) refl (λ later. named-without names xs name v (tail-is entry names x xs each) distinct.1 apart_names.1 later) stands
    where
      go : (b : Bool) → bytes_eq name entry.0 ≡ b → (named names name ≡ Some v → Name-each (without_name name names) (filter (λ y. not (id (of y) == id (key v))) xs)) → cond b (Some entry.1) (named names name) ≡ Some v
          → Name-each (without_name name (entry ∷ names)) (filter (λ y. not (id (of y) == id (key v))) (x ∷ xs))
      go true e others told =
          let is : entry.1 ≡ v = cc in
          let stands_for : key v ≡ of x = ap key (sym is) ∙ head-is entry names x xs each in
          let here : (id (of x) == id (key v)) ≡ true = ap (λ (other : K). id (of x) == id other) stands_for ∙ same-id (id (of x)) in
          let rest : Name-each (without_name name names) (filter (λ y. not (id (of y) == id (key v))) xs) = without-now name entry names x xs v (tail-is entry names x xs each) distinct.0 apart_names.0 (same-name name entry.0 e) stands_for in
          subst (λ (b : Bool). Name-each (cond (not b) (entry ∷ without_name name names) (without_name name names)) (filter (λ y. not (id (of y) == id (key v))) (x ∷ xs))) (sym e)
          (subst (λ (b : Bool). Name-each (without_name name names) (cond (not b) (x ∷ filter (λ y. not (id (of y) == id (key v))) xs) (filter (λ y. not (id (of y) == id (key v))) xs))) (sym here) rest)
      go false e others told =
          let later : Found (key v) xs = named-found names xs name v (tail-is entry names x xs each) distinct.1 told in
          let other : (id (of x) == id (key v)) ≡ false = found-other (key v) x xs distinct.0 later in
          let rest : Name-each (without_name name names) (filter (λ y. not (id (of y) == id (key v))) xs) = others told in
          subst (λ (b : Bool). Name-each (cond (not b) (entry ∷ without_name name names) (without_name name names)) (filter (λ y. not (id (of y) == id (key v))) (x ∷ xs))) (sym e)
          (subst (λ (b : Bool). Name-each (entry ∷ without_name name names) (cond (not b) (x ∷ filter (λ y. not (id (of y) == id (key v))) xs) (filter (λ y. not (id (of y) == id (key v))) xs))) (sym other)
          (step false entry x (without_name name names) (filter (λ y. not (id (of y) == id (key v))) xs) (head-is entry names x xs each) rest))

  -- with a name more
  pub named-push : (names : List (Name × V)) (xs : List X) (name : Name) (v : V) (x : X) → Name-each names xs → key v ≡ of x → Name-each (names ++ (name, v) ∷ []) (xs ++ x ∷ [])
  named-push names xs name v x each same =
      map-append (λ (e : Name × V). key e.1) names ((name, v) ∷ []) ∙ ap (λ (ks : List K). ks ++ key v ∷ []) each ∙ ap (λ (k : K). map of xs ++ k ∷ []) same ∙ sym (map-append of xs (x ∷ []))

-- ---- those whose ids stay

either-not : (a b : Bool) → (a || b) ≡ false → (a ≡ false) × (b ≡ false)
either-not true b e = absurd cc
either-not false b e = (refl, e)

free-filter : {X : Type 0} (of : X → ℕ) (p : X → Bool) (id : ℕ) (xs : List X) → is_taken (map of xs) id ≡ false → is_taken (map of (filter p xs)) id ≡ false
free-filter of p id [] e = refl
free-filter of p id (x ∷ xs) e =
    let parts = either-not (of x == id) (is_taken (map of xs) id) e in
    let rest : is_taken (map of (filter p xs)) id ≡ false = free-filter of p id xs parts.1 in
    elim (p x) as (λ b. is_taken (map of (cond b (x ∷ filter p xs) (filter p xs))) id ≡ false) [
      | true ↦ ap (λ b. b || is_taken (map of (filter p xs)) id) parts.0 ∙ rest
      | false ↦ rest
    ]

-- the id of one of a list is taken in what is left of it where that one is left
abbrev pub Left : {X : Type 0} → (X → ℕ) → (X → Bool) → List X → List X → Type 0
Left of p left xs = AllByRecursion (λ x. is_taken (map of left) (of x) ≡ p x) xs

left-first : {X : Type 0} (of : X → ℕ) (x : X) (left : List X) (b : Bool) → is_taken (map of left) (of x) ≡ false → is_taken (map of (cond b (x ∷ left) left)) (of x) ≡ b
left-first of x left true free = ap (λ is. is || is_taken (map of left) (of x)) (same-id (of x))
left-first of x left false free = free

left-one : {X : Type 0} (of : X → ℕ) (x y : X) (left : List X) (b : Bool) → (of x == of y) ≡ false → is_taken (map of (cond b (x ∷ left) left)) (of y) ≡ is_taken (map of left) (of y)
left-one of x y left true apart = ap (λ is. is || is_taken (map of left) (of y)) apart
left-one of x y left false apart = refl

left-later : {X : Type 0} (of : X → ℕ) (p : X → Bool) (x : X) (left : List X) (b : Bool) (ys : List X) → is_taken (map of ys) (of x) ≡ false → Left of p left ys → Left of p (cond b (x ∷ left) left) ys
left-later of p x left b [] free all = tt
left-later of p x left b (y ∷ ys) free all =
    let parts = either-not (of y == of x) (is_taken (map of ys) (of x)) free in
    let apart : (of x == of y) ≡ false = grind (arith, nat_tests, parts.0) in
    (left-one of x y left b apart ∙ all.0, left-later of p x left b ys parts.1 all.1)

pub left-each : {X : Type 0} (of : X → ℕ) (p : X → Bool) (xs : List X) → AreDistinct (map of xs) → Left of p (filter p xs) xs
left-each of p [] distinct = tt
left-each of p (x ∷ xs) distinct =
    (left-first of x (filter p xs) (p x) (free-filter of p (of x) xs distinct.0), left-later of p x (filter p xs) (p x) xs distinct.0 (left-each of p xs distinct.1))

-- names of what is left
left-names : {V X : Type 0} (key : V → ℕ) (of : X → ℕ) (b : Bool) (entry : Name × V) (x : X) (names : List (Name × V)) (xs : List X) → key entry.1 ≡ of x
    → map (λ (e : Name × V). key e.1) names ≡ map of xs → map (λ (e : Name × V). key e.1) (cond b (entry ∷ names) names) ≡ map of (cond b (x ∷ xs) xs)
left-names key of true entry x names xs same each = cc
left-names key of false entry x names xs same each = each

pub named-left : {V X : Type 0} (key : V → ℕ) (of : X → ℕ) (test : ℕ → Bool) (p : X → Bool) (names : List (Name × V)) (xs : List X) → map (λ (e : Name × V). key e.1) names ≡ map of xs
    → AllByRecursion (λ x. test (of x) ≡ p x) xs → map (λ (e : Name × V). key e.1) (filter (λ (e : Name × V). test (key e.1)) names) ≡ map of (filter p xs)
named-left key of test p [] [] each all = refl
named-left key of test p [] (x ∷ xs) each all = absurd cc
named-left key of test p (entry ∷ names) [] each all = absurd cc
named-left {V} {X} key of test p (entry ∷ names) (x ∷ xs) each all =
    let first : key entry.1 ≡ of x = cc in
    let later : map (λ (e : Name × V). key e.1) names ≡ map of xs = cc in
    let passes : test (key entry.1) ≡ p x = ap test first ∙ all.0 in
    let rest : List (Name × V) = filter (λ (e : Name × V). test (key e.1)) names in
    ap (λ (b : Bool). map (λ (e : Name × V). key e.1) (cond b (entry ∷ rest) rest)) passes
    ∙ left-names key of (p x) entry x rest (filter p xs) first (named-left key of test p names xs later all.1)
