-- Rows that pass, one by one.
use Rattle.std.proofs.Common.{◌≡◌, ℕ, zero, suc, ◌+◌, ◌<◌, Bool, true, false, cond, List, [], ◌∷◌, length, take, get_or, Some, slice_get, ap, arith}
use Rattle.std.proofs.lemmas.Option.{slice_get-get_or}
use Rattle.std.specs.List.{AllByRecursion, filter}
use Rattle.xf_base.specs.declared.cell.Cell.{Cell}
use Rattle.xf_base.specs.declared.key.Key.{Key}
use Rattle.xf_engine.specs.Answers.{passing_in}
use Rattle.xf_engine.specs.Held.{HoldsKeysOf, live_dimensions, passes_each_at}
use Rattle.xf_engine.specs.State.{dimensions_of}
use Rattle.xf_engine.specs.declared.dimension.Dimension.{Dimension}
use Rattle.xf_engine.proofs.Passes.{passes_each_at-row}
use Rattle.xf_model.specs.Dimension.{passes_each}

-- how many of one element more pass a test
kept_first : {X : Type 0} (p : X → Bool) (x : X) (xs : List X) → length (filter p (x ∷ xs)) ≡ cond (p x) 1 0 + length (filter p xs)
kept_first p x xs = elim (p x) as (λ b. length (cond b (x ∷ filter p xs) (filter p xs)) ≡ cond b 1 0 + length (filter p xs)) [ true ↦ omega arith | false ↦ omega arith ]

kept_next : {X : Type 0} (p : X → Bool) (xs : List X) (i : ℕ) (x : X) → slice_get xs i ≡ Some x → length (filter p (take (suc i) xs)) ≡ length (filter p (take i xs)) + cond (p x) 1 0
kept_next p [] i x e = absurd cc
kept_next p (y ∷ xs) zero x e = let same : y ≡ x = cc in omega (arith, kept_first p y [], ap {B = ℕ} (λ z. cond (p z) 1 0) same)
kept_next p (y ∷ xs) (suc i) x e = omega (arith, kept_first p y (take (suc i) xs), kept_first p y (take i xs), kept_next p xs i x e)

-- how many rows pass, with the row of one place more
pub passing_more : {A P : Type 0} (keys_of : A → List Cell → List Key) (says : P → Key → Bool) (held : List (Dimension A P)) (rows : List (List Cell)) (place : ℕ) → AllByRecursion (HoldsKeysOf keys_of rows) held → place < length rows → passing_in keys_of says (live_dimensions held) (take (place + 1) rows) ≡ passing_in keys_of says (live_dimensions held) (take place rows) + cond (passes_each_at says held place) 1 0
passing_more keys_of says held rows place holds e =
    let row : List Cell = get_or rows place [] in
    let there : slice_get rows place ≡ Some row = slice_get-get_or rows place [] e in
    let next : place + 1 ≡ suc place = omega arith in
    let passing : List Cell → Bool = passes_each (dimensions_of keys_of says (live_dimensions held)) in
    omega (arith, ap (λ n. length (filter passing (take n rows))) next, kept_next passing rows place row there, ap {B = ℕ} (λ b. cond b 1 0) (passes_each_at-row keys_of says rows held place row holds there))
