-- What moves in a row that has keys.
use Rattle.std.proofs.Common.{◌≡◌, ℕ, zero, suc, ◌+◌, ◌<◌, ◌≤◌, List, [], ◌∷◌, length, take, Some, slice_get, refl, ap, ◌∙◌, arith}
use Rattle.std.proofs.lemmas.List.Sums.{sum_by-cons, sum_by-take-le}
use Rattle.std.specs.List.{count_by, sum_by}
use Rattle.xf_model.specs.Dimension.{Filter}
use Rattle.xf_model.specs.Moved.{exactly_one, moved_keys}

pub moved_some : {Key : Type 0} (old new : Filter Key) (keys : List Key) → 0 < length keys → moved_keys old new keys ≡ count_by (λ k. exactly_one (old.holds k) (new.holds k)) keys
moved_some old new [] some = absurd (omega (arith, some))
moved_some old new (key ∷ keys) some = refl

-- the sum over one element more
sum_next : {X : Type 0} (f : X → ℕ) (xs : List X) (i : ℕ) (x : X) → Some x ≡ slice_get xs i → sum_by f (take (suc i) xs) ≡ sum_by f (take i xs) + f x
sum_next f [] i x e = absurd cc
sum_next f (y ∷ xs) zero x e = let same : x ≡ y = cc in omega (arith, sum_by-cons f y [], ap f same)
sum_next f (y ∷ xs) (suc i) x e = omega (arith, sum_by-cons f y (take (suc i) xs), sum_by-cons f y (take i xs), sum_next f xs i x e)

pub sum_more : {X : Type 0} (f : X → ℕ) (xs : List X) (i : ℕ) (x : X) → Some x ≡ slice_get xs i → sum_by f (take (i + 1) xs) ≡ sum_by f (take i xs) + f x
sum_more f xs i x e =
    let next : i + 1 ≡ suc i = omega arith in
    ap (λ n. sum_by f (take n xs)) next ∙ sum_next f xs i x e

-- no more than the sum over all
pub sum_below : {X : Type 0} (f : X → ℕ) (xs : List X) (i : ℕ) → sum_by f (take i xs) ≤ sum_by f xs
sum_below f xs i = sum_by-take-le f xs i
