-- A list from which elements are dropped one by one.
use Rattle.std.proofs.Common.{◌≡◌, ℕ, zero, suc, ◌<◌, ◌==◌, Bool, true, false, not, ◌&&◌, cond, List, [], ◌∷◌, length, take, get_or, refl, sym, ap, arith}
use Rattle.std.proofs.lemmas.Bool.Decides.{nat_tests}
use Rattle.std.specs.List.{filter, list_all, remove}

-- an element that would not stay goes without a change of what stays
pub filter-remove : {X : Type 0} (p : X → Bool) (xs : List X) (i : ℕ) (d : X) → i < length xs → p (get_or xs i d) ≡ false → filter p (remove xs i) ≡ filter p xs
filter-remove p [] i d e gone = absurd (omega (arith, e))
filter-remove p (x ∷ xs) zero d e gone = sym (ap (λ b. cond b (x ∷ filter p xs) (filter p xs)) gone)
filter-remove p (x ∷ xs) (suc i) d e gone =
    let rest : filter p (remove xs i) ≡ filter p xs = filter-remove p xs i d (omega (arith, e)) gone in
    ap (λ kept. cond (p x) (x ∷ kept) kept) rest

-- what stands before it stays there
pub take-remove : {X : Type 0} (xs : List X) (i : ℕ) → take i (remove xs i) ≡ take i xs
take-remove [] zero = refl
take-remove [] (suc i) = refl
take-remove (x ∷ xs) zero = refl
take-remove (x ∷ xs) (suc i) = ap (λ rest. x ∷ rest) (take-remove xs i)

-- where all would stay nothing goes
pub filter-whole : {X : Type 0} (p : X → Bool) (xs : List X) → list_all p xs ≡ true → filter p xs ≡ xs
filter-whole p [] all = refl
filter-whole {X} p (x ∷ xs) all = go (p x) refl all (filter-whole p xs)
  where
    go : (b : Bool) → p x ≡ b → (b && list_all p xs) ≡ true → (list_all p xs ≡ true → filter p xs ≡ xs) → cond b (x ∷ filter p xs) (filter p xs) ≡ x ∷ xs
    go true e t later = ap (λ rest. x ∷ rest) (later t)
    go false e t later = absurd cc

pub elsewhere-not : (a b : ℕ) → a ≡ b → not (a == b) ≡ false
elsewhere-not a b e = let same : (a == b) ≡ true = grind (arith, nat_tests, e) in ap not same
