-- A list whose first elements are changed already.
use Rattle.std.proofs.Common.{◌≡◌, ℕ, zero, suc, ◌<◌, List, [], ◌∷◌, ◌++◌, ◌+◌, length, map, take, drop, get_or, set, refl, sym, ap, ◌∙◌, arith}
use Rattle.std.specs.List.{AllByRecursion}

pub swept : {X : Type 0} → (X → X) → ℕ → List X → List X
swept f i xs = map f (take i xs) ++ drop i xs

-- nothing is changed at first
pub swept_none : {X : Type 0} (f : X → X) (xs : List X) → swept f 0 xs ≡ xs
unfolding swept
swept_none f xs = refl

-- the next element is as it was
pub swept_at : {X : Type 0} (f : X → X) (i : ℕ) (xs : List X) (d : X) → get_or (swept f i xs) i d ≡ get_or xs i d
unfolding swept
swept_at f zero xs d = refl
swept_at f (suc i) [] d = refl
swept_at f (suc i) (x ∷ xs) d = swept_at f i xs d

-- and is changed next
pub swept_next : {X : Type 0} (f : X → X) (i : ℕ) (xs : List X) (d : X) → i < length xs → set (swept f i xs) i (f (get_or xs i d)) ≡ swept f (suc i) xs
unfolding swept
swept_next f i [] d e = absurd (omega (arith, e))
swept_next f zero (x ∷ xs) d e = refl
swept_next f (suc i) (x ∷ xs) d e = ap (λ rest. f x ∷ rest) (swept_next f i xs d (omega (arith, e)))

-- in the end all are
pub swept_all : {X : Type 0} (f : X → X) (i : ℕ) (xs : List X) → length xs ≡ i → swept f i xs ≡ map f xs
unfolding swept
swept_all f zero [] e = refl
swept_all f (suc i) [] e = refl
swept_all f zero (x ∷ xs) e = absurd (omega (arith, e))
swept_all f (suc i) (x ∷ xs) e = ap (λ rest. f x ∷ rest) (swept_all f i xs (omega (arith, e)))

-- what takes each change back, and changes nothing else, takes all back
pub swept_back : {X : Type 0} (f g : X → X) (i : ℕ) (xs : List X) → AllByRecursion (λ x. (g (f x) ≡ x) × (g x ≡ x)) xs → map g (swept f i xs) ≡ xs
unfolding swept
swept_back f g zero [] back = refl
swept_back f g (suc i) [] back = refl
swept_back f g zero (x ∷ xs) back =
    ap (λ first. first ∷ map g xs) back.0.1 ∙ ap (λ rest. x ∷ rest) (swept_back f g zero xs back.1)
swept_back f g (suc i) (x ∷ xs) back =
    ap (λ first. first ∷ map g (swept f i xs)) back.0.0 ∙ ap (λ rest. x ∷ rest) (swept_back f g i xs back.1)

-- also where the next element is another one that it takes back
pub swept_set_back : {X : Type 0} (f g : X → X) (i : ℕ) (xs : List X) (y d : X) → AllByRecursion (λ x. (g (f x) ≡ x) × (g x ≡ x)) xs → i < length xs → g y ≡ get_or xs i d → map g (set (swept f i xs) i y) ≡ xs
unfolding swept
swept_set_back f g i [] y d back e h = absurd (omega (arith, e))
swept_set_back f g zero (x ∷ xs) y d back e h = ap (λ first. first ∷ map g xs) h ∙ ap (λ rest. x ∷ rest) (swept_back f g zero xs back.1)
swept_set_back f g (suc i) (x ∷ xs) y d back e h =
    ap (λ first. first ∷ map g (set (swept f i xs) i y)) back.0.0 ∙ ap (λ rest. x ∷ rest) (swept_set_back f g i xs y d back.1 (omega (arith, e)) h)

-- one element more
pub swept_step : {X : Type 0} (f : X → X) (i next : ℕ) (xs done : List X) (y d : X) → done ≡ swept f i xs → i < length xs → next ≡ i + 1 → y ≡ f (get_or done i d) → set done i y ≡ swept f next xs
swept_step f i next xs done y d same e n h =
    let more : next ≡ suc i = omega (arith, n) in
    ap (set done i) (h ∙ ap (λ ys. f (get_or ys i d)) same ∙ ap f (swept_at f i xs d))
    ∙ ap (λ ys. set ys i (f (get_or xs i d))) same
    ∙ swept_next f i xs d e
    ∙ ap (λ n. swept f n xs) (sym more)
