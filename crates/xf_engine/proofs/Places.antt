-- Rows by their places, and rows as they follow each other.
use Rattle.std.proofs.Common.{◌≡◌, ℕ, zero, suc, ◌+◌, List, [], ◌∷◌, ◌++◌, Some, append_assoc, length, slice_get, refl, sym, ap, subst, ◌∙◌, arith}
use Rattle.std.proofs.lemmas.List.{append-nil}
use Rattle.std.specs.List.{enumerate_from, flat_map, range_with_len}

-- what is made of each place is what is made of each row with its place, where both make the same
pub flat_map-places : {X Y : Type 0} (f : ℕ → List Y) (g : ℕ × X → List Y) (start : ℕ) (xs : List X) → ((i : ℕ) (x : X) → slice_get xs i ≡ Some x → f (start + i) ≡ g (start + i, x)) → flat_map f (range_with_len start (length xs)) ≡ flat_map g (enumerate_from start xs)
flat_map-places f g start [] same = refl
flat_map-places {X} {Y} f g start (x ∷ xs) same =
    let here : start + 0 ≡ start = omega arith in
    let first : f start ≡ g (start, x) = subst (λ n. f n ≡ g (n, x)) here (same 0 x refl) in
    let rest : flat_map f (range_with_len (start + 1) (length xs)) ≡ flat_map g (enumerate_from (start + 1) xs) =
    flat_map-places f g (start + 1) xs (λ i y there. let next : start + suc i ≡ start + 1 + i = omega arith in subst (λ n. f n ≡ g (n, y)) next (same (suc i) y there)) in
    λ i. first i ++ rest i

-- what is made of one place more
pub flat_map-range_more : {Y : Type 0} (f : ℕ → List Y) (start n : ℕ) → flat_map f (range_with_len start (suc n)) ≡ flat_map f (range_with_len start n) ++ f (start + n)
flat_map-range_more f start zero = let here : start ≡ start + 0 = omega arith in append-nil (f start) ∙ ap f here
flat_map-range_more f start (suc n) =
    let next : start + 1 + n ≡ start + suc n = omega arith in
    ap (λ rest. f start ++ rest) (flat_map-range_more f (start + 1) n ∙ ap (λ k. flat_map f (range_with_len (start + 1) n) ++ f k) next)
    ∙ sym (append_assoc (f start) (flat_map f (range_with_len (start + 1) n)) (f (start + suc n)))

pub flat_map-range_next : {Y : Type 0} (f : ℕ → List Y) (n : ℕ) → flat_map f (range_with_len 0 (n + 1)) ≡ flat_map f (range_with_len 0 n) ++ f n
flat_map-range_next f n =
    let one : n + 1 ≡ suc n = omega arith in
    let here : 0 + n ≡ n = omega arith in
    ap (λ k. flat_map f (range_with_len 0 k)) one ∙ flat_map-range_more f 0 n ∙ ap (λ k. flat_map f (range_with_len 0 n) ++ f k) here
