-- Where a word is cut.
use Rattle.std.proofs.Common.{◌≡◌, ℕ, Bool, true, false, nat_lt, List, [], ◌∷◌, length, refl, arith}
use Rattle.std.specs.List.{list_any, position_or_len}
use Rattle.std.proofs.lemmas.Bool.Decides.{nat_tests}

-- a list has an element that passes just where the first of them stands before its end
pub list_any-position : (p : ℕ → Bool) (xs : List ℕ) → list_any p xs ≡ nat_lt (position_or_len p xs) (length xs)
list_any-position p [] = refl
list_any-position p (x ∷ xs) = by_first p x xs (p x) refl (list_any-position p xs)
  where
    by_first : (p : ℕ → Bool) (x : ℕ) (xs : List ℕ) (passes : Bool) → p x ≡ passes → list_any p xs ≡ nat_lt (position_or_len p xs) (length xs) → list_any p (x ∷ xs) ≡ nat_lt (position_or_len p (x ∷ xs)) (length (x ∷ xs))
    by_first p x xs true is rest = rw is (grind (arith, nat_tests))
    by_first p x xs false is rest = rw (is, rest) (grind (arith, nat_tests))

-- with the tests of numbers, to be named in a `using`
pub ruleset bars = (list_any-position, nat_tests)
