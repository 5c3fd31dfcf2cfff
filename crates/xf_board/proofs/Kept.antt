-- What all that is read keeps, where an item keeps it whatever stands before it.
use Rattle.std.proofs.Common.{◌≡◌, ◌<◌, ◌≤◌, ℕ, List, [], Ok, Err, length, sym, subst}
use Rattle.std.specs.Prelude.{IfOk}
use Rattle.std.specs.List.{AllByRecursion}
use Rattle.xf_members.specs.Reading.{AllAfter, Read}
use Rattle.xf_members.proofs.After.{all-from_after}

-- few enough, and each keeps it
pub kept-all : {A : Type 0} (P : A → Type 0) (most count : ℕ) (r : Read (List A)) → count ≤ most → IfOk r (λ xs. AllAfter (λ ys x. P x) [] xs)
    → IfOk r (λ xs. length xs ≡ count) → IfOk r (λ xs. (length xs ≤ most) × AllByRecursion P xs)
kept-all P most count (Ok xs) few kept all = (subst (λ n. n ≤ most) (sym all) few, all-from_after P [] xs kept)
kept-all P most count (Err e) few kept all = tt

-- some, few enough, and each keeps it
pub kept-some : {A : Type 0} (P : A → Type 0) (most count : ℕ) (r : Read (List A)) → 0 < count → count ≤ most → IfOk r (λ xs. AllAfter (λ ys x. P x) [] xs)
    → IfOk r (λ xs. length xs ≡ count) → IfOk r (λ xs. (0 < length xs) × (length xs ≤ most) × AllByRecursion P xs)
kept-some P most count (Ok xs) some few kept all =
    (subst (λ n. 0 < n) (sym all) some, subst (λ n. n ≤ most) (sym all) few, all-from_after P [] xs kept)
kept-some P most count (Err e) some few kept all = tt
