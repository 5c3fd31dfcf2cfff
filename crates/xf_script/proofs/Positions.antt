-- Which word stands where.
use Rattle.std.proofs.Common.{◌≡◌, ℕ, suc, ◌+◌, ◌-◌, nat_lt, ◌<◌, true, List, [], ◌∷◌, ◌++◌, length, Some, Ok, refl, arith}
use Rattle.std.specs.List.{slice_get}
use Rattle.std.proofs.lemmas.Bool.Decides.{nat_tests}
use Rattle.xf_filter.specs.Words.{Word}
use Rattle.xf_script.specs.Grammar.{ending, word_at}

at_length : (front : List Word) (word : Word) (rest : List Word) → slice_get (front ++ word ∷ rest) (length front) ≡ Some word
at_length [] word rest = refl
at_length (first ∷ front) word rest = at_length front word rest

behind_length : (front : List Word) (word next : Word) (rest : List Word) → slice_get (front ++ word ∷ next ∷ rest) (suc (length front)) ≡ Some next
behind_length [] word next rest = refl
behind_length (first ∷ front) word next rest = behind_length front word next rest

-- the word behind those in front
pub there : (front : List Word) (word : Word) (rest : List Word) (number : ℕ) → number ≡ length front + 1 → word_at (front ++ word ∷ rest) number ≡ Ok word
there front word rest number is =
    let place : number - 1 ≡ length front = omega arith in
    rw (place, at_length front word rest) refl

-- the word behind that
pub there_next : (front : List Word) (word next : Word) (rest : List Word) (number : ℕ) → number ≡ length front + 2 → word_at (front ++ word ∷ next ∷ rest) number ≡ Ok next
there_next front word next rest number is =
    let place : number - 1 ≡ suc (length front) = omega arith in
    rw (place, behind_length front word next rest) refl

-- the end
pub ends : {A : Type 0} (words : List Word) (number : ℕ) (x : A) → length words < number → ending words number x ≡ Ok x
ends words number x less =
    let past : nat_lt (length words) number ≡ true = grind (arith, nat_tests) in
    rw past refl
