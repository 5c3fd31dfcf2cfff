-- Counts as words: how large they are, and that the digits of a count read as it.
use Rattle.std.proofs.Common.{◌≡◌, ◌==◌, ℕ, ◌+◌, ◌-◌, ◌*◌, ◌/◌, ◌%◌, ◌^◌, ◌<◌, ◌≤◌, Bool, true, false, not, ◌||◌, nat_lt, if◌then◌else◌, List, [], ◌∷◌, ◌++◌, length, decimal, Option, Some, None, refl, subst, ◌∙◌, arith, lit<, length-append}
use Rattle.std.specs.Char.{is_ascii_digit}
use Rattle.std.specs.List.{list_all}
use Rattle.std.proofs.lemmas.Bool.{and_from, and_parts}
use Rattle.std.proofs.lemmas.Bool.Decides.{nat_tests}
use Rattle.std.proofs.lemmas.Fmt.{decimal_by_steps_wide, length-decimal-le_wide}
use Rattle.std.proofs.lemmas.Grind.{fold-append}
use Rattle.std.proofs.lemmas.List.Folds.{list_all-append}
use Rattle.std.proofs.Math.Nat.{pow-suc, pow-le-pow_right, mul-le-mul_right}
use Rattle.xf_base.specs.Fixed.{number_after}
use Rattle.xf_filter.specs.Words.{Word, if_passing, count_of, divisor_of, remainder_of}
use Rattle.xf_filter.proofs.Steps.{some_is}

-- ---- the digits of a count

record AreDigitsOf (number : ℕ) (digits : List ℕ) : Type 0 where
  all : list_all is_ascii_digit digits ≡ true
  value : number_after 0 digits ≡ number
  some : 0 < length digits

digit-true : (n : ℕ) → n < 10 → is_ascii_digit (48 + n) ≡ true
digit-true n few = grind (arith, nat_tests)

one_digit : (n : ℕ) → n < 10 → AreDigitsOf n ((48 + n) ∷ [])
one_digit n few = record { all = rw (digit-true n few) refl; value = omega arith; some = lit< tt }

digit_more : (n : ℕ) (digits : List ℕ) → 10 ≤ n → AreDigitsOf (n / 10) digits → AreDigitsOf n (digits ++ (48 + n % 10) ∷ [])
digit_more n digits large own =
    let last : list_all is_ascii_digit ((48 + n % 10) ∷ []) ≡ true = rw (digit-true (n % 10) (omega arith)) refl in
    let both : number_after 0 (digits ++ (48 + n % 10) ∷ []) ≡ number_after (number_after 0 digits) ((48 + n % 10) ∷ []) = fold-append (λ number digit. number * 10 + (digit - 48)) 0 digits ((48 + n % 10) ∷ []) in
    record {
      all = list_all-append is_ascii_digit digits ((48 + n % 10) ∷ []) ∙ and_from _ _ own.all last;
      value = both ∙ rw own.value (omega arith);
      some = omega (arith, length-append digits ((48 + n % 10) ∷ []), own.some);
    }

decimal-digits : (n : ℕ) → n < 10 ^ 64 → AreDigitsOf n (decimal n)
decimal-digits n small = decimal_by_steps_wide AreDigitsOf one_digit digit_more n small

wide : (n : ℕ) → n < 10 ^ 15 → n < 10 ^ 64
wide n small = omega (arith, pow-le-pow_right {n = 10} (lit< tt) {i = 15} {j = 64} (omega arith))

pub count_again : (n : ℕ) → n < 10 ^ 15 → count_of (decimal n) ≡ Some n
count_again n small =
    let own = decimal-digits n (wide n small) in
    let few : length (decimal n) ≤ 15 = length-decimal-le_wide 15 n (omega arith) small (wide n small) in
    let some : (length (decimal n) == 0) ≡ false = grind (arith, nat_tests, own.some) in
    let short : nat_lt 15 (length (decimal n)) ≡ false = grind (arith, nat_tests) in
    rw (some, short, own.all, own.value) refl

-- ---- how large a count is

digit-small : (digit : ℕ) → is_ascii_digit digit ≡ true → digit - 48 < 10
digit-small digit is = grind (arith, nat_tests)

digits-small : (front : ℕ) (digits : List ℕ) → list_all is_ascii_digit digits ≡ true → number_after front digits < (front + 1) * 10 ^ length digits
digits-small front [] all = omega arith
digits-small front (digit ∷ digits) all =
    let parts = and_parts (is_ascii_digit digit) (list_all is_ascii_digit digits) all in
    let next : ℕ = front * 10 + (digit - 48) in
    let rest : number_after next digits < (next + 1) * 10 ^ length digits = digits-small next digits parts.1 in
    let low : next + 1 ≤ (front + 1) * 10 = omega (arith, digit-small digit parts.0) in
    let much : (next + 1) * 10 ^ length digits ≤ (front + 1) * 10 * 10 ^ length digits = mul-le-mul_right (10 ^ length digits) low in
    let step : (front + 1) * 10 * 10 ^ length digits ≡ (front + 1) * 10 ^ length (digit ∷ digits) = rw (pow-suc 10 (length digits)) (grind arith) in
    omega (arith, rest, much, step)

neither : (a b c : Bool) → (a || b || c) ≡ false → (a ≡ false) × (b ≡ false) × (c ≡ false)
neither true b c e = absurd cc
neither false true c e = absurd cc
neither false false true e = absurd cc
neither false false false e = (refl, refl, refl)

unless : (test : Bool) (x n : ℕ) → (if test then None else Some x) ≡ Some n → (test ≡ false) × (x ≡ n)
unless true x n e = absurd cc
unless false x n e = (refl, some_is x n e)

not-false : (b : Bool) → not b ≡ false → b ≡ true
not-false true e = refl
not-false false e = absurd cc

pub count-small : (word : Word) (n : ℕ) → count_of word ≡ Some n → n < 10 ^ 15
count-small word n e =
    let chosen = unless ((length word == 0) || nat_lt 15 (length word) || not (list_all is_ascii_digit word)) (number_after 0 word) n e in
    let tests = neither (length word == 0) (nat_lt 15 (length word)) (not (list_all is_ascii_digit word)) chosen.0 in
    let short : length word ≤ 15 = grind (arith, nat_tests, tests.1) in
    let less : number_after 0 word < (0 + 1) * 10 ^ length word = digits-small 0 word (not-false (list_all is_ascii_digit word) tests.2) in
    let most : 10 ^ length word ≤ 10 ^ 15 = pow-le-pow_right {n = 10} (lit< tt) {i = length word} {j = 15} short in
    omega (arith, chosen.1, less, most)

-- ---- the numbers of a modulo

pub where_is : (test : ℕ → Bool) (o : Option ℕ) (n : ℕ) → if_passing test o ≡ Some n → (o ≡ Some n) × (test n ≡ true)
where_is test None n e = absurd cc
where_is test (Some m) n e = by_test (test m) refl e
  where
    by_test : (passes : Bool) → test m ≡ passes → (if passes then Some m else None) ≡ Some n → (Option.Some m ≡ Some n) × (test n ≡ true)
    by_test true is e = (e, subst (λ (k : ℕ). test k ≡ true) (some_is m n e) is)
    by_test false is e = absurd cc

pub divisor_again : (word : Word) (n : ℕ) → divisor_of word ≡ Some n → divisor_of (decimal n) ≡ Some n
divisor_again word n e =
    let parts = where_is (nat_lt 0) (count_of word) n e in
    rw (count_again n (count-small word n parts.0), parts.1) refl

pub remainder_again : (divisor : ℕ) (word : Word) (n : ℕ) → remainder_of divisor word ≡ Some n → remainder_of divisor (decimal n) ≡ Some n
remainder_again divisor word n e =
    let parts = where_is (λ remainder. nat_lt remainder divisor) (count_of word) n e in
    rw (count_again n (count-small word n parts.0), parts.1) refl

-- a divisor has a remainder
pub zero_remains : (word : Word) (divisor : ℕ) → divisor_of word ≡ Some divisor → remainder_of divisor (48 ∷ []) ≡ Some 0
zero_remains word divisor e =
    let parts = where_is (nat_lt 0) (count_of word) divisor e in
    rw parts.1 refl
