-- The digits of a date's text.
use Rattle.std.proofs.Common.{◌≡◌, ℕ, ◌+◌, ◌-◌, ◌/◌, ◌%◌, ◌<◌, List, [], ◌∷◌, ◌++◌, length, get_or, replicate, decimal, refl, sym, ap, ◌∙◌, append_assoc, arith, lit<, length-append, ⊎_elim}
use Rattle.std.proofs.lemmas.Fmt.{decimal_digit, decimal_step}
use Rattle.std.proofs.lemmas.Bool.{cases_lt}
use Rattle.std.proofs.lemmas.List.{replicate_more}
use Rattle.xf_base.specs.Fixed.{with_zeros}

-- zeros in front of one digit
with_zeros-digit : (k n : ℕ) → n < 10 → with_zeros (k + 1) (decimal n) ≡ replicate k 48 ++ (48 + n) ∷ []
with_zeros-digit k n small =
    let zeros : k + 1 - 1 ≡ k = omega arith in
    rw (decimal_digit n small, zeros) refl

-- zeros in front of a digit more
with_zeros-step : (k n : ℕ) → n < 10000 → with_zeros (k + 2) (decimal n) ≡ with_zeros (k + 1) (decimal (n / 10)) ++ (48 + n % 10) ∷ []
with_zeros-step k n small =
    ⊎_elim
    (λ one.
    let none : n / 10 ≡ 0 = omega arith in
    let same : n % 10 ≡ n = omega arith in
    let next : k + 2 ≡ k + 1 + 1 = omega arith in
    rw (none, same, next, with_zeros-digit (k + 1) n one, with_zeros-digit k 0 (lit< tt)) (ap (λ zeros. zeros ++ (48 + n) ∷ []) (sym (replicate_more k 48))))
    (λ more.
    let step = decimal_step n more (omega arith) in
    let long : length (decimal n) ≡ length (decimal (n / 10)) + 1 = rw step (length-append (decimal (n / 10)) ((48 + n % 10) ∷ [])) in
    let zeros : k + 2 - length (decimal n) ≡ k + 1 - length (decimal (n / 10)) = omega arith in
    rw (zeros, step, append_assoc) refl)
    (cases_lt n 10)

-- two digits of a number below 100
pub with_zeros-two : (n : ℕ) → n < 100 → with_zeros 2 (decimal n) ≡ (48 + n / 10) ∷ (48 + n % 10) ∷ []
with_zeros-two n small =
    let front = with_zeros-digit 0 (n / 10) (omega arith) in
    with_zeros-step 0 n (omega arith) ∙ ap (λ digits. digits ++ (48 + n % 10) ∷ []) front

-- four digits are two and two
pub with_zeros-four : (n : ℕ) → n < 10000 → with_zeros 4 (decimal n) ≡ with_zeros 2 (decimal (n / 100)) ++ with_zeros 2 (decimal (n % 100))
with_zeros-four n small =
    let tens : n / 10 / 10 ≡ n / 100 = omega arith in
    let ten : n % 100 / 10 ≡ n / 10 % 10 = omega arith in
    let one : n % 100 % 10 ≡ n % 10 = omega arith in
    let last : with_zeros 4 (decimal n) ≡ with_zeros 3 (decimal (n / 10)) ++ (48 + n % 10) ∷ [] = with_zeros-step 2 n small in
    let third : with_zeros 3 (decimal (n / 10)) ≡ with_zeros 2 (decimal (n / 10 / 10)) ++ (48 + n / 10 % 10) ∷ [] = with_zeros-step 1 (n / 10) (omega arith) in
    let back = with_zeros-two (n % 100) (omega arith) in
    last ∙ (ap (λ digits. digits ++ (48 + n % 10) ∷ []) third ∙ rw (tens, back, ten, one) (append_assoc (with_zeros 2 (decimal (n / 100))) ((48 + n / 10 % 10) ∷ []) ((48 + n % 10) ∷ [])))

-- a date's text digit by digit
pub date_digits : (year month day : ℕ) (century rest months days : List ℕ) → year < 10000 → month < 100 → day < 100 → century ≡ with_zeros 2 (decimal (year / 100)) → rest ≡ with_zeros 2 (decimal (year % 100)) → months ≡ with_zeros 2 (decimal month) → days ≡ with_zeros 2 (decimal day) → get_or century 0 0 ∷ get_or century 1 0 ∷ get_or rest 0 0 ∷ get_or rest 1 0 ∷ 45 ∷ get_or months 0 0 ∷ get_or months 1 0 ∷ 45 ∷ get_or days 0 0 ∷ get_or days 1 0 ∷ [] ≡ with_zeros 4 (decimal year) ++ 45 ∷ with_zeros 2 (decimal month) ++ 45 ∷ with_zeros 2 (decimal day)
date_digits year month day century rest months days few_years few_months few_days is_century is_rest are_months are_days =
    let first = with_zeros-two (year / 100) (omega arith) in
    let second = with_zeros-two (year % 100) (omega arith) in
    let third = with_zeros-two month few_months in
    let fourth = with_zeros-two day few_days in
    rw (is_century, is_rest, are_months, are_days, with_zeros-four year few_years, first, second, third, fourth) refl
