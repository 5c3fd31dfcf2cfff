-- Half of a number has one binary digit less.
use Rattle.std.proofs.Common.{◌≡◌, ℕ, zero, suc, ◌+◌, ◌*◌, ◌^◌, ◌<◌, ◌≤◌, cond, leb, refl, ap, ◌∙◌, arith}
use Rattle.std.proofs.lemmas.List.Sums.{sum_by-cons}
use Rattle.std.proofs.lemmas.Nat.{pow-add}
use Rattle.std.proofs.lemmas.Bool.Decides.{nat_tests}
use Rattle.std.specs.List.{count_by, range_with_len}
use Rattle.xf_model.specs.Digits.{digits}

-- whether a power of two is not above a number, as 0 or 1
abbrev within : ℕ → ℕ → ℕ
within number digit = cond (leb (2 ^ digit) number) 1 0

-- how many of the powers from one on are not above a number
abbrev digits_from : ℕ → ℕ → ℕ → ℕ
digits_from start many number = count_by (λ digit. leb (2 ^ digit) number) (range_with_len start many)

digits_from-first : (start many number : ℕ) → digits_from start (suc many) number ≡ within number start + digits_from (start + 1) many number
digits_from-first start many number = sum_by-cons (within number) start (range_with_len (start + 1) many)

digits_from-last : (start many number : ℕ) → digits_from start (suc many) number ≡ digits_from start many number + within number (start + many)
digits_from-last start zero number =
    let here : start + 0 ≡ start = omega arith in
    digits_from-first start zero number ∙ omega (arith, ap {B = ℕ} (within number) here)
digits_from-last start (suc many) number =
    let there : start + 1 + many ≡ start + suc many = omega arith in
    digits_from-first start (suc many) number
    ∙ omega (arith, digits_from-last (start + 1) many number, digits_from-first start many number, ap {B = ℕ} (within number) there)

-- the power after one that is not above a half is not above the whole
within-half : (digit half whole : ℕ) → half + half ≤ whole → within half digit ≤ within whole (digit + 1)
within-half digit half whole le =
    let twice : 2 ^ (digit + 1) ≡ 2 ^ digit * 2 = pow-add 2 digit 1 in
    grind (arith, nat_tests)

digits_from-half : (start many half whole : ℕ) → half + half ≤ whole → digits_from start many half ≤ digits_from (start + 1) many whole
digits_from-half start zero half whole le = omega arith
digits_from-half start (suc many) half whole le =
    omega (arith, digits_from-first start many half, digits_from-first (start + 1) many whole, within-half start half whole le, digits_from-half (start + 1) many half whole le)

within-one : (number : ℕ) → 1 ≤ number → within number 0 ≡ 1
within-one number le = grind (arith, nat_tests)

within-none : (number digit : ℕ) → number < 2 ^ digit → within number digit ≡ 0
within-none number digit lt = grind (arith, nat_tests)

halved : (many half whole : ℕ) → half + half ≤ whole → 1 ≤ whole → half < 2 ^ many → digits_from 0 (suc many) half + 1 ≤ digits_from 0 (suc many) whole
halved many half whole le some few =
    let here : 0 + many ≡ many = omega arith in
    let last : within half (0 + many) ≡ 0 = ap (within half) here ∙ within-none half many few in
    omega (arith, digits_from-last 0 many half, last, digits_from-first 0 many whole, within-one whole some, digits_from-half 0 many half whole le)

-- a half of a number that is not 0 has one digit less, or fewer
pub digits-halved : (half whole : ℕ) → half + half ≤ whole → 1 ≤ whole → whole < 2 ^ 64 → digits half + 1 ≤ digits whole
digits-halved half whole le some few =
    let fewer : half < 2 ^ 63 = omega arith in
    halved 63 half whole le some fewer

-- the same, kept shut: what it computes to is long
unfoldable pub digit_count : ℕ → ℕ
digit_count number = digits number

pub digit_count-is : (number : ℕ) → digit_count number ≡ digits number
unfolding digit_count
digit_count-is number = refl

pub digit_count-halved : (half whole : ℕ) → half + half ≤ whole → 1 ≤ whole → whole < 2 ^ 64 → digit_count half + 1 ≤ digit_count whole
unfolding digit_count
digit_count-halved half whole le some few = digits-halved half whole le some few
