-- What reading a number digit by digit computes.
use Rattle.std.proofs.Common.{◌≡◌, ◌==◌, ℕ, true, false, ◌+◌, ◌-◌, ◌*◌, ◌^◌, ◌<◌, ◌≤◌, min, List, [], ◌∷◌, ◌++◌, length, get_or, take, drop, replicate, refl, sym, ap, ◌∙◌, arith, lit<, ⊎_elim}
use mathlib.Core.List.{append-nil}
use Rattle.std.proofs.lemmas.List.{drop_all, length-take-le, take-append-le, take-replicate}
use Rattle.std.proofs.lemmas.List.Sums.{fold_more, fold-append, position_or_len_is}
use Rattle.std.proofs.lemmas.Bool.{cases_lt}
use Rattle.std.specs.List.{position_or_len}
use Rattle.std.proofs.Math.Nat.{pow-le-pow_right}
use Rattle.std.proofs.Math.Seq.{take-append-add, take-length}
use Rattle.xf_base.specs.Fixed.{number_after, units_of}

-- a digit more
pub number_after-more : (front : ℕ) (digits : List ℕ) (i : ℕ) → i < length digits → number_after front (take (i + 1) digits) ≡ number_after front (take i digits) * 10 + (get_or digits i 0 - 48)
number_after-more front digits i h = fold_more (λ number digit. number * 10 + (digit - 48)) front digits i 0 h

-- a number below the power of ten of at most 15 digits is below the greatest
pub number_of_digits-small : (i number : ℕ) → i ≤ 15 → number < 10 ^ i → number < 1000000000000000
number_of_digits-small i number few small = omega (arith, pow-le-pow_right {n = 10} (lit< tt) {i = i} {j = 15} few)

-- digits one after the other
pub number_after-append : (front : ℕ) (digits more : List ℕ) → number_after front (digits ++ more) ≡ number_after (number_after front digits) more
number_after-append front digits more = fold-append (λ number digit. number * 10 + (digit - 48)) front digits more

-- a number that is cut before its digits are read is above the cap just where it would be anyhow
pub number_after-min : (cap front : ℕ) (digits : List ℕ) → min (number_after (min front cap) digits) cap ≡ min (number_after front digits) cap
number_after-min cap front [] = omega arith
number_after-min cap front (digit ∷ digits) =
    let twice : min (number_after (min (min front cap * 10 + (digit - 48)) cap) digits) cap ≡ min (number_after (min front cap * 10 + (digit - 48)) digits) cap = number_after-min cap (min front cap * 10 + (digit - 48)) digits in
    let once : min (number_after (min (front * 10 + (digit - 48)) cap) digits) cap ≡ min (number_after (front * 10 + (digit - 48)) digits) cap = number_after-min cap (front * 10 + (digit - 48)) digits in
    let same : min (min front cap * 10 + (digit - 48)) cap ≡ min (front * 10 + (digit - 48)) cap = omega arith in
    sym twice ∙ (ap (λ n. min (number_after n digits) cap) same ∙ once)

filled_long : (fraction : List ℕ) (decimals : ℕ) → decimals ≤ length fraction → take decimals (fraction ++ replicate decimals 48) ≡ take (min (length fraction) decimals) fraction ++ replicate (decimals - min (length fraction) decimals) 48
filled_long fraction decimals long =
    let kept : min (length fraction) decimals ≡ decimals = omega arith in
    let none : decimals - decimals ≡ 0 = omega arith in
    rw (kept, none, take-append-le decimals fraction (replicate decimals 48) long) (sym (append-nil (take decimals fraction)))

filled_short : (fraction : List ℕ) (decimals : ℕ) → length fraction ≤ decimals → take decimals (fraction ++ replicate decimals 48) ≡ take (min (length fraction) decimals) fraction ++ replicate (decimals - min (length fraction) decimals) 48
filled_short fraction decimals short =
    let kept : min (length fraction) decimals ≡ length fraction = omega arith in
    let parts : length fraction + (decimals - length fraction) ≡ decimals = omega arith in
    let front : take (length fraction + (decimals - length fraction)) (fraction ++ replicate decimals 48) ≡ fraction ++ take (decimals - length fraction) (replicate decimals 48) = take-append-add fraction (replicate decimals 48) (decimals - length fraction) in
    let zeros : take (decimals - length fraction) (replicate decimals 48) ≡ replicate (decimals - length fraction) 48 = take-replicate (decimals - length fraction) decimals 48 (omega arith) in
    rw (kept, take-length fraction) ((rw parts at front) ∙ ap (λ digits. fraction ++ digits) zeros)

-- the decimals that are there, and zeros for those that are not
pub take-filled : (fraction : List ℕ) (decimals : ℕ) → take decimals (fraction ++ replicate decimals 48) ≡ take (min (length fraction) decimals) fraction ++ replicate (decimals - min (length fraction) decimals) 48
take-filled fraction decimals =
    ⊎_elim (λ short. filled_short fraction decimals (omega arith)) (λ long. filled_long fraction decimals long) (cases_lt (length fraction) decimals)

-- the capped steps one after the other give the capped number
pub units_of-min : (cap : ℕ) (whole fraction : List ℕ) (decimals : ℕ) → min (number_after (min (number_after (min (number_after 0 whole) cap) (take (min (length fraction) decimals) fraction)) cap) (replicate (decimals - min (length fraction) decimals) 48)) cap ≡ min (units_of whole fraction decimals) cap
units_of-min cap whole fraction decimals =
    let kept : List ℕ = take (min (length fraction) decimals) fraction in
    let zeros : List ℕ = replicate (decimals - min (length fraction) decimals) 48 in
    let all : units_of whole fraction decimals ≡ number_after (number_after (number_after 0 whole) kept) zeros = ap (λ digits. number_after 0 (whole ++ digits)) (take-filled fraction decimals) ∙ (number_after-append 0 whole (kept ++ zeros) ∙ number_after-append (number_after 0 whole) kept zeros) in
    let middle = number_after-min cap (number_after 0 whole) kept in
    let outer = number_after-min cap (number_after (number_after 0 whole) kept) zeros in
    ap (λ n. min (number_after n zeros) cap) middle ∙ (outer ∙ ap (λ n. min n cap) (sym all))

-- the same, step by step as the code takes them
pub units_of_by_steps : (cap : ℕ) (whole fraction : List ℕ) (decimals d k a b n : ℕ) → d ≡ decimals → k ≡ min (length fraction) d → a ≡ min (number_after 0 whole) cap → b ≡ min (number_after a (take k fraction)) cap → n ≡ min (number_after b (replicate (d - length (take k fraction)) 48)) cap → n ≡ min (units_of whole fraction decimals) cap
units_of_by_steps cap whole fraction decimals d k a b n is_d is_k is_a is_b is_n =
    let kept : length (take k fraction) ≡ k = length-take-le k fraction (omega arith) in
    rw (is_n, kept, is_b, is_a, is_k, is_d) (units_of-min cap whole fraction decimals)

-- the first point stands where no byte before it is one
pub position-point : (text : List ℕ) (i : ℕ) → i ≤ length text → ((k : ℕ) → k < i → (get_or text k 0 == 46) ≡ false) → (i < length text → (get_or text i 0 == 46) ≡ true) → position_or_len (λ b. b == 46) text ≡ i
position-point text i within before here = position_or_len_is (λ b. b == 46) text i 0 within before here

-- past the end nothing is left, so the length serves as well
pub drop-min : (digits : List ℕ) (n : ℕ) → drop (min (length digits) n) digits ≡ drop n digits
drop-min digits n =
    ⊎_elim
    (λ short. let all : min (length digits) n ≡ length digits = omega arith in rw (all, drop_all (length digits) digits (omega arith)) (sym (drop_all n digits (omega arith))))
    (λ long. let same : min (length digits) n ≡ n = omega arith in rw same refl)
    (cases_lt (length digits) n)
