-- The digits of a number's text.
use Rattle.std.proofs.Common.{◌≡◌, ℕ, ◌^◌, ◌<◌, ◌≤◌, false, List, [], ◌∷◌, ◌++◌, length, take, decimal, refl, sym, ap, ◌∙◌, arith}
use Rattle.std.specs.List.{list_any}
use Rattle.std.specs.Str.Parse.{AllDigits}
use Rattle.std.proofs.lemmas.Fmt.{decimal_is_IsNumeral_wide}
use Rattle.std.proofs.lemmas.Str.Parse.{digit_from_value}
use Rattle.std.proofs.lemmas.Bool.Decides.{nat_tests}
use Rattle.std.proofs.lemmas.List.{take-take, length-append}
use Rattle.std.proofs.Math.Seq.{take-append_seam}
use Rattle.xf_base.specs.Word.{needs_quotes}

-- a number of an i128's size has a digit
pub decimal_some : (n : ℕ) → n ≤ 2 ^ 127 → 0 < length (decimal n)
decimal_some n small = (decimal_is_IsNumeral_wide n (omega arith)).0.0

-- what stands in front of a list stands in front of what begins with that list
pub take_front : (n m : ℕ) (old middle new more : List ℕ) → n ≡ length old → m ≡ length middle → middle ≡ old ++ more → take m new ≡ middle → take n new ≡ old
take_front n m old middle new more is_n is_m parts begins =
    let shorter : n ≤ m = rw (is_n, is_m, parts, length-append old more) (omega arith) in
    let front : take n middle ≡ old = rw (parts, is_n) (take-append_seam old more) in
    sym (take-take n m new shorter) ∙ (ap (take n) begins ∙ front)

-- digits need no quotes
pub digits_plain : (digits : List ℕ) → AllDigits 10 digits → list_any needs_quotes digits ≡ false
digits_plain [] all = refl
digits_plain (digit ∷ digits) all =
    let range = digit_from_value digit all.0 in
    let rest = digits_plain digits all.1 in
    let here : needs_quotes digit ≡ false = grind (arith, nat_tests) in
    rw (here, rest) refl
