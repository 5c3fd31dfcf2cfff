-- A number without decimals is a word by itself.
use Rattle.std.proofs.Common.{◌≡◌, ◌==◌, if◌then◌else◌, ℕ, ◌+◌, ◌-◌, ◌^◌, ◌<◌, ◌≤◌, Bool, true, false, ℤ, pos, int_lt, nat_abs, FitsSigned, List, [], ◌∷◌, ◌++◌, length, decimal, refl, arith}
use Rattle.std.specs.List.{list_any}
use Rattle.std.specs.Int.{w128}
use Rattle.std.specs.Int.Signed.{nat_abs-le}
use Rattle.std.proofs.lemmas.Bool.Decides.{nat_tests}
use Rattle.std.proofs.lemmas.Fmt.{decimal_is_IsNumeral_wide}
use Rattle.xf_base.specs.Fixed.{fixed_text}
use Rattle.xf_base.specs.Word.{needs_quotes, word_text}
use Rattle.xf_base.proofs.WriteNumbers.{decimal_some, digits_plain}

-- a text that is not empty and needs no quotes is a word as it is
pub word_text_plain : (text : List ℕ) → 0 < length text → list_any needs_quotes text ≡ false → word_text text ≡ text
word_text_plain text some plain =
    let full : (length text == 0) ≡ false = grind (arith, nat_tests) in
    rw (full, plain) refl

-- nor does a sign in front need quotes
word_text_signed : (negative : Bool) (digits : List ℕ) → 0 < length digits → list_any needs_quotes digits ≡ false → word_text ((if negative then 45 ∷ [] else []) ++ digits) ≡ (if negative then 45 ∷ [] else []) ++ digits
word_text_signed true digits some plain = word_text_plain (45 ∷ digits) (omega arith) plain
word_text_signed false digits some plain = word_text_plain digits some plain

-- without decimals a number's text is its sign and its digits
pub fixed_text_whole : (n : ℤ) → nat_abs n ≤ 2 ^ 127 → fixed_text n 0 ≡ (if int_lt n (pos 0) then 45 ∷ [] else []) ++ decimal (nat_abs n)
fixed_text_whole n small =
    let some = decimal_some (nat_abs n) small in
    let filled : 0 + 1 - length (decimal (nat_abs n)) ≡ 0 = omega (arith, some) in
    rw filled refl

-- the same law for a number of an i128's size
pub word_text-fixed_text_abs : (n : ℤ) → nat_abs n ≤ 2 ^ 127 → word_text (fixed_text n 0) ≡ fixed_text n 0
word_text-fixed_text_abs n small =
    rw (fixed_text_whole n small) (word_text_signed (int_lt n (pos 0)) (decimal (nat_abs n)) (decimal_some (nat_abs n) small) (digits_plain (decimal (nat_abs n)) (decimal_is_IsNumeral_wide (nat_abs n) (omega (arith, small))).0.1))

-- a number is a word by itself: its bytes are digits and `-`, and it is not empty
pub word_text-fixed_text : (n : ℤ) → FitsSigned w128 n → word_text (fixed_text n 0) ≡ fixed_text n 0
word_text-fixed_text n fits = word_text-fixed_text_abs n (nat_abs-le n {H = 2 ^ 127} fits.sfits)

-- the same for a number that has no sign
pub word_text-fixed_text_pos : (n : ℕ) → n < 2 ^ 64 → word_text (fixed_text (pos n) 0) ≡ fixed_text (pos n) 0
word_text-fixed_text_pos n small = word_text-fixed_text_abs (pos n) (omega arith)

-- these laws, to be named in a `using`
pub ruleset number_words = (word_text-fixed_text, word_text-fixed_text_pos)
