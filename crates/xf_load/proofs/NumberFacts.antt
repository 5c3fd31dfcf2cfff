-- A text that reads as a number is ASCII, and not wholly of blanks.
use Rattle.std.proofs.Common.{◌≡◌, ℕ, ◌+◌, ◌-◌, ◌<◌, ◌≤◌, ◌==◌, ◌||◌, not, nat_lt, Bool, true, false, cond, ℤ, List, [], ◌∷◌, reverse, length, get_or, drop, Option, Result, Ok, Err, IfSome, refl, sym, ap, ◌∙◌, arith, ⊎_elim}
use Rattle.std.specs.Char.{is_ascii_digit}
use Rattle.std.specs.List.{after_first, before_first, list_all, list_any, position_or_len, prefix_len, suffix_len}
use Rattle.std.specs.Result.{result_ok}
use Rattle.std.specs.Str.{IsAscii, IsUtf8}
use Rattle.std.proofs.lemmas.Bool.{cases_lt, eqb-true, false_from_ne_true}
use Rattle.std.proofs.lemmas.Bool.Decides.{nat_tests}
use Rattle.std.proofs.lemmas.List.{drop_all, get_or-drop, get_or-reverse, get_or-take, get_or_past}
use Rattle.std.proofs.lemmas.List.Sums.{AllPass-from_list_all, passes_at_first, prefix_len_is, prefix_len_passes}
use Rattle.std.proofs.lemmas.Str.{IsUtf8-from_ascii}
use Rattle.std.proofs.lemmas.Str.Ascii.{IsAscii-cons, IsAscii-from_all}
use Rattle.xf_base.specs.Fixed.{is_blank, is_negative, number_of, read_digits, read_sign, units_of, with_sign, without_blanks, without_end_blanks, without_sign, without_start_blanks}
use Rattle.xf_base.specs.declared.fixed.TheConstants.{GREATEST_NUMBER}
use Rattle.xf_base.specs.declared.fixed.NumberRefusal.{NumberRefusal}
use Rattle.xf_base.specs.declared.fixed.NumberRefusal.TheVariants.{Empty, NotNumber, TooManyDecimals, OutOfRange}

blank-small : (b : ℕ) → is_blank b ≡ true → b < 128
blank-small b is = omega (arith, eqb-true b 32 is)

small-as : (a b : ℕ) → a ≡ b → a < 128 → b < 128
small-as a b same small = omega arith

-- a text is ASCII where it is without the blanks at its start
ascii-start : (text : List ℕ) → IsAscii (without_start_blanks text) → IsAscii text
ascii-start text rest i = ⊎_elim (λ before. blank-small (get_or text i 0) (prefix_len_passes is_blank text i 0 before)) kept (cases_lt i (prefix_len is_blank text))
  where
    kept : prefix_len is_blank text ≤ i → get_or text i 0 < 128
    kept after =
        let n = prefix_len is_blank text in
        let place : n + (i - n) ≡ i = omega arith in
        small-as (get_or (without_start_blanks text) (i - n) 0) (get_or text i 0) (get_or-drop n text (i - n) 0 ∙ ap (λ k. get_or text k 0) place) (rest (i - n))

-- and where it is without those at its end
ascii-end : (text : List ℕ) → IsAscii (without_end_blanks text) → IsAscii text
ascii-end text rest i = ⊎_elim kept (λ past. ⊎_elim (blanks past) out (cases_lt i (length text))) (cases_lt i (length text - suffix_len is_blank text))
  where
    kept : i < length text - suffix_len is_blank text → get_or text i 0 < 128
    kept before = small-as (get_or (without_end_blanks text) i 0) (get_or text i 0) (get_or-take (length text - suffix_len is_blank text) text i 0 before) (rest i)

    out : length text ≤ i → get_or text i 0 < 128
    out past = small-as 0 (get_or text i 0) (sym (get_or_past text i 0 past)) (omega arith)

    blanks : length text - suffix_len is_blank text ≤ i → i < length text → get_or text i 0 < 128
    blanks past within =
        let back = length text - 1 - i in
        let blank = prefix_len_passes is_blank (reverse text) back 0 (omega arith) in
        let place : length text - 1 - back ≡ i = omega arith in
        small-as (get_or (reverse text) back 0) (get_or text i 0) (get_or-reverse text back 0 (omega arith) ∙ ap (λ k. get_or text k 0) place) (blank-small (get_or (reverse text) back 0) blank)

-- and where it is without its sign
ascii-sign : (text : List ℕ) → IsAscii (without_sign text) → IsAscii text
ascii-sign [] rest = rest
ascii-sign (byte ∷ text) rest = go ((byte == 43) || (byte == 45)) refl rest
  where
    go : (signed : Bool) → ((byte == 43) || (byte == 45)) ≡ signed → IsAscii (cond signed text (byte ∷ text)) → IsAscii (byte ∷ text)
    go true is text_is = let small : byte < 128 = grind (arith, nat_tests) in IsAscii-cons byte text small text_is
    go false is text_is = text_is

point-small : (b : ℕ) → (b == 46) ≡ true → b < 128
point-small b is = omega (arith, eqb-true b 46 is)

-- and where it is before its point and after it
ascii-point : (text : List ℕ) → IsAscii (before_first (λ b. b == 46) text) → IsAscii (after_first (λ b. b == 46) text) → IsAscii text
ascii-point text before after i = ⊎_elim front (λ past. ⊎_elim (back past) (point past) (cases_lt (position_or_len (λ b. b == 46) text) i)) (cases_lt i (position_or_len (λ b. b == 46) text))
  where
    front : i < position_or_len (λ b. b == 46) text → get_or text i 0 < 128
    front in_front = small-as (get_or (before_first (λ b. b == 46) text) i 0) (get_or text i 0) (get_or-take (position_or_len (λ b. b == 46) text) text i 0 in_front) (before i)

    back : position_or_len (λ b. b == 46) text ≤ i → position_or_len (λ b. b == 46) text < i → get_or text i 0 < 128
    back past later =
        let n = position_or_len (λ b. b == 46) text + 1 in
        let place : n + (i - n) ≡ i = omega arith in
        small-as (get_or (after_first (λ b. b == 46) text) (i - n) 0) (get_or text i 0) (get_or-drop n text (i - n) 0 ∙ ap (λ k. get_or text k 0) place) (after (i - n))

    point : position_or_len (λ b. b == 46) text ≤ i → i ≤ position_or_len (λ b. b == 46) text → get_or text i 0 < 128
    point past here = ⊎_elim
        (λ within. small-as (get_or text (position_or_len (λ b. b == 46) text) 0) (get_or text i 0) (ap (λ k. get_or text k 0) (let same : position_or_len (λ b. b == 46) text ≡ i = omega arith in same)) (point-small (get_or text (position_or_len (λ b. b == 46) text) 0) (passes_at_first (λ b. b == 46) text 0 within)))
        (λ out. small-as 0 (get_or text i 0) (sym (get_or_past text i 0 (omega arith))) (omega arith))
        (cases_lt (position_or_len (λ b. b == 46) text) (length text))

digit-small : (b : ℕ) → is_ascii_digit b ≡ true → b < 128
digit-small b is = grind (arith, nat_tests)

ascii-digits : (digits : List ℕ) → list_all is_ascii_digit digits ≡ true → IsAscii digits
ascii-digits digits all = IsAscii-from_all digits (λ k d within. digit-small (get_or digits k d) (AllPass-from_list_all is_ascii_digit digits all k d within))

both-digits : (none whole fraction : Bool) → (none || not whole || not fraction) ≡ false → (whole ≡ true) × (fraction ≡ true)
both-digits none true true h = (refl, refl)
both-digits true true false h = cc h
both-digits false true false h = cc h
both-digits true false fraction h = cc h
both-digits false false fraction h = cc h

-- what was read as digits is digits
digits-from_read : (whole fraction : List ℕ) (decimals n : ℕ) → read_digits whole fraction decimals ≡ Ok n → (list_all is_ascii_digit whole ≡ true) × (list_all is_ascii_digit fraction ≡ true)
digits-from_read whole fraction decimals n h = go ((length whole + length fraction == 0) || not (list_all is_ascii_digit whole) || not (list_all is_ascii_digit fraction)) refl h
  where
    go : (other : Bool) → ((length whole + length fraction == 0) || not (list_all is_ascii_digit whole) || not (list_all is_ascii_digit fraction)) ≡ other
        → cond other (Err NotNumber) (cond (list_any (λ digit. not (digit == 48)) (drop decimals fraction)) (Err TooManyDecimals) (cond (nat_lt GREATEST_NUMBER (units_of whole fraction decimals)) (Err OutOfRange) (Ok (units_of whole fraction decimals)))) ≡ Ok n
        → (list_all is_ascii_digit whole ≡ true) × (list_all is_ascii_digit fraction ≡ true)
    go true is e = cc e
    go false is e = both-digits (length whole + length fraction == 0) (list_all is_ascii_digit whole) (list_all is_ascii_digit fraction) is

with_sign-Ok : (negative : Bool) (read : Result ℕ NumberRefusal) (number : ℤ) → with_sign negative read ≡ Ok number → (n : ℕ) × (read ≡ Ok n)
with_sign-Ok negative (Ok n) number h = (n, refl)
with_sign-Ok negative (Err refusal) number h = cc h

-- a text that reads as a number is ASCII
read_sign-ascii : (text : List ℕ) (decimals : ℕ) (number : ℤ) → read_sign text decimals ≡ Ok number → IsAscii text
read_sign-ascii text decimals number h =
    let bare = without_sign text in
    let whole = before_first (λ b. b == 46) bare in
    let fraction = after_first (λ b. b == 46) bare in
    let (n, read) = with_sign-Ok (is_negative text) (read_digits whole fraction decimals) number h in
    let digits = digits-from_read whole fraction decimals n read in
    ascii-sign text (ascii-point bare (ascii-digits whole digits.0) (ascii-digits fraction digits.1))

pub number_of-text : (text : List ℕ) (decimals : ℕ) (number : ℤ) → number_of text decimals ≡ Ok number → IsUtf8 text
number_of-text text decimals number h = go (length (without_blanks text) == 0) h
  where
    go : (empty : Bool) → cond empty (Err Empty) (read_sign (without_blanks text) decimals) ≡ Ok number → IsUtf8 text
    go true e = cc e
    go false e = IsUtf8-from_ascii text (ascii-start text (ascii-end (without_start_blanks text) (read_sign-ascii (without_blanks text) decimals number e)))

-- and not wholly of blanks
blanks-none : (text : List ℕ) → list_all is_blank text ≡ true → without_start_blanks text ≡ []
blanks-none text all =
    let long : prefix_len is_blank text ≡ length text = prefix_len_is is_blank text (length text) 0 (omega arith) (λ k within. AllPass-from_list_all is_blank text all k 0 within) (λ past. absurd (omega arith)) in
    drop_all (prefix_len is_blank text) text (omega arith)

pub number_of-not_blank : (text : List ℕ) (decimals : ℕ) (number : ℤ) → number_of text decimals ≡ Ok number → list_all is_blank text ≡ false
number_of-not_blank text decimals number h = false_from_ne_true (list_all is_blank text) (λ all.
    let none = blanks-none text all in
    let empty : number_of text decimals ≡ Err Empty = rw none refl in
    cc (empty, h))

-- what holds of each number that a text may read as holds of the number that it does read as
pub number-if_some : (P : ℤ → Type 0) (read : Result ℤ NumberRefusal) (found : Option ℤ) → found ≡ result_ok read → ((number : ℤ) → read ≡ Ok number → P number) → IfSome found P
number-if_some P (Ok number) found is holds = rw is (holds number refl)
number-if_some P (Err refusal) found is holds = rw is tt
