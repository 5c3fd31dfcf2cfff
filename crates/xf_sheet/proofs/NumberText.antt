-- A text that reads as a number is ASCII.
use Rattle.std.proofs.Common.{◌≡◌, ℕ, zero, suc, ◌+◌, ◌-◌, ◌<◌, ◌≤◌, ◌==◌, nat_le, Bool, true, false, cond, not, ◌||◌, List, [], ◌∷◌, length, get_or, reverse, Result, Ok, Err, is_ok, refl, ⊎_elim, arith}
use Rattle.std.specs.Char.{is_ascii_digit}
use Rattle.std.specs.List.{after_first, before_first, list_all, position_or_len, prefix_len, suffix_len}
use Rattle.std.specs.Str.{IsAscii, IsUtf8}
use Rattle.std.proofs.lemmas.Bool.{and_parts, cases_lt, eqb-true, leb-true}
use Rattle.std.proofs.lemmas.List.{get_or-drop, get_or-reverse, get_or-take, get_or_past}
use Rattle.std.proofs.lemmas.List.Sums.{AllPass-from_list_all, passes_at_first, prefix_len_passes}
use Rattle.std.proofs.lemmas.Str.{IsUtf8-from_ascii}
use Rattle.xf_base.specs.Fixed.{is_blank, is_negative, number_of, read_digits, with_sign, without_blanks, without_end_blanks, without_sign, without_start_blanks}
use Rattle.xf_base.specs.declared.fixed.NumberRefusal.{NumberRefusal}

blank-small : (byte : ℕ) → is_blank byte ≡ true → byte < 128
blank-small byte is = let same : byte ≡ 32 = eqb-true byte 32 is in omega arith

digit-small : (byte : ℕ) → is_ascii_digit byte ≡ true → byte < 128
digit-small byte is = let below = leb-true byte 57 (and_parts (nat_le 48 byte) (nat_le byte 57) is).1 in omega arith

-- nothing stands past the end of a text
past-small : (text : List ℕ) (i : ℕ) → length text ≤ i → get_or text i 0 < 128
past-small text i past = let none = get_or_past text i 0 past in omega arith

ascii-start : (text : List ℕ) → IsAscii (without_start_blanks text) → IsAscii text
ascii-start text rest i = ⊎_elim (λ front. blank-small (get_or text i 0) (prefix_len_passes is_blank text i 0 front)) past (cases_lt i (prefix_len is_blank text))
  where
    past : prefix_len is_blank text ≤ i → get_or text i 0 < 128
    past after =
        let n = prefix_len is_blank text in
        let at = get_or-drop n text (i - n) 0 in
        let same : n + (i - n) ≡ i = omega arith in
        rw (at, same) at (rest (i - n))

ascii-end : (text : List ℕ) → IsAscii (without_end_blanks text) → IsAscii text
ascii-end text front i = ⊎_elim inside past (cases_lt i (length text - suffix_len is_blank text))
  where
    inside : i < length text - suffix_len is_blank text → get_or text i 0 < 128
    inside before = rw (get_or-take (length text - suffix_len is_blank text) text i 0 before) at (front i)

    blank : length text - suffix_len is_blank text ≤ i → i < length text → get_or text i 0 < 128
    blank after within =
        let k = length text - 1 - i in
        let passes = prefix_len_passes is_blank (reverse text) k 0 (omega arith) in
        let at = get_or-reverse text k 0 (omega arith) in
        let same : length text - 1 - k ≡ i = omega arith in
        blank-small (get_or text i 0) (rw (at, same) at passes)

    past : length text - suffix_len is_blank text ≤ i → get_or text i 0 < 128
    past after = ⊎_elim (blank after) (past-small text i) (cases_lt i (length text))

ascii-sign : (text : List ℕ) → IsAscii (without_sign text) → IsAscii text
ascii-sign [] rest = rest
ascii-sign (byte ∷ text) rest = go (byte == 43) (byte == 45) refl refl rest
  where
    after : byte < 128 → IsAscii text → IsAscii (byte ∷ text)
    after first small zero = first
    after first small (suc i) = small i

    go : (plus minus : Bool) → (byte == 43) ≡ plus → (byte == 45) ≡ minus → IsAscii (cond (plus || minus) text (byte ∷ text)) → IsAscii (byte ∷ text)
    go false false p m small = small
    go true minus p m small = let same : byte ≡ 43 = eqb-true byte 43 p in after (omega arith) small
    go false true p m small = let same : byte ≡ 45 = eqb-true byte 45 m in after (omega arith) small

ascii-digits : (text : List ℕ) → list_all is_ascii_digit text ≡ true → IsAscii text
ascii-digits text all i = ⊎_elim (λ within. digit-small (get_or text i 0) (AllPass-from_list_all is_ascii_digit text all i 0 within)) (past-small text i) (cases_lt i (length text))

ascii-point : (text : List ℕ) → list_all is_ascii_digit (before_first (λ b. b == 46) text) ≡ true → list_all is_ascii_digit (after_first (λ b. b == 46) text) ≡ true → IsAscii text
ascii-point text whole fraction i = ⊎_elim before (λ after. ⊎_elim (at after) past (cases_lt i (position_or_len (λ b. b == 46) text + 1))) (cases_lt i (position_or_len (λ b. b == 46) text))
  where
    before : i < position_or_len (λ b. b == 46) text → get_or text i 0 < 128
    before within = rw (get_or-take (position_or_len (λ b. b == 46) text) text i 0 within) at (ascii-digits (before_first (λ b. b == 46) text) whole i)

    point : i ≡ position_or_len (λ b. b == 46) text → i < length text → get_or text i 0 < 128
    point here within =
        let passes : (get_or text i 0 == 46) ≡ true = rw here (passes_at_first (λ b. b == 46) text 0 (omega arith)) in
        let same : get_or text i 0 ≡ 46 = eqb-true (get_or text i 0) 46 passes in
        omega arith

    at : position_or_len (λ b. b == 46) text ≤ i → i < position_or_len (λ b. b == 46) text + 1 → get_or text i 0 < 128
    at from to = ⊎_elim (point (omega arith)) (past-small text i) (cases_lt i (length text))

    past : position_or_len (λ b. b == 46) text + 1 ≤ i → get_or text i 0 < 128
    past after =
        let n = position_or_len (λ b. b == 46) text + 1 in
        let there = get_or-drop n text (i - n) 0 in
        let same : n + (i - n) ≡ i = omega arith in
        rw (there, same) at (ascii-digits (after_first (λ b. b == 46) text) fraction (i - n))

both-digits : (none whole fraction : Bool) → (none || not whole || not fraction) ≡ false → (whole ≡ true) × (fraction ≡ true)
both-digits true whole fraction h = cc h
both-digits false true true h = (refl, refl)
both-digits false true false h = cc h
both-digits false false fraction h = cc h

not-first : {X E : Type 0} (first : Bool) (refusal : E) (rest : Result X E) → is_ok (cond first (Err refusal) rest) ≡ true → (first ≡ false) × (is_ok rest ≡ true)
not-first true refusal rest ok = cc ok
not-first false refusal rest ok = (refl, ok)

ascii-read : (text : List ℕ) (decimals : ℕ) → is_ok (read_digits (before_first (λ b. b == 46) text) (after_first (λ b. b == 46) text) decimals) ≡ true → IsAscii text
ascii-read text decimals ok =
    let digits = both-digits _ (list_all is_ascii_digit (before_first (λ b. b == 46) text)) (list_all is_ascii_digit (after_first (λ b. b == 46) text)) (not-first _ _ _ ok).0 in
    ascii-point text digits.0 digits.1

ok-unsigned : (negative : Bool) (read : Result ℕ NumberRefusal) → is_ok (with_sign negative read) ≡ true → is_ok read ≡ true
ok-unsigned negative (Ok number) ok = refl
ok-unsigned negative (Err refusal) ok = cc ok

-- so it is UTF-8
pub number-text : (text : List ℕ) (decimals : ℕ) → is_ok (number_of text decimals) ≡ true → IsUtf8 text
number-text text decimals ok =
    let digits = ok-unsigned (is_negative (without_blanks text)) _ (not-first _ _ _ ok).1 in
    IsUtf8-from_ascii text (ascii-start text (ascii-end (without_start_blanks text) (ascii-sign (without_blanks text) (ascii-read (without_sign (without_blanks text)) decimals digits))))
