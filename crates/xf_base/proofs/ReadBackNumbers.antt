-- The text of a number reads as that number.
use Rattle.std.proofs.Common.{◌≡◌, ◌==◌, ℕ, zero, suc, ◌+◌, ◌-◌, ◌/◌, ◌%◌, ◌^◌, ◌<◌, ◌≤◌, Bool, true, false, not, ◌||◌, nat_lt, ℤ, pos, negsuc, int_lt, List, [], ◌∷◌, ◌++◌, length, get_or, take, drop, replicate, decimal, Ok, refl, sym, ap, ◌∙◌, arith, lit<, length-append, length-drop, ⊎_elim}
use Rattle.std.specs.Char.{is_ascii_digit}
use Rattle.std.specs.List.{list_all, position_or_len, before_first, after_first}
use Rattle.std.proofs.lemmas.Bool.{and_from, and_parts, cases_Bool, false_from_ne_true, false≢true}
use Rattle.std.proofs.lemmas.Bool.Decides.{nat_tests}
use Rattle.std.proofs.lemmas.Int.{ints}
use Rattle.std.proofs.lemmas.Fmt.{decimal_by_steps_wide}
use Rattle.std.proofs.lemmas.List.{take-append-drop, take_all, drop_all, length-replicate}
use Rattle.std.proofs.Math.Seq.{take-append_seam, drop-append_seam, append_snoc}
use Rattle.std.proofs.lemmas.List.Folds.{list_all-append, list_all_at}
use Rattle.xf_base.specs.declared.fixed.TheConstants.{GREATEST_NUMBER}
use Rattle.xf_base.specs.Fixed.{is_blank, is_negative, without_sign, number_after, units_of, read_digits, with_sign, read_sign, number_of, with_zeros, with_point, without_blanks, fixed_text}
use Rattle.xf_base.specs.Schema.{IsCellNumber}
use Rattle.xf_base.proofs.ReadNumbers.{number_after-append}
use Rattle.xf_base.proofs.ReadBackDates.{without_blanks-plain, digit-true}

-- digits that write a number
record AreDigitsOf (number : ℕ) (digits : List ℕ) : Type 0 where
  all : list_all is_ascii_digit digits ≡ true
  value : number_after 0 digits ≡ number
  some : 0 < length digits

-- so are those of the decimal text
one_digit : (n : ℕ) → n < 10 → AreDigitsOf n ((48 + n) ∷ [])
one_digit n few = record { all = rw (digit-true n few) refl; value = omega arith; some = lit< tt }

digit_more : (n : ℕ) (digits : List ℕ) → 10 ≤ n → AreDigitsOf (n / 10) digits → AreDigitsOf n (digits ++ (48 + n % 10) ∷ [])
digit_more n digits large own =
    let last : list_all is_ascii_digit ((48 + n % 10) ∷ []) ≡ true = rw (digit-true (n % 10) (omega arith)) refl in
    let both = number_after-append 0 digits ((48 + n % 10) ∷ []) in
    record {
      all = list_all-append is_ascii_digit digits ((48 + n % 10) ∷ []) ∙ and_from _ _ own.all last;
      value = both ∙ rw own.value (omega arith);
      some = omega (arith, length-append digits ((48 + n % 10) ∷ []), own.some);
    }

decimal-digits : (n : ℕ) → n < 10 ^ 64 → AreDigitsOf n (decimal n)
decimal-digits n small = decimal_by_steps_wide AreDigitsOf one_digit digit_more n small

-- zeros in front change nothing
zeros-digits : (zeros number : ℕ) (digits : List ℕ) → AreDigitsOf number digits → AreDigitsOf number (replicate zeros 48 ++ digits)
zeros-digits zero number digits own = own
zeros-digits (suc zeros) number digits own =
    let rest = zeros-digits zeros number digits own in
    record { all = rest.all; value = rest.value; some = omega arith }

with_zeros-digits : (n number : ℕ) (digits : List ℕ) → AreDigitsOf number digits → AreDigitsOf number (with_zeros n digits)
with_zeros-digits n number digits own = zeros-digits (n - length digits) number digits own

length-with_zeros : (n : ℕ) (digits : List ℕ) → n ≤ length (with_zeros n digits)
length-with_zeros n digits = omega (arith, length-append (replicate (n - length digits) 48) digits, length-replicate {A = ℕ} (n - length digits) 48)

-- no digit is a point
digit-no_point : (digit : ℕ) → is_ascii_digit digit ≡ true → (digit == 46) ≡ false
digit-no_point digit is = grind (arith, nat_tests)

-- a point after digits is the first, and digits alone have none
position-point : (whole fraction : List ℕ) → list_all is_ascii_digit whole ≡ true → position_or_len (λ b. b == 46) (whole ++ 46 ∷ fraction) ≡ length whole
position-point [] fraction all = refl
position-point (digit ∷ whole) fraction all =
    let parts = and_parts (is_ascii_digit digit) (list_all is_ascii_digit whole) all in
    rw (digit-no_point digit parts.0) (omega (arith, position-point whole fraction parts.1))

position-no_point : (digits : List ℕ) → list_all is_ascii_digit digits ≡ true → position_or_len (λ b. b == 46) digits ≡ length digits
position-no_point [] all = refl
position-no_point (digit ∷ digits) all =
    let parts = and_parts (is_ascii_digit digit) (list_all is_ascii_digit digits) all in
    rw (digit-no_point digit parts.0) (omega (arith, position-no_point digits parts.1))

-- a text cut at its point
record IsCutAtPoint (text whole fraction : List ℕ) : Type 0 where
  before : before_first (λ b. b == 46) text ≡ whole
  after : after_first (λ b. b == 46) text ≡ fraction

cut_at_point : (whole fraction : List ℕ) → list_all is_ascii_digit whole ≡ true → IsCutAtPoint (whole ++ 46 ∷ fraction) whole fraction
cut_at_point whole fraction all =
    let place = position-point whole fraction all in
    let long : length whole + 1 ≡ length (whole ++ 46 ∷ []) = omega (arith, length-append whole (46 ∷ [])) in
    record {
      before = rw place (take-append_seam whole (46 ∷ fraction));
      after = rw (place, long, ← append_snoc whole 46 fraction) (drop-append_seam (whole ++ 46 ∷ []) fraction);
    }

cut_nowhere : (digits : List ℕ) → list_all is_ascii_digit digits ≡ true → IsCutAtPoint digits digits []
cut_nowhere digits all =
    let place = position-no_point digits all in
    record {
      before = rw place (take_all (length digits) digits (omega arith));
      after = rw place (drop_all (length digits + 1) digits (omega arith));
    }

-- digits with a point before the last of them, cut there again
cut_with_point : (decimals : ℕ) (digits : List ℕ) → list_all is_ascii_digit digits ≡ true → IsCutAtPoint (with_point decimals digits) (take (length digits - decimals) digits) (drop (length digits - decimals) digits)
cut_with_point decimals digits all =
    let kept = length digits - decimals in
    let parts = and_parts _ _ (sym (list_all-append is_ascii_digit (take kept digits) (drop kept digits)) ∙ (ap (list_all is_ascii_digit) (take-append-drop kept digits) ∙ all)) in
    ⊎_elim
    (λ (is : (decimals == 0) ≡ true).
    let none : length digits - decimals ≡ length digits = grind (arith, nat_tests) in
    rw (is, none, take_all (length digits) digits (omega arith), drop_all (length digits) digits (omega arith)) (cut_nowhere digits all))
    (λ (is : (decimals == 0) ≡ false). rw is (cut_at_point (take kept digits) (drop kept digits) parts.0))
    (cases_Bool (decimals == 0))

filled_full : (fraction : List ℕ) (decimals : ℕ) → length fraction ≡ decimals → take decimals (fraction ++ replicate decimals 48) ≡ fraction
filled_full fraction decimals long = rw (← long) (take-append_seam fraction (replicate (length fraction) 48))

-- such digits read as their number
read_digits-cut : (number decimals : ℕ) (digits : List ℕ) → AreDigitsOf number digits → decimals < length digits → number ≤ GREATEST_NUMBER → read_digits (take (length digits - decimals) digits) (drop (length digits - decimals) digits) decimals ≡ Ok number
read_digits-cut number decimals digits own few small =
    let whole : List ℕ = take (length digits - decimals) digits in
    let fraction : List ℕ = drop (length digits - decimals) digits in
    let joined : whole ++ fraction ≡ digits = take-append-drop (length digits - decimals) digits in
    let parts = and_parts (list_all is_ascii_digit whole) (list_all is_ascii_digit fraction) (sym (list_all-append is_ascii_digit whole fraction) ∙ (ap (list_all is_ascii_digit) joined ∙ own.all)) in
    let long : length fraction ≡ decimals = omega (arith, length-drop {A = ℕ} (length digits - decimals) digits) in
    let some : (length whole + length fraction == 0) ≡ false = grind (arith, nat_tests) in
    let none : drop decimals fraction ≡ [] = drop_all decimals fraction (omega arith) in
    let filled : take decimals (fraction ++ replicate decimals 48) ≡ fraction = filled_full fraction decimals long in
    let units : units_of whole fraction decimals ≡ number = ap (λ back. number_after 0 (whole ++ back)) filled ∙ (ap (number_after 0) joined ∙ own.value) in
    let within : nat_lt GREATEST_NUMBER number ≡ false = grind (arith, nat_tests) in
    rw (some, parts.0, parts.1, none, units, within) refl

-- a digit, also with a point somewhere behind it, is no sign
record IsUnsigned (text : List ℕ) : Type 0 where
  positive : is_negative text ≡ false
  whole : without_sign text ≡ text
  some : 0 < length text

unsigned_digit : (first : ℕ) (rest : List ℕ) → is_ascii_digit first ≡ true → IsUnsigned (first ∷ rest)
unsigned_digit first rest is =
    let plus : (first == 43) ≡ false = grind (arith, nat_tests) in
    let minus : (first == 45) ≡ false = grind (arith, nat_tests) in
    record { positive = minus; whole = rw (plus, minus) refl; some = omega arith }

unsigned_with_point : (decimals : ℕ) (digits : List ℕ) → list_all is_ascii_digit digits ≡ true → decimals < length digits → IsUnsigned (with_point decimals digits)
unsigned_with_point decimals [] all few = absurd (omega arith)
unsigned_with_point decimals (first ∷ rest) all few =
    let is = (and_parts (is_ascii_digit first) (list_all is_ascii_digit rest) all).0 in
    let kept : suc (length rest) - decimals ≡ suc (length rest - decimals) = omega arith in
    ⊎_elim
    (λ (none : (decimals == 0) ≡ true). rw none (unsigned_digit first rest is))
    (λ (some : (decimals == 0) ≡ false). rw (some, kept) (unsigned_digit first (take (length rest - decimals) rest ++ 46 ∷ drop (suc (length rest - decimals)) (first ∷ rest)) is))
    (cases_Bool (decimals == 0))

-- no byte of it is a blank
abbrev are_marks : List ℕ → Bool
are_marks text = list_all (λ byte. not (is_blank byte)) text

marks_digits : (digits : List ℕ) → list_all is_ascii_digit digits ≡ true → are_marks digits ≡ true
marks_digits [] all = refl
marks_digits (digit ∷ digits) all =
    let parts = and_parts (is_ascii_digit digit) (list_all is_ascii_digit digits) all in
    let here : not (is_blank digit) ≡ true = grind (arith, nat_tests, parts.0) in
    and_from (not (is_blank digit)) (are_marks digits) here (marks_digits digits parts.1)

marks_with_point : (decimals : ℕ) (digits : List ℕ) → list_all is_ascii_digit digits ≡ true → are_marks (with_point decimals digits) ≡ true
marks_with_point decimals digits all =
    let kept = length digits - decimals in
    let mark = λ (byte : ℕ). not (is_blank byte) in
    let parts = and_parts (are_marks (take kept digits)) (are_marks (drop kept digits)) (sym (list_all-append mark (take kept digits) (drop kept digits)) ∙ (ap are_marks (take-append-drop kept digits) ∙ marks_digits digits all)) in
    ⊎_elim
    (λ (none : (decimals == 0) ≡ true). rw none (marks_digits digits all))
    (λ (some : (decimals == 0) ≡ false). rw some (list_all-append mark (take kept digits) (46 ∷ drop kept digits) ∙ and_from (are_marks (take kept digits)) (are_marks (drop kept digits)) parts.0 parts.1))
    (cases_Bool (decimals == 0))

-- a text of such bytes alone is as it is without blanks
mark_at : (text : List ℕ) (i : ℕ) → i < length text → are_marks text ≡ true → is_blank (get_or text i 0) ≡ false
mark_at text i within all =
    false_from_ne_true (is_blank (get_or text i 0)) (λ blank. false≢true (sym (list_all_at (λ byte. not (is_blank byte)) text i 0 within (ap not blank)) ∙ all))

without_blanks-marks : (text : List ℕ) → 0 < length text → are_marks text ≡ true → without_blanks text ≡ text
without_blanks-marks text some all =
    without_blanks-plain text some (mark_at text 0 some all) (mark_at text (length text - 1) (omega arith) all)

-- a text of such bytes reads by its sign
number_of-marks : (text : List ℕ) (decimals : ℕ) → 0 < length text → are_marks text ≡ true → number_of text decimals ≡ read_sign text decimals
number_of-marks text decimals some all =
    let full : (length text == 0) ≡ false = grind (arith, nat_tests) in
    rw (without_blanks-marks text some all, full) refl

-- a text of digits, perhaps with a point, that reads as this number
record Reads (text : List ℕ) (number decimals : ℕ) : Type 0 where
  digits : read_digits (before_first (λ b. b == 46) text) (after_first (λ b. b == 46) text) decimals ≡ Ok number
  marks : are_marks text ≡ true
  unsigned : IsUnsigned text

digits_read : (number decimals : ℕ) (digits : List ℕ) → AreDigitsOf number digits → decimals < length digits → number ≤ GREATEST_NUMBER → Reads (with_point decimals digits) number decimals
digits_read number decimals digits own few small =
    let cut = cut_with_point decimals digits own.all in
    record {
      digits = rw (cut.before, cut.after) (read_digits-cut number decimals digits own few small);
      marks = marks_with_point decimals digits own.all;
      unsigned = unsigned_with_point decimals digits own.all few;
    }

-- the digits of a number with their point
body : ℕ → ℕ → List ℕ
body number decimals = with_point decimals (with_zeros (decimals + 1) (decimal number))

body_reads : (number decimals : ℕ) → number ≤ GREATEST_NUMBER → Reads (body number decimals) number decimals
unfolding body
body_reads number decimals small =
    let digits : List ℕ = with_zeros (decimals + 1) (decimal number) in
    let own : AreDigitsOf number digits = with_zeros-digits (decimals + 1) number (decimal number) (decimal-digits number (omega arith)) in
    digits_read number decimals digits own (omega (arith, length-with_zeros (decimals + 1) (decimal number))) small

-- a number's text reads as that number
pub number_of-fixed_text : (number : ℤ) (decimals : ℕ) → IsCellNumber number → number_of (fixed_text number decimals) decimals ≡ Ok number
unfolding body
number_of-fixed_text (pos n) decimals within =
    let reads = body_reads n decimals (omega (arith, ints, within)) in
    let plus : int_lt (pos n) (pos 0) ≡ false = grind (arith, nat_tests) in
    rw plus (number_of-marks (body n decimals) decimals reads.unsigned.some reads.marks ∙ rw (reads.unsigned.positive, reads.unsigned.whole, reads.digits) refl)
number_of-fixed_text (negsuc k) decimals within =
    let reads = body_reads (suc k) decimals (omega (arith, ints, within)) in
    number_of-marks (45 ∷ body (suc k) decimals) decimals (omega arith) reads.marks ∙ rw reads.digits refl

-- nor is a sign a blank
marks_signed : (text : List ℕ) → are_marks (without_sign text) ≡ true → are_marks text ≡ true
marks_signed [] all = refl
marks_signed (byte ∷ rest) all =
    ⊎_elim
    (λ (is : ((byte == 43) || (byte == 45)) ≡ true).
    let sign : not (is_blank byte) ≡ true = grind (arith, nat_tests) in
    and_from (not (is_blank byte)) (are_marks rest) sign (rw is at all))
    (λ (none : ((byte == 43) || (byte == 45)) ≡ false). rw none at all)
    (cases_Bool ((byte == 43) || (byte == 45)))

some_signed : (text : List ℕ) → 0 < length (without_sign text) → 0 < length text
some_signed [] some = some
some_signed (byte ∷ rest) some = omega arith

-- digits alone, or a sign and these, read as their number
pub number_of-plain : (text digits : List ℕ) (negative : Bool) (number : ℕ) → negative ≡ is_negative text → digits ≡ without_sign text → 0 < length digits → list_all is_ascii_digit digits ≡ true → number ≡ number_after 0 digits → number < GREATEST_NUMBER → number_of text 0 ≡ with_sign negative (Ok number)
number_of-plain text digits negative number sign rest some all is small =
    let own : AreDigitsOf number digits = record { all = all; value = sym is; some = some } in
    let reads : Reads (without_sign text) number 0 = rw rest at (digits_read number 0 digits own some (omega arith)) in
    rw sign (number_of-marks text 0 (some_signed text reads.unsigned.some) (marks_signed text reads.marks) ∙ ap (with_sign (is_negative text)) reads.digits)
