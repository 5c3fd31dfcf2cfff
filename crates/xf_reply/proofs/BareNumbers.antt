-- A number's text is a word by itself.
use Rattle.std.proofs.Common.{◌≡◌, ℕ, zero, suc, ◌+◌, ◌-◌, ◌^◌, ◌<◌, ◌≤◌, ◌==◌, ◌||◌, if◌then◌else◌, Bool, true, false, ℤ, pos, int_lt, nat_abs, FitsSigned, List, [], ◌∷◌, ◌++◌, length, take, drop, replicate, decimal, refl, arith, length-append, ⊎_elim}
use Rattle.std.specs.Int.{w64}
use Rattle.std.specs.Int.Signed.{nat_abs-le}
use Rattle.std.specs.List.{list_any}
use Rattle.std.proofs.lemmas.Bool.{cases_Bool}
use Rattle.std.proofs.lemmas.Fmt.{decimal_is_IsNumeral_wide}
use Rattle.std.proofs.lemmas.List.{take-append-drop}
use Rattle.std.proofs.lemmas.List.Folds.{list_any-append}
use Rattle.jiff_core.proofs.CalendarLemmas.{days_in_month_bounds}
use Rattle.xf_base.specs.Date.{is_day, date_text, day_text, year_of, month_of, day_of_month}
use Rattle.xf_base.specs.Fixed.{with_zeros, with_point, fixed_text}
use Rattle.xf_base.specs.Form.{number_text}
use Rattle.xf_base.specs.Schema.{IsDay}
use Rattle.xf_base.specs.Word.{needs_quotes, word_text}
use Rattle.xf_base.specs.declared.form.AtomForm.{AtomForm}
use Rattle.xf_base.specs.declared.form.AtomForm.TheVariants as form
use Rattle.xf_base.proofs.DayParts.{is_day-IsDay}
use Rattle.xf_base.proofs.DaysOfDates.{day_split, year_of-le, month_of-le}
use Rattle.xf_base.proofs.NumberWords.{word_text_plain}
use Rattle.xf_base.proofs.WriteNumbers.{decimal_some, digits_plain}

-- no byte needs quotes
record IsPlain (text : List ℕ) : Type 0 where
  none : list_any needs_quotes text ≡ false

-- nor is the text empty
record IsBare (text : List ℕ) : Type 0 where
  some : 0 < length text
  plain : IsPlain text

both-false : (one other : Bool) → (one || other) ≡ false → (one ≡ false) × (other ≡ false)
both-false true other h = cc h
both-false false other h = (refl, h)

plain-append : (one other : List ℕ) → IsPlain one → IsPlain other → IsPlain (one ++ other)
plain-append one other first second = record { none = rw (list_any-append needs_quotes one other, first.none, second.none) refl }

plain-parts : (one other : List ℕ) → IsPlain (one ++ other) → IsPlain one × IsPlain other
plain-parts one other all =
    let parts = both-false (list_any needs_quotes one) (list_any needs_quotes other) (rw (list_any-append needs_quotes one other) at all.none) in
    (record { none = parts.0 }, record { none = parts.1 })

plain-cut : (n : ℕ) (text : List ℕ) → IsPlain text → IsPlain (take n text) × IsPlain (drop n text)
plain-cut n text all = plain-parts (take n text) (drop n text) (record { none = rw (take-append-drop n text) all.none })

plain-zeros : (n : ℕ) → list_any needs_quotes (replicate n 48) ≡ false
plain-zeros zero = refl
plain-zeros (suc n) = plain-zeros n

plain-with_zeros : (n : ℕ) (digits : List ℕ) → IsPlain digits → IsPlain (with_zeros n digits)
plain-with_zeros n digits all = plain-append (replicate (n - length digits) 48) digits (record { none = plain-zeros (n - length digits) }) all

plain-decimal : (n : ℕ) → n < 10 ^ 64 → IsPlain (decimal n)
plain-decimal n small = record { none = digits_plain (decimal n) (decimal_is_IsNumeral_wide n small).0.1 }

-- a text with a byte in front that needs no quotes
bare-front : (byte : ℕ) (text : List ℕ) → needs_quotes byte ≡ false → IsPlain text → IsBare (byte ∷ text)
bare-front byte text plain all = record { some = omega arith; plain = record { none = rw (plain, all.none) refl } }

bare-append : (one other : List ℕ) → IsPlain one → IsBare other → IsBare (one ++ other)
bare-append one other first second = record { some = omega (arith, length-append one other, second.some); plain = plain-append one other first second.plain }

-- of two texts the one that is chosen
bare-if : (test : Bool) (one other : List ℕ) → IsBare one → IsBare other → IsBare (if test then one else other)
bare-if true one other first second = first
bare-if false one other first second = second

plain-if : (test : Bool) (one other : List ℕ) → IsPlain one → IsPlain other → IsPlain (if test then one else other)
plain-if true one other first second = first
plain-if false one other first second = second

bare-with_point : (decimals : ℕ) (digits : List ℕ) → IsBare digits → IsBare (with_point decimals digits)
bare-with_point decimals digits all =
    let n = length digits - decimals in
    let parts = plain-cut n digits all.plain in
    bare-if (decimals == 0) digits (take n digits ++ 46 ∷ drop n digits) all (bare-append (take n digits) (46 ∷ drop n digits) parts.0 (bare-front 46 (drop n digits) refl parts.1))

bare-fixed_text : (number : ℤ) (decimals : ℕ) → nat_abs number ≤ 2 ^ 63 → IsBare (fixed_text number decimals)
bare-fixed_text number decimals small =
    let own = decimal (nat_abs number) in
    let digits = with_zeros (decimals + 1) own in
    let plain = plain-decimal (nat_abs number) (omega arith) in
    let some = decimal_some (nat_abs number) (omega arith) in
    let full = bare-append (replicate (decimals + 1 - length own) 48) own (record { none = plain-zeros (decimals + 1 - length own) }) (record { some = some; plain = plain }) in
    let sign = plain-if (int_lt number (pos 0)) (45 ∷ []) [] (record { none = refl }) (record { none = refl }) in
    bare-append _ (with_point decimals digits) sign (bare-with_point decimals digits full)

bare-date_text : (day : ℤ) → IsDay day → IsBare (date_text day)
bare-date_text day within =
    let civil = (day_split day within).civil in
    let days = days_in_month_bounds (pos (year_of day)) (month_of day) in
    let part = λ (n number : ℕ) (small : number < 10 ^ 64). plain-with_zeros n (decimal number) (plain-decimal number small) in
    let year = part 4 (year_of day) (omega (arith, year_of-le day)) in
    let month = part 2 (month_of day) (omega (arith, month_of-le day)) in
    let last = part 2 (day_of_month day) (omega (arith, days, civil.2.1)) in
    let front = bare-append (with_zeros 4 (decimal (year_of day))) (45 ∷ with_zeros 2 (decimal (month_of day))) year (bare-front 45 (with_zeros 2 (decimal (month_of day))) refl month) in
    bare-append (with_zeros 4 (decimal (year_of day)) ++ 45 ∷ with_zeros 2 (decimal (month_of day))) (45 ∷ with_zeros 2 (decimal (day_of_month day))) front.plain (bare-front 45 (with_zeros 2 (decimal (day_of_month day))) refl last)

bare-day_text : (day : ℤ) → nat_abs day ≤ 2 ^ 63 → IsBare (day_text day)
bare-day_text day small = ⊎_elim
    (λ (is : is_day day ≡ true). rw is (bare-date_text day (is_day-IsDay day is)))
    (λ (is : is_day day ≡ false). rw is (bare-fixed_text day 0 small))
    (cases_Bool (is_day day))

bare-number_text : (form : AtomForm) (number : ℤ) → nat_abs number ≤ 2 ^ 63 → IsBare (number_text form number)
bare-number_text (form.Fixed decimals) number small = bare-fixed_text number decimals small
bare-number_text form.Date number small = bare-day_text number small
bare-number_text form.Text number small = bare-fixed_text number 0 small

-- so it needs no quotes
pub word_text-number_text : (form : AtomForm) (number : ℤ) → FitsSigned w64 number → word_text (number_text form number) ≡ number_text form number
word_text-number_text form number fits =
    let bare = bare-number_text form number (nat_abs-le number {H = 2 ^ 63} fits.sfits) in
    word_text_plain (number_text form number) bare.some bare.plain.none
