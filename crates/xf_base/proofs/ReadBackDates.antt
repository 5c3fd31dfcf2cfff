-- The text of a day reads as that day.
use Rattle.std.proofs.Common.{◌≡◌, ℕ, suc, ◌+◌, ◌-◌, ◌*◌, ◌/◌, ◌%◌, ◌<◌, true, false, ℤ, pos, List, [], ◌∷◌, ◌++◌, length, get_or, take, decimal, Ok, refl, ap, ◌∙◌, arith, lit<}
use Rattle.std.specs.Char.{is_ascii_digit}
use Rattle.std.proofs.lemmas.Bool.Decides.{nat_tests}
use Rattle.std.proofs.lemmas.List.{take_all}
use Rattle.std.proofs.lemmas.List.Sums.{suffix_len-take_no}
use Rattle.jiff_core.proofs.CalendarLemmas.{days_in_month_bounds}
use Rattle.xf_base.specs.Date.{date_of, day_of, day_of_form, is_date_form, day_text, date_text, year_part, month_part, day_part, year_of, month_of, day_of_month}
use Rattle.xf_base.specs.Fixed.{is_blank, without_start_blanks, without_end_blanks, without_blanks, number_after, with_zeros}
use Rattle.xf_base.specs.Schema.{IsDay}
use Rattle.xf_base.proofs.ReadDates.{day_of-calendar}
use Rattle.xf_base.proofs.WriteDates.{with_zeros-two, with_zeros-four}
use Rattle.xf_base.proofs.DayParts.{is_day-true}
use Rattle.xf_base.proofs.DaysOfDates.{day_split, year_of-le}

-- a text that begins and ends with no blank is as it is without blanks at its ends
pub without_blanks-plain : (text : List ℕ) → 0 < length text → is_blank (get_or text 0 0) ≡ false → is_blank (get_or text (length text - 1) 0) ≡ false → without_blanks text ≡ text
without_blanks-plain [] some is_first is_last = absurd (omega arith)
without_blanks-plain (first ∷ rest) some is_first is_last =
    let start : without_start_blanks (first ∷ rest) ≡ first ∷ rest = rw is_first refl in
    let all : take (suc (length rest)) (first ∷ rest) ≡ first ∷ rest = take_all (suc (length rest)) (first ∷ rest) (omega arith) in
    let whole : suc (length rest) - 0 ≡ suc (length rest) = omega arith in
    let none = rw all at (suffix_len-take_no is_blank (first ∷ rest) (suc (length rest)) 0 (omega arith) (omega arith) is_last) in
    ap without_end_blanks start ∙ rw (none, whole) all

-- what `0` to `9` are
pub digit-true : (digit : ℕ) → digit < 10 → is_ascii_digit (48 + digit) ≡ true
digit-true digit few = grind (arith, nat_tests)

digit-not_blank : (digit : ℕ) → is_blank (48 + digit) ≡ false
digit-not_blank digit = grind (arith, nat_tests)

-- a text of that form, digit by digit
abbrev digits_text : ℕ → ℕ → ℕ → ℕ → ℕ → ℕ → ℕ → ℕ → List ℕ
digits_text a b c d e f g h =
    (48 + a) ∷ (48 + b) ∷ (48 + c) ∷ (48 + d) ∷ 45 ∷ (48 + e) ∷ (48 + f) ∷ 45 ∷ (48 + g) ∷ (48 + h) ∷ []

date_of-digits : (a b c d e f g h year month day : ℕ) → a < 10 → b < 10 → c < 10 → d < 10 → e < 10 → f < 10 → g < 10 → h < 10 → year ≡ a * 1000 + b * 100 + c * 10 + d → month ≡ e * 10 + f → day ≡ g * 10 + h → date_of (digits_text a b c d e f g h) ≡ day_of year month day
date_of-digits a b c d e f g h year month day few_a few_b few_c few_d few_e few_f few_g few_h is_year is_month is_day =
    let text : List ℕ = digits_text a b c d e f g h in
    let plain = without_blanks-plain text (lit< tt) (digit-not_blank a) (digit-not_blank h) in
    let form : is_date_form text ≡ true = rw (digit-true a few_a, digit-true b few_b, digit-true c few_c, digit-true d few_d, digit-true e few_e, digit-true f few_f, digit-true g few_g, digit-true h few_h) refl in
    let year_is : number_after 0 (year_part text) ≡ year = omega arith in
    let month_is : number_after 0 (month_part text) ≡ month = omega arith in
    let day_is : number_after 0 (day_part text) ≡ day = omega arith in
    ap day_of_form plain ∙ rw (form, year_is, month_is, day_is) refl

-- the digits of a date's text
date_text-digits : (year month day : ℕ) → year < 10000 → month < 100 → day < 100 → with_zeros 4 (decimal year) ++ 45 ∷ with_zeros 2 (decimal month) ++ 45 ∷ with_zeros 2 (decimal day) ≡ digits_text (year / 100 / 10) (year / 100 % 10) (year % 100 / 10) (year % 100 % 10) (month / 10) (month % 10) (day / 10) (day % 10)
date_text-digits year month day few_years few_months few_days =
    let first = with_zeros-two (year / 100) (omega arith) in
    let second = with_zeros-two (year % 100) (omega arith) in
    rw (with_zeros-four year few_years, first, second, with_zeros-two month few_months, with_zeros-two day few_days) refl

-- the text of a year, a month and a day of the month reads as the day of these
date_of-date_text : (year month day : ℕ) → year < 10000 → month < 100 → day < 100 → date_of (with_zeros 4 (decimal year) ++ 45 ∷ with_zeros 2 (decimal month) ++ 45 ∷ with_zeros 2 (decimal day)) ≡ day_of year month day
date_of-date_text year month day few_years few_months few_days =
    ap date_of (date_text-digits year month day few_years few_months few_days)
    ∙ date_of-digits (year / 100 / 10) (year / 100 % 10) (year % 100 / 10) (year % 100 % 10) (month / 10) (month % 10) (day / 10) (day % 10) year month day (omega arith) (omega arith) (omega arith) (omega arith) (omega arith) (omega arith) (omega arith) (omega arith) (omega arith) (omega arith) (omega arith)

-- the text of a day reads as that day
pub date_of-day_text : (day : ℤ) → IsDay day → date_of (day_text day) ≡ Ok day
date_of-day_text day within =
    let split = day_split day within in
    let civil = split.civil in
    let most_days = days_in_month_bounds (pos (year_of day)) (month_of day) in
    let written : day_text day ≡ date_text day = rw (is_day-true day within) refl in
    let read = date_of-date_text (year_of day) (month_of day) (day_of_month day) (omega (arith, year_of-le day)) (omega (arith, civil.1.1)) (omega (arith, most_days, civil.2.1)) in
    let known = day_of-calendar (year_of day) (month_of day) (day_of_month day) civil.1.0 civil.1.1 civil.2.0 civil.2.1 in
    ap date_of written ∙ (read ∙ (known ∙ ap Ok split.whole))
