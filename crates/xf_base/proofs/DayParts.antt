-- A date's day has the date's year, month and day of the month, and so the date's text.
use Rattle.std.proofs.Common.{◌≡◌, ℕ, zero, suc, ◌+◌, ◌-◌, ◌<◌, ◌≤◌, Bool, true, false, cond, ℤ, pos, ◌-ℤ◌, ◌<ℤ◌, int_le, List, ◌∷◌, ◌++◌, decimal, count_by, zero-add, refl, sym, ap, ◌∙◌, arith, rules, ⊎_elim}
use Rattle.std.specs.List.{range_with_len}
use Rattle.std.proofs.lemmas.Bool.{and_parts, cases_lt}
use Rattle.std.proofs.lemmas.List.Sums.{sum_by-cons}
use Rattle.std.proofs.lemmas.Int.{ints}
use Rattle.jiff_core.specs.declared.civil.date.Date.{Date}
use Rattle.jiff_core.specs.Date.{epoch_day, ordinal}
use Rattle.jiff_core.proofs.DateLemmas.{civil}
use Rattle.jiff_core.specs.Calendar.{IsCivilDate, IsEpochDay, day_count, days_from_civil}
use Rattle.jiff_core.proofs.SignedLemmas.{signed_arith}
use Rattle.jiff_core.proofs.CalendarLemmas.{days_from_civil-day_count, days_of_months_mono, day_count-day_of_year, day_count-later_year, day_count-lt_year, day_count-lt_month, day_count-day}
use Rattle.xf_base.specs.declared.date.TheConstants.{FIRST_DAY, LAST_DAY}
use Rattle.xf_base.specs.Fixed.{with_zeros, fixed_text}
use Rattle.xf_base.specs.Date.{year_of, month_of, day_of_month, month_start, year_start, is_day, day_text, IsDateOf}
use Rattle.xf_base.specs.Schema.{IsDay}
use Rattle.xf_base.proofs.ReadDates.{day_count-first_day, epoch_day-within}

-- one more that passes, and one that does not
pub count_by-passing : (p : ℕ → Bool) (x : ℕ) (xs : List ℕ) → p x ≡ true → count_by p (x ∷ xs) ≡ 1 + count_by p xs
count_by-passing p x xs e = sum_by-cons (λ x. cond (p x) 1 0) x xs ∙ ap (λ passes. cond passes 1 0 + count_by p xs) e

pub count_by-failing : (p : ℕ → Bool) (x : ℕ) (xs : List ℕ) → p x ≡ false → count_by p (x ∷ xs) ≡ count_by p xs
count_by-failing p x xs e =
    sum_by-cons (λ x. cond (p x) 1 0) x xs ∙ ap (λ passes. cond passes 1 0 + count_by p xs) e ∙ zero-add (count_by p xs)

-- of numbers in order, those up to a place pass
count_by-range_with_len : (p : ℕ → Bool) (from n m : ℕ) → m ≤ n → ((k : ℕ) → from ≤ k → k < from + m → p k ≡ true) → ((k : ℕ) → from + m ≤ k → k < from + n → p k ≡ false) → count_by p (range_with_len from n) ≡ m
count_by-range_with_len p from zero m within passing failing = omega arith
count_by-range_with_len p from (suc n) zero within passing failing =
    count_by-failing p from (range_with_len (from + 1) n) (failing from (omega arith) (omega arith))
    ∙ count_by-range_with_len p (from + 1) n 0 (omega arith) (λ k low high. absurd (omega arith)) (λ k low high. failing k (omega arith) (omega arith))
count_by-range_with_len p from (suc n) (suc m) within passing failing =
    let rest = count_by-range_with_len p (from + 1) n m (omega arith) (λ k low high. passing k (omega arith) (omega arith)) (λ k low high. failing k (omega arith) (omega arith)) in
    count_by-passing p from (range_with_len (from + 1) n) (passing from (omega arith) (omega arith)) ∙ omega (arith, rest)

-- days are as far apart as the days that stand before them
int_le-days : (y z : ℤ) (m d n e : ℕ) → day_count y m d ≤ day_count z n e → int_le (days_from_civil y m d) (days_from_civil z n e) ≡ true
int_le-days y z m d n e h = grind (arith, ints, signed_arith, days_from_civil-day_count)

int_le-not_days : (y z : ℤ) (m d n e : ℕ) → day_count z n e < day_count y m d → int_le (days_from_civil y m d) (days_from_civil z n e) ≡ false
int_le-not_days y z m d n e h = grind (arith, ints, signed_arith, days_from_civil-day_count)

-- the first day of a year comes at or before each of its days
day_count-first_of_year : (year k month day : ℕ) → IsCivilDate (pos year) month day → k ≤ year → day_count (pos k) 1 1 ≤ day_count (pos year) month day
day_count-first_of_year year k month day civil h =
    let own = day_count-day_of_year (pos year) month day civil.2.0 in
    ⊎_elim
    (λ earlier. omega (arith, own, day_count-later_year (pos k) (pos year) (search rules) (omega (arith, signed_arith))))
    (λ (late : year ≤ k). let same : k ≡ year = omega arith in rw same (omega (arith, own)))
    (cases_lt k year)

-- so does the first day of each of its months up to the date's
day_count-first_of_month : (y : ℤ) (k month day : ℕ) → IsCivilDate y month day → 1 ≤ k → k ≤ month → day_count y k 1 ≤ day_count y month day
day_count-first_of_month y k month day civil some h =
    omega (arith, day_count-day_of_year y month day civil.2.0, day_count-day_of_year y k 1 (omega arith), days_of_months_mono y (k - 1) (month - 1) (omega arith), civil.2.0)

-- the day of a date has the date's year
pub year_of-date : (year month day : ℕ) → IsCivilDate (pos year) month day → year_of (days_from_civil (pos year) month day) ≡ year
unfolding year_of
year_of-date year month day civil =
    count_by-range_with_len _ 1 9999 year (omega (arith, signed_arith, civil.0))
    (λ k low high. int_le-days (pos k) (pos year) 1 1 month day (day_count-first_of_year year k month day civil (omega arith)))
    (λ k low high. int_le-not_days (pos k) (pos year) 1 1 month day (day_count-lt_year (pos year) month day (pos k) 1 1 civil (omega arith) (omega (arith, signed_arith))))

-- its month
pub month_of-date : (year month day : ℕ) → IsCivilDate (pos year) month day → month_of (days_from_civil (pos year) month day) ≡ month
unfolding month_of
month_of-date year month day civil =
    rw (year_of-date year month day civil)
    (count_by-range_with_len _ 1 12 month civil.1.1
    (λ k low high. int_le-days (pos year) (pos year) k 1 month day (day_count-first_of_month (pos year) k month day civil low (omega arith)))
    (λ k low high. int_le-not_days (pos year) (pos year) k 1 month day (day_count-lt_month (pos year) month day k 1 civil (omega arith) (omega arith))))

-- and its day of the month
pub day_of_month-date : (year month day : ℕ) → IsCivilDate (pos year) month day → day_of_month (days_from_civil (pos year) month day) ≡ day
day_of_month-date year month day civil =
    let far = day_count-day (pos year) month day 1 civil.2.0 (omega arith) in
    let gap : days_from_civil (pos year) month day -ℤ days_from_civil (pos year) month 1 ≡ pos (day - 1) = omega (arith, signed_arith, days_from_civil-day_count, far, civil.2.0) in
    rw (year_of-date year month day civil, month_of-date year month day civil, gap) (omega (arith, civil.2.0))

-- what is a day of the years 0000 to 9999 passes the test, and nothing else does
pub is_day-true : (day : ℤ) → IsDay day → is_day day ≡ true
is_day-true day within = grind (arith, ints)

pub is_day-IsDay : (day : ℤ) → is_day day ≡ true → IsDay day
is_day-IsDay day is =
    let parts = and_parts (int_le FIRST_DAY day) (int_le day LAST_DAY) is in
    (grind (arith, ints, parts.0), grind (arith, ints, parts.1))

pub is_day-false : (day : ℤ) → (IsDay day → ⊥) → is_day day ≡ false
is_day-false day outside = grind (arith, ints)

-- a date of these years is that of its day
pub IsDateOf-date : (date : Date) (year : ℕ) → date.year ≡ pos year → IsDateOf (epoch_day date) date
IsDateOf-date date year is_year =
    let civil : IsCivilDate (pos year) date.month date.day = rw is_year at (civil date) in
    let same_year : year_of (epoch_day date) ≡ year = rw is_year (year_of-date year date.month date.day civil) in
    let same_month : month_of (epoch_day date) ≡ date.month = rw is_year (month_of-date year date.month date.day civil) in
    let same_place : day_of_month (epoch_day date) ≡ date.day = rw is_year (day_of_month-date year date.month date.day civil) in
    record { same_day = refl; same_year = is_year ∙ sym (ap pos same_year); same_month = sym same_month; same_place = sym same_place }

-- and passes the test of these years, while a date before them does not
pub is_day-date : (date : Date) (year : ℕ) → date.year ≡ pos year → is_day (epoch_day date) ≡ true
is_day-date date year is_year = is_day-true (epoch_day date) (epoch_day-within date year is_year)

pub is_day-before : (date : Date) → date.year <ℤ pos 0 → is_day (epoch_day date) ≡ false
is_day-before date early =
    let before = day_count-lt_year date.year date.month date.day (pos 0) 1 1 (civil date) (omega arith) early in
    is_day-false (epoch_day date) (λ within. absurd (omega (arith, signed_arith, days_from_civil-day_count, day_count-first_day, before, within)))

-- nor does what is no date at all
pub is_day-outside : (day : ℤ) → (IsEpochDay day → ⊥) → is_day day ≡ false
is_day-outside day outside = is_day-false day (λ within. outside (omega (arith, signed_arith, within)))

-- a day of these years is written as its date, and what is none of them as a number
pub day_text-date_of : (day : ℤ) (date : Date) (year : ℕ) → is_day day ≡ true → date.year ≡ pos year → IsDateOf day date → day_text day ≡ with_zeros 4 (decimal year) ++ 45 ∷ with_zeros 2 (decimal date.month) ++ 45 ∷ with_zeros 2 (decimal date.day)
day_text-date_of day date year is is_year own =
    let same : year_of day ≡ year = omega (arith, signed_arith, own.same_year, is_year) in
    rw (is, own.same_month, own.same_place, same) refl

pub day_text-no_day : (day : ℤ) → is_day day ≡ false → day_text day ≡ fixed_text day 0
day_text-no_day day is = rw is refl

-- the first day of its month is as many days before it as its place says, and that of its year likewise
pub month_start-date : (day : ℤ) (date : Date) → IsDateOf day date → day -ℤ pos (date.day - 1) ≡ month_start day
month_start-date day date own =
    let far = day_count-day date.year date.month date.day 1 date.day_in.0 (omega arith) in
    rw (← own.same_year, ← own.same_month)
    (omega (arith, signed_arith, days_from_civil-day_count date.year date.month date.day, days_from_civil-day_count date.year date.month 1, far, own.same_day, date.day_in.0))

pub year_start-date : (day : ℤ) (date : Date) → IsDateOf day date → day -ℤ pos (ordinal date - 1) ≡ year_start day
year_start-date day date own =
    let far = day_count-day_of_year date.year date.month date.day date.day_in.0 in
    rw (← own.same_year)
    (omega (arith, signed_arith, days_from_civil-day_count date.year date.month date.day, days_from_civil-day_count date.year 1 1, far, own.same_day, date.day_in.0))
