-- What the digits of a date's text come to.
use Rattle.std.proofs.Common.{◌≡◌, ℕ, zero, suc, pos, ◌+◌, ◌-◌, ◌*◌, ◌^◌, ◌<◌, ◌≤◌, true, List, [], ◌∷◌, length, Ok, arith, rules, refl}
use Rattle.std.specs.List.{list_all}
use Rattle.std.specs.Char.{is_ascii_digit}
use Rattle.std.proofs.lemmas.Bool.{and_parts}
use Rattle.std.proofs.lemmas.Bool.Decides.{nat_tests}
use Rattle.std.proofs.Math.Nat.{pow-suc, pow-le-pow_right, mul-le-mul_right}
use Rattle.jiff_core.specs.Calendar.{days_in_month, day_count, days_from_civil}
use Rattle.jiff_core.specs.declared.civil.date.Date.{Date}
use Rattle.jiff_core.specs.Date.{epoch_day}
use Rattle.jiff_core.proofs.SignedLemmas.{signed_arith}
use Rattle.jiff_core.proofs.MarchLemmas.{day_count-early}
use Rattle.jiff_core.proofs.CalendarLemmas.{day_count-day_of_year, day_count-later_year, days_from_civil-day_count}
use Rattle.jiff_core.proofs.DateLemmas.{epoch_day_range}
use Rattle.xf_base.specs.Fixed.{number_after}
use Rattle.xf_base.specs.Date.{is_calendar_day, day_of}
use Rattle.xf_base.specs.Schema.{IsDay}

-- a digit in front of so many others
below_power : (n front power digit : ℕ) → digit < 10 → n < (front * 10 + digit + 1) * power → n < (front + 1) * (power * 10)
below_power n front power digit few h =
    omega (arith, mul-le-mul_right power (let most : front * 10 + digit + 1 ≤ (front + 1) * 10 = omega arith in most))

-- so many digits write a number with no more
pub number_after-bound : (front : ℕ) (digits : List ℕ) → list_all is_ascii_digit digits ≡ true → number_after front digits < (front + 1) * 10 ^ length digits
number_after-bound front [] all = omega arith
number_after-bound front (digit ∷ digits) all =
    let parts = and_parts (is_ascii_digit digit) (list_all is_ascii_digit digits) all in
    let few : digit - 48 < 10 = grind (arith, nat_tests, parts.0) in
    rw pow-suc (below_power (number_after front (digit ∷ digits)) front (10 ^ length digits) (digit - 48) few (number_after-bound (front * 10 + (digit - 48)) digits parts.1))

-- the number of a few digits
pub number_after-few : (digits : List ℕ) → length digits ≤ 4 → list_all is_ascii_digit digits ≡ true → (number_after 0 digits < 10 ^ length digits) × (number_after 0 digits < 10000)
number_after-few digits few all =
    let bound = number_after-bound 0 digits all in
    let most : 10 ^ length digits ≤ 10 ^ 4 = pow-le-pow_right (omega arith) few in
    (omega arith, omega arith)

-- what the calendar has is a day of it
pub day_of-calendar : (year month day : ℕ) → 1 ≤ month → month ≤ 12 → 1 ≤ day → day ≤ days_in_month (pos year) month → day_of year month day ≡ Ok (days_from_civil (pos year) month day)
day_of-calendar year month day some_month last_month some_day last_day =
    let found : is_calendar_day year month day ≡ true = grind (arith, nat_tests) in
    rw found refl

-- so is a date
pub day_of-date : (date : Date) (year month day : ℕ) → date.year ≡ pos year → date.month ≡ month → date.day ≡ day → day_of year month day ≡ Ok (epoch_day date)
day_of-date date year month day is_year is_month is_day =
    let last : day ≤ days_in_month (pos year) month = rw (is_year, is_month, is_day) at date.day_in.1 in
    let some : 1 ≤ day = rw is_day at date.day_in.0 in
    let first_month : 1 ≤ month = rw is_month at date.month_in.0 in
    let last_month : month ≤ 12 = rw is_month at date.month_in.1 in
    rw (is_year, is_month, is_day) (day_of-calendar year month day first_month last_month some last)

-- the first day of the years 0000 to 9999
pub day_count-first_day : day_count (pos 0) 1 1 ≡ 3_652_425
day_count-first_day = day_count-early (pos 0) 9999 1 1 refl (omega arith) (omega arith) (omega arith)

-- no day of these years comes before it
day_count-not_before : (year month day : ℕ) → 1 ≤ day → 3_652_425 ≤ day_count (pos year) month day
day_count-not_before zero month day some = omega (arith, day_count-first_day, day_count-day_of_year (pos 0) month day some)
day_count-not_before (suc year) month day some =
    let later = day_count-later_year (pos 0) (pos (suc year)) (search rules) (search rules) in
    omega (arith, day_count-first_day, later, day_count-day_of_year (pos (suc year)) month day some)

-- a date of these years is one of their days
pub epoch_day-within : (date : Date) (year : ℕ) → date.year ≡ pos year → IsDay (epoch_day date)
epoch_day-within date year is_year =
    let last = epoch_day_range date in
    let first = rw (← is_year) at (day_count-not_before year date.month date.day date.day_in.0) in
    omega (arith, signed_arith, days_from_civil-day_count date.year date.month date.day)
