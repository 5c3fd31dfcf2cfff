-- How a civil date is read and written.
use Rattle.std.specs.Prelude.{◌≡◌, ℕ, ◌+◌, ◌==◌, nat_le, Bool, ◌&&◌, if◌then◌else◌, ℤ, pos, ◌-ℤ◌, int_le, unsigned_abs, List, ◌∷◌, ◌++◌, length, take, drop, slice_index, count_by, decimal, Result, Ok, Err}
use Rattle.std.specs.List.{list_all, range_with_len}
use Rattle.std.specs.Char.{is_ascii_digit}
use Rattle.jiff_core.specs.Calendar.{days_in_month, days_from_civil}
use Rattle.jiff_core.specs.Date.{epoch_day}
use Rattle.jiff_core.specs.declared.civil.date.Date.{Date}
use Rattle.xf_base.specs.Fixed.{number_after, without_blanks, with_zeros, fixed_text}
use Rattle.xf_base.specs.declared.date.TheConstants.{FIRST_DAY, LAST_DAY}
use Rattle.xf_base.specs.declared.date.DateRefusal.{DateRefusal}
use Rattle.xf_base.specs.declared.date.DateRefusal.TheVariants.{Form, NoSuchDay}

-- the parts of `YYYY-MM-DD`
abbrev pub year_part : List ℕ → List ℕ
year_part text = take 4 text

abbrev pub month_part : List ℕ → List ℕ
month_part text = take 2 (drop 5 text)

abbrev pub day_part : List ℕ → List ℕ
day_part text = take 2 (drop 8 text)

-- four digits, `-`, two digits, `-`, two digits
abbrev pub is_date_form : List ℕ → Bool
is_date_form text =
    (length text == 10) && (slice_index text 4 == 45) && (slice_index text 7 == 45)
    && list_all is_ascii_digit (year_part text ++ month_part text ++ day_part text)

-- the Gregorian calendar has this day
abbrev pub is_calendar_day : ℕ → ℕ → ℕ → Bool
is_calendar_day year month day =
    nat_le 1 month && nat_le month 12 && nat_le 1 day && nat_le day (days_in_month (pos year) month)

-- a day by its year, month and day of the month: how many days it is after 1970-01-01
abbrev pub day_of : ℕ → ℕ → ℕ → Result ℤ DateRefusal
day_of year month day = if is_calendar_day year month day then Ok (days_from_civil (pos year) month day) else Err NoSuchDay

abbrev pub day_of_form : List ℕ → Result ℤ DateRefusal
day_of_form text =
    if is_date_form text then day_of (number_after 0 (year_part text)) (number_after 0 (month_part text)) (number_after 0 (day_part text))
    else Err Form

-- what a text reads as
abbrev pub date_of : List ℕ → Result ℤ DateRefusal
date_of text = day_of_form (without_blanks text)

-- the year of a day of the years 0000 to 9999: how many of the years from 1 on have begun by it
unfoldable pub year_of : ℤ → ℕ
year_of day = count_by (λ year. int_le (days_from_civil (pos year) 1 1) day) (range_with_len 1 9999)

-- its month: how many of the year's twelve months have begun by it
unfoldable pub month_of : ℤ → ℕ
month_of day = count_by (λ month. int_le (days_from_civil (pos (year_of day)) month 1) day) (range_with_len 1 12)

-- its place in the month, from 1
abbrev pub day_of_month : ℤ → ℕ
day_of_month day = unsigned_abs (day -ℤ days_from_civil (pos (year_of day)) (month_of day) 1) + 1

-- the first day of its month, and of its year
abbrev pub month_start : ℤ → ℤ
month_start day = days_from_civil (pos (year_of day)) (month_of day) 1

abbrev pub year_start : ℤ → ℤ
year_start day = days_from_civil (pos (year_of day)) 1 1

-- the date of a day of these years
pub record IsDateOf (day : ℤ) (date : Date) : Type 0 where
  pub same_day : epoch_day date ≡ day
  pub same_year : date.year ≡ pos (year_of day)
  pub same_month : date.month ≡ month_of day
  pub same_place : date.day ≡ day_of_month day

-- a day as `YYYY-MM-DD`
abbrev pub date_text : ℤ → List ℕ
date_text day =
    with_zeros 4 (decimal (year_of day)) ++ 45 ∷ with_zeros 2 (decimal (month_of day)) ++ 45 ∷ with_zeros 2 (decimal (day_of_month day))

-- a day of the years 0000 to 9999
abbrev pub is_day : ℤ → Bool
is_day day = int_le FIRST_DAY day && int_le day LAST_DAY

-- how a day is written: what is no day of these years as a whole number
abbrev pub day_text : ℤ → List ℕ
day_text day = if is_day day then date_text day else fixed_text day 0
