-- Rounding numbers keeps their order.
use Rattle.std.proofs.Common.{◌≡◌, ℕ, ◌*◌, ◌/◌, ◌<◌, ◌≤◌, Bool, true, false, if◌then◌else◌, ℤ, pos, negsuc, ◌*ℤ◌, ◌≤ℤ◌, int_le, refl, arith, rules, lit≤, ⊎_elim}
use Rattle.std.specs.Int.{int_div_euclid}
use Rattle.std.specs.Ordering.{is_le, int_cmp}
use Rattle.std.proofs.lemmas.Bool.{cases_lt}
use Rattle.std.proofs.lemmas.Int.{ints, clamps}
use Rattle.std.proofs.lemmas.Nat.{le-div}
use Rattle.std.proofs.Math.Nat.{div-mul-le_self, mul-le-mul_left}
use Rattle.jiff_core.specs.Calendar.{IsCivilDate, day_count}
use Rattle.jiff_core.proofs.SignedLemmas.{signed_arith}
use Rattle.jiff_core.proofs.CalendarLemmas.{days_from_civil-day_count, day_count-day_of_year, day_count-lt_year, day_count-lt_month, day_count-day, days_in_month_bounds}
use Rattle.xf_base.specs.Date.{year_of, month_of, day_of_month, is_day, month_start, year_start}
use Rattle.xf_base.specs.Schema.{IsDay}
use Rattle.xf_base.specs.declared.date.TheConstants.{FIRST_DAY}
use Rattle.xf_base.proofs.DayParts.{is_day-IsDay}
use Rattle.xf_base.proofs.DaysOfDates.{day_split}
use Rattle.xf_base.proofs.ReadDates.{day_count-first_day}
use Rattle.xf_access.specs.Round.{floor_to, is_width, rounded_number}
use Rattle.xf_access.specs.declared.stock_rounding.StockRounding.{StockRounding}
use Rattle.xf_access.specs.declared.stock_rounding.StockRounding.TheVariants.{Same, Floor, MonthOf, YearOf, FirstLetters}

-- ---- the order of numbers

pub le_from : (x y : ℤ) → is_le (int_cmp x y) ≡ true → x ≤ℤ y
le_from x y h = grind (arith, ints)

pub le_to : (x y : ℤ) → x ≤ℤ y → is_le (int_cmp x y) ≡ true
le_to x y h = grind (arith, ints)

-- ---- multiples of a width

quotient-le : (a b w : ℕ) → 0 < w → a ≤ b → w * (a / w) ≤ w * (b / w)
quotient-le a b w some h = mul-le-mul_left w (le-div (a / w) b w some (omega (arith, div-mul-le_self a w)))

multiple_le : (w : ℕ) (x y : ℤ) → 0 < w → x ≤ℤ y → (pos w *ℤ int_div_euclid x (pos w)) ≤ℤ (pos w *ℤ int_div_euclid y (pos w))
multiple_le w (pos a) (pos b) some h = omega (arith, signed_arith, quotient-le a b w some (omega (arith, ints)))
multiple_le w (pos a) (negsuc b) some h = absurd (omega (arith, ints))
multiple_le w (negsuc a) (pos b) some h = omega (arith, signed_arith)
multiple_le w (negsuc a) (negsuc b) some h = omega (arith, signed_arith, quotient-le b a w some (omega (arith, ints)))

floor_to-le : (width x y : ℤ) → is_width width ≡ true → x ≤ℤ y → floor_to width x ≤ℤ floor_to width y
floor_to-le (pos w) x y is h = omega (arith, ints, clamps, multiple_le w x y (grind (arith, ints)) h)
floor_to-le (negsuc w) x y is h = absurd (grind (arith, ints))

-- ---- first days of months and years

first_is_civil : (y : ℤ) (m d : ℕ) → IsCivilDate y m d → IsCivilDate y m 1
first_is_civil y m d civil = (civil.0, civil.1, (lit≤ tt, omega (arith, days_in_month_bounds y m)))

-- the date that comes first is not of a later year
earlier_year : (y m d z n e : ℕ) → IsCivilDate (pos y) m d → IsCivilDate (pos z) n e → day_count (pos y) m d ≤ day_count (pos z) n e → y ≤ z
earlier_year y m d z n e own other h =
    ⊎_elim
    (λ (later : z < y). absurd (omega (arith, day_count-lt_year (pos z) n e (pos y) m d other own.2.0 (omega (arith, signed_arith)))))
    (λ (h : y ≤ z). h)
    (cases_lt z y)

-- nor, in one year, of a later month
earlier_month : (y : ℤ) (m d n e : ℕ) → IsCivilDate y m d → IsCivilDate y n e → day_count y m d ≤ day_count y n e → m ≤ n
earlier_month y m d n e own other h =
    ⊎_elim
    (λ (later : n < m). absurd (omega (arith, day_count-lt_month y n e m d other own.2.0 later)))
    (λ (h : m ≤ n). h)
    (cases_lt n m)

month_firsts_of_year : (y : ℤ) (m d n e : ℕ) → IsCivilDate y m d → IsCivilDate y n e → day_count y m d ≤ day_count y n e → day_count y m 1 ≤ day_count y n 1
month_firsts_of_year y m d n e own other h =
    ⊎_elim
    (λ (earlier : m < n). omega (arith, day_count-lt_month y m 1 n 1 (first_is_civil y m d own) (lit≤ tt) earlier))
    (λ (late : n ≤ m). let same : m ≡ n = omega (arith, earlier_month y m d n e own other h) in rw same (omega arith))
    (cases_lt m n)

month_firsts : (y m d z n e : ℕ) → IsCivilDate (pos y) m d → IsCivilDate (pos z) n e → day_count (pos y) m d ≤ day_count (pos z) n e → day_count (pos y) m 1 ≤ day_count (pos z) n 1
month_firsts y m d z n e own other h =
    ⊎_elim
    (λ (earlier : y < z). omega (arith, day_count-lt_year (pos y) m 1 (pos z) n 1 (first_is_civil (pos y) m d own) (lit≤ tt) (omega (arith, signed_arith))))
    (λ (late : z ≤ y).
    let same : z ≡ y = omega (arith, earlier_year y m d z n e own other h) in
    rw same (month_firsts_of_year (pos y) m d n e own (rw same at other) (rw same at h)))
    (cases_lt y z)

year_firsts : (y m d z n e : ℕ) → IsCivilDate (pos y) m d → IsCivilDate (pos z) n e → day_count (pos y) m d ≤ day_count (pos z) n e → day_count (pos y) 1 1 ≤ day_count (pos z) 1 1
year_firsts y m d z n e own other h =
    ⊎_elim
    (λ (earlier : y < z). omega (arith, day_count-lt_year (pos y) 1 1 (pos z) 1 1 (own.0, (lit≤ tt, lit≤ tt), (lit≤ tt, omega (arith, days_in_month_bounds (pos y) 1))) (lit≤ tt) (omega (arith, signed_arith))))
    (λ (late : z ≤ y). let same : z ≡ y = omega (arith, earlier_year y m d z n e own other h) in rw same (omega arith))
    (cases_lt y z)

-- what is asked of a function that gives the first day of a span of days
record IsStart (start : ℤ → ℤ) : Type 0 where
  keeps : (x y : ℤ) → IsDay x → IsDay y → x ≤ℤ y → start x ≤ℤ start y
  below : (x : ℤ) → IsDay x → start x ≤ℤ x
  within : (x : ℤ) → IsDay x → FIRST_DAY ≤ℤ start x

month_is_start : IsStart month_start
month_is_start = record {
  keeps = λ x y within_x within_y h.
      let own = day_split x within_x in
      let other = day_split y within_y in
      let first = month_firsts (year_of x) (month_of x) (day_of_month x) (year_of y) (month_of y) (day_of_month y) own.civil other.civil (omega (arith, signed_arith, days_from_civil-day_count, own.whole, other.whole)) in
      omega (arith, signed_arith, days_from_civil-day_count, first);
  below = λ x within.
      let own = day_split x within in
      let far = day_count-day (pos (year_of x)) (month_of x) (day_of_month x) 1 own.civil.2.0 (lit≤ tt) in
      omega (arith, signed_arith, days_from_civil-day_count, own.whole, own.civil.2.0, far);
  within = λ x within.
      let own = day_split x within in
      let first = month_firsts 0 1 1 (year_of x) (month_of x) (day_of_month x) (search rules, (lit≤ tt, lit≤ tt), (lit≤ tt, lit≤ tt)) own.civil (omega (arith, signed_arith, days_from_civil-day_count, own.whole, day_count-first_day)) in
      omega (arith, signed_arith, days_from_civil-day_count, first, day_count-first_day);
}

year_is_start : IsStart year_start
year_is_start = record {
  keeps = λ x y within_x within_y h.
      let own = day_split x within_x in
      let other = day_split y within_y in
      let first = year_firsts (year_of x) (month_of x) (day_of_month x) (year_of y) (month_of y) (day_of_month y) own.civil other.civil (omega (arith, signed_arith, days_from_civil-day_count, own.whole, other.whole)) in
      omega (arith, signed_arith, days_from_civil-day_count, first);
  below = λ x within.
      let own = day_split x within in
      let far = day_count-day_of_year (pos (year_of x)) (month_of x) (day_of_month x) own.civil.2.0 in
      omega (arith, signed_arith, days_from_civil-day_count, own.whole, own.civil.2.0, far);
  within = λ x within.
      let own = day_split x within in
      let first = year_firsts 0 1 1 (year_of x) (month_of x) (day_of_month x) (search rules, (lit≤ tt, lit≤ tt), (lit≤ tt, lit≤ tt)) own.civil (omega (arith, signed_arith, days_from_civil-day_count, own.whole, day_count-first_day)) in
      omega (arith, signed_arith, days_from_civil-day_count, first, day_count-first_day);
}

-- days are taken to their span's first, and other numbers stay: each of the four cases keeps the order
start-le : (start : ℤ → ℤ) → IsStart start → (x y : ℤ) (of_x of_y : Bool) → is_day x ≡ of_x → is_day y ≡ of_y → x ≤ℤ y → (if of_x then start x else x) ≤ℤ (if of_y then start y else y)
start-le start is x y true true is_x is_y h = is.keeps x y (is_day-IsDay x is_x) (is_day-IsDay y is_y) h
start-le start is x y true false is_x is_y h = omega (arith, signed_arith, is.below x (is_day-IsDay x is_x), h)
start-le start is x y false true is_x is_y h =
    let own = is_day-IsDay y is_y in
    let first = is.within y own in
    let early : int_le FIRST_DAY x ≡ false = grind (arith, ints, is_x, own.1, h) in
    omega (arith, signed_arith, first, early)
start-le start is x y false false is_x is_y h = h

-- ---- all of them

floor_if-le : (width x y : ℤ) (is : Bool) → is_width width ≡ is → x ≤ℤ y → (if is then floor_to width x else x) ≤ℤ (if is then floor_to width y else y)
floor_if-le width x y true is h = floor_to-le width x y is h
floor_if-le width x y false is h = h

rounded_number-le : (rounding : StockRounding) (x y : ℤ) → x ≤ℤ y → rounded_number rounding x ≤ℤ rounded_number rounding y
rounded_number-le Same x y h = h
rounded_number-le (Floor width) x y h = floor_if-le width x y (is_width width) refl h
rounded_number-le MonthOf x y h = start-le month_start month_is_start x y (is_day x) (is_day y) refl refl h
rounded_number-le YearOf x y h = start-le year_start year_is_start x y (is_day x) (is_day y) refl refl h
rounded_number-le (FirstLetters count) x y h = h

pub rounded_number-keeps : (rounding : StockRounding) (x y : ℤ) → is_le (int_cmp x y) ≡ true → is_le (int_cmp (rounded_number rounding x) (rounded_number rounding y)) ≡ true
rounded_number-keeps rounding x y h = le_to (rounded_number rounding x) (rounded_number rounding y) (rounded_number-le rounding x y (le_from x y h))
