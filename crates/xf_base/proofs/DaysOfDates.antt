-- Each day of the years 0000 to 9999 is the day of its year, month and day of the month.
use Rattle.std.proofs.Common.{◌≡◌, ℕ, zero, suc, ◌+◌, ◌-◌, ◌<◌, ◌≤◌, Bool, true, false, nat_lt, ℤ, pos, ◌-ℤ◌, ◌≤ℤ◌, ◌<ℤ◌, ◌+ℤ◌, int_le, unsigned_abs, ◌∷◌, count_by, add-zero, refl, sym, ◌∙◌, arith, lit<, lit≤, rules, ⊎_elim}
use Rattle.std.specs.List.{range_with_len}
use Rattle.std.proofs.lemmas.Bool.{cases_lt, cases_Bool, false≢true}
use Rattle.std.proofs.lemmas.Bool.Decides.{nat_tests}
use Rattle.std.proofs.lemmas.Int.{ints}
use Rattle.std.proofs.lemmas.List.Sums.{count_by-le-length}
use Rattle.std.proofs.lemmas.List.FromFn.{length-range_with_len}
use Rattle.jiff_core.specs.Calendar.{IsCivilDate, days_in_month, days_from_civil}
use Rattle.jiff_core.proofs.SignedLemmas.{signed_arith}
use Rattle.jiff_core.proofs.CalendarLemmas.{days_from_civil-day_count, day_count-next_year, day_count-next_month, day_count-last_of_year, day_count-end, day_count-day}
use Rattle.xf_base.specs.Date.{year_of, month_of, day_of_month}
use Rattle.xf_base.specs.Schema.{IsDay}
use Rattle.xf_base.proofs.ReadDates.{day_count-first_day}
use Rattle.xf_base.proofs.DayParts.{count_by-passing, count_by-failing}
use borrow.Author.Differences.{up, down}

-- the first of a list of which none later passes without it does not pass, so none does
falling_none : (p : ℕ → Bool) (from n count : ℕ) → (p (from + 1) ≡ true → p from ≡ true) → p from ≡ false → count ≤ n → (0 < n → p (from + 1) ≡ nat_lt 0 count) → count ≡ 0
falling_none p from n zero falls first within next = refl
falling_none p from n (suc count) falls first within next =
    let some : nat_lt 0 (suc count) ≡ true = grind (arith, nat_tests) in
    absurd (false≢true (sym first ∙ falls (next (omega arith) ∙ some)))

-- the two cases of the next lemma: the first number passes, and it does not
falling_first : (p : ℕ → Bool) (from n k : ℕ) → ((j : ℕ) → j < n → p (from + 1 + j) ≡ nat_lt j (count_by p (range_with_len (from + 1) n))) → p from ≡ true → k < suc n → p (from + k) ≡ nat_lt k (count_by p (from ∷ range_with_len (from + 1) n))
falling_first p from n zero rest first within =
    rw (count_by-passing p from (range_with_len (from + 1) n) first) (let same : from + 0 ≡ from = omega arith in rw (same, first) (grind (arith, nat_tests)))
falling_first p from n (suc k) rest first within =
    let same : from + suc k ≡ from + 1 + k = omega arith in
    rw (count_by-passing p from (range_with_len (from + 1) n) first, same, rest k (omega arith)) (grind (arith, nat_tests))

falling_last : (p : ℕ → Bool) (from n k : ℕ) → ((j : ℕ) → j < n → p (from + 1 + j) ≡ nat_lt j (count_by p (range_with_len (from + 1) n))) → p from ≡ false → count_by p (range_with_len (from + 1) n) ≡ 0 → k < suc n → p (from + k) ≡ nat_lt k (count_by p (from ∷ range_with_len (from + 1) n))
falling_last p from n zero rest first none within =
    let same : from + 0 ≡ from = omega arith in
    rw (count_by-failing p from (range_with_len (from + 1) n) first, none, same) first
falling_last p from n (suc k) rest first none within =
    let same : from + suc k ≡ from + 1 + k = omega arith in
    rw (count_by-failing p from (range_with_len (from + 1) n) first, same) (rest k (omega arith) ∙ rw none (grind (arith, nat_tests)))

-- no more pass than there are
counted-le : (p : ℕ → Bool) (from n : ℕ) → count_by p (range_with_len from n) ≤ n
counted-le p from n = omega (arith, count_by-le-length p (range_with_len from n), length-range_with_len from n)

-- where each number passes only if the one before it does, those that pass come first, and their count tells which
count_by-falling : (p : ℕ → Bool) (from n k : ℕ) → ((k : ℕ) → from ≤ k → p (k + 1) ≡ true → p k ≡ true) → k < n → p (from + k) ≡ nat_lt k (count_by p (range_with_len from n))
count_by-falling p from zero k falls within = absurd (omega arith)
count_by-falling p from (suc n) k falls within =
    let rest = λ (j : ℕ) (below : j < n). count_by-falling p (from + 1) n j (λ i low. falls i (omega arith)) below in
    ⊎_elim
    (λ first. falling_first p from n k rest first within)
    (λ first. falling_last p from n k rest first (falling_none p from n (count_by p (range_with_len (from + 1) n)) (falls from (omega arith)) first (counted-le p (from + 1) n) (λ some. rw (add-zero (from + 1)) at (rest 0 some))) within)
    (cases_Bool (p from))

-- what the tests of two days say
int_le-true : (y z : ℤ) (test : Bool) → int_le y z ≡ test → test ≡ true → y ≤ℤ z
int_le-true y z test is_test passes = grind (arith, ints)

int_le-false : (y z : ℤ) (test : Bool) → int_le y z ≡ test → test ≡ false → z <ℤ y
int_le-false y z test is_test fails = grind (arith, ints)

-- a year that has begun has had its year before
year_falls : (day : ℤ) (k : ℕ) → int_le (days_from_civil (pos (k + 1)) 1 1) day ≡ true → int_le (days_from_civil (pos k) 1 1) day ≡ true
year_falls day k begun =
    let next = day_count-next_year (pos k) (pos (k + 1)) (search rules) (omega (arith, signed_arith)) in
    let later = int_le-true (days_from_civil (pos (k + 1)) 1 1) day true begun refl in
    let earlier : days_from_civil (pos k) 1 1 ≤ℤ day = omega (arith, signed_arith, days_from_civil-day_count) in
    grind (arith, ints)

-- so has a month
month_falls : (day y : ℤ) (k : ℕ) → 1 ≤ k → int_le (days_from_civil y (k + 1) 1) day ≡ true → int_le (days_from_civil y k 1) day ≡ true
month_falls day y k some begun =
    let next = day_count-next_month y k some in
    let later = int_le-true (days_from_civil y (k + 1) 1) day true begun refl in
    let earlier : days_from_civil y k 1 ≤ℤ day = omega (arith, signed_arith, days_from_civil-day_count) in
    grind (arith, ints)

-- a day's year has begun by it
year_begun : (day : ℤ) (year : ℕ) → IsDay day → ((k : ℕ) → k < 9999 → int_le (days_from_civil (pos (1 + k)) 1 1) day ≡ nat_lt k year) → year ≤ 9999 → days_from_civil (pos year) 1 1 ≤ℤ day
year_begun day zero within counted most = omega (arith, signed_arith, days_from_civil-day_count, day_count-first_day, within)
year_begun day (suc k) within counted most =
    let same : 1 + k ≡ suc k = omega arith in
    int_le-true (days_from_civil (pos (suc k)) 1 1) day (nat_lt k (suc k)) (rw same at (counted k (omega arith))) (grind (arith, nat_tests))

-- and the next year has not
year_left : (day : ℤ) (year : ℕ) → IsDay day → ((k : ℕ) → k < 9999 → int_le (days_from_civil (pos (1 + k)) 1 1) day ≡ nat_lt k year) → year ≤ 9999 → day <ℤ days_from_civil (pos (year + 1)) 1 1
year_left day year within counted most =
    let same : 1 + year ≡ year + 1 = omega arith in
    ⊎_elim
    (λ more. int_le-false (days_from_civil (pos (year + 1)) 1 1) day (nat_lt year year) (rw same at (counted year more)) (grind (arith, nat_tests)))
    (λ (last : 9999 ≤ year). let all : year + 1 ≡ 10000 = omega arith in rw all (omega (arith, signed_arith, days_from_civil-day_count, day_count-end, within)))
    (cases_lt year 9999)

-- a day's month has begun by it
month_begun : (day y : ℤ) (month : ℕ) → 1 ≤ month → ((k : ℕ) → k < 12 → int_le (days_from_civil y (1 + k) 1) day ≡ nat_lt k month) → month ≤ 12 → days_from_civil y month 1 ≤ℤ day
month_begun day y zero some counted most = absurd (omega arith)
month_begun day y (suc k) some counted most =
    let same : 1 + k ≡ suc k = omega arith in
    int_le-true (days_from_civil y (suc k) 1) day (nat_lt k (suc k)) (rw same at (counted k (omega arith))) (grind (arith, nat_tests))

-- a month has begun, since the year has
month_some : (day y : ℤ) (month : ℕ) → days_from_civil y 1 1 ≤ℤ day → ((k : ℕ) → k < 12 → int_le (days_from_civil y (1 + k) 1) day ≡ nat_lt k month) → 1 ≤ month
month_some day y zero begun counted = absurd (omega (arith, signed_arith, int_le-false (days_from_civil y 1 1) day false (counted 0 (lit< tt)) refl))
month_some day y (suc k) begun counted = omega arith

-- the day is before the end of its month
month_left : (day : ℤ) (year month : ℕ) → 1 ≤ month → month ≤ 12 → day <ℤ days_from_civil (pos (year + 1)) 1 1 → ((k : ℕ) → k < 12 → int_le (days_from_civil (pos year) (1 + k) 1) day ≡ nat_lt k month) → day <ℤ (days_from_civil (pos year) month 1 +ℤ pos (days_in_month (pos year) month))
month_left day year month some most year_left counted =
    let same : 1 + month ≡ month + 1 = omega arith in
    ⊎_elim
    (λ more.
    let left = int_le-false (days_from_civil (pos year) (month + 1) 1) day (nat_lt month month) (rw same at (counted month more)) (grind (arith, nat_tests)) in
    omega (arith, signed_arith, days_from_civil-day_count, day_count-next_month (pos year) month some, left))
    (λ (last : 12 ≤ month).
    let all : month ≡ 12 = omega arith in
    let next = day_count-next_year (pos year) (pos (year + 1)) (search rules) (omega (arith, signed_arith)) in
    rw all (omega (arith, signed_arith, days_from_civil-day_count, next, day_count-last_of_year (pos year), day_count-day (pos year) 12 1 31 (lit≤ tt) (lit≤ tt))))
    (cases_lt month 12)

-- the days from one day to a later one
gap_is : (day first : ℤ) → first ≤ℤ day → (k : ℕ) × (day -ℤ first ≡ pos k) × (first +ℤ pos k ≡ day)
gap_is day first h =
    let k = up day + down first - (down day + up first) in
    (k, omega (arith, signed_arith), omega (arith, signed_arith))

-- what a day's parts are
pub record IsSplit (day : ℤ) (year month d : ℕ) : Type 0 where
  pub civil : IsCivilDate (pos year) month d
  pub whole : days_from_civil (pos year) month d ≡ day

split_is : (day : ℤ) (year month : ℕ) → year ≤ 9999 → 1 ≤ month → month ≤ 12 → days_from_civil (pos year) month 1 ≤ℤ day → day <ℤ (days_from_civil (pos year) month 1 +ℤ pos (days_in_month (pos year) month)) → IsSplit day year month (unsigned_abs (day -ℤ days_from_civil (pos year) month 1) + 1)
split_is day year month most some_month most_month begun left =
    let gap = gap_is day (days_from_civil (pos year) month 1) begun in
    rw (gap.1) (record {
      civil = (search rules, (some_month, most_month), (omega arith, omega (arith, signed_arith, gap.2)));
      whole = omega (arith, signed_arith, days_from_civil-day_count, gap.2, day_count-day (pos year) month 1 (gap.0 + 1) (lit≤ tt) (omega arith));
    })

-- which years have begun by a day, and which of its year's months
years_counted : (day : ℤ) (k : ℕ) → k < 9999 → int_le (days_from_civil (pos (1 + k)) 1 1) day ≡ nat_lt k (year_of day)
unfolding year_of
years_counted day k below = count_by-falling (λ year. int_le (days_from_civil (pos year) 1 1) day) 1 9999 k (λ j low. year_falls day j) below

months_counted : (day : ℤ) (k : ℕ) → k < 12 → int_le (days_from_civil (pos (year_of day)) (1 + k) 1) day ≡ nat_lt k (month_of day)
unfolding month_of
months_counted day k below =
    count_by-falling (λ month. int_le (days_from_civil (pos (year_of day)) month 1) day) 1 12 k (λ j low. month_falls day (pos (year_of day)) j low) below

pub year_of-le : (day : ℤ) → year_of day ≤ 9999
unfolding year_of
year_of-le day = counted-le (λ year. int_le (days_from_civil (pos year) 1 1) day) 1 9999

pub month_of-le : (day : ℤ) → month_of day ≤ 12
unfolding month_of
month_of-le day = counted-le (λ month. int_le (days_from_civil (pos (year_of day)) month 1) day) 1 12

-- a day is that of its year, month and day of the month
pub day_split : (day : ℤ) → IsDay day → IsSplit day (year_of day) (month_of day) (day_of_month day)
day_split day within =
    let begun = year_begun day (year_of day) within (years_counted day) (year_of-le day) in
    let left = year_left day (year_of day) within (years_counted day) (year_of-le day) in
    let some = month_some day (pos (year_of day)) (month_of day) begun (months_counted day) in
    split_is day (year_of day) (month_of day) (year_of-le day) some (month_of-le day)
    (month_begun day (pos (year_of day)) (month_of day) some (months_counted day) (month_of-le day))
    (month_left day (year_of day) (month_of day) some (month_of-le day) left (months_counted day))
