-- What is written is UTF-8.
use Rattle.std.proofs.Common.{◌≡◌, ℕ, zero, suc, ◌+◌, ◌-◌, ◌^◌, ◌<◌, ◌≤◌, ◌==◌, Bool, true, false, if◌then◌else◌, ℤ, pos, nat_abs, int_lt, FitsSigned, List, [], ◌∷◌, ◌++◌, length, take, drop, replicate, decimal, IsUtf8, arith, lit<, ⊎_elim}
use Rattle.std.specs.Str.{IsAscii}
use Rattle.std.specs.Int.{w64, w128}
use Rattle.std.specs.Int.Signed.{nat_abs-le}
use Rattle.std.proofs.lemmas.Bool.{cases_Bool}
use Rattle.std.proofs.lemmas.Int.{ints}
use Rattle.std.proofs.lemmas.Fmt.{IsAscii-decimal_wide}
use Rattle.std.proofs.lemmas.Str.{IsUtf8-append, IsUtf8-from_ascii, IsAscii-take, IsAscii-drop, IsAscii-append}
use Rattle.std.proofs.lemmas.Str.Ascii.{IsAscii-nil, IsAscii-cons}
use Rattle.xf_base.specs.Fixed.{with_zeros, with_point, fixed_text}
use Rattle.xf_base.specs.Date.{is_day, date_text, day_text, year_of, month_of, day_of_month}
use Rattle.xf_base.specs.Schema.{IsDay}
use Rattle.xf_base.specs.Key.{IsPlainAtom, IsPlain}
use Rattle.xf_base.specs.Form.{number_text, atom_text, form_of_one, form_of_first, form_of_second, key_text}
use Rattle.xf_base.specs.declared.key.Atom.{Atom}
use Rattle.xf_base.specs.declared.key.Atom.TheVariants as atom
use Rattle.xf_base.specs.declared.key.Key.{Key}
use Rattle.xf_base.specs.declared.key.Key.TheVariants as key
use Rattle.xf_base.specs.declared.form.AtomForm.{AtomForm}
use Rattle.xf_base.specs.declared.form.AtomForm.TheVariants as form
use Rattle.xf_base.specs.declared.form.KeyForm.{KeyForm}
use Rattle.jiff_core.proofs.CalendarLemmas.{days_in_month_bounds}
use Rattle.xf_base.proofs.DayParts.{is_day-IsDay}
use Rattle.xf_base.proofs.DaysOfDates.{day_split, year_of-le, month_of-le}

-- both of two texts, so the one that is chosen
pub IsAscii-if : (test : Bool) (one other : List ℕ) → IsAscii one → IsAscii other → IsAscii (if test then one else other)
IsAscii-if true one other all_one all_other = all_one
IsAscii-if false one other all_one all_other = all_other

IsAscii-zeros : (n : ℕ) → IsAscii (replicate n 48)
IsAscii-zeros zero = IsAscii-nil
IsAscii-zeros (suc n) = IsAscii-cons 48 (replicate n 48) (lit< tt) (IsAscii-zeros n)

IsAscii-with_zeros : (n : ℕ) (digits : List ℕ) → IsAscii digits → IsAscii (with_zeros n digits)
IsAscii-with_zeros n digits all = IsAscii-append (replicate (n - length digits) 48) digits (IsAscii-zeros (n - length digits)) all

IsAscii-with_point : (decimals : ℕ) (digits : List ℕ) → IsAscii digits → IsAscii (with_point decimals digits)
IsAscii-with_point decimals digits all =
    let front = take (length digits - decimals) digits in
    let back = drop (length digits - decimals) digits in
    IsAscii-if (decimals == 0) digits (front ++ 46 ∷ back) all
    (IsAscii-append front (46 ∷ back) (IsAscii-take digits (length digits - decimals) all) (IsAscii-cons 46 back (lit< tt) (IsAscii-drop digits (length digits - decimals) all)))

IsAscii-fixed_text : (number : ℤ) (decimals : ℕ) → nat_abs number ≤ 2 ^ 127 → IsAscii (fixed_text number decimals)
IsAscii-fixed_text number decimals small =
    let digits = with_zeros (decimals + 1) (decimal (nat_abs number)) in
    let sign = IsAscii-if (int_lt number (pos 0)) (45 ∷ []) [] (IsAscii-cons 45 [] (lit< tt) IsAscii-nil) IsAscii-nil in
    IsAscii-append _ (with_point decimals digits) sign (IsAscii-with_point decimals digits (IsAscii-with_zeros (decimals + 1) (decimal (nat_abs number)) (IsAscii-decimal_wide (nat_abs number) (omega (arith, small)))))

-- a number's text
pub IsUtf8-fixed_text : (number : ℤ) (decimals : ℕ) → FitsSigned w128 number → IsUtf8 (fixed_text number decimals)
IsUtf8-fixed_text number decimals fits = IsUtf8-from_ascii _ (IsAscii-fixed_text number decimals (nat_abs-le number {H = 2 ^ 127} fits.sfits))

-- a date's text
IsAscii-date_text : (day : ℤ) → IsDay day → IsAscii (date_text day)
IsAscii-date_text day within =
    let civil = (day_split day within).civil in
    let days = days_in_month_bounds (pos (year_of day)) (month_of day) in
    let part = λ (n number : ℕ) (small : number < 10 ^ 64). IsAscii-with_zeros n (decimal number) (IsAscii-decimal_wide number small) in
    let year = part 4 (year_of day) (omega (arith, year_of-le day)) in
    let month = part 2 (month_of day) (omega (arith, month_of-le day)) in
    let last = part 2 (day_of_month day) (omega (arith, days, civil.2.1)) in
    IsAscii-append _ _ (IsAscii-append _ _ year (IsAscii-cons 45 _ (lit< tt) month)) (IsAscii-cons 45 _ (lit< tt) last)

-- what fits 64 bits fits 128
wider : (number : ℤ) → FitsSigned w64 number → FitsSigned w128 number
wider number fits = omega (arith, ints)

-- a day's text
pub IsUtf8-day_text : (day : ℤ) → FitsSigned w64 day → IsUtf8 (day_text day)
IsUtf8-day_text day fits =
    let small : nat_abs day ≤ 2 ^ 127 = omega (arith, nat_abs-le day {H = 2 ^ 63} fits.sfits) in
    IsUtf8-from_ascii (day_text day) (⊎_elim
    (λ (is : is_day day ≡ true). rw is (IsAscii-date_text day (is_day-IsDay day is)))
    (λ (is : is_day day ≡ false). rw is (IsAscii-fixed_text day 0 small))
    (cases_Bool (is_day day)))

-- a number's text under a form
IsUtf8-number_text : (form : AtomForm) (number : ℤ) → FitsSigned w64 number → IsUtf8 (number_text form number)
IsUtf8-number_text (form.Fixed decimals) number fits = IsUtf8-fixed_text number decimals (wider number fits)
IsUtf8-number_text form.Date number fits = IsUtf8-day_text number fits
IsUtf8-number_text form.Text number fits = IsUtf8-fixed_text number 0 (wider number fits)

IsUtf8-atom_text : (form : AtomForm) (part : Atom) → IsPlainAtom part → IsUtf8 (atom_text form part)
IsUtf8-atom_text form (atom.Num number) plain = IsUtf8-number_text form number plain
IsUtf8-atom_text form (atom.Text text) plain = plain

-- a plain key's text
pub IsUtf8-key_text : (form : KeyForm) (own : Key) → IsPlain own → IsUtf8 (key_text form own)
IsUtf8-key_text form (key.Num number) plain = IsUtf8-number_text (form_of_one form) number plain
IsUtf8-key_text form (key.Text text) plain = plain
IsUtf8-key_text form (key.Pair first second) plain =
    let bar : IsUtf8 (124 ∷ []) = IsUtf8-from_ascii (124 ∷ []) (IsAscii-cons 124 [] (lit< tt) IsAscii-nil) in
    IsUtf8-append (atom_text (form_of_first form) first) _ (IsUtf8-atom_text (form_of_first form) first plain.0)
    (IsUtf8-append (124 ∷ []) (atom_text (form_of_second form) second) bar (IsUtf8-atom_text (form_of_second form) second plain.1))
