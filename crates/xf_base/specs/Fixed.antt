-- How a number with a fixed number of decimals is read and written.
use Rattle.std.specs.Prelude.{ℕ, ◌+◌, ◌-◌, ◌*◌, ◌==◌, nat_lt, Bool, false, not, ◌||◌, if◌then◌else◌, ℤ, pos, neg_ℤ, nat_abs, int_lt, List, [], ◌∷◌, ◌++◌, length, take, drop, replicate, fold, decimal, Result, Ok, Err}
use Rattle.std.specs.List.{list_all, list_any, prefix_len, suffix_len, before_first, after_first}
use Rattle.std.specs.Char.{is_ascii_digit}
use Rattle.xf_base.specs.declared.fixed.TheConstants.{GREATEST_NUMBER}
use Rattle.xf_base.specs.declared.fixed.NumberRefusal.{NumberRefusal}
use Rattle.xf_base.specs.declared.fixed.NumberRefusal.TheVariants.{Empty, NotNumber, TooManyDecimals, OutOfRange}

abbrev pub is_blank : ℕ → Bool
is_blank byte = byte == 32

-- a text without the blanks at its ends
abbrev pub without_start_blanks : List ℕ → List ℕ
without_start_blanks text = drop (prefix_len is_blank text) text

abbrev pub without_end_blanks : List ℕ → List ℕ
without_end_blanks text = take (length text - suffix_len is_blank text) text

abbrev pub without_blanks : List ℕ → List ℕ
without_blanks text = without_end_blanks (without_start_blanks text)

-- the sign in front, if there is one, and what stands after it
abbrev pub is_negative : List ℕ → Bool
is_negative [] = false
is_negative (byte ∷ rest) = byte == 45

abbrev pub without_sign : List ℕ → List ℕ
without_sign [] = []
without_sign (byte ∷ rest) = if (byte == 43) || (byte == 45) then rest else byte ∷ rest

-- the number that decimal digits write, after those of `front`
abbrev pub number_after : ℕ → List ℕ → ℕ
number_after front digits = fold (λ number digit. number * 10 + (digit - 48)) front digits

-- the number in units of the last decimal: the fraction is cut or filled with zeros to that many digits
abbrev pub units_of : List ℕ → List ℕ → ℕ → ℕ
units_of whole fraction decimals = number_after 0 (whole ++ take decimals (fraction ++ replicate decimals 48))

-- the digits before the point and those after it, as a number of units
abbrev pub read_digits : List ℕ → List ℕ → ℕ → Result ℕ NumberRefusal
read_digits whole fraction decimals =
    if (length whole + length fraction == 0) || not (list_all is_ascii_digit whole) || not (list_all is_ascii_digit fraction) then Err NotNumber
    else if list_any (λ digit. not (digit == 48)) (drop decimals fraction) then Err TooManyDecimals
    else if nat_lt GREATEST_NUMBER (units_of whole fraction decimals) then Err OutOfRange
    else Ok (units_of whole fraction decimals)

abbrev pub with_sign : Bool → Result ℕ NumberRefusal → Result ℤ NumberRefusal
with_sign negative (Ok number) = Ok (if negative then neg_ℤ (pos number) else pos number)
with_sign negative (Err refusal) = Err refusal

-- an optional sign, and digits with at most one point before, among or after them
abbrev pub read_sign : List ℕ → ℕ → Result ℤ NumberRefusal
read_sign text decimals =
    with_sign (is_negative text) (read_digits (before_first (λ b. b == 46) (without_sign text)) (after_first (λ b. b == 46) (without_sign text)) decimals)

-- what a text reads as
abbrev pub number_of : List ℕ → ℕ → Result ℤ NumberRefusal
number_of text decimals = if length (without_blanks text) == 0 then Err Empty else read_sign (without_blanks text) decimals

-- digits filled with zeros in front to at least n
abbrev pub with_zeros : ℕ → List ℕ → List ℕ
with_zeros n digits = replicate (n - length digits) 48 ++ digits

-- digits with a point before the last `decimals` of them
abbrev pub with_point : ℕ → List ℕ → List ℕ
with_point decimals digits = if decimals == 0 then digits else take (length digits - decimals) digits ++ 46 ∷ drop (length digits - decimals) digits

-- how a number of units is written
abbrev pub fixed_text : ℤ → ℕ → List ℕ
fixed_text number decimals =
    (if int_lt number (pos 0) then 45 ∷ [] else []) ++ with_point decimals (with_zeros (decimals + 1) (decimal (nat_abs number)))
