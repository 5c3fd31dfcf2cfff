-- What the stock roundings mean.
use Rattle.std.specs.Prelude.{ℕ, ◌^◌, nat_le, Bool, ◌&&◌, if◌then◌else◌, ℤ, pos, neg_ℤ, ◌*ℤ◌, int_le, List, take}
use Rattle.std.specs.Int.{int_div_euclid, int_max}
use Rattle.std.specs.Str.{chars, encode_utf8_all}
use Rattle.xf_base.specs.Date.{is_day, month_start, year_start}
use Rattle.xf_base.specs.declared.key.Key.{Key}
use Rattle.xf_base.specs.declared.key.Key.TheVariants as key
use Rattle.xf_access.specs.declared.stock_rounding.StockRounding.{StockRounding}
use Rattle.xf_access.specs.declared.stock_rounding.StockRounding.TheVariants.{Same, Floor, MonthOf, YearOf, FirstLetters}
use Rattle.xf_access.specs.declared.stock_rounding.TheConstants.StockRounding.{GREATEST_WIDTH, MOST_LETTERS}

-- the greatest multiple of a width that is not above a number; the least of 64 bits where the multiple is below it
abbrev pub floor_to : ℤ → ℤ → ℤ
floor_to width number = int_max (width *ℤ int_div_euclid number width) (neg_ℤ (pos (2 ^ 63)))

-- a width that is taken
abbrev pub is_width : ℤ → Bool
is_width width = int_le (pos 1) width && int_le width GREATEST_WIDTH

-- the first characters of a text
abbrev pub first_letters : ℕ → List ℕ → List ℕ
first_letters count text = encode_utf8_all (take count (chars text))

-- a count of letters that is taken
abbrev pub is_letter_count : ℕ → Bool
is_letter_count count = nat_le 1 count && nat_le count MOST_LETTERS

abbrev pub rounded_number : StockRounding → ℤ → ℤ
rounded_number Same number = number
rounded_number (Floor width) number = if is_width width then floor_to width number else number
rounded_number MonthOf number = if is_day number then month_start number else number
rounded_number YearOf number = if is_day number then year_start number else number
rounded_number (FirstLetters count) number = number

abbrev pub rounded_text : StockRounding → List ℕ → List ℕ
rounded_text Same text = text
rounded_text (Floor width) text = text
rounded_text MonthOf text = text
rounded_text YearOf text = text
rounded_text (FirstLetters count) text = if is_letter_count count then first_letters count text else text

-- the key under which a key is counted
abbrev pub rounded_key : StockRounding → Key → Key
rounded_key rounding (key.Num number) = key.Num (rounded_number rounding number)
rounded_key rounding (key.Text text) = key.Text (rounded_text rounding text)
rounded_key rounding (key.Pair first second) = key.Pair first second
