-- Arrays of words: accessors, roundings and reducers, in their whole shape.
use Rattle.std.specs.Prelude.{ℕ, ◌^◌, nat_le, Bool, true, ◌&&◌, if◌then◌else◌, pos, List, [], ◌∷◌, codes, Option, Some, None, option_map, option_and_then}
use Rattle.std.specs.Map.{lookup}
use Rattle.std.specs.Str.{bytes_eq}
use Rattle.serde_json.specs.Data.{Data}
use Rattle.serde_json.specs.Find.{as_str}
use Rattle.xf_access.specs.Round.{is_letter_count, is_width}
use Rattle.xf_access.specs.declared.stock_rounding.StockRounding.{StockRounding}
use Rattle.xf_access.specs.declared.stock_rounding.StockRounding.TheVariants as rounding
use Rattle.xf_columns.specs.declared.words.AccessorWords.{AccessorWords}
use Rattle.xf_columns.specs.declared.words.AccessorWords.TheVariants as accessor
use Rattle.xf_columns.specs.declared.words.ReducerWords.{ReducerWords}
use Rattle.xf_columns.specs.declared.words.ReducerWords.TheVariants as reducer
use Rattle.xf_columns.specs.declared.words.SimpleWords.{SimpleWords}
use Rattle.xf_columns.specs.declared.words.SimpleWords.TheVariants as simple
use Rattle.xf_members.specs.Values.{array_of, whole_number}

-- ---- accessors

-- an accessor of one column, by its keyword
abbrev pub one_column : List ℕ → List ℕ → Option AccessorWords
one_column keyword column =
    lookup (bytes_eq keyword)
    ((codes "column", accessor.Column column) ∷ (codes "tags", accessor.Tags column) ∷ (codes "weekday", accessor.Weekday column)
    ∷ (codes "month", accessor.Month column) ∷ [])

-- an accessor of two columns
abbrev pub two_columns : List ℕ → List ℕ → List ℕ → Option AccessorWords
two_columns keyword first second = if bytes_eq keyword (codes "pair") then Some (accessor.Pair first second) else None

abbrev pub accessor_said : List Data → Option AccessorWords
accessor_said [] = None
accessor_said (keyword ∷ []) = None
accessor_said (keyword ∷ column ∷ []) = option_and_then (λ k. option_and_then (one_column k) (as_str column)) (as_str keyword)
accessor_said (keyword ∷ first ∷ second ∷ []) =
    option_and_then (λ k. option_and_then (λ a. option_and_then (two_columns k a) (as_str second)) (as_str first)) (as_str keyword)
accessor_said (keyword ∷ first ∷ second ∷ third ∷ more) = None

abbrev pub accessor_rule : Data → Option AccessorWords
accessor_rule value = option_and_then accessor_said (array_of value)

-- ---- roundings

-- a rounding that is one word
abbrev pub plain_rounding : List ℕ → Option StockRounding
plain_rounding keyword =
    lookup (bytes_eq keyword) ((codes "same", rounding.Same) ∷ (codes "month", rounding.MonthOf) ∷ (codes "year", rounding.YearOf) ∷ [])

abbrev pub floor_of : ℕ → Option StockRounding
floor_of width = if nat_le 1 width && nat_le width (10 ^ 15) then Some (rounding.Floor (pos width)) else None

abbrev pub letters_of : ℕ → Option StockRounding
letters_of count = if nat_le 1 count && nat_le count 64 then Some (rounding.FirstLetters count) else None

-- a rounding with a number
abbrev pub rounding_by : List ℕ → ℕ → Option StockRounding
rounding_by keyword number =
    if bytes_eq keyword (codes "floor") then floor_of number
    else if bytes_eq keyword (codes "letters") then letters_of number
    else None

abbrev pub rounding_said : List Data → Option StockRounding
rounding_said [] = None
rounding_said (keyword ∷ []) = option_and_then plain_rounding (as_str keyword)
rounding_said (keyword ∷ size ∷ []) = option_and_then (λ k. option_and_then (rounding_by k) (whole_number size)) (as_str keyword)
rounding_said (keyword ∷ size ∷ third ∷ more) = None

abbrev pub rounding_rule : Data → Option StockRounding
rounding_rule value = option_and_then rounding_said (array_of value)

-- the number of a rounding is of its range
abbrev pub is_sound_rounding : StockRounding → Bool
is_sound_rounding rounding.Same = true
is_sound_rounding (rounding.Floor width) = is_width width
is_sound_rounding rounding.MonthOf = true
is_sound_rounding rounding.YearOf = true
is_sound_rounding (rounding.FirstLetters count) = is_letter_count count

-- ---- reducers

abbrev pub plain_part : List ℕ → Option SimpleWords
plain_part keyword = if bytes_eq keyword (codes "count") then Some simple.Count else None

-- a part that reads a column
abbrev pub part_over : List ℕ → List ℕ → Option SimpleWords
part_over keyword column =
    lookup (bytes_eq keyword)
    ((codes "sum", simple.Sum column) ∷ (codes "sumcount", simple.SumCount column) ∷ (codes "sumsquares", simple.SumSquares column)
    ∷ (codes "spread", simple.Spread column) ∷ [])

abbrev pub part_said : List Data → Option SimpleWords
part_said [] = None
part_said (keyword ∷ []) = option_and_then plain_part (as_str keyword)
part_said (keyword ∷ column ∷ []) = option_and_then (λ k. option_and_then (part_over k) (as_str column)) (as_str keyword)
part_said (keyword ∷ column ∷ third ∷ more) = None

abbrev pub part_rule : Data → Option SimpleWords
part_rule value = option_and_then part_said (array_of value)

-- two parts, neither of which is `both`
abbrev pub both_said : List ℕ → Data → Data → Option ReducerWords
both_said keyword first second =
    if bytes_eq keyword (codes "both") then option_and_then (λ a. option_map (reducer.Both a) (part_rule second)) (part_rule first) else None

abbrev pub reducer_said : List Data → Option ReducerWords
reducer_said [] = None
reducer_said (keyword ∷ []) = option_map reducer.One (part_said (keyword ∷ []))
reducer_said (keyword ∷ column ∷ []) = option_map reducer.One (part_said (keyword ∷ column ∷ []))
reducer_said (keyword ∷ first ∷ second ∷ []) = option_and_then (λ k. both_said k first second) (as_str keyword)
reducer_said (keyword ∷ first ∷ second ∷ third ∷ more) = None

abbrev pub reducer_rule : Data → Option ReducerWords
reducer_rule value = option_and_then reducer_said (array_of value)
