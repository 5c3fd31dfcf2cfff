-- The keywords of the commands.
use Rattle.std.specs.Prelude.{ℕ, nat_lt, nat_le, ◌&&◌, if◌then◌else◌, List, [], ◌∷◌, codes, bytes_eq, Option, Some, None, option_map}
use Rattle.std.specs.Map.{lookup}
use Rattle.xf_filter.specs.Words.{Word, count_of, if_passing}
use Rattle.xf_script.specs.declared.opener.AccessorOpener.{AccessorOpener}
use Rattle.xf_script.specs.declared.opener.AccessorOpener.TheVariants as accessor
use Rattle.xf_script.specs.declared.opener.ReducerOpener.{ReducerOpener}
use Rattle.xf_script.specs.declared.opener.ReducerOpener.TheVariants as reducer
use Rattle.xf_script.specs.declared.opener.Removal.{Removal}
use Rattle.xf_script.specs.declared.opener.Removal.TheVariants as removal
use Rattle.xf_script.specs.declared.opener.RoundingOpener.{RoundingOpener}
use Rattle.xf_script.specs.declared.opener.RoundingOpener.TheVariants as rounding
use Rattle.xf_script.specs.declared.opener.Sort.{Sort}
use Rattle.xf_script.specs.declared.opener.Sort.TheVariants as sort
use Rattle.xf_script.specs.declared.opener.Verb.{Verb}
use Rattle.xf_script.specs.declared.opener.Verb.TheVariants as verb

-- what a word means by a table
abbrev pub by_table : {A : Type 0} → List (Word × A) → Word → Option A
by_table table word = lookup (bytes_eq word) table

abbrev pub verbs : List (Word × Verb)
verbs =
    (codes "load", verb.Load) ∷ (codes "add", verb.Add)
    ∷ (codes "filter", verb.Filter) ∷ (codes "toggle", verb.Toggle) ∷ (codes "clear", verb.Clear) ∷ (codes "clearall", verb.ClearAll)
    ∷ (codes "remove", verb.Remove)
    ∷ (codes "dimension", verb.Dimension) ∷ (codes "group", verb.Group) ∷ (codes "whole", verb.Whole)
    ∷ (codes "order", verb.Order) ∷ (codes "dispose", verb.Dispose)
    ∷ (codes "top", verb.Top) ∷ (codes "bottom", verb.Bottom)
    ∷ (codes "groups", verb.Groups) ∷ (codes "grouptop", verb.GroupTop) ∷ (codes "value", verb.Value) ∷ (codes "records", verb.Records)
    ∷ (codes "size", verb.Size) ∷ (codes "passing", verb.Passing) ∷ (codes "events", verb.Events) ∷ (codes "note", verb.Note) ∷ []

abbrev pub verb_of : Word → Option Verb
verb_of = by_table verbs

-- what `remove` removes
abbrev pub removal_of : Word → Option Removal
removal_of = by_table ((codes "passing", removal.Passing) ∷ (codes "where", removal.Where) ∷ [])

-- of what sort a thing is that is disposed of
abbrev pub sort_of : Word → Option Sort
sort_of = by_table ((codes "dimension", sort.Dimension) ∷ (codes "group", sort.Group) ∷ (codes "whole", sort.Whole) ∷ [])

abbrev pub accessor_opener_of : Word → Option AccessorOpener
accessor_opener_of = by_table (
    (codes "column", accessor.Column) ∷ (codes "pair", accessor.Pair) ∷ (codes "tags", accessor.Tags)
    ∷ (codes "weekday", accessor.Weekday) ∷ (codes "month", accessor.Month) ∷ [])

abbrev pub rounding_opener_of : Word → Option RoundingOpener
rounding_opener_of = by_table (
    (codes "same", rounding.Same) ∷ (codes "floor", rounding.Floor) ∷ (codes "month", rounding.Month)
    ∷ (codes "year", rounding.Year) ∷ (codes "letters", rounding.Letters) ∷ [])

abbrev pub reducer_opener_of : Word → Option ReducerOpener
reducer_opener_of = by_table (
    (codes "count", reducer.Count) ∷ (codes "sum", reducer.Sum) ∷ (codes "sumcount", reducer.SumCount)
    ∷ (codes "sumsquares", reducer.SumSquares) ∷ (codes "spread", reducer.Spread) ∷ (codes "both", reducer.Both) ∷ [])

-- a count within a range
abbrev pub count_within : ℕ → ℕ → Word → Option ℕ
count_within least most word = if_passing (λ count. nat_le least count && nat_le count most) (count_of word)

-- the width of `floor`: 1 or more
abbrev pub width_of : Word → Option ℕ
width_of word = if_passing (nat_lt 0) (count_of word)

-- how many characters `letters` keeps: 1 to 64
abbrev pub letters_of : Word → Option ℕ
letters_of = count_within 1 64

-- the number of a field, or None for the word `natural`
abbrev pub field_of : Word → Option (Option ℕ)
field_of word = if bytes_eq word (codes "natural") then Some None else option_map Some (count_within 0 255 word)
