-- The grammar of the commands: one equation for each form of a line.
--
-- The words of a line are numbered from 1, and read from left to right. The first that does not fit is told by its
-- number; where words are wanting, that is one past the last.
use Rattle.std.specs.Prelude.{◌≡◌, ℕ, ◌+◌, ◌-◌, nat_lt, Bool, true, false, ⊤, not, if◌then◌else◌, List, [], ◌∷◌, length, drop, codes, bytes_eq, slice_get, Option, Some, None, Result, Ok, Err}
use Rattle.std.specs.List.{AllByRecursion}
use Rattle.std.specs.Str.{IsUtf8, is_utf8}
use Rattle.std.specs.Str.Lossy.{utf8_valid_len}
use Rattle.xf_base.specs.declared.limits.TheConstants.Limits.{LINE_BYTES}
use Rattle.xf_columns.specs.declared.words.AccessorWords.TheVariants as accessor
use Rattle.xf_columns.specs.declared.words.AccessorWords.{AccessorWords}
use Rattle.xf_columns.specs.declared.words.ReducerWords.TheVariants as reducer
use Rattle.xf_columns.specs.declared.words.ReducerWords.{ReducerWords}
use Rattle.xf_columns.specs.declared.words.RoundingWords.TheVariants as rounding
use Rattle.xf_columns.specs.declared.words.RoundingWords.{RoundingWords}
use Rattle.xf_columns.specs.declared.words.SimpleWords.TheVariants as simple
use Rattle.xf_columns.specs.declared.words.SimpleWords.{SimpleWords}
use Rattle.xf_filter.specs.Reading as filter
use Rattle.xf_filter.specs.Words.{Word, count_of}
use Rattle.xf_filter.specs.declared.filter_syntax.FilterSyntax.{FilterSyntax}
use Rattle.xf_filter.specs.declared.filter_syntax.FilterSyntax.TheVariants as syntax
use Rattle.xf_filter.specs.declared.raw_filter.RawFilterParts.{RawFilterParts}
use Rattle.xf_filter.specs.declared.raw_filter.RawItemParts.{RawItemParts}
use Rattle.xf_script.specs.Line.{Split, is_comment, split_of}
use Rattle.xf_script.specs.Openers.{accessor_opener_of, field_of, letters_of, reducer_opener_of, removal_of, rounding_opener_of, sort_of, verb_of, width_of}
use Rattle.xf_script.specs.declared.command.CommandForm.{CommandForm}
use Rattle.xf_script.specs.declared.command.CommandForm.TheVariants as form
use Rattle.xf_script.specs.declared.line_refusal.LineRefusal.{LineRefusal}
use Rattle.xf_script.specs.declared.line_refusal.LineRefusal.TheVariants as refusal
use Rattle.xf_script.specs.declared.opener.AccessorOpener.{AccessorOpener}
use Rattle.xf_script.specs.declared.opener.AccessorOpener.TheVariants as accessor_opener
use Rattle.xf_script.specs.declared.opener.ReducerOpener.{ReducerOpener}
use Rattle.xf_script.specs.declared.opener.ReducerOpener.TheVariants as reducer_opener
use Rattle.xf_script.specs.declared.opener.Removal.{Removal}
use Rattle.xf_script.specs.declared.opener.Removal.TheVariants as removal
use Rattle.xf_script.specs.declared.opener.RoundingOpener.{RoundingOpener}
use Rattle.xf_script.specs.declared.opener.RoundingOpener.TheVariants as rounding_opener
use Rattle.xf_script.specs.declared.opener.Sort.{Sort}
use Rattle.xf_script.specs.declared.opener.Sort.TheVariants as sort
use Rattle.xf_script.specs.declared.opener.Verb.{Verb}
use Rattle.xf_script.specs.declared.opener.Verb.TheVariants as verb

-- what is read from the words of a line
abbrev pub Read : Type 0 → Type 0
Read A = Result A LineRefusal

infixl 10 ◌>>=◌
abbrev pub ◌>>=◌ : {A B : Type 0} → Read A → (A → Read B) → Read B
(Ok x) >>= f = f x
(Err e) >>= f = Err e

-- ---- one word

-- a value that is there, or the word of this number is bad
abbrev pub known : {A : Type 0} → ℕ → Option A → Read A
known number (Some x) = Ok x
known number None = Err (refusal.Word number)

-- the word of a number
abbrev pub word_at : List Word → ℕ → Read Word
word_at words number = known number (slice_get words (number - 1))

-- the word of a number, where it is known
abbrev pub known_at : {A : Type 0} → (Word → Option A) → List Word → ℕ → Read A
known_at knows words number = word_at words number >>= λ word. known number (knows word)

-- a keyword
abbrev pub keyword_of : Word → Word → Option ⊤
keyword_of keyword word = if bytes_eq word keyword then Some tt else None

-- a count
abbrev pub count_at : List Word → ℕ → Read ℕ
count_at = known_at count_of

-- the line ends before the word of a number
abbrev pub end_at : List Word → ℕ → Read ⊤
end_at words number = if nat_lt (length words) number then Ok tt else Err (refusal.Word number)

-- what was read, where the line ends before the word of a number
abbrev pub ending : {A : Type 0} → List Word → ℕ → A → Read A
ending words number x = end_at words number >>= λ end. Ok x

-- the last word of a line, whose number this is
abbrev pub last_at : List Word → ℕ → Read Word
last_at words number = word_at words number >>= ending words (number + 1)

-- ---- filters and items: all words from a number on

abbrev pub refusal_of : FilterSyntax → LineRefusal
refusal_of (syntax.Word number) = refusal.Word number
refusal_of (syntax.TooDeep number) = refusal.TooDeep number
refusal_of syntax.OutOfMemory = refusal.OutOfMemory

abbrev pub of_filter : {A : Type 0} → Result A FilterSyntax → Read A
of_filter (Ok x) = Ok x
of_filter (Err fault) = Err (refusal_of fault)

abbrev pub filter_from : List Word → ℕ → Read RawFilterParts
filter_from words first = of_filter (filter.with_number (length words) (filter.filter_of (drop (first - 1) words)))

abbrev pub item_from : List Word → ℕ → Read RawItemParts
item_from words first = of_filter (filter.with_number (length words) (filter.item_of (drop (first - 1) words)))

-- ---- accessors: all words from a number on

abbrev pub accessor_behind : AccessorOpener → List Word → ℕ → Read AccessorWords
accessor_behind accessor_opener.Column words next = do
  column ← last_at words next
  Ok (accessor.Column column)
accessor_behind accessor_opener.Pair words next = do
  first ← word_at words next
  second ← last_at words (next + 1)
  Ok (accessor.Pair first second)
accessor_behind accessor_opener.Tags words next = do
  column ← last_at words next
  Ok (accessor.Tags column)
accessor_behind accessor_opener.Weekday words next = do
  column ← last_at words next
  Ok (accessor.Weekday column)
accessor_behind accessor_opener.Month words next = do
  column ← last_at words next
  Ok (accessor.Month column)

abbrev pub accessor_from : List Word → ℕ → Read AccessorWords
accessor_from words first = do
  opener ← known_at accessor_opener_of words first
  accessor_behind opener words (first + 1)

-- ---- roundings, with the number of the word behind them

abbrev pub rounding_behind : RoundingOpener → List Word → ℕ → Read (RoundingWords × ℕ)
rounding_behind rounding_opener.Same words next = Ok (rounding.Same, next)
rounding_behind rounding_opener.Floor words next = do
  width ← known_at width_of words next
  Ok (rounding.Floor width, next + 1)
rounding_behind rounding_opener.Month words next = Ok (rounding.Month, next)
rounding_behind rounding_opener.Year words next = Ok (rounding.Year, next)
rounding_behind rounding_opener.Letters words next = do
  letters ← known_at letters_of words next
  Ok (rounding.Letters letters, next + 1)

abbrev pub rounding_at : List Word → ℕ → Read (RoundingWords × ℕ)
rounding_at words first = do
  opener ← known_at rounding_opener_of words first
  rounding_behind opener words (first + 1)

-- ---- reducers: all words from a number on; a part of `both` is none itself

abbrev pub simple_behind : ReducerOpener → List Word → ℕ → Read (SimpleWords × ℕ)
simple_behind reducer_opener.Count words next = Ok (simple.Count, next)
simple_behind reducer_opener.Sum words next = do
  column ← word_at words next
  Ok (simple.Sum column, next + 1)
simple_behind reducer_opener.SumCount words next = do
  column ← word_at words next
  Ok (simple.SumCount column, next + 1)
simple_behind reducer_opener.SumSquares words next = do
  column ← word_at words next
  Ok (simple.SumSquares column, next + 1)
simple_behind reducer_opener.Spread words next = do
  column ← word_at words next
  Ok (simple.Spread column, next + 1)
simple_behind reducer_opener.Both words next = Err (refusal.Word (next - 1))

abbrev pub simple_at : List Word → ℕ → Read (SimpleWords × ℕ)
simple_at words first = do
  opener ← known_at reducer_opener_of words first
  simple_behind opener words (first + 1)

abbrev pub both_behind : List Word → ℕ → Read ReducerWords
both_behind words next = do
  first ← simple_at words next
  second ← simple_at words first.1
  ending words second.1 (reducer.Both first.0 second.0)

abbrev pub one_from : List Word → ℕ → Read ReducerWords
one_from words first = do
  one ← simple_at words first
  ending words one.1 (reducer.One one.0)

-- whether a reducer begins with `both`
abbrev pub is_both : ReducerOpener → Bool
is_both reducer_opener.Count = false
is_both reducer_opener.Sum = false
is_both reducer_opener.SumCount = false
is_both reducer_opener.SumSquares = false
is_both reducer_opener.Spread = false
is_both reducer_opener.Both = true

abbrev pub reducer_from : List Word → ℕ → Read ReducerWords
reducer_from words first = do
  opener ← known_at reducer_opener_of words first
  if is_both opener then both_behind words (first + 1) else one_from words first

-- ---- an offset may be left out

abbrev pub offset_at : List Word → ℕ → Read (Option ℕ)
offset_at words number = if nat_lt (length words) number then Ok None else (do
  offset ← count_at words number
  ending words (number + 1) (Some offset))

-- ---- the forms, each behind its verb, which is word 1

abbrev pub removal_form : Removal → List Word → Read CommandForm
removal_form removal.Passing words = ending words 3 form.RemovePassing
removal_form removal.Where words = do
  dimension ← word_at words 3
  filter ← filter_from words 4
  Ok (form.RemoveWhere dimension filter)

abbrev pub disposal_form : Sort → Word → CommandForm
disposal_form sort.Dimension name = form.DisposeDimension name
disposal_form sort.Group name = form.DisposeGroup name
disposal_form sort.Whole name = form.DisposeWhole name

abbrev pub form_of : Verb → List Word → Read CommandForm
form_of verb.Load words = do
  file ← last_at words 2
  Ok (form.Load file)
form_of verb.Add words = do
  first ← word_at words 2
  Ok (form.Add (drop 1 words))
form_of verb.Filter words = do
  dimension ← word_at words 2
  filter ← filter_from words 3
  Ok (form.Filter dimension filter)
form_of verb.Toggle words = do
  dimension ← word_at words 2
  item ← item_from words 3
  Ok (form.Toggle dimension item)
form_of verb.Clear words = do
  dimension ← last_at words 2
  Ok (form.Clear dimension)
form_of verb.ClearAll words = ending words 2 form.ClearAll
form_of verb.Remove words = do
  what ← known_at removal_of words 2
  removal_form what words
form_of verb.Dimension words = do
  name ← word_at words 2
  accessor ← accessor_from words 3
  Ok (form.Dimension name accessor)
form_of verb.Group words = do
  name ← word_at words 2
  of ← known_at (keyword_of (codes "of")) words 3
  dimension ← word_at words 4
  rounding ← rounding_at words 5
  reducer ← reducer_from words rounding.1
  Ok (form.Group name dimension rounding.0 reducer)
form_of verb.Whole words = do
  name ← word_at words 2
  reducer ← reducer_from words 3
  Ok (form.Whole name reducer)
form_of verb.Order words = do
  group ← word_at words 2
  field ← known_at field_of words 3
  ending words 4 (form.Order group field)
form_of verb.Dispose words = do
  sort ← known_at sort_of words 2
  name ← last_at words 3
  Ok (disposal_form sort name)
form_of verb.Top words = do
  dimension ← word_at words 2
  count ← count_at words 3
  offset ← offset_at words 4
  Ok (form.Top dimension count offset)
form_of verb.Bottom words = do
  dimension ← word_at words 2
  count ← count_at words 3
  offset ← offset_at words 4
  Ok (form.Bottom dimension count offset)
form_of verb.Groups words = do
  group ← last_at words 2
  Ok (form.Groups group)
form_of verb.GroupTop words = do
  group ← word_at words 2
  count ← count_at words 3
  ending words 4 (form.GroupTop group count)
form_of verb.Value words = do
  group ← word_at words 2
  key ← last_at words 3
  Ok (form.Value group key)
form_of verb.Records words = Ok (form.Records (drop 1 words))
form_of verb.Size words = ending words 2 form.Size
form_of verb.Passing words = ending words 2 form.Passing
form_of verb.Events words = ending words 2 form.Events
form_of verb.Note words = Ok (form.Note (drop 1 words))

-- ---- a whole line; None is a line that is no step

-- behind its verb, where there is one
abbrev pub form_behind : Option Verb → List Word → Read (Option CommandForm)
form_behind (Some v) words = form_of v words >>= λ form. Ok (Some form)
form_behind None words = Err refusal.Verb

-- what words say
abbrev pub form_of_words : List Word → Read (Option CommandForm)
form_of_words [] = Ok None
form_of_words (first ∷ rest) = form_behind (verb_of first) (first ∷ rest)

-- a word of this number is malformed: a fault before it stands, and else it is the bad word
abbrev pub broken_at : {A : Type 0} → ℕ → Read A → Read A
broken_at number (Ok x) = Err (refusal.Word number)
broken_at number (Err e) = Err e

abbrev pub form_of_split : Split → Read (Option CommandForm)
form_of_split split =
    if split.is_broken then broken_at (length split.words + 1) (form_of_words split.words) else form_of_words split.words

-- what a line says
abbrev pub form_of_line : List ℕ → Read (Option CommandForm)
form_of_line line =
    if nat_lt LINE_BYTES (length line) then Err (refusal.TooLong (length line))
    else if not (is_utf8 line) then Err (refusal.NotText (utf8_valid_len line))
    else if is_comment line then Ok None
    else form_of_split (split_of line)

-- a command is what some words of UTF-8 say
abbrev pub IsCommand : CommandForm → Type 0
IsCommand form = (words : List Word) × (form_of_words words ≡ Ok (Some form)) × AllByRecursion IsUtf8 words

-- a function returned this, unless memory ran out
abbrev pub Answers : {A : Type 0} → Read A → Read A → Type 0
Answers (Ok x) wanted = wanted ≡ Ok x
Answers (Err (refusal.TooLong length)) wanted = wanted ≡ Err (refusal.TooLong length)
Answers (Err (refusal.NotText place)) wanted = wanted ≡ Err (refusal.NotText place)
Answers (Err refusal.Verb) wanted = wanted ≡ Err refusal.Verb
Answers (Err (refusal.Word number)) wanted = wanted ≡ Err (refusal.Word number)
Answers (Err (refusal.TooDeep number)) wanted = wanted ≡ Err (refusal.TooDeep number)
Answers (Err refusal.OutOfMemory) wanted = Unit {0}
