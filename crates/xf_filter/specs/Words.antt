-- The words in which filters are written.
use Rattle.std.specs.Prelude.{◌≡◌, IsUtf8, ℕ, ◌==◌, nat_lt, nat_abs, Bool, not, ◌||◌, if◌then◌else◌, List, [], ◌∷◌, ◌++◌, length, flat_map, codes, decimal, bytes_eq, Option, Some, None}
use Rattle.std.specs.Char.{is_ascii_digit}
use Rattle.std.specs.List.{list_all}
use Rattle.std.specs.Map.{lookup}
use Rattle.xf_base.specs.Fixed.{number_after}
use Rattle.xf_base.specs.Word.{word_text}
use Rattle.xf_filter.specs.declared.opener.FilterOpener.{FilterOpener}
use Rattle.xf_filter.specs.declared.opener.FilterOpener.TheVariants as filter
use Rattle.xf_filter.specs.declared.opener.ItemOpener.{ItemOpener}
use Rattle.xf_filter.specs.declared.opener.ItemOpener.TheVariants as item
use Rattle.xf_filter.specs.declared.opener.PredicateOpener.{PredicateOpener}
use Rattle.xf_filter.specs.declared.opener.PredicateOpener.TheVariants as predicate
use Rattle.xf_filter.specs.declared.raw_filter.RawFilterParts.{RawFilterParts}
use Rattle.xf_filter.specs.declared.raw_filter.RawFilterParts.TheVariants as form
use Rattle.xf_filter.specs.declared.raw_filter.RawItemParts.{RawItemParts}
use Rattle.xf_filter.specs.declared.raw_filter.RawItemParts.TheVariants as named
use Rattle.xf_filter.specs.declared.raw_filter.RawPredicate.{RawPredicate, fold-RawPredicate}
use Rattle.xf_filter.specs.declared.raw_filter.RawPredicate.TheOpen.{RawPredicate-F}

abbrev pub Word : Type 0
Word = List ℕ

-- ---- how each begins

abbrev pub filter_openers : List (Word × FilterOpener)
filter_openers = (codes "all", filter.All) ∷ (codes "exact", filter.Exact) ∷ (codes "range", filter.Range) ∷ (codes "func", filter.Func) ∷ []

abbrev pub item_openers : List (Word × ItemOpener)
item_openers = (codes "exact", item.Exact) ∷ (codes "range", item.Range) ∷ []

abbrev pub predicate_openers : List (Word × PredicateOpener)
predicate_openers =
    (codes "oneof", predicate.OneOf) ∷ (codes "prefix", predicate.Prefix) ∷ (codes "modulo", predicate.Modulo)
    ∷ (codes "not", predicate.Not) ∷ (codes "and", predicate.And) ∷ (codes "or", predicate.Or) ∷ []

abbrev pub filter_opener_of : Word → Option FilterOpener
filter_opener_of word = lookup (bytes_eq word) filter_openers

abbrev pub item_opener_of : Word → Option ItemOpener
item_opener_of word = lookup (bytes_eq word) item_openers

abbrev pub predicate_opener_of : Word → Option PredicateOpener
predicate_opener_of word = lookup (bytes_eq word) predicate_openers

-- ---- counts

-- a count that passes a test
abbrev pub if_passing : (ℕ → Bool) → Option ℕ → Option ℕ
if_passing test None = None
if_passing test (Some count) = if test count then Some count else None

-- 1 to 15 digits, of which the first may be 0
abbrev pub count_of : Word → Option ℕ
count_of word =
    if (length word == 0) || nat_lt 15 (length word) || not (list_all is_ascii_digit word) then None
    else Some (number_after 0 word)

-- the divisor of a modulo is a count from 1 on
abbrev pub divisor_of : Word → Option ℕ
divisor_of word = if_passing (nat_lt 0) (count_of word)

-- its remainder is a count below the divisor
abbrev pub remainder_of : ℕ → Word → Option ℕ
remainder_of divisor word = if_passing (λ remainder. nat_lt remainder divisor) (count_of word)

-- ---- the words of a filter, where a count is written without leading zeros

abbrev pub item_words : RawItemParts → List Word
item_words (named.Exact key) = codes "exact" ∷ key ∷ []
item_words (named.Range low high) = codes "range" ∷ low ∷ high ∷ []

abbrev pub words_by : RawPredicate-F (List Word) → List Word
words_by (RawPredicate-F.OneOf items) = codes "oneof" ∷ flat_map item_words items ++ codes "end" ∷ []
words_by (RawPredicate-F.Prefix text) = codes "prefix" ∷ text ∷ []
words_by (RawPredicate-F.Modulo divisor remainder) = codes "modulo" ∷ decimal (nat_abs divisor) ∷ decimal (nat_abs remainder) ∷ []
words_by (RawPredicate-F.Not words) = codes "not" ∷ words
words_by (RawPredicate-F.And first second) = codes "and" ∷ first ++ second
words_by (RawPredicate-F.Or first second) = codes "or" ∷ first ++ second

abbrev pub predicate_words : RawPredicate → List Word
predicate_words = fold-RawPredicate (List Word) words_by

abbrev pub filter_words : RawFilterParts → List Word
filter_words form.All = codes "all" ∷ []
filter_words (form.Exact key) = codes "exact" ∷ key ∷ []
filter_words (form.Range low high) = codes "range" ∷ low ∷ high ∷ []
filter_words (form.Func predicate) = codes "func" ∷ predicate_words predicate

-- ---- the words on a line

-- each behind a blank
abbrev pub behind_blanks : List Word → List ℕ
behind_blanks words = flat_map (λ word. 32 ∷ word_text word) words

-- one blank between each two
abbrev pub line_of : List Word → List ℕ
line_of [] = []
line_of (word ∷ words) = word_text word ++ behind_blanks words

-- these words were appended, each behind a blank
unfoldable pub Appends : List ℕ → List ℕ → List Word → Type 0
Appends old new words = (new ≡ old ++ behind_blanks words) × IsUtf8 (behind_blanks words)

-- these words were appended as a line
unfoldable pub Writes : List ℕ → List ℕ → List Word → Type 0
Writes old new words = (new ≡ old ++ line_of words) × IsUtf8 (line_of words)
