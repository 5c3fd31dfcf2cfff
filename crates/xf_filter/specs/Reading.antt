-- Reading words from left to right, with the first fault that is met.
use Rattle.std.specs.Prelude.{◌≡◌, ℕ, zero, suc, ◌+◌, ◌-◌, Bool, false, if◌then◌else◌, pos, List, [], ◌∷◌, ◌++◌, length, drop, codes, bytes_eq, Option, Some, None, Result, Ok, Err}
use Rattle.xf_filter.specs.Words.{Word, filter_opener_of, item_opener_of, predicate_opener_of, divisor_of, remainder_of}
use Rattle.xf_filter.specs.declared.filter_syntax.Fault.{Fault}
use Rattle.xf_filter.specs.declared.filter_syntax.Fault.TheVariants as fault
use Rattle.xf_filter.specs.declared.filter_syntax.FilterSyntax.{FilterSyntax}
use Rattle.xf_filter.specs.declared.filter_syntax.FilterSyntax.TheVariants as syntax
use Rattle.xf_filter.specs.declared.filter_syntax.ReadError.{ReadError}
use Rattle.xf_filter.specs.declared.filter_syntax.ReadError.TheVariants as errors
use Rattle.xf_filter.specs.declared.opener.FilterOpener.{FilterOpener}
use Rattle.xf_filter.specs.declared.opener.FilterOpener.TheVariants as filter
use Rattle.xf_filter.specs.declared.opener.ItemOpener.{ItemOpener}
use Rattle.xf_filter.specs.declared.opener.ItemOpener.TheVariants as item
use Rattle.xf_filter.specs.declared.opener.PredicateOpener.{PredicateOpener}
use Rattle.xf_filter.specs.declared.opener.PredicateOpener.TheVariants as predicate
use Rattle.xf_filter.specs.declared.raw_filter.RawFilterParts.{RawFilterParts}
use Rattle.xf_filter.specs.declared.raw_filter.RawFilterParts.TheVariants as form
use Rattle.xf_filter.specs.declared.raw_filter.RawItemParts.{RawItemParts}
use Rattle.xf_filter.specs.declared.raw_filter.RawItemParts.TheVariants as named
use Rattle.xf_filter.specs.declared.raw_filter.RawPredicate.{RawPredicate}
use Rattle.xf_filter.specs.declared.raw_filter.RawPredicate.TheVariants as raw

infixl 10 ◌>>=◌
abbrev pub ◌>>=◌ : {A B : Type 0} → Result A Fault → (A → Result B Fault) → Result B Fault
(Ok x) >>= f = f x
(Err e) >>= f = Err e

-- a function returned, seen by `view`, what reading gives, unless memory ran out
abbrev pub Fails : {Y : Type 0} → ReadError → Result Y Fault → Type 0
Fails errors.OutOfMemory read = Unit {0}
Fails (errors.Fault f) read = read ≡ Err f

abbrev pub Gives : {X Y : Type 0} → (X → Y) → Result X ReadError → Result Y Fault → Type 0
Gives view (Ok x) read = read ≡ Ok (view x)
Gives view (Err e) read = Fails e read

-- what is read from the front, and the words after it
abbrev pub Reader : Type 0 → Type 0
Reader A = List Word → Result (A × List Word) Fault

-- ---- one word

abbrev pub known : {A : Type 0} → Option A → List Word → List Word → Result (A × List Word) Fault
known None words rest = Err (fault.BadWord (length words))
known (Some a) words rest = Ok (a, rest)

-- the first word, where it is known
abbrev pub known_at : {A : Type 0} → (Word → Option A) → Reader A
known_at knows [] = Err (fault.BadWord 0)
known_at knows (word ∷ rest) = known (knows word) (word ∷ rest) rest

-- any word
abbrev pub word_at : Reader Word
word_at = known_at Some

abbrev pub is_end : List Word → Bool
is_end [] = false
is_end (word ∷ rest) = bytes_eq word (codes "end")

-- ---- items

unfoldable pub item_behind : ItemOpener → Reader RawItemParts
item_behind item.Exact words = do
  key ← word_at words
  Ok (named.Exact key.0, key.1)
item_behind item.Range words = do
  low ← word_at words
  high ← word_at low.1
  Ok (named.Range low.0 high.0, high.1)

unfoldable pub item_at : Reader RawItemParts
item_at words = do
  opener ← known_at item_opener_of words
  item_behind opener.0 opener.1

-- the items up to `end`, of which there are at most so many
unfoldable pub items_at : ℕ → Reader (List RawItemParts)
items_at zero words = Err (fault.BadWord (length words))
items_at (suc most) words = if is_end words then Ok ([], drop 1 words) else (do
  first ← item_at words
  others ← items_at most first.1
  Ok (first.0 ∷ others.0, others.1))

-- ---- predicates

-- with items in front of those that were read
abbrev pub with_front : List RawItemParts → Result (List RawItemParts × List Word) Fault → Result (List RawItemParts × List Word) Fault
with_front items read = read >>= λ others. Ok (items ++ others.0, others.1)

unfoldable pub one_of_at : Reader RawPredicate
one_of_at words = do
  first ← item_at words
  items ← with_front (first.0 ∷ []) (items_at (length first.1) first.1)
  Ok (raw.OneOf items.0, items.1)

unfoldable pub prefix_at : Reader RawPredicate
prefix_at words = do
  text ← word_at words
  Ok (raw.Prefix text.0, text.1)

unfoldable pub modulo_at : Reader RawPredicate
modulo_at words = do
  divisor ← known_at divisor_of words
  remainder ← known_at (remainder_of divisor.0) divisor.1
  Ok (raw.Modulo (pos divisor.0) (pos remainder.0), remainder.1)

unfoldable pub not_at : Reader RawPredicate → Reader RawPredicate
not_at inside words = do
  inner ← inside words
  Ok (raw.Not inner.0, inner.1)

unfoldable pub two_at : Reader RawPredicate → (RawPredicate → RawPredicate → RawPredicate) → Reader RawPredicate
two_at inside join words = do
  first ← inside words
  second ← inside first.1
  Ok (join first.0 second.0, second.1)

-- a predicate behind its first word, by the reading of those inside it
abbrev pub behind : Reader RawPredicate → PredicateOpener → Reader RawPredicate
behind inside predicate.OneOf words = one_of_at words
behind inside predicate.Prefix words = prefix_at words
behind inside predicate.Modulo words = modulo_at words
behind inside predicate.Not words = not_at inside words
behind inside predicate.And words = two_at inside raw.And words
behind inside predicate.Or words = two_at inside raw.Or words

-- a predicate at most so deep
unfoldable pub predicate_at : ℕ → Reader RawPredicate
predicate_at zero words = do
  opener ← known_at predicate_opener_of words
  Err (fault.TooDeep (length words))
predicate_at (suc depth) words = do
  opener ← known_at predicate_opener_of words
  behind (predicate_at depth) opener.0 opener.1

-- ---- filters

unfoldable pub filter_behind : FilterOpener → Reader RawFilterParts
filter_behind filter.All words = Ok (form.All, words)
filter_behind filter.Exact words = do
  key ← word_at words
  Ok (form.Exact key.0, key.1)
filter_behind filter.Range words = do
  low ← word_at words
  high ← word_at low.1
  Ok (form.Range low.0 high.0, high.1)
filter_behind filter.Func words = do
  predicate ← predicate_at 16 words
  Ok (form.Func predicate.0, predicate.1)

unfoldable pub filter_at : Reader RawFilterParts
filter_at words = do
  opener ← known_at filter_opener_of words
  filter_behind opener.0 opener.1

-- what is read, where no word is left
abbrev pub alone_with : {A : Type 0} → A → List Word → Result A Fault
alone_with x [] = Ok x
alone_with x (word ∷ rest) = Err (fault.BadWord (length (word ∷ rest)))

abbrev pub alone : {A : Type 0} → A × List Word → Result A Fault
alone read = alone_with read.0 read.1

-- the filter, or the item, that all of the words spell
abbrev pub filter_of : List Word → Result RawFilterParts Fault
filter_of words = filter_at words >>= alone

abbrev pub item_of : List Word → Result RawItemParts Fault
item_of words = item_at words >>= alone

-- ---- the number of the word at fault

-- where so many of the words are left, counted from 1
abbrev pub numbered : ℕ → Fault → FilterSyntax
numbered words (fault.BadWord left) = syntax.Word (words + 1 - left)
numbered words (fault.TooDeep left) = syntax.TooDeep (words + 1 - left)

abbrev pub with_number : {A : Type 0} → ℕ → Result A Fault → Result A FilterSyntax
with_number words (Ok x) = Ok x
with_number words (Err f) = Err (numbered words f)

-- a function returned this, unless memory ran out
abbrev pub Answers : {A : Type 0} → Result A FilterSyntax → Result A FilterSyntax → Type 0
Answers (Ok x) wanted = wanted ≡ Ok x
Answers (Err (syntax.Word number)) wanted = wanted ≡ Err (syntax.Word number)
Answers (Err (syntax.TooDeep number)) wanted = wanted ≡ Err (syntax.TooDeep number)
Answers (Err syntax.OutOfMemory) wanted = Unit {0}
