-- The words of a filter that was read from UTF-8 are UTF-8.
use Rattle.std.proofs.Common.{◌≡◌, ℕ, nat_lt, List, [], ◌∷◌, ◌++◌, decimal, pos, Some, IsUtf8, arith, lit<}
use Rattle.std.specs.List.{AllByRecursion}
use Rattle.std.proofs.lemmas.Fmt.{IsAscii-decimal_wide}
use Rattle.std.proofs.lemmas.Str.{IsUtf8-append, IsUtf8-from_ascii, IsUtf8-nil}
use Rattle.std.proofs.lemmas.Str.Ascii.{IsAscii-nil, IsAscii-cons}
use Rattle.xf_base.specs.Word.{word_text}
use Rattle.xf_base.proofs.Utf8Words.{IsUtf8-word_text}
use Rattle.xf_filter.specs.Words.{Word, count_of, behind_blanks, line_of, predicate_words, filter_words}
use Rattle.xf_filter.specs.Spelling.{Spells, oneof, prefix, modulo, negation, conjunction, disjunction, SpellsFilter, all, exact, range, func}
use Rattle.xf_filter.specs.declared.raw_filter.RawFilterParts.{RawFilterParts}
use Rattle.xf_filter.specs.declared.raw_filter.RawPredicate.{RawPredicate}
use Rattle.xf_filter.proofs.CountWords.{count-small, where_is}
use Rattle.xf_filter.proofs.Printed.{words-oneof, words-prefix, words-modulo, words-not, words-and, words-or}

-- each word is UTF-8
abbrev pub Utf8Words : List Word → Type 0
Utf8Words words = AllByRecursion IsUtf8 words

pub utf8-join : (words more : List Word) → Utf8Words words → Utf8Words more → Utf8Words (words ++ more)
utf8-join [] more first second = second
utf8-join (word ∷ words) more first second = (first.0, utf8-join words more first.1 second)

utf8-front : (words more : List Word) → Utf8Words (words ++ more) → Utf8Words words
utf8-front [] more utf8 = tt
utf8-front (word ∷ words) more utf8 = (utf8.0, utf8-front words more utf8.1)

utf8-back : (words more : List Word) → Utf8Words (words ++ more) → Utf8Words more
utf8-back [] more utf8 = utf8
utf8-back (word ∷ words) more utf8 = utf8-back words more utf8.1

-- the digits of a count
pub utf8-count : (word : Word) (n : ℕ) → count_of word ≡ Some n → IsUtf8 (decimal n)
utf8-count word n is = IsUtf8-from_ascii (decimal n) (IsAscii-decimal_wide n (omega (arith, count-small word n is)))

utf8-predicate : (p : RawPredicate) (words : List Word) → Spells p words → Utf8Words words → Utf8Words (predicate_words p)
utf8-predicate p words (oneof first items) utf8 = rw (words-oneof (first ∷ items)) utf8
utf8-predicate p words (prefix text) utf8 = rw (words-prefix text) utf8
utf8-predicate p words (modulo m r divisor remainder is_divisor is_remainder) utf8 =
    let m_parts = where_is (nat_lt 0) (count_of m) divisor is_divisor in
    let r_parts = where_is (λ n. nat_lt n divisor) (count_of r) remainder is_remainder in
    rw (words-modulo (pos divisor) (pos remainder)) (utf8.0, (utf8-count m divisor m_parts.0, (utf8-count r remainder r_parts.0, tt)))
utf8-predicate p words (negation inner front s) utf8 = rw (words-not inner) (utf8.0, utf8-predicate inner front s utf8.1)
utf8-predicate p words (conjunction first second front more s t) utf8 =
    rw (words-and first second) (utf8.0, utf8-join (predicate_words first) (predicate_words second) (utf8-predicate first front s (utf8-front front more utf8.1)) (utf8-predicate second more t (utf8-back front more utf8.1)))
utf8-predicate p words (disjunction first second front more s t) utf8 =
    rw (words-or first second) (utf8.0, utf8-join (predicate_words first) (predicate_words second) (utf8-predicate first front s (utf8-front front more utf8.1)) (utf8-predicate second more t (utf8-back front more utf8.1)))

pub utf8-filter : (f : RawFilterParts) (words : List Word) → SpellsFilter f words → Utf8Words words → Utf8Words (filter_words f)
utf8-filter f words all utf8 = utf8
utf8-filter f words (exact key) utf8 = utf8
utf8-filter f words (range low high) utf8 = utf8
utf8-filter f words (func predicate front s) utf8 = (utf8.0, utf8-predicate predicate front s utf8.1)

-- ---- the line of such words

blank_utf8 : IsUtf8 (32 ∷ [])
blank_utf8 = IsUtf8-from_ascii (32 ∷ []) (IsAscii-cons 32 [] (lit< tt) IsAscii-nil)

utf8-behind : (words : List Word) → Utf8Words words → IsUtf8 (behind_blanks words)
utf8-behind [] utf8 = IsUtf8-nil
utf8-behind (word ∷ words) utf8 =
    IsUtf8-append (32 ∷ word_text word) (behind_blanks words) (IsUtf8-append (32 ∷ []) (word_text word) blank_utf8 (IsUtf8-word_text word utf8.0)) (utf8-behind words utf8.1)

pub utf8-line : (words : List Word) → Utf8Words words → IsUtf8 (line_of words)
utf8-line [] utf8 = IsUtf8-nil
utf8-line (word ∷ words) utf8 = IsUtf8-append (word_text word) (behind_blanks words) (IsUtf8-word_text word utf8.0) (utf8-behind words utf8.1)
