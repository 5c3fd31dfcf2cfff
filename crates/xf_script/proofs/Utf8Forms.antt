-- The words of a command that was read from UTF-8 are UTF-8.
use Rattle.std.proofs.Common.{◌≡◌, ◌&&◌, ℕ, ◌+◌, ◌-◌, ◌<◌, nat_lt, nat_le, suc, zero, Bool, true, false, if◌then◌else◌, List, [], ◌∷◌, length, drop, codes, decimal, slice_get, bytes_eq, Option, Some, None, Ok, IsUtf8, refl, subst, arith}
use Rattle.std.specs.List.{list_all}
use Rattle.std.proofs.lemmas.Bool.{and_parts}
use Rattle.std.proofs.lemmas.Bool.Decides.{nat_tests}
use Rattle.std.specs.Str.{IsAscii}
use Rattle.std.proofs.lemmas.Str.{IsUtf8-from_ascii}
use Rattle.std.proofs.lemmas.Str.Ascii.{IsAscii-nil, IsAscii-cons}
use Rattle.xf_columns.specs.declared.words.AccessorWords.{AccessorWords}
use Rattle.xf_columns.specs.declared.words.ReducerWords.{ReducerWords}
use Rattle.xf_columns.specs.declared.words.RoundingWords.TheVariants as rounding
use Rattle.xf_columns.specs.declared.words.RoundingWords.{RoundingWords}
use Rattle.xf_columns.specs.declared.words.SimpleWords.{SimpleWords}
use Rattle.xf_filter.specs.Words.{Word, count_of, filter_words, item_words}
use Rattle.xf_filter.specs.Reading as filter
use Rattle.xf_filter.specs.declared.raw_filter.RawFilterParts.{RawFilterParts}
use Rattle.xf_filter.specs.declared.raw_filter.RawItemParts.{RawItemParts}
use Rattle.xf_filter.proofs.CountWords.{where_is}
use Rattle.xf_filter.proofs.Found.{filter_found, item_of_found}
use Rattle.xf_filter.proofs.Utf8Filters.{Utf8Words, utf8-count, utf8-filter, utf8-join, utf8-line}
use Rattle.xf_script.specs.Canonical.{accessor_words, command_line, command_words, field_word, offset_words, reducer_words, rounding_words, simple_words}
use Rattle.xf_script.specs.Grammar.{accessor_behind, accessor_from, both_behind, count_at, disposal_form, ending, end_at, filter_from, form_behind, form_of, form_of_words, is_both, item_from, keyword_of, known, known_at, last_at, offset_at, one_from, reducer_from, removal_form, rounding_at, simple_at, simple_behind, word_at}
use Rattle.xf_script.specs.Openers.{accessor_opener_of, count_within, field_of, reducer_opener_of, removal_of, sort_of, verb_of}
use Rattle.xf_script.specs.declared.command.CommandForm.{CommandForm}
use Rattle.xf_script.specs.declared.opener.AccessorOpener.{AccessorOpener}
use Rattle.xf_script.specs.declared.opener.AccessorOpener.TheVariants as accessor_opener
use Rattle.xf_script.specs.declared.opener.ReducerOpener.{ReducerOpener}
use Rattle.xf_script.specs.declared.opener.ReducerOpener.TheVariants as reducer_opener
use Rattle.xf_script.specs.declared.opener.Removal.{Removal}
use Rattle.xf_script.specs.declared.opener.Removal.TheVariants as removal
use Rattle.xf_script.specs.declared.opener.Sort.{Sort}
use Rattle.xf_script.specs.declared.opener.Sort.TheVariants as sort
use Rattle.xf_script.specs.declared.opener.Verb.{Verb}
use Rattle.xf_script.specs.declared.opener.Verb.TheVariants as verb
use Rattle.xf_script.proofs.Counts.{unnatural}
use Rattle.xf_script.proofs.Said.{Said, SaidCount, SaidOffset, SaidRounding, numbered_ok, said_of}
use Rattle.xf_script.proofs.Steps.{AllOk, each, of_all}

-- ---- words that are written out, and counts

ascii_list : (text : List ℕ) → list_all (λ byte. nat_lt byte 128) text ≡ true → IsAscii text
ascii_list [] is = IsAscii-nil
ascii_list (byte ∷ text) is =
    let parts = and_parts (nat_lt byte 128) (list_all (λ b. nat_lt b 128) text) is in
    let low : byte < 128 = grind (arith, nat_tests, parts.0) in
    IsAscii-cons byte text low (ascii_list text parts.1)

-- a keyword
literal : (text : List ℕ) → list_all (λ byte. nat_lt byte 128) text ≡ true → IsUtf8 text
literal text is = IsUtf8-from_ascii text (ascii_list text is)

count_utf8 : (n : ℕ) → SaidCount n → IsUtf8 (decimal n)
count_utf8 n said = utf8-count (decimal n) n said

field_utf8 : (field : Option ℕ) → field_of (field_word field) ≡ Some field → IsUtf8 (field_word field)
field_utf8 None said = literal (codes "natural") refl
field_utf8 (Some n) said =
    let within = unnatural (bytes_eq (decimal n) (codes "natural")) (count_within 0 255 (decimal n)) n said in
    utf8-count (decimal n) n (where_is (λ count. nat_le 0 count && nat_le count 255) (count_of (decimal n)) n within).0

offset_utf8 : (offset : Option ℕ) → SaidOffset offset → Utf8Words (offset_words offset)
offset_utf8 None said = tt
offset_utf8 (Some n) said = (count_utf8 n said, tt)

rounding_utf8 : (r : RoundingWords) → SaidRounding r → Utf8Words (rounding_words r)
rounding_utf8 rounding.Same said = (literal (codes "same") refl, tt)
rounding_utf8 (rounding.Floor width) said = (literal (codes "floor") refl, (utf8-count (decimal width) width (where_is (nat_lt 0) (count_of (decimal width)) width said).0, tt))
rounding_utf8 rounding.Month said = (literal (codes "month") refl, tt)
rounding_utf8 rounding.Year said = (literal (codes "year") refl, tt)
rounding_utf8 (rounding.Letters n) said = (literal (codes "letters") refl, (utf8-count (decimal n) n (where_is (λ count. nat_le 1 count && nat_le count 64) (count_of (decimal n)) n said).0, tt))

-- ---- words that are read

get_utf8 : (words : List Word) → Utf8Words words → (i number : ℕ) → AllOk IsUtf8 (known number (slice_get words i))
get_utf8 [] utf8 i number = tt
get_utf8 (word ∷ words) utf8 zero number = utf8.0
get_utf8 (word ∷ words) utf8 (suc i) number = get_utf8 words utf8.1 i number

word_utf8 : (words : List Word) → Utf8Words words → (number : ℕ) (word : Word) → word_at words number ≡ Ok word → IsUtf8 word
word_utf8 words utf8 number word is = of_all IsUtf8 (word_at words number) word (get_utf8 words utf8 (number - 1) number) is

last_utf8 : (words : List Word) → Utf8Words words → (number : ℕ) (word : Word) → last_at words number ≡ Ok word → IsUtf8 word
last_utf8 words utf8 number word is =
    of_all IsUtf8 (last_at words number) word
    (each IsUtf8 (word_at words number) (ending words (number + 1)) (λ word given. each IsUtf8 (end_at words (number + 1)) (λ end. Ok word) (λ end ends. word_utf8 words utf8 number word given)))
    is

drop_utf8 : (n : ℕ) (words : List Word) → Utf8Words words → Utf8Words (drop n words)
drop_utf8 zero words utf8 = utf8
drop_utf8 (suc n) [] utf8 = tt
drop_utf8 (suc n) (word ∷ words) utf8 = drop_utf8 n words utf8.1

filter_utf8 : (words : List Word) → Utf8Words words → (first : ℕ) (given : RawFilterParts) → filter_from words first ≡ Ok given → Utf8Words (filter_words given)
filter_utf8 words utf8 first given is =
    let ws : List Word = drop (first - 1) words in
    let found = filter_found ws given (numbered_ok (length words) (filter.filter_of ws) given is) in
    utf8-filter given ws found.1 (drop_utf8 (first - 1) words utf8)

item_utf8 : (words : List Word) → Utf8Words words → (first : ℕ) (given : RawItemParts) → item_from words first ≡ Ok given → Utf8Words (item_words given)
item_utf8 words utf8 first given is =
    let ws : List Word = drop (first - 1) words in
    let found = item_of_found ws given (numbered_ok (length words) (filter.item_of ws) given is) in
    subst Utf8Words found (drop_utf8 (first - 1) words utf8)

-- ---- accessors and reducers

abbrev AccessorUtf8 : AccessorWords → Type 0
AccessorUtf8 accessor = Utf8Words (accessor_words accessor)

accessor_behind_utf8 : (o : AccessorOpener) (words : List Word) → Utf8Words words → (next : ℕ) → AllOk AccessorUtf8 (accessor_behind o words next)
accessor_behind_utf8 accessor_opener.Column words utf8 next = each AccessorUtf8 (last_at words next) _ (λ column is. (literal (codes "column") refl, (last_utf8 words utf8 next column is, tt)))
accessor_behind_utf8 accessor_opener.Pair words utf8 next =
    each AccessorUtf8 (word_at words next) _ (λ first is. each AccessorUtf8 (last_at words (next + 1)) _ (λ second more.
    (literal (codes "pair") refl, (word_utf8 words utf8 next first is, (last_utf8 words utf8 (next + 1) second more, tt)))))
accessor_behind_utf8 accessor_opener.Tags words utf8 next = each AccessorUtf8 (last_at words next) _ (λ column is. (literal (codes "tags") refl, (last_utf8 words utf8 next column is, tt)))
accessor_behind_utf8 accessor_opener.Weekday words utf8 next = each AccessorUtf8 (last_at words next) _ (λ column is. (literal (codes "weekday") refl, (last_utf8 words utf8 next column is, tt)))
accessor_behind_utf8 accessor_opener.Month words utf8 next = each AccessorUtf8 (last_at words next) _ (λ column is. (literal (codes "month") refl, (last_utf8 words utf8 next column is, tt)))

accessor_utf8 : (words : List Word) → Utf8Words words → (first : ℕ) (given : AccessorWords) → accessor_from words first ≡ Ok given → Utf8Words (accessor_words given)
accessor_utf8 words utf8 first given is =
    of_all AccessorUtf8 (accessor_from words first) given
    (each AccessorUtf8 (known_at accessor_opener_of words first) _ (λ o at. accessor_behind_utf8 o words utf8 (first + 1))) is

abbrev SimpleUtf8 : SimpleWords × ℕ → Type 0
SimpleUtf8 read = Utf8Words (simple_words read.0)

simple_behind_utf8 : (o : ReducerOpener) (words : List Word) → Utf8Words words → (next : ℕ) → AllOk SimpleUtf8 (simple_behind o words next)
simple_behind_utf8 reducer_opener.Count words utf8 next = (literal (codes "count") refl, tt)
simple_behind_utf8 reducer_opener.Sum words utf8 next = each SimpleUtf8 (word_at words next) _ (λ column is. (literal (codes "sum") refl, (word_utf8 words utf8 next column is, tt)))
simple_behind_utf8 reducer_opener.SumCount words utf8 next = each SimpleUtf8 (word_at words next) _ (λ column is. (literal (codes "sumcount") refl, (word_utf8 words utf8 next column is, tt)))
simple_behind_utf8 reducer_opener.SumSquares words utf8 next = each SimpleUtf8 (word_at words next) _ (λ column is. (literal (codes "sumsquares") refl, (word_utf8 words utf8 next column is, tt)))
simple_behind_utf8 reducer_opener.Spread words utf8 next = each SimpleUtf8 (word_at words next) _ (λ column is. (literal (codes "spread") refl, (word_utf8 words utf8 next column is, tt)))
simple_behind_utf8 reducer_opener.Both words utf8 next = tt

simple_utf8 : (words : List Word) → Utf8Words words → (first : ℕ) (given : SimpleWords × ℕ) → simple_at words first ≡ Ok given → Utf8Words (simple_words given.0)
simple_utf8 words utf8 first given is =
    of_all SimpleUtf8 (simple_at words first) given
    (each SimpleUtf8 (known_at reducer_opener_of words first) _ (λ o at. simple_behind_utf8 o words utf8 (first + 1))) is

abbrev ReducerUtf8 : ReducerWords → Type 0
ReducerUtf8 reducer = Utf8Words (reducer_words reducer)

both_utf8 : (words : List Word) → Utf8Words words → (next : ℕ) → AllOk ReducerUtf8 (both_behind words next)
both_utf8 words utf8 next =
    each ReducerUtf8 (simple_at words next) _ (λ first is. each ReducerUtf8 (simple_at words first.1) _ (λ second more. each ReducerUtf8 (end_at words second.1) _ (λ end ends.
    (literal (codes "both") refl, utf8-join (simple_words first.0) (simple_words second.0) (simple_utf8 words utf8 next first is) (simple_utf8 words utf8 first.1 second more)))))

one_utf8 : (words : List Word) → Utf8Words words → (first : ℕ) → AllOk ReducerUtf8 (one_from words first)
one_utf8 words utf8 first = each ReducerUtf8 (simple_at words first) _ (λ one is. each ReducerUtf8 (end_at words one.1) _ (λ end ends. simple_utf8 words utf8 first one is))

either_utf8 : (both : Bool) (words : List Word) → Utf8Words words → (first : ℕ) → AllOk ReducerUtf8 (if both then both_behind words (first + 1) else one_from words first)
either_utf8 true words utf8 first = both_utf8 words utf8 (first + 1)
either_utf8 false words utf8 first = one_utf8 words utf8 first

reducer_utf8 : (words : List Word) → Utf8Words words → (first : ℕ) (given : ReducerWords) → reducer_from words first ≡ Ok given → Utf8Words (reducer_words given)
reducer_utf8 words utf8 first given is =
    of_all ReducerUtf8 (reducer_from words first) given
    (each ReducerUtf8 (known_at reducer_opener_of words first) _ (λ o at. either_utf8 (is_both o) words utf8 first)) is

-- ---- the forms, whose counts are as they are read

abbrev FormUtf8 : CommandForm → Type 0
FormUtf8 given = Said given → Utf8Words (command_words given)

removal_utf8 : (what : Removal) (words : List Word) → Utf8Words words → AllOk FormUtf8 (removal_form what words)
removal_utf8 removal.Passing words utf8 = each FormUtf8 (end_at words 3) _ (λ end is said. (literal (codes "remove") refl, (literal (codes "passing") refl, tt)))
removal_utf8 removal.Where words utf8 =
    each FormUtf8 (word_at words 3) _ (λ dimension is. each FormUtf8 (filter_from words 4) _ (λ given read said.
    (literal (codes "remove") refl, (literal (codes "where") refl, (word_utf8 words utf8 3 dimension is, filter_utf8 words utf8 4 given read)))))

disposal_utf8 : (what : Sort) (name : Word) → IsUtf8 name → FormUtf8 (disposal_form what name)
disposal_utf8 sort.Dimension name utf8 said = (literal (codes "dispose") refl, (literal (codes "dimension") refl, (utf8, tt)))
disposal_utf8 sort.Group name utf8 said = (literal (codes "dispose") refl, (literal (codes "group") refl, (utf8, tt)))
disposal_utf8 sort.Whole name utf8 said = (literal (codes "dispose") refl, (literal (codes "whole") refl, (utf8, tt)))

form_utf8 : (v : Verb) (words : List Word) → Utf8Words words → AllOk FormUtf8 (form_of v words)
form_utf8 verb.Load words utf8 = each FormUtf8 (last_at words 2) _ (λ file is said. (literal (codes "load") refl, (last_utf8 words utf8 2 file is, tt)))
form_utf8 verb.Add words utf8 = each FormUtf8 (word_at words 2) _ (λ first is said. (literal (codes "add") refl, drop_utf8 1 words utf8))
form_utf8 verb.Filter words utf8 =
    each FormUtf8 (word_at words 2) _ (λ dimension is. each FormUtf8 (filter_from words 3) _ (λ given read said.
    (literal (codes "filter") refl, (word_utf8 words utf8 2 dimension is, filter_utf8 words utf8 3 given read))))
form_utf8 verb.Toggle words utf8 =
    each FormUtf8 (word_at words 2) _ (λ dimension is. each FormUtf8 (item_from words 3) _ (λ given read said.
    (literal (codes "toggle") refl, (word_utf8 words utf8 2 dimension is, item_utf8 words utf8 3 given read))))
form_utf8 verb.Clear words utf8 = each FormUtf8 (last_at words 2) _ (λ dimension is said. (literal (codes "clear") refl, (last_utf8 words utf8 2 dimension is, tt)))
form_utf8 verb.ClearAll words utf8 = each FormUtf8 (end_at words 2) _ (λ end is said. (literal (codes "clearall") refl, tt))
form_utf8 verb.Remove words utf8 = each FormUtf8 (known_at removal_of words 2) _ (λ what is. removal_utf8 what words utf8)
form_utf8 verb.Dimension words utf8 =
    each FormUtf8 (word_at words 2) _ (λ name is. each FormUtf8 (accessor_from words 3) _ (λ accessor read said.
    (literal (codes "dimension") refl, (word_utf8 words utf8 2 name is, accessor_utf8 words utf8 3 accessor read))))
form_utf8 verb.Group words utf8 =
    each FormUtf8 (word_at words 2) _ (λ name is. each FormUtf8 (known_at (keyword_of (codes "of")) words 3) _ (λ of is_of. each FormUtf8 (word_at words 4) _ (λ dimension at.
    each FormUtf8 (rounding_at words 5) _ (λ r read. each FormUtf8 (reducer_from words r.1) _ (λ reducer more said. (
      literal (codes "group") refl,
      (
        word_utf8 words utf8 2 name is,
        (
          literal (codes "of") refl,
          (
            word_utf8 words utf8 4 dimension at,
            utf8-join (rounding_words r.0) (reducer_words reducer) (rounding_utf8 r.0 said) (reducer_utf8 words utf8 r.1 reducer more),
          ),
        ),
      ),
    ))))))
form_utf8 verb.Whole words utf8 =
    each FormUtf8 (word_at words 2) _ (λ name is. each FormUtf8 (reducer_from words 3) _ (λ reducer read said.
    (literal (codes "whole") refl, (word_utf8 words utf8 2 name is, reducer_utf8 words utf8 3 reducer read))))
form_utf8 verb.Order words utf8 =
    each FormUtf8 (word_at words 2) _ (λ group is. each FormUtf8 (known_at field_of words 3) _ (λ field read. each FormUtf8 (end_at words 4) _ (λ end ends said.
    (literal (codes "order") refl, (word_utf8 words utf8 2 group is, (field_utf8 field said, tt))))))
form_utf8 verb.Dispose words utf8 = each FormUtf8 (known_at sort_of words 2) _ (λ what is. each FormUtf8 (last_at words 3) _ (λ name read. disposal_utf8 what name (last_utf8 words utf8 3 name read)))
form_utf8 verb.Top words utf8 =
    each FormUtf8 (word_at words 2) _ (λ dimension is. each FormUtf8 (count_at words 3) _ (λ count read. each FormUtf8 (offset_at words 4) _ (λ offset more said.
    (literal (codes "top") refl, (word_utf8 words utf8 2 dimension is, (count_utf8 count said.0, offset_utf8 offset said.1))))))
form_utf8 verb.Bottom words utf8 =
    each FormUtf8 (word_at words 2) _ (λ dimension is. each FormUtf8 (count_at words 3) _ (λ count read. each FormUtf8 (offset_at words 4) _ (λ offset more said.
    (literal (codes "bottom") refl, (word_utf8 words utf8 2 dimension is, (count_utf8 count said.0, offset_utf8 offset said.1))))))
form_utf8 verb.Groups words utf8 = each FormUtf8 (last_at words 2) _ (λ group is said. (literal (codes "groups") refl, (last_utf8 words utf8 2 group is, tt)))
form_utf8 verb.GroupTop words utf8 =
    each FormUtf8 (word_at words 2) _ (λ group is. each FormUtf8 (count_at words 3) _ (λ count read. each FormUtf8 (end_at words 4) _ (λ end ends said.
    (literal (codes "grouptop") refl, (word_utf8 words utf8 2 group is, (count_utf8 count said, tt))))))
form_utf8 verb.Value words utf8 =
    each FormUtf8 (word_at words 2) _ (λ group is. each FormUtf8 (last_at words 3) _ (λ key read said.
    (literal (codes "value") refl, (word_utf8 words utf8 2 group is, (last_utf8 words utf8 3 key read, tt)))))
form_utf8 verb.Records words utf8 = λ said. (literal (codes "records") refl, drop_utf8 1 words utf8)
form_utf8 verb.Size words utf8 = each FormUtf8 (end_at words 2) _ (λ end is said. (literal (codes "size") refl, tt))
form_utf8 verb.Passing words utf8 = each FormUtf8 (end_at words 2) _ (λ end is said. (literal (codes "passing") refl, tt))
form_utf8 verb.Events words utf8 = each FormUtf8 (end_at words 2) _ (λ end is said. (literal (codes "events") refl, tt))
form_utf8 verb.Note words utf8 = λ said. (literal (codes "note") refl, drop_utf8 1 words utf8)

-- ---- a line's words

abbrev Utf8IfAny : Option CommandForm → Type 0
Utf8IfAny (Some given) = FormUtf8 given
Utf8IfAny None = Unit {0}

behind_utf8 : (v : Option Verb) (words : List Word) → Utf8Words words → AllOk Utf8IfAny (form_behind v words)
behind_utf8 (Some v) words utf8 = each Utf8IfAny (form_of v words) (λ given. Ok (Some given)) (λ given is. of_all FormUtf8 (form_of v words) given (form_utf8 v words utf8) is)
behind_utf8 None words utf8 = tt

words_utf8 : (words : List Word) → Utf8Words words → AllOk Utf8IfAny (form_of_words words)
words_utf8 [] utf8 = tt
words_utf8 (first ∷ rest) utf8 = behind_utf8 (verb_of first) (first ∷ rest) utf8

pub utf8_of : (words : List Word) (given : CommandForm) → form_of_words words ≡ Ok (Some given) → Utf8Words words → IsUtf8 (command_line given)
utf8_of words given is utf8 = utf8-line (command_words given) (of_all Utf8IfAny (form_of_words words) (Some given) (words_utf8 words utf8) is (said_of words given is))
