-- What is known of a command that was read.
use Rattle.std.proofs.Common.{◌≡◌, ℕ, ◌+◌, ◌-◌, nat_lt, Bool, true, false, if◌then◌else◌, List, [], ◌∷◌, length, drop, codes, decimal, Option, Some, None, Result, Ok, Err}
use Rattle.xf_columns.specs.declared.words.RoundingWords.TheVariants as rounding
use Rattle.xf_columns.specs.declared.words.RoundingWords.{RoundingWords}
use Rattle.xf_filter.specs.Words.{Word, count_of, filter_words}
use Rattle.xf_filter.specs.Reading as filter
use Rattle.xf_filter.specs.declared.filter_syntax.Fault.{Fault}
use Rattle.xf_filter.specs.declared.raw_filter.RawFilterParts.{RawFilterParts}
use Rattle.xf_filter.proofs.Found.{filter_found}
use Rattle.xf_filter.proofs.ReadBack.{reads_back}
use Rattle.xf_script.specs.Canonical.{field_word}
use Rattle.xf_script.specs.Grammar.{◌>>=◌, accessor_from, count_at, disposal_form, ending, end_at, filter_from, form_behind, form_of, form_of_words, item_from, keyword_of, known_at, last_at, of_filter, offset_at, reducer_from, removal_form, rounding_at, rounding_behind, word_at}
use Rattle.xf_script.specs.Openers.{field_of, letters_of, removal_of, rounding_opener_of, sort_of, verb_of, width_of}
use Rattle.xf_script.specs.declared.command.CommandForm.{CommandForm}
use Rattle.xf_script.specs.declared.command.CommandForm.TheVariants as form
use Rattle.xf_script.specs.declared.opener.Removal.{Removal}
use Rattle.xf_script.specs.declared.opener.Removal.TheVariants as removal
use Rattle.xf_script.specs.declared.opener.RoundingOpener.{RoundingOpener}
use Rattle.xf_script.specs.declared.opener.RoundingOpener.TheVariants as opener
use Rattle.xf_script.specs.declared.opener.Sort.{Sort}
use Rattle.xf_script.specs.declared.opener.Sort.TheVariants as sort
use Rattle.xf_script.specs.declared.opener.Verb.{Verb}
use Rattle.xf_script.specs.declared.opener.Verb.TheVariants as verb
use Rattle.xf_script.proofs.Counts.{count_said, field_said, letters_said, width_said}
use Rattle.xf_script.proofs.Steps.{AllOk, each, of_all}

abbrev pub SaidFilter : RawFilterParts → Type 0
SaidFilter given = filter.filter_of (filter_words given) ≡ Ok given

abbrev pub SaidRounding : RoundingWords → Type 0
SaidRounding rounding.Same = Unit {0}
SaidRounding (rounding.Floor width) = width_of (decimal width) ≡ Some width
SaidRounding rounding.Month = Unit {0}
SaidRounding rounding.Year = Unit {0}
SaidRounding (rounding.Letters letters) = letters_of (decimal letters) ≡ Some letters

abbrev pub SaidCount : ℕ → Type 0
SaidCount count = count_of (decimal count) ≡ Some count

abbrev pub SaidOffset : Option ℕ → Type 0
SaidOffset None = Unit {0}
SaidOffset (Some offset) = SaidCount offset

-- each part that not every value of its type is
abbrev pub Said : CommandForm → Type 0
Said (form.Load file) = Unit {0}
Said (form.Add words) = (first : Word) × (word_at (codes "add" ∷ words) 2 ≡ Ok first)
Said (form.Filter dimension given) = SaidFilter given
Said (form.Toggle dimension item) = Unit {0}
Said (form.Clear dimension) = Unit {0}
Said form.ClearAll = Unit {0}
Said form.RemovePassing = Unit {0}
Said (form.RemoveWhere dimension given) = SaidFilter given
Said (form.Dimension name accessor) = Unit {0}
Said (form.Group name dimension rounding reducer) = SaidRounding rounding
Said (form.Whole name reducer) = Unit {0}
Said (form.Order group field) = field_of (field_word field) ≡ Some field
Said (form.DisposeDimension name) = Unit {0}
Said (form.DisposeGroup name) = Unit {0}
Said (form.DisposeWhole name) = Unit {0}
Said (form.Top dimension count offset) = SaidCount count × SaidOffset offset
Said (form.Bottom dimension count offset) = SaidCount count × SaidOffset offset
Said (form.Groups group) = Unit {0}
Said (form.GroupTop group count) = SaidCount count
Said (form.Value group key) = Unit {0}
Said (form.Records dimensions) = Unit {0}
Said form.Size = Unit {0}
Said form.Passing = Unit {0}
Said form.Events = Unit {0}
Said (form.Note words) = Unit {0}

-- ---- the parts

add_said : (words : List Word) (first : Word) → word_at words 2 ≡ Ok first → (first : Word) × (word_at (codes "add" ∷ drop 1 words) 2 ≡ Ok first)
add_said [] first e = absurd cc
add_said (word ∷ words) first e = (first, e)

pub numbered_ok : {A : Type 0} (words : ℕ) (read : Result A Fault) (x : A) → of_filter (filter.with_number words read) ≡ Ok x → read ≡ Ok x
numbered_ok words (Ok y) x e = cc
numbered_ok words (Err f) x e = absurd cc

filter_said : (words : List Word) (first : ℕ) (given : RawFilterParts) → filter_from words first ≡ Ok given → SaidFilter given
filter_said words first given e =
    let ws : List Word = drop (first - 1) words in
    let found = filter_found ws given (numbered_ok (length words) (filter.filter_of ws) given e) in
    reads_back given (found.0, ws, found.1)

rounding_behind_said : (o : RoundingOpener) (words : List Word) (next : ℕ) → AllOk (λ read. SaidRounding read.0) (rounding_behind o words next)
rounding_behind_said opener.Same words next = tt
rounding_behind_said opener.Floor words next = each (λ read. SaidRounding read.0) (known_at width_of words next) (λ width. Ok (rounding.Floor width, next + 1)) (λ width is. width_said words next width is)
rounding_behind_said opener.Month words next = tt
rounding_behind_said opener.Year words next = tt
rounding_behind_said opener.Letters words next = each (λ read. SaidRounding read.0) (known_at letters_of words next) (λ letters. Ok (rounding.Letters letters, next + 1)) (λ letters is. letters_said words next letters is)

rounding_said : (words : List Word) (first : ℕ) → AllOk (λ read. SaidRounding read.0) (rounding_at words first)
rounding_said words first = each (λ read. SaidRounding read.0) (known_at rounding_opener_of words first) (λ o. rounding_behind o words (first + 1)) (λ o is. rounding_behind_said o words (first + 1))

offset_by : (words : List Word) (number : ℕ) (ended : Bool) → AllOk SaidOffset (if ended then Ok None else (count_at words number >>= λ offset. ending words (number + 1) (Some offset)))
offset_by words number true = tt
offset_by words number false = each SaidOffset (count_at words number) (λ offset. ending words (number + 1) (Some offset)) (λ offset is.
    each SaidOffset (end_at words (number + 1)) (λ end. Ok (Some offset)) (λ end ends. count_said words number offset is))

offset_said : (words : List Word) (number : ℕ) → AllOk SaidOffset (offset_at words number)
offset_said words number = offset_by words number (nat_lt (length words) number)

removal_said : (what : Removal) (words : List Word) → AllOk Said (removal_form what words)
removal_said removal.Passing words = each Said (end_at words 3) _ (λ end is. tt)
removal_said removal.Where words = each Said (word_at words 3) _ (λ dimension is. each Said (filter_from words 4) _ (λ given read. filter_said words 4 given read))

disposal_said : (what : Sort) (name : Word) → Said (disposal_form what name)
disposal_said sort.Dimension name = tt
disposal_said sort.Group name = tt
disposal_said sort.Whole name = tt

-- ---- the forms

form_said : (v : Verb) (words : List Word) → AllOk Said (form_of v words)
form_said verb.Load words = each Said (last_at words 2) _ (λ file is. tt)
form_said verb.Add words = each Said (word_at words 2) _ (λ first is. add_said words first is)
form_said verb.Filter words = each Said (word_at words 2) _ (λ dimension is. each Said (filter_from words 3) _ (λ given read. filter_said words 3 given read))
form_said verb.Toggle words = each Said (word_at words 2) _ (λ dimension is. each Said (item_from words 3) _ (λ item read. tt))
form_said verb.Clear words = each Said (last_at words 2) _ (λ dimension is. tt)
form_said verb.ClearAll words = each Said (end_at words 2) _ (λ end is. tt)
form_said verb.Remove words = each Said (known_at removal_of words 2) _ (λ what is. removal_said what words)
form_said verb.Dimension words = each Said (word_at words 2) _ (λ name is. each Said (accessor_from words 3) _ (λ accessor read. tt))
form_said verb.Group words =
    each Said (word_at words 2) _ (λ name is. each Said (known_at (keyword_of (codes "of")) words 3) _ (λ of is_of. each Said (word_at words 4) _ (λ dimension at.
    each Said (rounding_at words 5) _ (λ r read. each Said (reducer_from words r.1) _ (λ reducer more.
    of_all (λ r. SaidRounding r.0) (rounding_at words 5) r (rounding_said words 5) read)))))
form_said verb.Whole words = each Said (word_at words 2) _ (λ name is. each Said (reducer_from words 3) _ (λ reducer read. tt))
form_said verb.Order words = each Said (word_at words 2) _ (λ group is. each Said (known_at field_of words 3) _ (λ field read. each Said (end_at words 4) _ (λ end ends. field_said words 3 field read)))
form_said verb.Dispose words = each Said (known_at sort_of words 2) _ (λ what is. each Said (last_at words 3) _ (λ name read. disposal_said what name))
form_said verb.Top words =
    each Said (word_at words 2) _ (λ dimension is. each Said (count_at words 3) _ (λ count read. each Said (offset_at words 4) _ (λ offset more.
    (count_said words 3 count read, of_all SaidOffset (offset_at words 4) offset (offset_said words 4) more))))
form_said verb.Bottom words =
    each Said (word_at words 2) _ (λ dimension is. each Said (count_at words 3) _ (λ count read. each Said (offset_at words 4) _ (λ offset more.
    (count_said words 3 count read, of_all SaidOffset (offset_at words 4) offset (offset_said words 4) more))))
form_said verb.Groups words = each Said (last_at words 2) _ (λ group is. tt)
form_said verb.GroupTop words = each Said (word_at words 2) _ (λ group is. each Said (count_at words 3) _ (λ count read. each Said (end_at words 4) _ (λ end ends. count_said words 3 count read)))
form_said verb.Value words = each Said (word_at words 2) _ (λ group is. each Said (last_at words 3) _ (λ key read. tt))
form_said verb.Records words = tt
form_said verb.Size words = each Said (end_at words 2) _ (λ end is. tt)
form_said verb.Passing words = each Said (end_at words 2) _ (λ end is. tt)
form_said verb.Events words = each Said (end_at words 2) _ (λ end is. tt)
form_said verb.Note words = tt

-- ---- a line's words

abbrev SaidIfAny : Option CommandForm → Type 0
SaidIfAny (Some given) = Said given
SaidIfAny None = Unit {0}

behind_said : (v : Option Verb) (words : List Word) → AllOk SaidIfAny (form_behind v words)
behind_said (Some v) words = each SaidIfAny (form_of v words) (λ given. Ok (Some given)) (λ given is. of_all Said (form_of v words) given (form_said v words) is)
behind_said None words = tt

words_said : (words : List Word) → AllOk SaidIfAny (form_of_words words)
words_said [] = tt
words_said (first ∷ rest) = behind_said (verb_of first) (first ∷ rest)

pub said_of : (words : List Word) (given : CommandForm) → form_of_words words ≡ Ok (Some given) → Said given
said_of words given e = of_all SaidIfAny (form_of_words words) (Some given) (words_said words) e
