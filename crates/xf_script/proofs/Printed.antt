-- What is written word by word is the line of the words.
use Rattle.std.proofs.Common.{◌≡◌, ◌∙◌, ℕ, ◌+◌, ◌<◌, List, [], ◌∷◌, ◌++◌, length, get_or, take, codes, IsUtf8, sym, ap, append_assoc, lit<, subst}
use Rattle.std.proofs.lemmas.Grind.{flat_map-append}
use Rattle.std.proofs.lemmas.List.{take_more}
use Rattle.std.proofs.lemmas.Str.{IsUtf8-append, IsUtf8-from_ascii}
use Rattle.std.proofs.lemmas.Str.Ascii.{IsAscii-nil, IsAscii-cons}
use Rattle.xf_base.specs.Word.{word_text}
use Rattle.xf_filter.proofs.Printed.{appends-append, appends-nothing, writes-more}
use Rattle.xf_filter.specs.Words.{Word, Appends, Writes, behind_blanks, filter_words, item_words, line_of, predicate_words}
use Rattle.xf_filter.specs.declared.raw_filter.RawFilterParts.{RawFilterParts}
use Rattle.xf_filter.specs.declared.raw_filter.RawFilterParts.TheVariants as filter
use Rattle.xf_filter.specs.declared.raw_filter.RawItemParts.{RawItemParts}
use Rattle.xf_filter.specs.declared.raw_filter.RawItemParts.TheVariants as item

-- ---- lines

pub writes-behind_one : (old mid new : List ℕ) (first : Word) (more : List Word) → Writes old mid (first ∷ []) → Appends mid new more → Writes old new (first ∷ more)
writes-behind_one old mid new first more a b = writes-more old mid new first more a b

-- more words behind a line
writes-append : (old mid new : List ℕ) (first : Word) (words more : List Word) → Writes old mid (first ∷ words) → Appends mid new more → Writes old new (first ∷ words ++ more)
unfolding Appends Writes
writes-append old mid new first words more a b =
    let all : behind_blanks (words ++ more) ≡ behind_blanks words ++ behind_blanks more = flat_map-append (λ word. 32 ∷ word_text word) words more in
    let whole : line_of (first ∷ words ++ more) ≡ line_of (first ∷ words) ++ behind_blanks more =
    ap (λ (behind : List ℕ). word_text first ++ behind) all ∙ sym (append_assoc (word_text first) (behind_blanks words) (behind_blanks more)) in (
      b.0 ∙ ap (λ (front : List ℕ). front ++ behind_blanks more) a.0 ∙ append_assoc old (line_of (first ∷ words)) (behind_blanks more) ∙ ap (λ (back : List ℕ). old ++ back) (sym whole),
      subst IsUtf8 (sym whole) (IsUtf8-append (line_of (first ∷ words)) (behind_blanks more) a.1 b.1),
    )

pub writes-behind_two : (old mid new : List ℕ) (first second : Word) (more : List Word) → Writes old mid (first ∷ second ∷ []) → Appends mid new more → Writes old new (first ∷ second ∷ more)
writes-behind_two old mid new first second more a b = writes-append old mid new first (second ∷ []) more a b

pub writes-behind_three : (old mid new : List ℕ) (first second third : Word) (more : List Word) → Writes old mid (first ∷ second ∷ third ∷ []) → Appends mid new more → Writes old new (first ∷ second ∷ third ∷ more)
writes-behind_three old mid new first second third more a b = writes-append old mid new first (second ∷ third ∷ []) more a b

pub writes-end : (old mid more new : List ℕ) (first second third : Word) (words : List Word) → Writes old mid (first ∷ second ∷ []) → Appends mid more (third ∷ []) → Appends more new words → Writes old new (first ∷ second ∷ third ∷ words)
writes-end old mid more new first second third words a b c = writes-append old mid new first (second ∷ []) (third ∷ words) a (appends-append mid more new (third ∷ []) words b c)

pub writes-group : (old one two three new : List ℕ) (first second third fourth : Word) (front back : List Word) → Writes old one (first ∷ second ∷ third ∷ []) → Appends one two (fourth ∷ []) → Appends two three front → Appends three new back → Writes old new (first ∷ second ∷ third ∷ fourth ∷ front ++ back)
writes-group old one two three new first second third fourth front back a b c d =
    writes-append old one new first (second ∷ third ∷ []) (fourth ∷ front ++ back) a
    (appends-append one two new (fourth ∷ []) (front ++ back) b (appends-append two three new front back c d))

pub ruleset written = (writes-behind_one, writes-behind_two, writes-behind_three, writes-end, writes-group, appends-nothing)

-- ---- words behind a line

pub appends-two : (old mid new : List ℕ) (first second : Word) → Appends old mid (first ∷ []) → Appends mid new (second ∷ []) → Appends old new (first ∷ second ∷ [])
appends-two old mid new first second a b = appends-append old mid new (first ∷ []) (second ∷ []) a b

pub appends-three : (old mid new : List ℕ) (first second third : Word) → Appends old mid (first ∷ second ∷ []) → Appends mid new (third ∷ []) → Appends old new (first ∷ second ∷ third ∷ [])
appends-three old mid new first second third a b = appends-append old mid new (first ∷ second ∷ []) (third ∷ []) a b

pub appends-both : (old mid more new : List ℕ) (first : Word) (front back : List Word) → Appends old mid (first ∷ []) → Appends mid more front → Appends more new back → Appends old new (first ∷ front ++ back)
appends-both old mid more new first front back a b c = appends-append old mid new (first ∷ []) (front ++ back) a (appends-append mid more new front back b c)

pub ruleset appended = (appends-two, appends-three, appends-both)

pub appends-next : (old mid new : List ℕ) (words : List Word) (i : ℕ) (word : Word) → i < length words → get_or words i word ≡ word
    → Appends old mid (take i words) → Appends mid new (word ∷ []) → Appends old new (take (i + 1) words)
appends-next old mid new words i word below is first second =
    let one : take (i + 1) words ≡ take i words ++ word ∷ [] = take_more words i word below ∙ ap (λ (x : Word). take i words ++ x ∷ []) is in
    rw one (appends-append old mid new (take i words) (word ∷ []) first second)

-- ---- a blank and the line of some words

appends-line : (old blank new : List ℕ) (word : Word) (words : List Word) → blank ≡ old ++ 32 ∷ [] → new ≡ blank ++ line_of (word ∷ words) → IsUtf8 (line_of (word ∷ words)) → Appends old new (word ∷ words)
unfolding Appends
appends-line old blank new word words first second utf8 =
    let blank8 : IsUtf8 (32 ∷ []) = IsUtf8-from_ascii (32 ∷ []) (IsAscii-cons 32 [] (lit< tt) IsAscii-nil) in (
      second ∙ ap (λ (front : List ℕ). front ++ line_of (word ∷ words)) first ∙ append_assoc old (32 ∷ []) (line_of (word ∷ words)),
      IsUtf8-append (32 ∷ []) (line_of (word ∷ words)) blank8 utf8,
    )

pub appends-filter : (old blank new : List ℕ) (given : RawFilterParts) → blank ≡ old ++ 32 ∷ [] → new ≡ blank ++ line_of (filter_words given) → IsUtf8 (line_of (filter_words given)) → Appends old new (filter_words given)
appends-filter old blank new filter.All a b c = appends-line old blank new (codes "all") [] a b c
appends-filter old blank new (filter.Exact key) a b c = appends-line old blank new (codes "exact") (key ∷ []) a b c
appends-filter old blank new (filter.Range low high) a b c = appends-line old blank new (codes "range") (low ∷ high ∷ []) a b c
appends-filter old blank new (filter.Func predicate) a b c = appends-line old blank new (codes "func") (predicate_words predicate) a b c

pub appends-item : (old blank new : List ℕ) (given : RawItemParts) → blank ≡ old ++ 32 ∷ [] → new ≡ blank ++ line_of (item_words given) → IsUtf8 (line_of (item_words given)) → Appends old new (item_words given)
appends-item old blank new (item.Exact key) a b c = appends-line old blank new (codes "exact") (key ∷ []) a b c
appends-item old blank new (item.Range low high) a b c = appends-line old blank new (codes "range") (low ∷ high ∷ []) a b c

pub ruleset behind_blank = (appends-filter, appends-item)
