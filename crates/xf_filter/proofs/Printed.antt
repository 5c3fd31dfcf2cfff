-- What is written word by word is the line of the words.
use Rattle.std.proofs.Common.{◌≡◌, ◌∙◌, ℕ, ◌+◌, ◌<◌, ◌≤◌, ℤ, nat_abs, decimal, List, [], ◌∷◌, ◌++◌, length, get_or, take, flat_map, codes, IsUtf8, refl, sym, ap, subst, append_assoc, append-nil, length-append, arith, lit<}
use Rattle.std.proofs.lemmas.Grind.{flat_map-append}
use Rattle.std.proofs.lemmas.List.{take-take, take_at, take_more}
use Rattle.std.proofs.lemmas.Str.{IsUtf8-append, IsUtf8-nil, IsUtf8-from_ascii}
use Rattle.std.proofs.lemmas.Str.Ascii.{IsAscii-nil, IsAscii-cons}
use Rattle.xf_base.specs.Word.{word_text}
use Rattle.xf_filter.specs.Words.{Word, item_words, predicate_words, words_by, behind_blanks, line_of, Appends, Writes}
use Rattle.xf_filter.specs.declared.raw_filter.RawItemParts.{RawItemParts}
use Rattle.xf_filter.specs.declared.raw_filter.RawItemParts.TheVariants as named
use Rattle.xf_filter.specs.declared.raw_filter.RawPredicate.{RawPredicate}
use Rattle.xf_filter.specs.declared.raw_filter.RawPredicate.TheFolds.{fold-roll-RawPredicate}
use Rattle.xf_filter.specs.declared.raw_filter.RawPredicate.TheOpen.{RawPredicate-F}
use Rattle.xf_filter.specs.declared.raw_filter.RawPredicate.TheVariants as raw

-- ---- the words of each predicate

pub words-oneof : (items : List RawItemParts) → predicate_words (raw.OneOf items) ≡ codes "oneof" ∷ flat_map item_words items ++ codes "end" ∷ []
words-oneof items = ap predicate_words (sym (raw.rolls-OneOf items)) ∙ fold-roll-RawPredicate (List Word) words_by (RawPredicate-F.OneOf items)

pub words-prefix : (text : Word) → predicate_words (raw.Prefix text) ≡ codes "prefix" ∷ text ∷ []
words-prefix text = ap predicate_words (sym (raw.rolls-Prefix text)) ∙ fold-roll-RawPredicate (List Word) words_by (RawPredicate-F.Prefix text)

pub words-modulo : (divisor remainder : ℤ) → predicate_words (raw.Modulo divisor remainder) ≡ codes "modulo" ∷ decimal (nat_abs divisor) ∷ decimal (nat_abs remainder) ∷ []
words-modulo divisor remainder = ap predicate_words (sym (raw.rolls-Modulo divisor remainder)) ∙ fold-roll-RawPredicate (List Word) words_by (RawPredicate-F.Modulo divisor remainder)

pub words-not : (inner : RawPredicate) → predicate_words (raw.Not inner) ≡ codes "not" ∷ predicate_words inner
words-not inner = ap predicate_words (sym (raw.rolls-Not inner)) ∙ fold-roll-RawPredicate (List Word) words_by (RawPredicate-F.Not inner)

pub words-and : (first second : RawPredicate) → predicate_words (raw.And first second) ≡ codes "and" ∷ predicate_words first ++ predicate_words second
words-and first second = ap predicate_words (sym (raw.rolls-And first second)) ∙ fold-roll-RawPredicate (List Word) words_by (RawPredicate-F.And first second)

pub words-or : (first second : RawPredicate) → predicate_words (raw.Or first second) ≡ codes "or" ∷ predicate_words first ++ predicate_words second
words-or first second = ap predicate_words (sym (raw.rolls-Or first second)) ∙ fold-roll-RawPredicate (List Word) words_by (RawPredicate-F.Or first second)

-- ---- words one after the other

pub appends-append : (old mid new : List ℕ) (words more : List Word) → Appends old mid words → Appends mid new more → Appends old new (words ++ more)
unfolding Appends
appends-append old mid new words more first second =
    let all : behind_blanks (words ++ more) ≡ behind_blanks words ++ behind_blanks more = flat_map-append (λ word. 32 ∷ word_text word) words more in (
      second.0 ∙ ap (λ (front : List ℕ). front ++ behind_blanks more) first.0 ∙ append_assoc old (behind_blanks words) (behind_blanks more) ∙ ap (λ (back : List ℕ). old ++ back) (sym all),
      rw all (IsUtf8-append (behind_blanks words) (behind_blanks more) first.1 second.1),
    )

pub appends-nothing : (old : List ℕ) → Appends old old []
unfolding Appends
appends-nothing old = (sym (append-nil old), IsUtf8-nil)

pub appends-word : (old blank new : List ℕ) (word : Word) → blank ≡ old ++ 32 ∷ [] → new ≡ blank ++ word_text word → IsUtf8 (word_text word) → Appends old new (word ∷ [])
unfolding Appends
appends-word old blank new word first second utf8 =
    let one : behind_blanks (word ∷ []) ≡ 32 ∷ word_text word = append-nil (32 ∷ word_text word) in
    let blank8 : IsUtf8 (32 ∷ []) = IsUtf8-from_ascii (32 ∷ []) (IsAscii-cons 32 [] (lit< tt) IsAscii-nil) in (
      second ∙ ap (λ (front : List ℕ). front ++ word_text word) first ∙ append_assoc old (32 ∷ []) (word_text word) ∙ ap (λ (back : List ℕ). old ++ back) (sym one),
      rw one (IsUtf8-append (32 ∷ []) (word_text word) blank8 utf8),
    )

pub appends-item : (old mid new : List ℕ) (items : List RawItemParts) (i : ℕ) (item : RawItemParts) → i < length items → get_or items i item ≡ item
    → Appends old mid (flat_map item_words (take i items)) → Appends mid new (item_words item) → Appends old new (flat_map item_words (take (i + 1) items))
appends-item old mid new items i item below is first second =
    let one : take (i + 1) items ≡ take i items ++ item ∷ [] = take_more items i item below ∙ ap (λ (x : RawItemParts). take i items ++ x ∷ []) is in
    let all : flat_map item_words (take (i + 1) items) ≡ flat_map item_words (take i items) ++ item_words item =
    ap (flat_map item_words) one ∙ flat_map-append item_words (take i items) (item ∷ []) ∙ ap (λ (ws : List Word). flat_map item_words (take i items) ++ ws) (append-nil (item_words item)) in
    rw all (appends-append old mid new (flat_map item_words (take i items)) (item_words item) first second)

pub writes-more : (old mid new : List ℕ) (word : Word) (more : List Word) → Writes old mid (word ∷ []) → Appends mid new more → Writes old new (word ∷ more)
unfolding Appends Writes
writes-more old mid new word more first second =
    let one : line_of (word ∷ []) ≡ word_text word = append-nil (word_text word) in (
      second.0 ∙ ap (λ (front : List ℕ). front ++ behind_blanks more) (first.0 ∙ ap (λ (back : List ℕ). old ++ back) one) ∙ append_assoc old (word_text word) (behind_blanks more),
      IsUtf8-append (word_text word) (behind_blanks more) (subst IsUtf8 one first.1) second.1,
    )

-- what stood in front stays where more is appended
pub front_kept : (old mid new words : List ℕ) → mid ≡ old ++ words → take (length mid) new ≡ mid → take (length old) new ≡ old
front_kept old mid new words is kept =
    let short : length old ≤ length mid = omega (arith, ap length is, length-append old words) in
    sym (take-take (length old) (length mid) new short) ∙ rw (kept, is) (take_at old words (length old) refl)

pub appends_kept : (old mid new : List ℕ) (words : List Word) → Appends old mid words → take (length mid) new ≡ mid → take (length old) new ≡ old
unfolding Appends
appends_kept old mid new words first kept = front_kept old mid new (behind_blanks words) first.0 kept

pub writes_kept : (old mid new : List ℕ) (words : List Word) → Writes old mid words → take (length mid) new ≡ mid → take (length old) new ≡ old
unfolding Writes
writes_kept old mid new words first kept = front_kept old mid new (line_of words) first.0 kept

-- ---- what each form writes

pub appends-exact : (old mid new : List ℕ) (key : Word) → Appends old mid (codes "exact" ∷ []) → Appends mid new (key ∷ []) → Appends old new (item_words (named.Exact key))
appends-exact old mid new key a b = appends-append old mid new (codes "exact" ∷ []) (key ∷ []) a b

pub appends-range : (old mid more new : List ℕ) (low high : Word) → Appends old mid (codes "range" ∷ []) → Appends mid more (low ∷ []) → Appends more new (high ∷ []) → Appends old new (item_words (named.Range low high))
appends-range old mid more new low high a b c = appends-append old mid new (codes "range" ∷ []) (low ∷ high ∷ []) a (appends-append mid more new (low ∷ []) (high ∷ []) b c)

pub appends-oneof : (old mid more new : List ℕ) (items : List RawItemParts) → Appends old mid (codes "oneof" ∷ []) → Appends mid more (flat_map item_words items) → Appends more new (codes "end" ∷ []) → Appends old new (predicate_words (raw.OneOf items))
appends-oneof old mid more new items a b c =
    rw (words-oneof items) (appends-append old mid new (codes "oneof" ∷ []) (flat_map item_words items ++ codes "end" ∷ []) a (appends-append mid more new (flat_map item_words items) (codes "end" ∷ []) b c))

pub appends-prefix : (old mid new : List ℕ) (text : Word) → Appends old mid (codes "prefix" ∷ []) → Appends mid new (text ∷ []) → Appends old new (predicate_words (raw.Prefix text))
appends-prefix old mid new text a b = rw (words-prefix text) (appends-append old mid new (codes "prefix" ∷ []) (text ∷ []) a b)

pub appends-modulo : (old mid more new : List ℕ) (m r : ℤ) → Appends old mid (codes "modulo" ∷ []) → Appends mid more (decimal (nat_abs m) ∷ []) → Appends more new (decimal (nat_abs r) ∷ []) → Appends old new (predicate_words (raw.Modulo m r))
appends-modulo old mid more new m r a b c =
    rw (words-modulo m r) (appends-append old mid new (codes "modulo" ∷ []) (decimal (nat_abs m) ∷ decimal (nat_abs r) ∷ []) a (appends-append mid more new (decimal (nat_abs m) ∷ []) (decimal (nat_abs r) ∷ []) b c))

pub appends-not : (old mid new : List ℕ) (inner : RawPredicate) → Appends old mid (codes "not" ∷ []) → Appends mid new (predicate_words inner) → Appends old new (predicate_words (raw.Not inner))
appends-not old mid new inner a b = rw (words-not inner) (appends-append old mid new (codes "not" ∷ []) (predicate_words inner) a b)

pub appends-and : (old mid more new : List ℕ) (first second : RawPredicate) → Appends old mid (codes "and" ∷ []) → Appends mid more (predicate_words first) → Appends more new (predicate_words second) → Appends old new (predicate_words (raw.And first second))
appends-and old mid more new first second a b c =
    rw (words-and first second) (appends-append old mid new (codes "and" ∷ []) (predicate_words first ++ predicate_words second) a (appends-append mid more new (predicate_words first) (predicate_words second) b c))

pub appends-or : (old mid more new : List ℕ) (first second : RawPredicate) → Appends old mid (codes "or" ∷ []) → Appends mid more (predicate_words first) → Appends more new (predicate_words second) → Appends old new (predicate_words (raw.Or first second))
appends-or old mid more new first second a b c =
    rw (words-or first second) (appends-append old mid new (codes "or" ∷ []) (predicate_words first ++ predicate_words second) a (appends-append mid more new (predicate_words first) (predicate_words second) b c))

pub writes-one : (old mid new : List ℕ) (word key : Word) → Writes old mid (word ∷ []) → Appends mid new (key ∷ []) → Writes old new (word ∷ key ∷ [])
writes-one old mid new word key a b = writes-more old mid new word (key ∷ []) a b

pub writes-two : (old mid more new : List ℕ) (word low high : Word) → Writes old mid (word ∷ []) → Appends mid more (low ∷ []) → Appends more new (high ∷ []) → Writes old new (word ∷ low ∷ high ∷ [])
writes-two old mid more new word low high a b c = writes-more old mid new word (low ∷ high ∷ []) a (appends-append mid more new (low ∷ []) (high ∷ []) b c)

pub writes-func : (old mid new : List ℕ) (word : Word) (p : RawPredicate) → Writes old mid (word ∷ []) → Appends mid new (predicate_words p) → Writes old new (word ∷ predicate_words p)
writes-func old mid new word p a b = writes-more old mid new word (predicate_words p) a b

pub ruleset kept = (appends_kept, writes_kept)

pub ruleset appended = (appends-exact, appends-range, appends-oneof, appends-prefix, appends-modulo, appends-not, appends-and, appends-or, appends_kept)

pub ruleset written = (writes-one, writes-two, writes-func, appends_kept, writes_kept)
