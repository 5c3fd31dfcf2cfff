-- Steps of a reading that did not fail.
use Rattle.std.proofs.Common.{◌≡◌, ◌∙◌, ℕ, Bool, true, false, if◌then◌else◌, List, [], ◌∷◌, drop, codes, Option, Some, None, Result, Ok, Err, refl, sym, ap, bytes_eq}
use Rattle.std.specs.List.{AllByRecursion}
use Rattle.std.specs.Map.{lookup}
use Rattle.std.proofs.lemmas.Slice.Eq.{bytes_eq-Decides}
use Rattle.xf_filter.specs.Words.{Word, filter_openers, item_openers, predicate_openers, filter_opener_of, item_opener_of, predicate_opener_of}
use Rattle.xf_filter.specs.Reading.{◌>>=◌, known, known_at, word_at, is_end}
use Rattle.xf_filter.specs.declared.filter_syntax.Fault.{Fault}
use Rattle.xf_filter.specs.declared.opener.FilterOpener.{FilterOpener}
use Rattle.xf_filter.specs.declared.opener.FilterOpener.TheVariants as filter
use Rattle.xf_filter.specs.declared.opener.ItemOpener.{ItemOpener}
use Rattle.xf_filter.specs.declared.opener.ItemOpener.TheVariants as item
use Rattle.xf_filter.specs.declared.opener.PredicateOpener.{PredicateOpener}
use Rattle.xf_filter.specs.declared.opener.PredicateOpener.TheVariants as predicate

-- the value of a step
pub bind_ok : {A B : Type 0} (r : Result A Fault) (f : A → Result B Fault) (y : B) → (r >>= f) ≡ Ok y → (x : A) × (r ≡ Ok x) × (f x ≡ Ok y)
bind_ok (Ok x) f y e = (x, refl, e)
bind_ok (Err d) f y e = absurd cc

abbrev done : {A : Type 0} → A → Result A Fault
done x = Ok x

pub ok_is : {A : Type 0} (x y : A) → done x ≡ done y → x ≡ y
ok_is x y e = cc

abbrev failed : {A : Type 0} → Fault → Result A Fault
failed f = Err f

pub fails_not : {A : Type 0} (f : Fault) (x : A) → failed {A = A} f ≡ Ok x → ⊥
fails_not f x e = cc

pub err_is : {A : Type 0} (f g : Fault) → failed {A = A} f ≡ failed g → f ≡ g
err_is f g e = cc

-- a reading gives one answer
pub one_answer : {A : Type 0} (read : Result A Fault) (x y : A) → read ≡ Ok x → read ≡ Ok y → x ≡ y
one_answer read x y e f = ok_is x y (sym e ∙ f)

pub no_answer : {A : Type 0} (read : Result A Fault) (x : A) (f : Fault) → read ≡ Ok x → read ≡ Err f → ⊥
no_answer read x f e g = fails_not f x (sym g ∙ e)

abbrev found : {A : Type 0} → A → Option A
found x = Some x

pub some_is : {A : Type 0} (x y : A) → found x ≡ found y → x ≡ y
some_is x y e = cc

-- what a first word gives that is known
pub record Known {A : Type 0} (knows : Word → Option A) (words rest : List Word) (a : A) : Type 0 where
  pub word : Word
  pub words_are : words ≡ word ∷ rest
  pub knows_it : knows word ≡ Some a

known_is : {A : Type 0} (knows : Word → Option A) (word : Word) (words rest : List Word) (a : A) (o : Option A) → knows word ≡ o → known o (word ∷ words) words ≡ Ok (a, rest) → Known knows (word ∷ words) rest a
known_is knows word words rest a None is e = absurd cc
known_is knows word words rest a (Some b) is e =
    let pair = ok_is (b, words) (a, rest) e in
    record {
      word = word;
      words_are = ap (λ (ws : List Word). word ∷ ws) (ap (λ p. p.1) pair);
      knows_it = is ∙ ap (λ p. Some p.0) pair;
    }

pub known_ok : {A : Type 0} (knows : Word → Option A) (words rest : List Word) (a : A) → known_at knows words ≡ Ok (a, rest) → Known knows words rest a
known_ok knows [] rest a e = absurd cc
known_ok knows (word ∷ words) rest a e = known_is knows word words rest a (knows word) refl e

-- ---- the words that begin something

is_bytes : (xs ys : List ℕ) → bytes_eq xs ys ≡ true → xs ≡ ys
is_bytes xs ys is = (bytes_eq-Decides xs ys).0 is

-- what a choice gives comes from one of the two
first_or_rest : {A : Type 0} (test : Bool) (first : A) (rest : Option A) (a : A) (P : Type 0) → (test ≡ true → first ≡ a → P) → (rest ≡ Some a → P) → (if test then Some first else rest) ≡ Some a → P
first_or_rest true first rest a P here there e = here refl (some_is first a e)
first_or_rest false first rest a P here there e = there e

-- each word of a table that is found is that of its entry
named_is : {A : Type 0} (spelled : A → Word) (table : List (Word × A)) → AllByRecursion (λ entry. entry.0 ≡ spelled entry.1) table → (word : Word) (a : A) → lookup (bytes_eq word) table ≡ Some a → word ≡ spelled a
named_is spelled [] all word a e = absurd cc
named_is spelled (entry ∷ table) all word a e = first_or_rest (bytes_eq word entry.0) entry.1 (lookup (bytes_eq word) table) a (word ≡ spelled a)
    (λ is chosen. is_bytes word entry.0 is ∙ all.0 ∙ ap spelled chosen) (λ later. named_is spelled table all.1 word a later) e

abbrev pub filter_word : FilterOpener → Word
filter_word filter.All = codes "all"
filter_word filter.Exact = codes "exact"
filter_word filter.Range = codes "range"
filter_word filter.Func = codes "func"

abbrev pub item_word : ItemOpener → Word
item_word item.Exact = codes "exact"
item_word item.Range = codes "range"

abbrev pub predicate_word : PredicateOpener → Word
predicate_word predicate.OneOf = codes "oneof"
predicate_word predicate.Prefix = codes "prefix"
predicate_word predicate.Modulo = codes "modulo"
predicate_word predicate.Not = codes "not"
predicate_word predicate.And = codes "and"
predicate_word predicate.Or = codes "or"

pub filter_opener_is : (word : Word) (o : FilterOpener) → filter_opener_of word ≡ Some o → word ≡ filter_word o
filter_opener_is = named_is filter_word filter_openers (refl, (refl, (refl, (refl, tt))))

pub item_opener_is : (word : Word) (o : ItemOpener) → item_opener_of word ≡ Some o → word ≡ item_word o
item_opener_is = named_is item_word item_openers (refl, (refl, tt))

pub opener_is : (word : Word) (o : PredicateOpener) → predicate_opener_of word ≡ Some o → word ≡ predicate_word o
opener_is = named_is predicate_word predicate_openers (refl, (refl, (refl, (refl, (refl, (refl, tt))))))

pub is_end_is : (words : List Word) → is_end words ≡ true → words ≡ codes "end" ∷ drop 1 words
is_end_is [] is = absurd cc
is_end_is (word ∷ words) is = ap (λ (w : Word). w ∷ words) (is_bytes word (codes "end") is)

-- a word that is taken from the front
pub word_ok : (words rest : List Word) (word : Word) → word_at words ≡ Ok (word, rest) → words ≡ word ∷ rest
word_ok [] rest word e = absurd cc
word_ok (first ∷ words) rest word e = ap (λ (p : Word × List Word). p.0 ∷ p.1) (ok_is (first, words) (word, rest) e)
