-- What a reading gives depends on the words up to the end of what it reads, or up to the bad word, and on no other.
use Rattle.std.proofs.Common.{◌≡◌, ◌∙◌, ℕ, zero, suc, ◌-◌, ◌<◌, ◌≤◌, Bool, true, false, pos, List, [], ◌∷◌, ◌++◌, length, drop, codes, Option, Some, None, Result, Ok, Err, refl, sym, ap, append_assoc, length-append, bytes_eq, arith}
use Rattle.xf_filter.specs.Words.{Word, item_words, filter_opener_of, item_opener_of, predicate_opener_of, divisor_of, remainder_of}
use Rattle.xf_filter.specs.Spelling.{first_of}
use Rattle.xf_filter.specs.Reading.{◌>>=◌, known, known_at, word_at, is_end, item_behind, item_at, items_at, with_front, one_of_at, prefix_at, modulo_at, not_at, two_at, behind, predicate_at, filter_behind, filter_at}
use Rattle.xf_filter.specs.declared.filter_syntax.Fault.{Fault}
use Rattle.xf_filter.specs.declared.filter_syntax.Fault.TheVariants as fault
use Rattle.xf_filter.specs.declared.opener.FilterOpener.{FilterOpener}
use Rattle.xf_filter.specs.declared.opener.FilterOpener.TheVariants as filter
use Rattle.xf_filter.specs.declared.opener.ItemOpener.{ItemOpener}
use Rattle.xf_filter.specs.declared.opener.ItemOpener.TheVariants as item
use Rattle.xf_filter.specs.declared.opener.PredicateOpener.{PredicateOpener}
use Rattle.xf_filter.specs.declared.opener.PredicateOpener.TheVariants as predicate
use Rattle.xf_filter.specs.declared.raw_filter.RawFilterParts.TheVariants as form
use Rattle.xf_filter.specs.declared.raw_filter.RawItemParts.{RawItemParts}
use Rattle.xf_filter.specs.declared.raw_filter.RawItemParts.TheVariants as named
use Rattle.xf_filter.specs.declared.raw_filter.RawPredicate.{RawPredicate}
use Rattle.xf_filter.specs.declared.raw_filter.RawPredicate.TheVariants as raw
use Rattle.xf_filter.proofs.Again.{has_words, no_end}
use Rattle.xf_filter.proofs.Found.{item_found}
use Rattle.xf_filter.proofs.Items.{items_next, items_fault, items_done}
use Rattle.xf_filter.proofs.Steps.{bind_ok, ok_is, err_is, fails_not, no_answer, some_is, is_end_is}

-- a reading of words
abbrev pub Reads : Type 0 → Type 0
Reads A = List Word → Result (A × List Word) Fault

-- what is read is read from the front, whatever follows
pub record Takes {A : Type 0} (reads : Reads A) (words rest : List Word) (a : A) : Type 0 where
  pub taken : List Word
  pub words_are : words ≡ taken ++ rest
  pub again : (other : List Word) → reads (taken ++ other) ≡ Ok (a, other)

-- a word is bad behind the words before it, whatever follows it
pub record Stops {A : Type 0} (reads : Reads A) (words : List Word) (left : ℕ) : Type 0 where
  pub front : List Word
  pub rest : List Word
  pub words_are : words ≡ front ++ rest
  pub left_is : length rest ≡ left
  pub again : (other : List Word) → first_of other ≡ first_of rest → reads (front ++ other) ≡ Err (fault.BadWord (length other))

pub record IsLocal {A : Type 0} (reads : Reads A) : Type 0 where
  pub takes : (words rest : List Word) (a : A) → reads words ≡ Ok (a, rest) → Takes reads words rest a
  pub stops : (words : List Word) (left : ℕ) → reads words ≡ Err (fault.BadWord left) → Stops reads words left

abbrev pub bad : {A : Type 0} → ℕ → Result A Fault
bad left = Err (fault.BadWord left)

pub bad_is : {A : Type 0} (m n : ℕ) → bad {A = A} m ≡ bad n → m ≡ n
bad_is m n e = cc

abbrev pub failed_deep : {A : Type 0} → List Word → Result A Fault
failed_deep words = Err (fault.TooDeep (length words))

abbrev deep : {A : Type 0} → ℕ → Result A Fault
deep left = Err (fault.TooDeep left)

pub deep_bad : {A : Type 0} (m n : ℕ) → deep {A = A} m ≡ bad n → ⊥
deep_bad m n e = cc

-- ---- one word

none_again : {A : Type 0} (knows : Word → Option A) (word : Word) (other : List Word) → knows word ≡ None → first_of other ≡ Some word → known_at knows other ≡ Err (fault.BadWord (length other))
none_again knows word [] is same = absurd cc
none_again knows word (first ∷ other) is same =
    let none : knows first ≡ None = ap knows (some_is first word same) ∙ is in
    rw none refl

known_takes : {A : Type 0} (knows : Word → Option A) (word : Word) (words rest : List Word) (a : A) (o : Option A) → knows word ≡ o → known o (word ∷ words) words ≡ Ok (a, rest) → Takes (known_at knows) (word ∷ words) rest a
known_takes knows word words rest a None is e = absurd cc
known_takes {A = A} knows word words rest a (Some b) is e =
    let pair = ok_is (b, words) (a, rest) e in
    record {
      taken = word ∷ [];
      words_are = ap (λ (p : A × List Word). word ∷ p.1) pair;
      again = λ other. rw is (ap (λ (p : A × List Word). Ok (p.0, other)) pair);
    }

known_stops : {A : Type 0} (knows : Word → Option A) (word : Word) (words : List Word) (left : ℕ) (o : Option A) → knows word ≡ o → known o (word ∷ words) words ≡ bad left → Stops (known_at knows) (word ∷ words) left
known_stops knows word words left (Some b) is e = absurd cc
known_stops {A = A} knows word words left None is e = record {
  front = [];
  rest = word ∷ words;
  words_are = refl;
  left_is = bad_is {A = A × List Word} (length (word ∷ words)) left e;
  again = λ other same. none_again knows word other is same;
}

wanting : {A : Type 0} (knows : Word → Option A) (other : List Word) → first_of other ≡ None → known_at knows other ≡ Err (fault.BadWord (length other))
wanting knows [] same = refl
wanting knows (word ∷ other) same = absurd cc

known_takes_any : {A : Type 0} (knows : Word → Option A) (words rest : List Word) (a : A) → known_at knows words ≡ Ok (a, rest) → Takes (known_at knows) words rest a
known_takes_any knows [] rest a e = absurd cc
known_takes_any knows (word ∷ words) rest a e = known_takes knows word words rest a (knows word) refl e

known_stops_any : {A : Type 0} (knows : Word → Option A) (words : List Word) (left : ℕ) → known_at knows words ≡ bad left → Stops (known_at knows) words left
known_stops_any {A = A} knows [] left e = record { front = []; rest = []; words_are = refl; left_is = bad_is {A = A × List Word} 0 left e; again = λ other same. wanting knows other same }
known_stops_any knows (word ∷ words) left e = known_stops knows word words left (knows word) refl e

pub local_known : {A : Type 0} (knows : Word → Option A) → IsLocal (known_at knows)
local_known knows = record { takes = known_takes_any knows; stops = known_stops_any knows }

-- ---- one reading behind another

pub local_done : {A : Type 0} (a : A) → IsLocal (λ words. Ok (a, words))
local_done {A = A} a = record {
  takes = λ words rest b e.
      let pair = ok_is (a, words) (b, rest) e in
      record { taken = []; words_are = ap (λ (p : A × List Word). p.1) pair; again = λ other. ap (λ (p : A × List Word). Ok (p.0, other)) pair };
  stops = λ words left e. absurd cc;
}

abbrev pub then_reads : {A B : Type 0} → Reads A → (A → Reads B) → Reads B
then_reads reads more words = reads words >>= λ x. more x.0 x.1

then_stops : {A B : Type 0} (reads : Reads A) (more : A → Reads B) → IsLocal reads → ((x : A) → IsLocal (more x)) → (words : List Word) (left : ℕ) (read : Result (A × List Word) Fault) → reads words ≡ read
    → (read >>= λ x. more x.0 x.1) ≡ bad left → Stops (then_reads reads more) words left
then_stops reads more local locals words left (Err f) is e =
    let u = local.stops words left (is ∙ ap (λ (g : Fault). Err g) (err_is f (fault.BadWord left) e)) in
    record { front = u.front; rest = u.rest; words_are = u.words_are; left_is = u.left_is; again = λ other same. rw (u.again other same) refl }
then_stops reads more local locals words left (Ok x) is e =
    let t = local.takes words x.1 x.0 is in
    let u = (locals x.0).stops x.1 left e in
    record {
      front = t.taken ++ u.front;
      rest = u.rest;
      words_are = t.words_are ∙ ap (λ (ws : List Word). t.taken ++ ws) u.words_are ∙ sym (append_assoc t.taken u.front u.rest);
      left_is = u.left_is;
      again = λ other same. ap (then_reads reads more) (append_assoc t.taken u.front other) ∙ rw (t.again (u.front ++ other)) (u.again other same);
    }

pub local_then : {A B : Type 0} (reads : Reads A) (more : A → Reads B) → IsLocal reads → ((x : A) → IsLocal (more x)) → IsLocal (then_reads reads more)
local_then reads more local locals = record {
  takes = λ words rest b e.
      let s = bind_ok (reads words) (λ x. more x.0 x.1) (b, rest) e in
      let t = local.takes words s.0.1 s.0.0 s.1 in
      let u = (locals s.0.0).takes s.0.1 rest b s.2 in
      record {
        taken = t.taken ++ u.taken;
        words_are = t.words_are ∙ ap (λ (ws : List Word). t.taken ++ ws) u.words_are ∙ sym (append_assoc t.taken u.taken rest);
        again = λ other. ap (then_reads reads more) (append_assoc t.taken u.taken other) ∙ rw (t.again (u.taken ++ other)) (u.again other);
      };
  stops = λ words left e. then_stops reads more local locals words left (reads words) refl e;
}

-- a reading that ends in a predicate too deep
deep_stops : {A B : Type 0} (reads : Reads A) → IsLocal reads → (words : List Word) (left : ℕ) (read : Result (A × List Word) Fault) → reads words ≡ read
    → (read >>= λ x. failed_deep {A = B × List Word} words) ≡ bad left → Stops {A = B} (λ words. reads words >>= λ x. failed_deep words) words left
deep_stops {B = B} reads local words left (Ok x) is e = absurd (deep_bad {A = B × List Word} (length words) left e)
deep_stops reads local words left (Err f) is e =
    let u = local.stops words left (is ∙ ap (λ (g : Fault). Err g) (err_is f (fault.BadWord left) e)) in
    record { front = u.front; rest = u.rest; words_are = u.words_are; left_is = u.left_is; again = λ other same. rw (u.again other same) refl }

pub local_deep : {A B : Type 0} (reads : Reads A) → IsLocal reads → IsLocal {A = B} (λ words. reads words >>= λ x. failed_deep words)
local_deep reads local = record {
  takes = λ words rest b e.
      let s = bind_ok (reads words) (λ x. failed_deep words) (b, rest) e in
      absurd (fails_not (fault.TooDeep (length words)) (b, rest) s.2);
  stops = λ words left e. deep_stops reads local words left (reads words) refl e;
}

-- ---- items

local_item_behind : (o : ItemOpener) → IsLocal (item_behind o)
unfolding item_behind
local_item_behind item.Exact = local_then word_at (λ key words. Ok (named.Exact key, words)) (local_known Some) (λ key. local_done (named.Exact key))
local_item_behind item.Range =
    local_then word_at (λ low. then_reads word_at (λ high words. Ok (named.Range low high, words))) (local_known Some)
    (λ low. local_then word_at (λ high words. Ok (named.Range low high, words)) (local_known Some) (λ high. local_done (named.Range low high)))

pub local_item : IsLocal item_at
unfolding item_at
local_item = local_then (known_at item_opener_of) item_behind (local_known item_opener_of) local_item_behind

-- ---- lists of items

pub item_shorter : (words after : List Word) (i : RawItemParts) → item_at words ≡ Ok (i, after) → length after < length words
item_shorter words after i e = omega (arith, ap length (item_found words after i e), length-append (item_words i) after, has_words i)

item_no_end : (words after : List Word) (i : RawItemParts) → item_at words ≡ Ok (i, after) → is_end words ≡ false
item_no_end words after i e = ap is_end (item_found words after i e) ∙ no_end i after

abbrev SameBelow : List Word → Type 0
SameBelow words = (after : List Word) → length after < length words → (m n : ℕ) → length after ≤ m → length after ≤ n → items_at m after ≡ items_at n after

most_same_by : (m n : ℕ) (words : List Word) (ended : Bool) (read : Result (RawItemParts × List Word) Fault) → is_end words ≡ ended → item_at words ≡ read → SameBelow words
    → length words ≤ m → length words ≤ n → items_at m words ≡ items_at n words
most_same_by m n words true read is e below few less = items_done m words few is ∙ sym (items_done n words less is)
most_same_by m n words false (Err f) is e below few less = items_fault m words f few is e ∙ sym (items_fault n words f less is e)
most_same_by m n words false (Ok x) is e below few less =
    let shorter = item_shorter words x.1 x.0 e in
    items_next m words x.1 x.0 few is e ∙ ap (with_front (x.0 ∷ [])) (below x.1 shorter (m - 1) (n - 1) (omega (arith, shorter)) (omega (arith, shorter))) ∙ sym (items_next n words x.1 x.0 less is e)

most_same : (k : ℕ) (words : List Word) → length words ≤ k → (m n : ℕ) → length words ≤ m → length words ≤ n → items_at m words ≡ items_at n words
most_same zero words short m n few less =
    most_same_by m n words (is_end words) (item_at words) refl refl (λ after shorter i j a b. absurd (omega (arith, short, shorter))) few less
most_same (suc k) words short m n few less =
    most_same_by m n words (is_end words) (item_at words) refl refl (λ after shorter i j a b. most_same k after (omega (arith, short, shorter)) i j a b) few less

-- as many items as there are words
abbrev pub all_items : Reads (List RawItemParts)
all_items words = items_at (length words) words

pub all_done : (words : List Word) → is_end words ≡ true → all_items words ≡ Ok ([], drop 1 words)
all_done words is = items_done (length words) words (omega arith) is

pub all_fault : (words : List Word) (f : Fault) → is_end words ≡ false → item_at words ≡ Err f → all_items words ≡ Err f
all_fault words f is e = items_fault (length words) words f (omega arith) is e

pub all_next : (words after : List Word) (i : RawItemParts) → is_end words ≡ false → item_at words ≡ Ok (i, after) → all_items words ≡ with_front (i ∷ []) (all_items after)
all_next words after i is e =
    let shorter = item_shorter words after i e in
    items_next (length words) words after i (omega arith) is e ∙ ap (with_front (i ∷ [])) (most_same (length after) after (omega arith) (length words - 1) (length after) (omega (arith, shorter)) (omega arith))

takes_by : (words rest : List Word) (items : List RawItemParts) (ended : Bool) (read : Result (RawItemParts × List Word) Fault) → is_end words ≡ ended → item_at words ≡ read
    → ((after rest : List Word) (items : List RawItemParts) → length after < length words → all_items after ≡ Ok (items, rest) → Takes all_items after rest items)
    → all_items words ≡ Ok (items, rest) → Takes all_items words rest items
takes_by words rest items true read is e below h =
    let pair = ok_is ([], drop 1 words) (items, rest) (sym (all_done words is) ∙ h) in
    record {
      taken = codes "end" ∷ [];
      words_are = is_end_is words is ∙ ap (λ (p : List RawItemParts × List Word). codes "end" ∷ p.1) pair;
      again = λ other. all_done (codes "end" ∷ other) refl ∙ ap (λ (p : List RawItemParts × List Word). Ok (p.0, other)) pair;
    }
takes_by words rest items false (Err f) is e below h = absurd (no_answer (all_items words) (items, rest) f h (all_fault words f is e))
takes_by words rest items false (Ok x) is e below h =
    let s = bind_ok (all_items x.1) (λ others. Ok (x.0 ∷ [] ++ others.0, others.1)) (items, rest) (sym (all_next words x.1 x.0 is e) ∙ h) in
    let pair = ok_is (x.0 ∷ s.0.0, s.0.1) (items, rest) s.2 in
    let t = local_item.takes words x.1 x.0 e in
    let u = below x.1 s.0.1 s.0.0 (item_shorter words x.1 x.0 e) s.1 in
    record {
      taken = t.taken ++ u.taken;
      words_are = t.words_are ∙ ap (λ (ws : List Word). t.taken ++ ws) (u.words_are ∙ ap (λ (p : List RawItemParts × List Word). u.taken ++ p.1) pair) ∙ sym (append_assoc t.taken u.taken rest);
      again = λ other.
          let read = t.again (u.taken ++ other) in
          ap all_items (append_assoc t.taken u.taken other) ∙ all_next (t.taken ++ (u.taken ++ other)) (u.taken ++ other) x.0 (item_no_end (t.taken ++ (u.taken ++ other)) (u.taken ++ other) x.0 read) read
          ∙ ap (with_front (x.0 ∷ [])) (u.again other) ∙ ap (λ (p : List RawItemParts × List Word). Ok (p.0, other)) pair;
    }

all_takes : (k : ℕ) (words rest : List Word) (items : List RawItemParts) → length words ≤ k → all_items words ≡ Ok (items, rest) → Takes all_items words rest items
all_takes zero words rest items short h =
    takes_by words rest items (is_end words) (item_at words) refl refl (λ after r is shorter e. absurd (omega (arith, short, shorter))) h
all_takes (suc k) words rest items short h =
    takes_by words rest items (is_end words) (item_at words) refl refl (λ after r is shorter e. all_takes k after r is (omega (arith, short, shorter)) e) h

-- whether the list ends is told by the first word
end_first : (words more : List Word) → first_of words ≡ first_of more → is_end words ≡ is_end more
end_first [] [] same = refl
end_first [] (word ∷ more) same = absurd cc
end_first (word ∷ words) [] same = absurd cc
end_first (word ∷ words) (first ∷ more) same = ap (λ (w : Word). bytes_eq w (codes "end")) (some_is word first same)

first_behind : (front other rest : List Word) → first_of other ≡ first_of rest → first_of (front ++ other) ≡ first_of (front ++ rest)
first_behind [] other rest same = same
first_behind (word ∷ front) other rest same = refl

pub front_bad : (items : List RawItemParts) (read : Result (List RawItemParts × List Word) Fault) (left : ℕ) → with_front items read ≡ bad left → read ≡ bad left
front_bad items (Ok x) left e = absurd cc
front_bad items (Err f) left e = ap (λ (g : Fault). Err g) (err_is f (fault.BadWord left) e)

stops_by : (words : List Word) (left : ℕ) (ended : Bool) (read : Result (RawItemParts × List Word) Fault) → is_end words ≡ ended → item_at words ≡ read
    → ((after : List Word) (left : ℕ) → length after < length words → all_items after ≡ bad left → Stops all_items after left)
    → all_items words ≡ bad left → Stops all_items words left
stops_by words left true read is e below h = absurd (no_answer (all_items words) ([], drop 1 words) (fault.BadWord left) (all_done words is) h)
stops_by words left false (Err f) is e below h =
    let t = local_item.stops words left (e ∙ ap (λ (g : Fault). Err g) (err_is f (fault.BadWord left) (sym (all_fault words f is e) ∙ h))) in
    record {
      front = t.front;
      rest = t.rest;
      words_are = t.words_are;
      left_is = t.left_is;
      again = λ other same.
          let goes : is_end (t.front ++ other) ≡ false = end_first (t.front ++ other) (t.front ++ t.rest) (first_behind t.front other t.rest same) ∙ ap is_end (sym t.words_are) ∙ is in
          all_fault (t.front ++ other) (fault.BadWord (length other)) goes (t.again other same);
    }
stops_by words left false (Ok x) is e below h =
    let t = local_item.takes words x.1 x.0 e in
    let u = below x.1 left (item_shorter words x.1 x.0 e) (front_bad (x.0 ∷ []) (all_items x.1) left (sym (all_next words x.1 x.0 is e) ∙ h)) in
    record {
      front = t.taken ++ u.front;
      rest = u.rest;
      words_are = t.words_are ∙ ap (λ (ws : List Word). t.taken ++ ws) u.words_are ∙ sym (append_assoc t.taken u.front u.rest);
      left_is = u.left_is;
      again = λ other same.
          let read = t.again (u.front ++ other) in
          ap all_items (append_assoc t.taken u.front other) ∙ all_next (t.taken ++ (u.front ++ other)) (u.front ++ other) x.0 (item_no_end (t.taken ++ (u.front ++ other)) (u.front ++ other) x.0 read) read
          ∙ ap (with_front (x.0 ∷ [])) (u.again other same);
    }

all_stops : (k : ℕ) (words : List Word) (left : ℕ) → length words ≤ k → all_items words ≡ bad left → Stops all_items words left
all_stops zero words left short h = stops_by words left (is_end words) (item_at words) refl refl (λ after l shorter e. absurd (omega (arith, short, shorter))) h
all_stops (suc k) words left short h = stops_by words left (is_end words) (item_at words) refl refl (λ after l shorter e. all_stops k after l (omega (arith, short, shorter)) e) h

local_items : IsLocal all_items
local_items = record {
  takes = λ words rest items e. all_takes (length words) words rest items (omega arith) e;
  stops = λ words left e. all_stops (length words) words left (omega arith) e;
}

-- ---- predicates

local_one_of : IsLocal one_of_at
unfolding one_of_at
local_one_of =
    local_then item_at (λ first. then_reads (then_reads all_items (λ others words. Ok (first ∷ [] ++ others, words))) (λ items words. Ok (raw.OneOf items, words))) local_item
    (λ first. local_then (then_reads all_items (λ others words. Ok (first ∷ [] ++ others, words))) (λ items words. Ok (raw.OneOf items, words))
    (local_then all_items (λ others words. Ok (first ∷ [] ++ others, words)) local_items (λ others. local_done (first ∷ [] ++ others))) (λ items. local_done (raw.OneOf items)))

local_prefix : IsLocal prefix_at
unfolding prefix_at
local_prefix = local_then word_at (λ text words. Ok (raw.Prefix text, words)) (local_known Some) (λ text. local_done (raw.Prefix text))

local_modulo : IsLocal modulo_at
unfolding modulo_at
local_modulo =
    local_then (known_at divisor_of) (λ divisor. then_reads (known_at (remainder_of divisor)) (λ remainder words. Ok (raw.Modulo (pos divisor) (pos remainder), words))) (local_known divisor_of)
    (λ divisor. local_then (known_at (remainder_of divisor)) (λ remainder words. Ok (raw.Modulo (pos divisor) (pos remainder), words)) (local_known (remainder_of divisor))
    (λ remainder. local_done (raw.Modulo (pos divisor) (pos remainder))))

local_not : (inside : Reads RawPredicate) → IsLocal inside → IsLocal (not_at inside)
unfolding not_at
local_not inside local = local_then inside (λ inner words. Ok (raw.Not inner, words)) local (λ inner. local_done (raw.Not inner))

local_two : (inside : Reads RawPredicate) (join : RawPredicate → RawPredicate → RawPredicate) → IsLocal inside → IsLocal (two_at inside join)
unfolding two_at
local_two inside join local =
    local_then inside (λ first. then_reads inside (λ second words. Ok (join first second, words))) local
    (λ first. local_then inside (λ second words. Ok (join first second, words)) local (λ second. local_done (join first second)))

local_behind : (inside : Reads RawPredicate) → IsLocal inside → (o : PredicateOpener) → IsLocal (behind inside o)
local_behind inside local predicate.OneOf = local_one_of
local_behind inside local predicate.Prefix = local_prefix
local_behind inside local predicate.Modulo = local_modulo
local_behind inside local predicate.Not = local_not inside local
local_behind inside local predicate.And = local_two inside raw.And local
local_behind inside local predicate.Or = local_two inside raw.Or local

pub local_predicate : (depth : ℕ) → IsLocal (predicate_at depth)
unfolding predicate_at
local_predicate zero = local_deep (known_at predicate_opener_of) (local_known predicate_opener_of)
local_predicate (suc depth) = local_then (known_at predicate_opener_of) (behind (predicate_at depth)) (local_known predicate_opener_of) (local_behind (predicate_at depth) (local_predicate depth))

-- ---- filters

local_filter_behind : (o : FilterOpener) → IsLocal (filter_behind o)
unfolding filter_behind
local_filter_behind filter.All = local_done form.All
local_filter_behind filter.Exact = local_then word_at (λ key words. Ok (form.Exact key, words)) (local_known Some) (λ key. local_done (form.Exact key))
local_filter_behind filter.Range =
    local_then word_at (λ low. then_reads word_at (λ high words. Ok (form.Range low high, words))) (local_known Some)
    (λ low. local_then word_at (λ high words. Ok (form.Range low high, words)) (local_known Some) (λ high. local_done (form.Range low high)))
local_filter_behind filter.Func = local_then (predicate_at 16) (λ p words. Ok (form.Func p, words)) (local_predicate 16) (λ p. local_done (form.Func p))

pub local_filter : IsLocal filter_at
unfolding filter_at
local_filter = local_then (known_at filter_opener_of) filter_behind (local_known filter_opener_of) local_filter_behind
