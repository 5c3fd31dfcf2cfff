-- The words before a bad word begin a filter.
use Rattle.std.proofs.Common.{◌≡◌, ◌∙◌, ℕ, zero, suc, ◌<◌, ◌≤◌, Bool, true, false, pos, List, [], ◌∷◌, ◌++◌, length, drop, flat_map, codes, Option, Some, None, Result, Ok, Err, refl, sym, ap, subst, append_assoc, append-nil, arith}
use Rattle.xf_filter.specs.Words.{Word, item_words, filter_opener_of, item_opener_of, predicate_opener_of, divisor_of, remainder_of}
use Rattle.xf_filter.specs.Spelling.{Spells, oneof, prefix, modulo, negation, conjunction, disjunction, SpellsFilter, all, exact, range, func}
use Rattle.xf_filter.specs.Reading.{◌>>=◌, known, known_at, word_at, is_end, item_behind, item_at, with_front, one_of_at, prefix_at, modulo_at, not_at, two_at, behind, predicate_at, filter_behind, filter_at}
use Rattle.xf_filter.specs.declared.filter_syntax.Fault.{Fault}
use Rattle.xf_filter.specs.declared.filter_syntax.Fault.TheVariants as fault
use Rattle.xf_filter.specs.declared.opener.FilterOpener.{FilterOpener}
use Rattle.xf_filter.specs.declared.opener.FilterOpener.TheVariants as filter
use Rattle.xf_filter.specs.declared.opener.ItemOpener.{ItemOpener}
use Rattle.xf_filter.specs.declared.opener.ItemOpener.TheVariants as item
use Rattle.xf_filter.specs.declared.opener.PredicateOpener.{PredicateOpener}
use Rattle.xf_filter.specs.declared.opener.PredicateOpener.TheVariants as predicate
use Rattle.xf_filter.specs.declared.raw_filter.RawFilterParts.{RawFilterParts}
use Rattle.xf_filter.specs.declared.raw_filter.RawFilterParts.TheVariants as form
use Rattle.xf_filter.specs.declared.raw_filter.RawItemParts.{RawItemParts}
use Rattle.xf_filter.specs.declared.raw_filter.RawItemParts.TheVariants as named
use Rattle.xf_filter.specs.declared.raw_filter.RawPredicate.{RawPredicate}
use Rattle.xf_filter.specs.declared.raw_filter.RawPredicate.TheVariants as raw
use Rattle.xf_filter.proofs.Found.{item_found, items_words, predicate_found}
use Rattle.xf_filter.proofs.CountWords.{zero_remains}
use Rattle.xf_filter.proofs.Local.{Reads, then_reads, bad, bad_is, deep_bad, failed_deep, all_items, all_done, all_fault, all_next, item_shorter, front_bad}
use Rattle.xf_filter.proofs.Steps.{err_is, no_answer, some_is, known_ok, filter_word, item_word, predicate_word, filter_opener_is, item_opener_is, opener_is}

-- what is spelled, and by which words
abbrev pub Grammar : Type 0 → Type 1
Grammar A = A → List Word → Type 0

-- the words before those that are left begin the words of something
pub record Begun {A : Type 0} (spells : Grammar A) (words : List Word) (left : ℕ) : Type 0 where
  pub front : List Word
  pub rest : List Word
  pub words_are : words ≡ front ++ rest
  pub left_is : length rest ≡ left
  pub value : A
  pub more : List Word
  pub spelled : spells value (front ++ more)

abbrev pub Begins : {A : Type 0} → Grammar A → Reads A → Type 0
Begins spells reads = (words : List Word) (left : ℕ) → reads words ≡ bad left → Begun spells words left

-- what is read is spelled by the words that it takes
abbrev Taken : {A : Type 0} → Grammar A → Reads A → Type 0
Taken {A = A} spells reads = (words rest : List Word) (a : A) → reads words ≡ Ok (a, rest) → (taken : List Word) × (words ≡ taken ++ rest) × spells a taken

-- ---- one reading behind another

then_begun : {A B : Type 0} (reads : Reads A) (more : A → Reads B) (first : Grammar A) (both : Grammar B) → Taken first reads → Begins first reads
    → ((x : A) (u : List Word) → first x u → Begins (λ b v. both b (u ++ v)) (more x))
    → ((x : A) (u : List Word) → first x u → (b : B) × (v : List Word) × both b (u ++ v))
    → (words : List Word) (left : ℕ) (read : Result (A × List Word) Fault) → reads words ≡ read → (read >>= λ x. more x.0 x.1) ≡ bad left → Begun both words left
then_begun {B = B} reads more first both taken begins inner completes words left (Err f) is e =
    let g = begins words left (is ∙ ap (λ (h : Fault). Err h) (err_is {A = B × List Word} f (fault.BadWord left) e)) in
    let c = completes g.value (g.front ++ g.more) g.spelled in
    record {
      front = g.front;
      rest = g.rest;
      words_are = g.words_are;
      left_is = g.left_is;
      value = c.0;
      more = g.more ++ c.1;
      spelled = subst (λ (ws : List Word). both c.0 ws) (append_assoc g.front g.more c.1) c.2;
    }
then_begun reads more first both taken begins inner completes words left (Ok x) is e =
    let t = taken words x.1 x.0 is in
    let g = inner x.0 t.0 t.2 x.1 left e in
    record {
      front = t.0 ++ g.front;
      rest = g.rest;
      words_are = t.1 ∙ ap (λ (ws : List Word). t.0 ++ ws) g.words_are ∙ sym (append_assoc t.0 g.front g.rest);
      left_is = g.left_is;
      value = g.value;
      more = g.more;
      spelled = subst (λ (ws : List Word). both g.value ws) (sym (append_assoc t.0 g.front g.more)) g.spelled;
    }

then_begins : {A B : Type 0} (reads : Reads A) (more : A → Reads B) (first : Grammar A) (both : Grammar B) → Taken first reads → Begins first reads
    → ((x : A) (u : List Word) → first x u → Begins (λ b v. both b (u ++ v)) (more x))
    → ((x : A) (u : List Word) → first x u → (b : B) × (v : List Word) × both b (u ++ v))
    → Begins both (then_reads reads more)
then_begins reads more first both taken begins inner completes words left e = then_begun reads more first both taken begins inner completes words left (reads words) refl e

-- where nothing can be bad
done_begins : {A : Type 0} (a : A) (spells : Grammar A) → Begins spells (λ words. Ok (a, words))
done_begins a spells words left e = absurd cc

-- ---- one word

abbrev One : {A : Type 0} → (Word → Option A) → Grammar A
One knows a words = (word : Word) × (words ≡ word ∷ []) × (knows word ≡ Some a)

one_taken : {A : Type 0} (knows : Word → Option A) → Taken (One knows) (known_at knows)
one_taken knows words rest a e =
    let k = known_ok knows words rest a e in
    (k.word ∷ [], k.words_are, (k.word, refl, k.knows_it))

known_left : {A : Type 0} (knows : Word → Option A) (word : Word) (words : List Word) (left : ℕ) (o : Option A) → known o (word ∷ words) words ≡ bad left → length (word ∷ words) ≡ left
known_left knows word words left (Some a) e = absurd cc
known_left {A = A} knows word words left None e = bad_is {A = A × List Word} (length (word ∷ words)) left e

one_left : {A : Type 0} (knows : Word → Option A) (words : List Word) (left : ℕ) → known_at knows words ≡ bad left → length words ≡ left
one_left {A = A} knows [] left e = bad_is {A = A × List Word} 0 left e
one_left knows (word ∷ words) left e = known_left knows word words left (knows word) e

one_begins : {A : Type 0} (knows : Word → Option A) (word : Word) (a : A) → knows word ≡ Some a → Begins (One knows) (known_at knows)
one_begins knows word a is words left e =
    record { front = []; rest = words; words_are = refl; left_is = one_left knows words left e; value = a; more = word ∷ []; spelled = (word, refl, is) }

-- a word, and then what any word completes
word_begins : {B : Type 0} (both : Grammar B) (more : Word → Reads B) → ((key : Word) → Begins (λ b v. both b (key ∷ v)) (more key)) → ((key : Word) → (b : B) × (v : List Word) × both b (key ∷ v)) → Begins both (then_reads word_at more)
word_begins {B = B} both more inner completes =
    then_begins word_at more (One Some) both (one_taken Some) (one_begins Some [] [] refl)
    (λ x u s. subst (λ (ws : List Word). Begins (λ b v. both b (ws ++ v)) (more x)) (sym (s.1 ∙ ap (λ (w : Word). w ∷ []) (some_is s.0 x s.2))) (inner x))
    (λ x u s. subst (λ (ws : List Word). (b : B) × (v : List Word) × both b (ws ++ v)) (sym (s.1 ∙ ap (λ (w : Word). w ∷ []) (some_is s.0 x s.2))) (completes x))

-- ---- items

abbrev Item : Grammar RawItemParts
Item i words = words ≡ item_words i

item_behind_begins : (o : ItemOpener) → Begins (λ i v. Item i (item_word o ∷ v)) (item_behind o)
unfolding item_behind
item_behind_begins item.Exact =
    word_begins (λ i v. Item i (codes "exact" ∷ v)) (λ key words. Ok (named.Exact key, words)) (λ key. done_begins (named.Exact key) _) (λ key. (named.Exact key, [], refl))
item_behind_begins item.Range =
    word_begins (λ i v. Item i (codes "range" ∷ v)) (λ low. then_reads word_at (λ high words. Ok (named.Range low high, words)))
    (λ low. word_begins (λ i v. Item i (codes "range" ∷ low ∷ v)) (λ high words. Ok (named.Range low high, words)) (λ high. done_begins (named.Range low high) _) (λ high. (named.Range low high, [], refl)))
    (λ low. (named.Range low [], [] ∷ [], refl))

item_completes : (o : ItemOpener) → (i : RawItemParts) × (v : List Word) × Item i (item_word o ∷ v)
item_completes item.Exact = (named.Exact [], [] ∷ [], refl)
item_completes item.Range = (named.Range [] [], [] ∷ [] ∷ [], refl)

item_begins : Begins Item item_at
unfolding item_at
item_begins =
    then_begins (known_at item_opener_of) item_behind (One item_opener_of) Item (one_taken item_opener_of) (one_begins item_opener_of (codes "exact") item.Exact refl)
    (λ o u s. subst (λ (ws : List Word). Begins (λ i v. Item i (ws ++ v)) (item_behind o)) (sym (s.1 ∙ ap (λ (w : Word). w ∷ []) (item_opener_is s.0 o s.2))) (item_behind_begins o))
    (λ o u s. subst (λ (ws : List Word). (i : RawItemParts) × (v : List Word) × Item i (ws ++ v)) (sym (s.1 ∙ ap (λ (w : Word). w ∷ []) (item_opener_is s.0 o s.2))) (item_completes o))

item_taken : Taken Item item_at
item_taken words rest i e = (item_words i, item_found words rest i e, refl)

-- items and the word `end`
abbrev Listed : Grammar (List RawItemParts)
Listed items words = words ≡ flat_map item_words items ++ codes "end" ∷ []

listed_more : (i : RawItemParts) (items : List RawItemParts) (words : List Word) → Listed items words → Listed (i ∷ items) (item_words i ++ words)
listed_more i items words is = ap (λ (ws : List Word). item_words i ++ ws) is ∙ sym (items_words i items (codes "end" ∷ []))

begun_by : (words : List Word) (left : ℕ) (ended : Bool) (read : Result (RawItemParts × List Word) Fault) → is_end words ≡ ended → item_at words ≡ read
    → ((after : List Word) (left : ℕ) → length after < length words → all_items after ≡ bad left → Begun Listed after left)
    → all_items words ≡ bad left → Begun Listed words left
begun_by words left true read is e below h = absurd (no_answer (all_items words) ([], drop 1 words) (fault.BadWord left) (all_done words is) h)
begun_by words left false (Err f) is e below h =
    let g = item_begins words left (e ∙ ap (λ (k : Fault). Err k) (err_is {A = List RawItemParts × List Word} f (fault.BadWord left) (sym (all_fault words f is e) ∙ h))) in
    record {
      front = g.front;
      rest = g.rest;
      words_are = g.words_are;
      left_is = g.left_is;
      value = g.value ∷ [];
      more = g.more ++ codes "end" ∷ [];
      spelled = sym (append_assoc g.front g.more (codes "end" ∷ [])) ∙ ap (λ (ws : List Word). ws ++ codes "end" ∷ []) g.spelled ∙ listed_more g.value [] (codes "end" ∷ []) refl;
    }
begun_by words left false (Ok x) is e below h =
    let g = below x.1 left (item_shorter words x.1 x.0 e) (front_bad (x.0 ∷ []) (all_items x.1) left (sym (all_next words x.1 x.0 is e) ∙ h)) in
    record {
      front = item_words x.0 ++ g.front;
      rest = g.rest;
      words_are = item_found words x.1 x.0 e ∙ ap (λ (ws : List Word). item_words x.0 ++ ws) g.words_are ∙ sym (append_assoc (item_words x.0) g.front g.rest);
      left_is = g.left_is;
      value = x.0 ∷ g.value;
      more = g.more;
      spelled = append_assoc (item_words x.0) g.front g.more ∙ listed_more x.0 g.value (g.front ++ g.more) g.spelled;
    }

listed_begun : (k : ℕ) (words : List Word) (left : ℕ) → length words ≤ k → all_items words ≡ bad left → Begun Listed words left
listed_begun zero words left short h = begun_by words left (is_end words) (item_at words) refl refl (λ after l shorter e. absurd (omega (arith, short, shorter))) h
listed_begun (suc k) words left short h = begun_by words left (is_end words) (item_at words) refl refl (λ after l shorter e. listed_begun k after l (omega (arith, short, shorter)) e) h

listed_begins : Begins Listed all_items
listed_begins words left h = listed_begun (length words) words left (omega arith) h

-- ---- predicates

listed_oneof : (first : RawItemParts) (items : List RawItemParts) (words : List Word) → Listed items words → Spells (raw.OneOf (first ∷ items)) (codes "oneof" ∷ (item_words first ++ words))
listed_oneof first items words is = subst (λ (ws : List Word). Spells (raw.OneOf (first ∷ items)) (codes "oneof" ∷ ws)) (sym (listed_more first items words is)) (oneof first items)

abbrev others_at : RawItemParts → Reads RawPredicate
others_at first = then_reads (then_reads all_items (λ others words. Ok (first ∷ [] ++ others, words))) (λ items words. Ok (raw.OneOf items, words))

abbrev one_of : List RawItemParts × List Word → Result (RawPredicate × List Word) Fault
one_of items = Ok (raw.OneOf items.0, items.1)

others_bad : (first : RawItemParts) (read : Result (List RawItemParts × List Word) Fault) (left : ℕ) → (with_front (first ∷ []) read >>= one_of) ≡ bad left → read ≡ bad left
others_bad first (Ok x) left e = absurd cc
others_bad first (Err f) left e = ap (λ (g : Fault). Err g) (err_is {A = RawPredicate × List Word} f (fault.BadWord left) e)

others_begin : (first : RawItemParts) (u : List Word) → Item first u → Begins (λ p v. Spells p (codes "oneof" ∷ (u ++ v))) (others_at first)
others_begin first u s words left e =
    let g = listed_begins words left (others_bad first (all_items words) left e) in
    record {
      front = g.front;
      rest = g.rest;
      words_are = g.words_are;
      left_is = g.left_is;
      value = raw.OneOf (first ∷ g.value);
      more = g.more;
      spelled = subst (λ (ws : List Word). Spells (raw.OneOf (first ∷ g.value)) (codes "oneof" ∷ (ws ++ (g.front ++ g.more)))) (sym s) (listed_oneof first g.value (g.front ++ g.more) g.spelled);
    }

one_of_begins : Begins (λ p v. Spells p (codes "oneof" ∷ v)) one_of_at
unfolding one_of_at
one_of_begins =
    then_begins item_at others_at Item (λ p v. Spells p (codes "oneof" ∷ v)) item_taken item_begins others_begin
    (λ first u s. (raw.OneOf (first ∷ []), codes "end" ∷ [], subst (λ (ws : List Word). Spells (raw.OneOf (first ∷ [])) (codes "oneof" ∷ (ws ++ codes "end" ∷ []))) (sym s) (listed_oneof first [] (codes "end" ∷ []) refl)))

prefix_begins : Begins (λ p v. Spells p (codes "prefix" ∷ v)) prefix_at
unfolding prefix_at
prefix_begins = word_begins (λ p v. Spells p (codes "prefix" ∷ v)) (λ text words. Ok (raw.Prefix text, words)) (λ key. done_begins (raw.Prefix key) _) (λ key. (raw.Prefix key, [], prefix key))

abbrev remainder_at : ℕ → Reads RawPredicate
remainder_at divisor = then_reads (known_at (remainder_of divisor)) (λ remainder words. Ok (raw.Modulo (pos divisor) (pos remainder), words))

remainder_begins : (m : Word) (divisor : ℕ) → divisor_of m ≡ Some divisor → Begins (λ p v. Spells p (codes "modulo" ∷ m ∷ v)) (remainder_at divisor)
remainder_begins m divisor is =
    then_begins (known_at (remainder_of divisor)) (λ remainder words. Ok (raw.Modulo (pos divisor) (pos remainder), words)) (One (remainder_of divisor)) (λ p v. Spells p (codes "modulo" ∷ m ∷ v))
    (one_taken (remainder_of divisor)) (one_begins (remainder_of divisor) (codes "0") 0 (zero_remains m divisor is)) (λ r u s. done_begins (raw.Modulo (pos divisor) (pos r)) _)
    (λ r u s. (raw.Modulo (pos divisor) (pos r), [], subst (λ (ws : List Word). Spells (raw.Modulo (pos divisor) (pos r)) (codes "modulo" ∷ m ∷ (ws ++ []))) (sym s.1) (modulo m s.0 divisor r is s.2)))

modulo_begins : Begins (λ p v. Spells p (codes "modulo" ∷ v)) modulo_at
unfolding modulo_at
modulo_begins =
    then_begins (known_at divisor_of) remainder_at (One divisor_of) (λ p v. Spells p (codes "modulo" ∷ v)) (one_taken divisor_of) (one_begins divisor_of (codes "1") 1 refl)
    (λ divisor u s. subst (λ (ws : List Word). Begins (λ p v. Spells p (codes "modulo" ∷ (ws ++ v))) (remainder_at divisor)) (sym s.1) (remainder_begins s.0 divisor s.2))
    (λ divisor u s. (
      raw.Modulo (pos divisor) (pos 0),
      codes "0" ∷ [],
      subst (λ (ws : List Word). Spells (raw.Modulo (pos divisor) (pos 0)) (codes "modulo" ∷ (ws ++ codes "0" ∷ []))) (sym s.1) (modulo s.0 (codes "0") divisor 0 s.2 (zero_remains s.0 divisor s.2)),
    ))

not_begins : (inside : Reads RawPredicate) → Taken Spells inside → Begins Spells inside → Begins (λ p v. Spells p (codes "not" ∷ v)) (not_at inside)
unfolding not_at
not_begins inside taken begins =
    then_begins inside (λ inner words. Ok (raw.Not inner, words)) Spells (λ p v. Spells p (codes "not" ∷ v)) taken begins (λ inner u s. done_begins (raw.Not inner) _)
    (λ inner u s. (raw.Not inner, [], subst (λ (ws : List Word). Spells (raw.Not inner) (codes "not" ∷ ws)) (sym (append-nil u)) (negation inner u s)))

two_begins : (inside : Reads RawPredicate) (join : RawPredicate → RawPredicate → RawPredicate) (word : Word)
    → ((first second : RawPredicate) (words more : List Word) → Spells first words → Spells second more → Spells (join first second) (word ∷ words ++ more))
    → Taken Spells inside → Begins Spells inside → Begins (λ p v. Spells p (word ∷ v)) (two_at inside join)
unfolding two_at
two_begins inside join word makes taken begins =
    then_begins inside (λ first. then_reads inside (λ second words. Ok (join first second, words))) Spells (λ p v. Spells p (word ∷ v)) taken begins
    (λ first u s. then_begins inside (λ second words. Ok (join first second, words)) Spells (λ p v. Spells p (word ∷ (u ++ v))) taken begins (λ second w t. done_begins (join first second) _)
    (λ second w t. (join first second, [], subst (λ (ws : List Word). Spells (join first second) (word ∷ (u ++ ws))) (sym (append-nil w)) (makes first second u w s t))))
    (λ first u s. (join first (raw.Prefix []), codes "prefix" ∷ [] ∷ [], makes first (raw.Prefix []) u (codes "prefix" ∷ [] ∷ []) s (prefix [])))

behind_begins : (inside : Reads RawPredicate) → Taken Spells inside → Begins Spells inside → (o : PredicateOpener) → Begins (λ p v. Spells p (predicate_word o ∷ v)) (behind inside o)
behind_begins inside taken begins predicate.OneOf = one_of_begins
behind_begins inside taken begins predicate.Prefix = prefix_begins
behind_begins inside taken begins predicate.Modulo = modulo_begins
behind_begins inside taken begins predicate.Not = not_begins inside taken begins
behind_begins inside taken begins predicate.And = two_begins inside raw.And (codes "and") conjunction taken begins
behind_begins inside taken begins predicate.Or = two_begins inside raw.Or (codes "or") disjunction taken begins

completes : (o : PredicateOpener) → (p : RawPredicate) × (v : List Word) × Spells p (predicate_word o ∷ v)
completes predicate.OneOf = (raw.OneOf (named.Exact [] ∷ []), codes "exact" ∷ [] ∷ codes "end" ∷ [], oneof (named.Exact []) [])
completes predicate.Prefix = (raw.Prefix [], [] ∷ [], prefix [])
completes predicate.Modulo = (raw.Modulo (pos 1) (pos 0), codes "1" ∷ codes "0" ∷ [], modulo (codes "1") (codes "0") 1 0 refl refl)
completes predicate.Not = (raw.Not (raw.Prefix []), codes "prefix" ∷ [] ∷ [], negation (raw.Prefix []) (codes "prefix" ∷ [] ∷ []) (prefix []))
completes predicate.And =
    (raw.And (raw.Prefix []) (raw.Prefix []), codes "prefix" ∷ [] ∷ codes "prefix" ∷ [] ∷ [], conjunction (raw.Prefix []) (raw.Prefix []) (codes "prefix" ∷ [] ∷ []) (codes "prefix" ∷ [] ∷ []) (prefix []) (prefix []))
completes predicate.Or =
    (raw.Or (raw.Prefix []) (raw.Prefix []), codes "prefix" ∷ [] ∷ codes "prefix" ∷ [] ∷ [], disjunction (raw.Prefix []) (raw.Prefix []) (codes "prefix" ∷ [] ∷ []) (codes "prefix" ∷ [] ∷ []) (prefix []) (prefix []))

opener_words : (o : PredicateOpener) (u : List Word) → One predicate_opener_of o u → predicate_word o ∷ [] ≡ u
opener_words o u s = sym (s.1 ∙ ap (λ (w : Word). w ∷ []) (opener_is s.0 o s.2))

opener_completes : (o : PredicateOpener) (u : List Word) → One predicate_opener_of o u → (p : RawPredicate) × (v : List Word) × Spells p (u ++ v)
opener_completes o u s = subst (λ (ws : List Word). (p : RawPredicate) × (v : List Word) × Spells p (ws ++ v)) (opener_words o u s) (completes o)

predicate_taken : (depth : ℕ) → Taken Spells (predicate_at depth)
predicate_taken depth words rest p e = let f = predicate_found depth words rest p e in (f.front, f.words_are, f.spelled)

predicate_begins : (depth : ℕ) → Begins Spells (predicate_at depth)
unfolding predicate_at
predicate_begins zero words left e =
    then_begun (known_at predicate_opener_of) (λ o ws. failed_deep words) (One predicate_opener_of) Spells (one_taken predicate_opener_of) (one_begins predicate_opener_of (codes "not") predicate.Not refl)
    (λ o u s ws l d. absurd (deep_bad {A = RawPredicate × List Word} (length words) l d)) opener_completes words left (known_at predicate_opener_of words) refl e
predicate_begins (suc depth) words left e =
    then_begins (known_at predicate_opener_of) (behind (predicate_at depth)) (One predicate_opener_of) Spells (one_taken predicate_opener_of) (one_begins predicate_opener_of (codes "not") predicate.Not refl)
    (λ o u s. subst (λ (ws : List Word). Begins (λ p v. Spells p (ws ++ v)) (behind (predicate_at depth) o)) (opener_words o u s) (behind_begins (predicate_at depth) (predicate_taken depth) (predicate_begins depth) o))
    opener_completes words left e

-- ---- filters

filter_behind_begins : (o : FilterOpener) → Begins (λ f v. SpellsFilter f (filter_word o ∷ v)) (filter_behind o)
unfolding filter_behind
filter_behind_begins filter.All = done_begins form.All _
filter_behind_begins filter.Exact = word_begins (λ f v. SpellsFilter f (codes "exact" ∷ v)) (λ key words. Ok (form.Exact key, words)) (λ key. done_begins (form.Exact key) _) (λ key. (form.Exact key, [], exact key))
filter_behind_begins filter.Range =
    word_begins (λ f v. SpellsFilter f (codes "range" ∷ v)) (λ low. then_reads word_at (λ high words. Ok (form.Range low high, words)))
    (λ low. word_begins (λ f v. SpellsFilter f (codes "range" ∷ low ∷ v)) (λ high words. Ok (form.Range low high, words)) (λ high. done_begins (form.Range low high) _) (λ high. (form.Range low high, [], range low high)))
    (λ low. (form.Range low [], [] ∷ [], range low []))
filter_behind_begins filter.Func =
    then_begins (predicate_at 16) (λ p words. Ok (form.Func p, words)) Spells (λ f v. SpellsFilter f (codes "func" ∷ v)) (predicate_taken 16) (predicate_begins 16) (λ p u s. done_begins (form.Func p) _)
    (λ p u s. (form.Func p, [], subst (λ (ws : List Word). SpellsFilter (form.Func p) (codes "func" ∷ ws)) (sym (append-nil u)) (func p u s)))

filter_completes : (o : FilterOpener) → (f : RawFilterParts) × (v : List Word) × SpellsFilter f (filter_word o ∷ v)
filter_completes filter.All = (form.All, [], all)
filter_completes filter.Exact = (form.Exact [], [] ∷ [], exact [])
filter_completes filter.Range = (form.Range [] [], [] ∷ [] ∷ [], range [] [])
filter_completes filter.Func = (form.Func (raw.Prefix []), codes "prefix" ∷ [] ∷ [], func (raw.Prefix []) (codes "prefix" ∷ [] ∷ []) (prefix []))

filter_words_are : (o : FilterOpener) (u : List Word) → One filter_opener_of o u → filter_word o ∷ [] ≡ u
filter_words_are o u s = sym (s.1 ∙ ap (λ (w : Word). w ∷ []) (filter_opener_is s.0 o s.2))

pub filter_begins : Begins SpellsFilter filter_at
unfolding filter_at
filter_begins =
    then_begins (known_at filter_opener_of) filter_behind (One filter_opener_of) SpellsFilter (one_taken filter_opener_of) (one_begins filter_opener_of (codes "all") filter.All refl)
    (λ o u s. subst (λ (ws : List Word). Begins (λ f v. SpellsFilter f (ws ++ v)) (filter_behind o)) (filter_words_are o u s) (filter_behind_begins o))
    (λ o u s. subst (λ (ws : List Word). (f : RawFilterParts) × (v : List Word) × SpellsFilter f (ws ++ v)) (filter_words_are o u s) (filter_completes o))
