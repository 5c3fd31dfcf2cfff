-- With a bad word no filter of any depth goes on.
use Rattle.std.proofs.Common.{◌≡◌, ◌∙◌, ◌⊎◌, ℕ, zero, suc, ◌+◌, ◌-◌, ◌≤◌, List, [], ◌∷◌, ◌++◌, length, take, Some, Result, Ok, Err, refl, sym, ap, subst, append_assoc, append-nil, length-append, arith, inl, inr}
use Rattle.std.proofs.lemmas.List.{take_at}
use Rattle.xf_filter.specs.Words.{Word}
use Rattle.xf_filter.specs.Spelling.{Spells, oneof, prefix, modulo, negation, conjunction, disjunction, SpellsFilter, all, exact, range, func, first_of, IsBadAfter}
use Rattle.xf_filter.specs.Reading.{◌>>=◌, prefix_at, not_at, two_at, predicate_at, filter_behind, filter_at, filter_of, alone, numbered}
use Rattle.xf_filter.specs.declared.filter_syntax.Fault.{Fault}
use Rattle.xf_filter.specs.declared.filter_syntax.Fault.TheVariants as fault
use Rattle.xf_filter.specs.declared.filter_syntax.FilterSyntax.{FilterSyntax}
use Rattle.xf_filter.specs.declared.filter_syntax.FilterSyntax.TheVariants as syntax
use Rattle.xf_filter.specs.declared.raw_filter.RawFilterParts.{RawFilterParts}
use Rattle.xf_filter.specs.declared.raw_filter.RawPredicate.{RawPredicate}
use Rattle.xf_filter.proofs.Again.{modulo_again, one_of_again}
use Rattle.xf_filter.proofs.Begun.{filter_begins}
use Rattle.xf_filter.proofs.Found.{filter_at_found}
use Rattle.xf_filter.proofs.Local.{local_filter, deep_bad, bad_is}
use Rattle.xf_filter.proofs.Steps.{ok_is, err_is, fails_not, no_answer}

-- what is spelled is read, or too deep
abbrev EndsAs : {A : Type 0} → Result (A × List Word) Fault → A → List Word → Type 0
EndsAs read a rest = (read ≡ Ok (a, rest)) ⊎ ((left : ℕ) × (read ≡ Err (fault.TooDeep left)))

predicate_ends : (p : RawPredicate) (words : List Word) → Spells p words → (depth : ℕ) (rest : List Word) → EndsAs (predicate_at depth (words ++ rest)) p rest
unfolding predicate_at prefix_at not_at two_at
predicate_ends p words (oneof first items) zero rest = inr (length (words ++ rest), refl)
predicate_ends p words (oneof first items) (suc depth) rest = inl (one_of_again first items rest)
predicate_ends p words (prefix text) zero rest = inr (length (words ++ rest), refl)
predicate_ends p words (prefix text) (suc depth) rest = inl refl
predicate_ends p words (modulo m r divisor remainder is_divisor is_remainder) zero rest = inr (length (words ++ rest), refl)
predicate_ends p words (modulo m r divisor remainder is_divisor is_remainder) (suc depth) rest = inl (modulo_again m r divisor remainder rest is_divisor is_remainder)
predicate_ends p words (negation inner front s) zero rest = inr (length (words ++ rest), refl)
predicate_ends p words (negation inner front s) (suc depth) rest =
    elim (predicate_ends inner front s depth rest) [
      | inl e ↦ inl (rw e refl)
      | inr d ↦ inr (d.0, rw d.1 refl)
    ]
predicate_ends p words (conjunction first second front more s t) zero rest = inr (length (words ++ rest), refl)
predicate_ends p words (conjunction first second front more s t) (suc depth) rest =
    elim (predicate_ends first front s depth (more ++ rest)) [
      | inl e ↦ elim (predicate_ends second more t depth rest) [
        | inl f ↦ inl (rw (append_assoc front more rest, e, f) refl)
        | inr d ↦ inr (d.0, rw (append_assoc front more rest, e, d.1) refl)
      ]
      | inr d ↦ inr (d.0, rw (append_assoc front more rest, d.1) refl)
    ]
predicate_ends p words (disjunction first second front more s t) zero rest = inr (length (words ++ rest), refl)
predicate_ends p words (disjunction first second front more s t) (suc depth) rest =
    elim (predicate_ends first front s depth (more ++ rest)) [
      | inl e ↦ elim (predicate_ends second more t depth rest) [
        | inl f ↦ inl (rw (append_assoc front more rest, e, f) refl)
        | inr d ↦ inr (d.0, rw (append_assoc front more rest, e, d.1) refl)
      ]
      | inr d ↦ inr (d.0, rw (append_assoc front more rest, d.1) refl)
    ]

filter_ends : (f : RawFilterParts) (words : List Word) → SpellsFilter f words → EndsAs (filter_at words) f []
unfolding filter_at filter_behind
filter_ends f words all = inl refl
filter_ends f words (exact key) = inl refl
filter_ends f words (range low high) = inl refl
filter_ends f words (func predicate front s) =
    elim (subst (λ (ws : List Word). EndsAs (predicate_at 16 ws) predicate []) (append-nil front) (predicate_ends predicate front s 16 [])) [
      | inl e ↦ inl (rw e refl)
      | inr d ↦ inr (d.0, rw d.1 refl)
    ]

-- a list is cut in one way where the back has so many words
same_front : (a b c d : List Word) → a ++ b ≡ c ++ d → length b ≡ length d → a ≡ c
same_front a b c d e long =
    let short : length c ≡ length a = omega (arith, ap length e, length-append a b, length-append c d, long) in
    sym (take_at a b (length a) refl) ∙ ap (take (length a)) e ∙ take_at c d (length a) short

none_not : (word : Word) → first_of [] ≡ Some word → ⊥
none_not word e = cc

-- a fault inside the filter
inside_bad : (words : List Word) (left : ℕ) → filter_at words ≡ Err (fault.BadWord left) → IsBadAfter words (length words - left)
inside_bad words left e =
    let t = local_filter.stops words left e in
    let g = filter_begins words left e in
    let same : g.front ≡ t.front = same_front g.front g.rest t.front t.rest (sym g.words_are ∙ t.words_are) (g.left_is ∙ sym t.left_is) in
    record {
      begins = (g.value, g.more, subst (λ (ws : List Word). SpellsFilter g.value (ws ++ g.more)) same g.spelled);
      front = t.front;
      rest = t.rest;
      words_are = t.words_are;
      before_are = omega (arith, ap length t.words_are, length-append t.front t.rest, t.left_is);
      stops = λ f more s same.
          elim (filter_ends f (t.front ++ more) s) [
            | inl found ↦ no_answer (filter_at (t.front ++ more)) (f, []) (fault.BadWord (length more)) found (t.again more same)
            | inr d ↦ deep_bad {A = RawFilterParts × List Word} d.0 (length more) (sym d.1 ∙ t.again more same)
          ];
    }

-- a word behind the filter
behind_bad : (words rest : List Word) (word : Word) (f : RawFilterParts) → filter_at words ≡ Ok (f, word ∷ rest) → IsBadAfter words (length words - length (word ∷ rest))
behind_bad words rest word f e =
    let t = local_filter.takes words (word ∷ rest) f e in
    let g = filter_at_found words (word ∷ rest) f e in
    let same : g.front ≡ t.taken = same_front g.front (word ∷ rest) t.taken (word ∷ rest) (sym g.words_are ∙ t.words_are) refl in
    record {
      begins = (f, [], subst (λ (ws : List Word). SpellsFilter f ws) (same ∙ sym (append-nil t.taken)) g.spelled);
      front = t.taken;
      rest = word ∷ rest;
      words_are = t.words_are;
      before_are = omega (arith, ap length t.words_are, length-append t.taken (word ∷ rest));
      stops = λ g more s same.
          elim (filter_ends g (t.taken ++ more) s) [
            | inl found ↦ none_not word (ap (λ (p : RawFilterParts × List Word). first_of p.1) (ok_is (g, []) (f, more) (sym found ∙ t.again more)) ∙ same)
            | inr d ↦ fails_not {A = RawFilterParts × List Word} (fault.TooDeep d.0) (f, more) (sym d.1 ∙ t.again more)
          ];
    }

bad_by : (words : List Word) (left : ℕ) (read : Result (RawFilterParts × List Word) Fault) → filter_at words ≡ read → (read >>= alone) ≡ Err (fault.BadWord left) → IsBadAfter words (length words - left)
bad_by words left (Err f) is e = inside_bad words left (is ∙ ap (λ (g : Fault). Err g) (err_is {A = RawFilterParts} f (fault.BadWord left) e))
bad_by words left (Ok (f, [])) is e = absurd cc
bad_by words left (Ok (f, word ∷ rest)) is e = subst (λ (n : ℕ). IsBadAfter words (length words - n)) (bad_is {A = RawFilterParts} (length (word ∷ rest)) left e) (behind_bad words rest word f is)

filter_bad : (words : List Word) (left : ℕ) → filter_of words ≡ Err (fault.BadWord left) → IsBadAfter words (length words - left)
filter_bad words left e = bad_by words left (filter_at words) refl e

-- so many words are left at most
few_left : (words : List Word) (left : ℕ) (read : Result (RawFilterParts × List Word) Fault) → filter_at words ≡ read → (read >>= alone) ≡ Err (fault.BadWord left) → left ≤ length words
few_left words left (Err f) is e =
    let t = local_filter.stops words left (is ∙ ap (λ (g : Fault). Err g) (err_is {A = RawFilterParts} f (fault.BadWord left) e)) in
    omega (arith, ap length t.words_are, length-append t.front t.rest, t.left_is)
few_left words left (Ok (f, [])) is e = absurd cc
few_left words left (Ok (f, word ∷ rest)) is e =
    let t = local_filter.takes words (word ∷ rest) f is in
    omega (arith, ap length t.words_are, length-append t.taken (word ∷ rest), bad_is {A = RawFilterParts} (length (word ∷ rest)) left e)

word_is : (m n : ℕ) → syntax.Word m ≡ syntax.Word n → m ≡ n
word_is m n e = cc

deep_no_word : (m n : ℕ) → syntax.TooDeep m ≡ syntax.Word n → ⊥
deep_no_word m n e = cc

-- the number of a bad word tells how many words stand before it
pub number_bad : (words : List Word) (first total number : ℕ) (f : Fault) (told : FilterSyntax) → 1 ≤ first → first ≤ total + 1 → length words ≡ total - (first - 1) → filter_of words ≡ Err f
    → told ≡ numbered total f → told ≡ syntax.Word number → IsBadAfter words (number - first)
number_bad words first total number (fault.BadWord left) told low high long e is tells =
    let number_is : total + 1 - left ≡ number = word_is (total + 1 - left) number (sym is ∙ tells) in
    let few : left ≤ length words = few_left words left (filter_at words) refl e in
    let same : length words - left ≡ number - first = omega (arith, number_is, few, long, low, high) in
    subst (λ (n : ℕ). IsBadAfter words n) same (filter_bad words left e)
number_bad words first total number (fault.TooDeep left) told low high long e is tells = absurd (deep_no_word (total + 1 - left) number (sym is ∙ tells))
