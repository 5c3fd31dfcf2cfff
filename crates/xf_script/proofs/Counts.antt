-- The word of a count that was read is read as it.
use Rattle.std.proofs.Common.{◌≡◌, ◌∙◌, ℕ, nat_le, nat_lt, ◌&&◌, if◌then◌else◌, Bool, true, false, List, codes, decimal, Option, Some, None, option_map, Ok, refl, sym, ap, bytes_eq}
use Rattle.std.proofs.lemmas.Slice.Eq.{bytes_eq-Decides}
use Rattle.xf_filter.specs.Words.{Word, count_of, if_passing}
use Rattle.xf_filter.proofs.CountWords.{count_again, count-small, where_is}
use Rattle.xf_script.specs.Canonical.{field_word}
use Rattle.xf_script.specs.Grammar.{count_at, known_at}
use Rattle.xf_script.specs.Openers.{count_within, field_of, letters_of, width_of}
use Rattle.xf_script.proofs.Steps.{GivenBy, of_all, word_known}

-- a count that passes a test is read again with that test
passing_again : (test : ℕ → Bool) (word : Word) (n : ℕ) → if_passing test (count_of word) ≡ Some n → if_passing test (count_of (decimal n)) ≡ Some n
passing_again test word n e =
    let parts = where_is test (count_of word) n e in
    rw (count_again n (count-small word n parts.0), parts.1) refl

pub count_said : (words : List Word) (number n : ℕ) → count_at words number ≡ Ok n → count_of (decimal n) ≡ Some n
count_said words number n e =
    let w = of_all (GivenBy count_of) (count_at words number) n (word_known count_of words number) e in
    count_again n (count-small w.0 n w.1)

pub width_said : (words : List Word) (number n : ℕ) → known_at width_of words number ≡ Ok n → width_of (decimal n) ≡ Some n
width_said words number n e =
    let w = of_all (GivenBy width_of) (known_at width_of words number) n (word_known width_of words number) e in
    passing_again (nat_lt 0) w.0 n w.1

pub letters_said : (words : List Word) (number n : ℕ) → known_at letters_of words number ≡ Ok n → letters_of (decimal n) ≡ Some n
letters_said words number n e =
    let w = of_all (GivenBy letters_of) (known_at letters_of words number) n (word_known letters_of words number) e in
    passing_again (λ count. nat_le 1 count && nat_le count 64) w.0 n w.1

-- a count is no other word
no_natural : (n : ℕ) (same : Bool) → bytes_eq (decimal n) (codes "natural") ≡ same → count_of (decimal n) ≡ Some n → same ≡ false
no_natural n true is e =
    let none : count_of (decimal n) ≡ None = ap count_of ((bytes_eq-Decides (decimal n) (codes "natural")).0 is) in
    absurd (some_none n (sym e ∙ none))
  where
    some_none : (m : ℕ) → Option.Some m ≡ None → ⊥
    some_none m e = cc
no_natural n false is e = refl

none_some : (n : ℕ) (o : Option ℕ) → option_map Some o ≡ Some (Some n) → o ≡ Some n
none_some n (Some m) e = cc
none_some n None e = absurd cc

pub unnatural : (natural : Bool) (o : Option ℕ) (n : ℕ) → (if natural then Some None else option_map Some o) ≡ Some (Some n) → o ≡ Some n
unnatural true o n e = absurd cc
unnatural false o n e = none_some n o e

field_again : (word : Word) (field : Option ℕ) → field_of word ≡ Some field → field_of (field_word field) ≡ Some field
field_again word None e = refl
field_again word (Some n) e =
    let within : count_within 0 255 word ≡ Some n = unnatural (bytes_eq word (codes "natural")) (count_within 0 255 word) n e in
    let parts = where_is (λ count. nat_le 0 count && nat_le count 255) (count_of word) n within in
    let again : count_within 0 255 (decimal n) ≡ Some n = passing_again (λ count. nat_le 0 count && nat_le count 255) word n within in
    let other : bytes_eq (decimal n) (codes "natural") ≡ false = no_natural n (bytes_eq (decimal n) (codes "natural")) refl (count_again n (count-small word n parts.0)) in
    rw (other, again) refl

pub field_said : (words : List Word) (number : ℕ) (field : Option ℕ) → known_at field_of words number ≡ Ok field → field_of (field_word field) ≡ Some field
field_said words number field e =
    let w = of_all (GivenBy field_of) (known_at field_of words number) field (word_known field_of words number) e in
    field_again w.0 field w.1
