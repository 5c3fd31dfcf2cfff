-- Words that are written on a line are the words of the line.
use Rattle.std.proofs.Common.{◌≡◌, ◌==◌, ◌∙◌, ℕ, ◌+◌, ◌<◌, Bool, true, false, ◌||◌, if◌then◌else◌, List, [], ◌∷◌, ◌++◌, length, drop, Some, refl, ap, subst, arith, nat_eq, ⊎_elim, append_assoc, flat_map}
use Rattle.std.specs.List.{list_any}
use Rattle.std.proofs.lemmas.Bool.{cases_Bool}
use Rattle.std.proofs.lemmas.Bool.Decides.{nat_tests}
use Rattle.std.proofs.lemmas.List.Concat.{flat_map-cons}
use Rattle.std.proofs.Math.Seq.{take-append_seam}
use Rattle.xf_base.specs.Word.{escape_of, needs_quotes, word_text}
use Rattle.xf_filter.specs.Words.{Word, behind_blanks, line_of}
use Rattle.xf_script.specs.Line.{apart, bare, is_apart, is_space, quoted, skip_spaces, split_of, with_byte, with_word, word_at, word_len}
use Rattle.xf_script.proofs.Splits.{IsBegun, begun-word, begun_split, split_of-skip}

-- ---- between quotes

-- a byte as it is written between quotes is read as the byte
quoted-escape : (byte : ℕ) (more : List ℕ) → quoted false (escape_of byte ++ more) ≡ with_byte (Some byte) (quoted false more)
quoted-escape byte more =
    let Again : ℕ → Type 0 = λ b. quoted false (escape_of b ++ more) ≡ with_byte (Some b) (quoted false more) in
    ⊎_elim (λ (a : (byte == 92) ≡ true). let e : 92 ≡ byte = grind (arith, nat_tests) in subst Again e refl) (λ (na : (byte == 92) ≡ false).
    ⊎_elim (λ (b : (byte == 34) ≡ true). let e : 34 ≡ byte = grind (arith, nat_tests) in subst Again e refl) (λ (nb : (byte == 34) ≡ false).
    ⊎_elim (λ (d : (byte == 10) ≡ true). let e : 10 ≡ byte = grind (arith, nat_tests) in subst Again e refl) (λ (nd : (byte == 10) ≡ false).
    ⊎_elim (λ (f : (byte == 13) ≡ true). let e : 13 ≡ byte = grind (arith, nat_tests) in subst Again e refl) (λ (nf : (byte == 13) ≡ false).
    ⊎_elim (λ (g : (byte == 9) ≡ true). let e : 9 ≡ byte = grind (arith, nat_tests) in subst Again e refl) (λ (ng : (byte == 9) ≡ false).
    rw (na, nb, nd, nf, ng) (rw (nb, na) refl))
    (cases_Bool (byte == 9))) (cases_Bool (byte == 13))) (cases_Bool (byte == 10))) (cases_Bool (byte == 34))) (cases_Bool (byte == 92))

quoted-again : (text more : List ℕ) → quoted false (flat_map escape_of text ++ 34 ∷ more) ≡ Some (text, more)
quoted-again [] more = refl
quoted-again (byte ∷ text) more =
    let parts : flat_map escape_of (byte ∷ text) ++ 34 ∷ more ≡ escape_of byte ++ (flat_map escape_of text ++ 34 ∷ more) =
    ap (λ (front : List ℕ). front ++ 34 ∷ more) (flat_map-cons escape_of byte text) ∙ append_assoc (escape_of byte) (flat_map escape_of text) (34 ∷ more) in
    ap (quoted false) parts ∙ quoted-escape byte (flat_map escape_of text ++ 34 ∷ more) ∙ ap (with_byte (Some byte)) (quoted-again text more)

-- what is read with which word
pub record Reads (text : List ℕ) (word : Word) (rest : List ℕ) : Type 0 where
  pub some : 0 < length text
  pub begun : IsBegun text
  pub word_is : word_at text ≡ Some (word, rest)

apart-apart : (word rest : List ℕ) → is_apart rest ≡ true → apart (Some (word, rest)) ≡ Some (word, rest)
apart-apart word rest is = rw is refl

Reads-quoted : (text more : List ℕ) → is_apart more ≡ true → Reads ((34 ∷ flat_map escape_of text ++ 34 ∷ []) ++ more) text more
Reads-quoted text more is =
    let inner : (flat_map escape_of text ++ 34 ∷ []) ++ more ≡ flat_map escape_of text ++ 34 ∷ more = append_assoc (flat_map escape_of text) (34 ∷ []) more in
    record {
      some = omega arith;
      begun = refl;
      word_is = ap (λ (behind : List ℕ). apart (quoted false behind)) inner ∙ ap apart (quoted-again text more) ∙ apart-apart text more is;
    }

-- ---- as it is

-- a byte that needs no quotes
plain_byte : (byte : ℕ) (rest : Bool) → (needs_quotes byte || rest) ≡ false → (is_space byte ≡ false) × (byte == 34 ≡ false) × (rest ≡ false)
plain_byte byte rest is = grind (arith, nat_tests)

word_len-plain : (text more : List ℕ) → list_any needs_quotes text ≡ false → is_apart more ≡ true → word_len (text ++ more) ≡ length text
word_len-plain [] [] plain is = refl
word_len-plain [] (byte ∷ more) plain is = rw is refl
word_len-plain (byte ∷ text) more plain is =
    let parts = plain_byte byte (list_any needs_quotes text) plain in
    let rest : word_len (text ++ more) ≡ length text = word_len-plain text more parts.2 is in
    rw parts.0 (omega (arith, rest))

no_quote : (text : List ℕ) → list_any needs_quotes text ≡ false → list_any (nat_eq 34) text ≡ false
no_quote [] plain = refl
no_quote (byte ∷ text) plain =
    let parts = plain_byte byte (list_any needs_quotes text) plain in
    let rest : list_any (nat_eq 34) text ≡ false = no_quote text parts.2 in
    let other : nat_eq 34 byte ≡ false = grind (arith, nat_tests) in
    rw (other, rest) refl

drop-seam : (text more : List ℕ) → drop (length text) (text ++ more) ≡ more
drop-seam [] more = refl
drop-seam (byte ∷ text) more = drop-seam text more

bare-plain : (text more : List ℕ) → list_any needs_quotes text ≡ false → is_apart more ≡ true → bare (text ++ more) ≡ Some (text, more)
bare-plain text more plain is =
    let len : word_len (text ++ more) ≡ length text = word_len-plain text more plain is in
    rw (len, take-append_seam text more, drop-seam text more, no_quote text plain) refl

Reads-bare : (text more : List ℕ) → (length text == 0) ≡ false → list_any needs_quotes text ≡ false → is_apart more ≡ true → Reads (text ++ more) text more
Reads-bare [] more some plain is = absurd (cc)
Reads-bare (byte ∷ text) more some plain is =
    let parts = plain_byte byte (list_any needs_quotes text) plain in
    record {
      some = omega arith;
      begun = rw parts.0 refl;
      word_is = rw parts.1 (bare-plain (byte ∷ text) more plain is);
    }

-- ---- a word, and words

Reads-if : (text more : List ℕ) (is_quoted : Bool) → ((length text == 0) || list_any needs_quotes text) ≡ is_quoted → is_apart more ≡ true
    → Reads ((if is_quoted then 34 ∷ flat_map escape_of text ++ 34 ∷ [] else text) ++ more) text more
Reads-if text more true test is = Reads-quoted text more is
Reads-if text more false test is =
    let parts : ((length text == 0) ≡ false) × (list_any needs_quotes text ≡ false) = grind (arith, nat_tests) in
    Reads-bare text more parts.0 parts.1 is

pub Reads-word : (text more : List ℕ) → is_apart more ≡ true → Reads (word_text text ++ more) text more
Reads-word text more is = Reads-if text more ((length text == 0) || list_any needs_quotes text) refl is

behind-cons : (word : Word) (words : List Word) → behind_blanks (word ∷ words) ≡ 32 ∷ word_text word ++ behind_blanks words
behind-cons word words = flat_map-cons (λ w. 32 ∷ word_text w) word words

behind-apart : (words : List Word) → is_apart (behind_blanks words) ≡ true
behind-apart [] = refl
behind-apart (word ∷ words) = ap is_apart (behind-cons word words)

skip-begun : (text : List ℕ) → IsBegun text → skip_spaces text ≡ text
skip-begun text begun = ap (λ (count : ℕ). drop count text) begun

skip-blank : (text : List ℕ) → IsBegun text → skip_spaces (32 ∷ text) ≡ text
skip-blank text begun = ap (λ (count : ℕ). drop (1 + count) (32 ∷ text)) begun

-- words behind blanks are read again
pub behind-again : (words : List Word) → split_of (behind_blanks words) ≡ record { words = words; is_broken = false }
behind-again [] = refl
behind-again (word ∷ words) =
    let text : List ℕ = word_text word ++ behind_blanks words in
    let reads = Reads-word word (behind_blanks words) (behind-apart words) in
    ap split_of (behind-cons word words) ∙ split_of-skip (32 ∷ text) ∙ ap begun_split (skip-blank text reads.begun) ∙ begun-word text word (behind_blanks words) reads.some reads.word_is ∙ ap (with_word word) (behind-again words)

-- the words of a line by the first of them
begun-again : (word : Word) (words : List Word) → begun_split (word_text word ++ behind_blanks words) ≡ record { words = word ∷ words; is_broken = false }
begun-again word words =
    let text : List ℕ = word_text word ++ behind_blanks words in
    let reads = Reads-word word (behind_blanks words) (behind-apart words) in
    begun-word text word (behind_blanks words) reads.some reads.word_is ∙ ap (with_word word) (behind-again words)

-- the words of the line of some words
pub line-again : (words : List Word) → split_of (line_of words) ≡ record { words = words; is_broken = false }
line-again [] = refl
line-again (word ∷ words) =
    let text : List ℕ = word_text word ++ behind_blanks words in
    let reads = Reads-word word (behind_blanks words) (behind-apart words) in
    split_of-skip text ∙ ap begun_split (skip-begun text reads.begun) ∙ begun-again word words

pub ruleset spelled = (line-again)
