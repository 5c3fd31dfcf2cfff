-- The words of a line, one after the other.
use Rattle.std.proofs.Common.{◌≡◌, ◌==◌, ◌∙◌, ℕ, ◌<◌, ◌≤◌, Bool, true, false, cond, List, [], ◌∷◌, ◌++◌, length, take, drop, Option, Some, None, refl, sym, ap, subst, arith, nat_eq, ⊎_elim, suc, zero, append_assoc, append-nil}
use Rattle.std.specs.List.{list_any, prefix_len}
use Rattle.std.proofs.lemmas.Bool.{cases_lt}
use Rattle.std.proofs.lemmas.Bool.Decides.{nat_tests}
use Rattle.std.proofs.lemmas.List.{length-drop}
use Rattle.std.proofs.lemmas.List.Sums.{prefix_len_stops, prefix_len-drop_no, prefix_len-drop_all}
use Rattle.xf_filter.specs.Words.{Word}
use Rattle.xf_script.specs.Line.{Split, apart, bare, escaped, is_apart, is_space, quoted, skip_spaces, split_begun, split_of, split_within, with_byte, with_first, with_word, word_at, word_len}

-- ---- each word leaves less of the line

-- no blank and no tab stands in front
abbrev pub IsBegun : List ℕ → Type 0
IsBegun text = prefix_len is_space text ≡ 0

pub IsBegun-skip : (text : List ℕ) → IsBegun (skip_spaces text)
IsBegun-skip text =
    ⊎_elim
    (λ (inside : prefix_len is_space text < length text). prefix_len-drop_no is_space text (prefix_len is_space text) 0 inside (prefix_len_stops is_space text 0 inside))
    (λ (past : length text ≤ prefix_len is_space text). prefix_len-drop_all is_space text (prefix_len is_space text) past)
    (cases_lt (prefix_len is_space text) (length text))

-- what stands behind the word is shorter than this
abbrev pub Leaves : ℕ → Option (Word × List ℕ) → Type 0
Leaves most None = Unit {0}
Leaves most (Some (word, rest)) = length rest < most

Leaves-if : (most : ℕ) (test : Bool) (x y : Option (Word × List ℕ)) → Leaves most x → Leaves most y → Leaves most (cond test x y)
Leaves-if most true x y first second = first
Leaves-if most false x y first second = second

Leaves-more : (most more : ℕ) (found : Option (Word × List ℕ)) → most ≤ more → Leaves most found → Leaves more found
Leaves-more most more None le left = tt
Leaves-more most more (Some (word, rest)) le left = omega arith

Leaves-byte : (most : ℕ) (read : Option ℕ) (found : Option (Word × List ℕ)) → Leaves most found → Leaves most (with_byte read found)
Leaves-byte most None found left = tt
Leaves-byte most (Some byte) None left = tt
Leaves-byte most (Some byte) (Some (word, rest)) left = left

Leaves-quoted : (behind : Bool) (text : List ℕ) → Leaves (length text) (quoted behind text)
Leaves-quoted true [] = tt
Leaves-quoted false [] = tt
Leaves-quoted true (byte ∷ rest) = Leaves-more (length rest) (length (byte ∷ rest)) _ (omega arith) (Leaves-byte (length rest) (escaped byte) (quoted false rest) (Leaves-quoted false rest))
Leaves-quoted false (byte ∷ rest) =
    Leaves-if (length (byte ∷ rest)) (byte == 34) (Some ([], rest)) _ (omega arith)
    (Leaves-more (length rest) (length (byte ∷ rest)) _ (omega arith)
    (Leaves-if (length rest) (byte == 92) (quoted true rest) (with_byte (Some byte) (quoted false rest)) (Leaves-quoted true rest) (Leaves-byte (length rest) (Some byte) (quoted false rest) (Leaves-quoted false rest))))

Leaves-apart : (most : ℕ) (found : Option (Word × List ℕ)) → Leaves most found → Leaves most (apart found)
Leaves-apart most None left = tt
Leaves-apart most (Some (word, rest)) left = Leaves-if most (is_apart rest) (Some (word, rest)) None left tt

-- a word is not empty
some_word : (byte : ℕ) (rest : List ℕ) → IsBegun (byte ∷ rest) → 0 < word_len (byte ∷ rest)
some_word byte rest begun = grind (arith, nat_tests)

Leaves-bare : (byte : ℕ) (rest : List ℕ) → IsBegun (byte ∷ rest) → Leaves (length (byte ∷ rest)) (bare (byte ∷ rest))
Leaves-bare byte rest begun =
    let text : List ℕ = byte ∷ rest in
    let some : 0 < word_len text = some_word byte rest begun in
    let shorter : length (drop (word_len text) text) < length text = omega (arith, length-drop (word_len text) text) in
    Leaves-if (length text) (list_any (nat_eq 34) (take (word_len text) text)) None (Some (take (word_len text) text, drop (word_len text) text)) tt shorter

pub Leaves-word : (text : List ℕ) → IsBegun text → Leaves (length text) (word_at text)
Leaves-word [] begun = tt
Leaves-word (byte ∷ rest) begun =
    Leaves-if (length (byte ∷ rest)) (byte == 34) (apart (quoted false rest)) (bare (byte ∷ rest))
    (Leaves-apart (length (byte ∷ rest)) (quoted false rest) (Leaves-more (length rest) (length (byte ∷ rest)) (quoted false rest) (omega arith) (Leaves-quoted false rest)))
    (Leaves-bare byte rest begun)

-- ---- the length of a line is a bound that suffices

firsts : (f g : List ℕ → Split) (most : ℕ) (found : Option (Word × List ℕ)) → Leaves most found → ((rest : List ℕ) → length rest < most → f rest ≡ g rest) → with_first f found ≡ with_first g found
firsts f g most None left same = refl
firsts f g most (Some (word, rest)) left same = ap (with_word word) (same rest left)

begun_same : (f g : List ℕ → Split) (text : List ℕ) → IsBegun text → ((rest : List ℕ) → length rest < length text → f rest ≡ g rest) → split_begun f text ≡ split_begun g text
begun_same f g [] begun same = refl
begun_same f g (byte ∷ rest) begun same = firsts f g (length (byte ∷ rest)) (word_at (byte ∷ rest)) (Leaves-word (byte ∷ rest) begun) same

skip_shortens : (text : List ℕ) → length (skip_spaces text) ≤ length text
skip_shortens text = omega (arith, length-drop (prefix_len is_space text) text)

bound : (n m : ℕ) (text : List ℕ) → length text ≤ n → length text ≤ m → split_within n text ≡ split_within m text
bound zero zero text a b = refl
bound zero (suc m) [] a b = refl
bound zero (suc m) (byte ∷ rest) a b = absurd (omega arith)
bound (suc n) zero [] a b = refl
bound (suc n) zero (byte ∷ rest) a b = absurd (omega arith)
bound (suc n) (suc m) text a b =
    let shorter : length (skip_spaces text) ≤ length text = skip_shortens text in
    begun_same (split_within n) (split_within m) (skip_spaces text) (IsBegun-skip text) (λ rest below. bound n m rest (omega arith) (omega arith))

-- the words of a line that begins with a word
abbrev pub begun_split : List ℕ → Split
begun_split text = split_begun split_of text

pub split_of-skip : (text : List ℕ) → split_of text ≡ begun_split (skip_spaces text)
split_of-skip [] = refl
split_of-skip (byte ∷ rest) =
    let text : List ℕ = byte ∷ rest in
    let shorter : length (skip_spaces text) ≤ length text = skip_shortens text in
    begun_same (split_within (length rest)) split_of (skip_spaces text) (IsBegun-skip text) (λ more below. bound (length rest) (length more) more (omega arith) (omega arith))

-- ---- the loop over the words

-- these words in front
abbrev pub with_words : List Word → Split → Split
with_words front split = record { words = front ++ split.words; is_broken = split.is_broken }

pub splits-begin : (line rest : List ℕ) → rest ≡ skip_spaces line → split_of line ≡ with_words [] (begun_split rest)
splits-begin line rest is = split_of-skip line ∙ ap begun_split (sym is)

with_first-found : (found : Option (Word × List ℕ)) (word : Word) (rest : List ℕ) → found ≡ Some (word, rest) → with_first split_of found ≡ with_word word (split_of rest)
with_first-found found word rest is = ap (with_first split_of) is

pub begun-word : (text : List ℕ) (word rest : List ℕ) → 0 < length text → word_at text ≡ Some (word, rest) → begun_split text ≡ with_word word (split_of rest)
begun-word [] word rest some is = absurd (omega arith)
begun-word (byte ∷ bytes) word rest some is = with_first-found (word_at (byte ∷ bytes)) word rest is

begun-broken : (text : List ℕ) → 0 < length text → word_at text ≡ None → begun_split text ≡ record { words = []; is_broken = true }
begun-broken [] some is = absurd (omega arith)
begun-broken (byte ∷ bytes) some is = ap (with_first split_of) is

pub splits-step : (line text word rest next : List ℕ) (words : List Word) → 0 < length text → word_at text ≡ Some (word, rest) → next ≡ skip_spaces rest
    → split_of line ≡ with_words words (begun_split text) → split_of line ≡ with_words (words ++ word ∷ []) (begun_split next)
splits-step line text word rest next words some is skipped sofar =
    let step : begun_split text ≡ with_word word (begun_split next) = begun-word text word rest some is ∙ ap (with_word word) (split_of-skip rest ∙ ap begun_split (sym skipped)) in
    let joined : with_words words (with_word word (begun_split next)) ≡ with_words (words ++ word ∷ []) (begun_split next) =
    ap (λ (all : List Word). record { words = all; is_broken = (begun_split next).is_broken }) (sym (append_assoc words (word ∷ []) (begun_split next).words)) in
    sofar ∙ ap (with_words words) step ∙ joined

pub splits-broken : (line text : List ℕ) (words : List Word) → 0 < length text → word_at text ≡ None
    → split_of line ≡ with_words words (begun_split text) → split_of line ≡ record { words = words; is_broken = true }
splits-broken line text words some is sofar =
    sofar ∙ ap (with_words words) (begun-broken text some is) ∙ ap (λ (all : List Word). record { words = all; is_broken = true }) (append-nil words)

pub splits-end : (line text : List ℕ) (words : List Word) → length text ≡ 0
    → split_of line ≡ with_words words (begun_split text) → split_of line ≡ record { words = words; is_broken = false }
splits-end line [] words none sofar = sofar ∙ ap (λ (all : List Word). record { words = all; is_broken = false }) (append-nil words)
splits-end line (byte ∷ rest) words none sofar = absurd (omega arith)

pub splits-shorter : (text word rest next : List ℕ) → IsBegun text → word_at text ≡ Some (word, rest) → next ≡ skip_spaces rest → length next < length text
splits-shorter text word rest next begun is skipped =
    let left : length rest < length text = subst (Leaves (length text)) is (Leaves-word text begun) in
    omega (arith, ap length skipped, skip_shortens rest)
