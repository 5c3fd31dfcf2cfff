-- Where a line is cut, and that its words are UTF-8.
use Rattle.std.proofs.Common.{◌≡◌, ◌==◌, ◌∙◌, ℕ, ◌+◌, ◌-◌, ◌<◌, ◌≤◌, Bool, true, false, not, cond, if◌then◌else◌, List, [], ◌∷◌, ◌++◌, length, get_or, take, drop, nat_eq, Option, Some, None, IsUtf8, refl, sym, ap, subst, arith, ⊎_elim, suc, zero, append_assoc, append-nil, lit<}
use Rattle.std.specs.Str.{IsCharBoundary}
use Rattle.std.specs.List.{AllByRecursion, list_any, prefix_len}
use Rattle.std.proofs.lemmas.Bool.{cases_lt, and_parts}
use Rattle.std.proofs.lemmas.Bool.Decides.{nat_tests}
use Rattle.std.proofs.lemmas.List.Sums.{prefix_len-le-length, prefix_len_passes, prefix_len_stops}
use Rattle.std.proofs.lemmas.Str.{IsCharBoundary-start, IsCharBoundary-end, IsCharBoundary-before_ascii, IsCharBoundary-after_ascii, IsUtf8-append, IsUtf8-drop, IsUtf8-nil, IsUtf8-take, IsUtf8-encode, IsUtf8-from_ascii, encode_ascii, inside_one, length-encode, len_utf8_bounds}
use Rattle.std.proofs.lemmas.Str.Ascii.{IsAscii-nil, IsAscii-cons}
use Rattle.std.proofs.Math.Seq.{drop-cons}
use lib.ListN.{drop_of_length-le}
use lib.Utf8.{scalar, scalars, encode, encodes}
use Rattle.xf_filter.specs.Words.{Word}
use Rattle.xf_script.specs.Line.{Split, apart, bare, escaped, is_apart, is_space, quoted, skip_spaces, split_begun, split_of, split_within, with_byte, with_first, word_at, word_len}

-- ---- where a text may be cut

-- a blank and a tab are ASCII
small : (byte : ℕ) → is_space byte ≡ true → byte < 128
small byte is = grind (arith, nat_tests)

-- behind the blanks and tabs in front
pub IsCharBoundary-spaces : (text : List ℕ) → IsUtf8 text → IsCharBoundary text (prefix_len is_space text)
IsCharBoundary-spaces text utf8 =
    let count : ℕ = prefix_len is_space text in
    let most : count ≤ length text = prefix_len-le-length is_space text in
    ⊎_elim
    (λ (some : 0 < count).
    let low : get_or text (count - 1) 0 < 128 = small (get_or text (count - 1) 0) (prefix_len_passes is_space text (count - 1) 0 (omega arith)) in
    subst (IsCharBoundary text) (omega arith) (IsCharBoundary-after_ascii text (count - 1) utf8 (omega arith) low))
    (λ (none : count ≤ 0). subst (IsCharBoundary text) (omega arith) (IsCharBoundary-start text utf8))
    (cases_lt 0 count)

-- behind the first bare word
pub IsCharBoundary-word : (text : List ℕ) → IsCharBoundary text (word_len text)
IsCharBoundary-word text =
    let stop : ℕ → Bool = λ byte. not (is_space byte) in
    let most : word_len text ≤ length text = prefix_len-le-length stop text in
    ⊎_elim
    (λ (inside : word_len text < length text).
    let space : not (is_space (get_or text (word_len text) 0)) ≡ false = prefix_len_stops stop text 0 inside in
    let low : get_or text (word_len text) 0 < 128 = grind (arith, nat_tests) in
    IsCharBoundary-before_ascii text (word_len text) inside low)
    (λ (whole : length text ≤ word_len text). subst (IsCharBoundary text) (omega arith) (IsCharBoundary-end text))
    (cases_lt (word_len text) (length text))

-- ---- a word between quotes

-- a word that begins with these bytes
abbrev pub before : List ℕ → Option (Word × List ℕ) → Option (Word × List ℕ)
before front None = None
before front (Some (word, rest)) = Some (front ++ word, rest)

pub before-nothing : (found : Option (Word × List ℕ)) → before [] found ≡ found
before-nothing None = refl
before-nothing (Some (word, rest)) = refl

pub before-byte : (front : List ℕ) (byte : ℕ) (found : Option (Word × List ℕ)) → before front (with_byte (Some byte) found) ≡ before (front ++ byte ∷ []) found
before-byte front byte None = refl
before-byte front byte (Some (word, rest)) = ap (λ (whole : Word). Some (whole, rest)) (sym (append_assoc front (byte ∷ []) word))

-- the word and what stands behind it are UTF-8
abbrev pub AreUtf8 : Option (Word × List ℕ) → Type 0
AreUtf8 None = Unit {0}
AreUtf8 (Some (word, rest)) = IsUtf8 word × IsUtf8 rest

abbrev IsLow : Option ℕ → Type 0
IsLow None = Unit {0}
IsLow (Some byte) = byte < 128

either : {A : Type 0} (P : A → Type 0) (b : Bool) (x y : A) → P x → P y → P (cond b x y)
either P true x y px py = px
either P false x y px py = py

IsLow-escaped : (byte : ℕ) → IsLow (escaped byte)
IsLow-escaped byte =
    either IsLow (byte == 92) (Some 92) _ (lit< tt)
    (either IsLow (byte == 34) (Some 34) _ (lit< tt)
    (either IsLow (byte == 110) (Some 10) _ (lit< tt)
    (either IsLow (byte == 114) (Some 13) _ (lit< tt)
    (either IsLow (byte == 116) (Some 9) None (lit< tt) tt))))

AreUtf8-before : (front : List ℕ) (found : Option (Word × List ℕ)) → IsUtf8 front → AreUtf8 found → AreUtf8 (before front found)
AreUtf8-before front None utf8 parts = tt
AreUtf8-before front (Some (word, rest)) utf8 parts = (IsUtf8-append front word utf8 parts.0, parts.1)

AreUtf8-byte : (read : Option ℕ) (found : Option (Word × List ℕ)) → IsLow read → AreUtf8 found → AreUtf8 (with_byte read found)
AreUtf8-byte None found low parts = tt
AreUtf8-byte (Some byte) None low parts = tt
AreUtf8-byte (Some byte) (Some (word, rest)) low parts = (IsUtf8-append (byte ∷ []) word (IsUtf8-from_ascii (byte ∷ []) (IsAscii-cons byte [] low IsAscii-nil)) parts.0, parts.1)

-- bytes above ASCII stand for themselves
quoted-high : (high rest : List ℕ) → ((k : ℕ) → k < length high → 128 ≤ get_or high k 0) → quoted false (high ++ rest) ≡ before high (quoted false rest)
quoted-high [] rest large = sym (before-nothing (quoted false rest))
quoted-high (byte ∷ high) rest large =
    let first : 128 ≤ byte = large 0 (omega arith) in
    let step : quoted false (byte ∷ (high ++ rest)) ≡ with_byte (Some byte) (quoted false (high ++ rest)) = grind (arith, nat_tests) in
    let more = quoted-high high rest (λ k below. large (suc k) (omega arith)) in
    step ∙ ap (with_byte (Some byte)) more ∙ byte-before byte high (quoted false rest)
  where
    byte-before : (byte : ℕ) (front : List ℕ) (found : Option (Word × List ℕ)) → with_byte (Some byte) (before front found) ≡ before (byte ∷ front) found
    byte-before byte front None = refl
    byte-before byte front (Some (word, rest)) = refl

-- none of them may stand behind a backslash
escaped-high : (byte : ℕ) → 128 ≤ byte → escaped byte ≡ None
escaped-high byte large = grind (arith, nat_tests)

AreUtf8-behind : (bytes rest : List ℕ) → 0 < length bytes → ((k : ℕ) → k < length bytes → 128 ≤ get_or bytes k 0) → AreUtf8 (quoted true (bytes ++ rest))
AreUtf8-behind [] rest some large = absurd (omega arith)
AreUtf8-behind (byte ∷ bytes) rest some large =
    let none : escaped byte ≡ None = escaped-high byte (large 0 (omega arith)) in
    rw none tt

AreUtf8-high : (behind_backslash : Bool) (bytes rest : List ℕ) → 0 < length bytes → ((k : ℕ) → k < length bytes → 128 ≤ get_or bytes k 0) → IsUtf8 bytes → AreUtf8 (quoted false rest) → AreUtf8 (quoted behind_backslash (bytes ++ rest))
AreUtf8-high true bytes rest some large utf8 parts = AreUtf8-behind bytes rest some large
AreUtf8-high false bytes rest some large utf8 parts = rw (quoted-high bytes rest large) (AreUtf8-before bytes (quoted false rest) utf8 parts)

AreUtf8-low : (behind_backslash : Bool) (byte : ℕ) (rest : List ℕ) → byte < 128 → IsUtf8 rest → ((behind : Bool) → AreUtf8 (quoted behind rest)) → AreUtf8 (quoted behind_backslash (byte ∷ rest))
AreUtf8-low true byte rest low utf8 parts = AreUtf8-byte (escaped byte) (quoted false rest) (IsLow-escaped byte) (parts false)
AreUtf8-low false byte rest low utf8 parts =
    either AreUtf8 (byte == 34) (Some ([], rest)) _ (IsUtf8-nil, utf8)
    (either AreUtf8 (byte == 92) (quoted true rest) (with_byte (Some byte) (quoted false rest)) (parts true) (AreUtf8-byte (Some byte) (quoted false rest) low (parts false)))

AreUtf8-quoted : (cs : List ℕ) → scalars cs ≡ true → (behind_backslash : Bool) → AreUtf8 (quoted behind_backslash (encodes cs))
AreUtf8-quoted [] ok behind = tt
AreUtf8-quoted (c ∷ cs) ok behind =
    let parts = and_parts (scalar c) (scalars cs) ok in
    let more = AreUtf8-quoted cs parts.1 in
    let utf8 : IsUtf8 (encodes cs) = (cs, (parts.1, refl)) in
    ⊎_elim
    (λ (low : c < 128). rw (encode_ascii c low) (AreUtf8-low behind c (encodes cs) low utf8 more))
    (λ (large : 128 ≤ c).
    let high = λ (k : ℕ) (below : k < length (encode c)). ⊎_elim
    (λ low. absurd (omega (arith, inside_one c [] (encode c) k (sym (append-nil (encode c))) below low)))
    (λ (high : 128 ≤ get_or (encode c) k 0). high)
    (cases_lt (get_or (encode c) k 0) 128) in
    let some : 0 < length (encode c) = omega (arith, length-encode c, (len_utf8_bounds c).0) in
    AreUtf8-high behind (encode c) (encodes cs) some high (IsUtf8-encode c parts.0) (more false))
    (cases_lt c 128)

AreUtf8-text : (text : List ℕ) → IsUtf8 text → AreUtf8 (quoted false text)
AreUtf8-text text utf8 = rw utf8.1.1 at (AreUtf8-quoted utf8.0 utf8.1.0 false)

-- what stands between quotes in UTF-8 is UTF-8, and so is what stands behind them
pub quoted_utf8 : (text word rest : List ℕ) → IsUtf8 text → quoted false text ≡ Some (word, rest) → IsUtf8 word × IsUtf8 rest
quoted_utf8 text word rest utf8 is =
    subst AreUtf8 is (AreUtf8-text text utf8)

-- ---- the words of UTF-8 are UTF-8

AreUtf8-apart : (found : Option (Word × List ℕ)) → AreUtf8 found → AreUtf8 (apart found)
AreUtf8-apart None parts = tt
AreUtf8-apart (Some (word, rest)) parts = either AreUtf8 (is_apart rest) (Some (word, rest)) None parts tt

AreUtf8-bare : (text : List ℕ) → IsUtf8 text → AreUtf8 (bare text)
AreUtf8-bare text utf8 =
    let cut : IsCharBoundary text (word_len text) = IsCharBoundary-word text in
    either AreUtf8 (list_any (nat_eq 34) (take (word_len text) text)) None (Some (take (word_len text) text, drop (word_len text) text)) tt
    (IsUtf8-take text (word_len text) utf8 cut, IsUtf8-drop text (word_len text) utf8 cut)

AreUtf8-first : (byte : ℕ) (rest : List ℕ) (quote : Bool) → (byte == 34) ≡ quote → IsUtf8 (byte ∷ rest) → AreUtf8 (if quote then apart (quoted false rest) else bare (byte ∷ rest))
AreUtf8-first byte rest true is utf8 =
    let text : List ℕ = byte ∷ rest in
    let low : byte < 128 = grind (arith, nat_tests) in
    let behind : IsUtf8 rest = IsUtf8-drop text 1 utf8 (IsCharBoundary-after_ascii text 0 utf8 (omega arith) low) in
    AreUtf8-apart (quoted false rest) (AreUtf8-text rest behind)
AreUtf8-first byte rest false is utf8 = AreUtf8-bare (byte ∷ rest) utf8

AreUtf8-word : (text : List ℕ) → IsUtf8 text → AreUtf8 (word_at text)
AreUtf8-word [] utf8 = tt
AreUtf8-word (byte ∷ rest) utf8 = AreUtf8-first byte rest (byte == 34) refl utf8

abbrev SplitsUtf8 : (List ℕ → Split) → Type 0
SplitsUtf8 split = (text : List ℕ) → IsUtf8 text → AllByRecursion IsUtf8 (split text).words

utf8-first : (split : List ℕ → Split) → SplitsUtf8 split → (found : Option (Word × List ℕ)) → AreUtf8 found → AllByRecursion IsUtf8 (with_first split found).words
utf8-first split same None parts = tt
utf8-first split same (Some (word, rest)) parts = (parts.0, same rest parts.1)

utf8-begun : (split : List ℕ → Split) → SplitsUtf8 split → (text : List ℕ) → IsUtf8 text → AllByRecursion IsUtf8 (split_begun split text).words
utf8-begun split same [] utf8 = tt
utf8-begun split same (byte ∷ rest) utf8 = utf8-first split same (word_at (byte ∷ rest)) (AreUtf8-word (byte ∷ rest) utf8)

utf8-within : (most : ℕ) (text : List ℕ) → IsUtf8 text → AllByRecursion IsUtf8 (split_within most text).words
utf8-within zero text utf8 = tt
utf8-within (suc most) text utf8 = utf8-begun (split_within most) (utf8-within most) (skip_spaces text) (IsUtf8-drop text (prefix_len is_space text) utf8 (IsCharBoundary-spaces text utf8))

pub utf8_split : (line : List ℕ) → IsUtf8 line → AllByRecursion IsUtf8 (split_of line).words
utf8_split line utf8 = utf8-within (length line) line utf8

-- ---- the loop over the bytes between quotes

here : (text : List ℕ) (place byte : ℕ) → place < length text → get_or text place 0 ≡ byte → drop place text ≡ byte ∷ drop (place + 1) text
here text place byte inside is =
    let next : suc place ≡ place + 1 = omega arith in
    drop-cons text place 0 inside ∙ ap (λ (first : ℕ). first ∷ drop (suc place) text) is ∙ ap (λ (n : ℕ). byte ∷ drop n text) next

pub unquoted-bad : (text front : List ℕ) (place byte : ℕ) → place < length text → get_or text place 0 ≡ byte → escaped byte ≡ None
    → quoted false text ≡ before front (quoted true (drop place text)) → quoted false text ≡ None
unquoted-bad text front place byte inside is none sofar =
    let step : quoted true (byte ∷ drop (place + 1) text) ≡ None = rw none refl in
    sofar ∙ ap (λ (rest : List ℕ). before front (quoted true rest)) (here text place byte inside is) ∙ ap (before front) step

pub unquoted-escaped : (text front : List ℕ) (place byte meant : ℕ) → place < length text → get_or text place 0 ≡ byte → escaped byte ≡ Some meant
    → quoted false text ≡ before front (quoted true (drop place text)) → quoted false text ≡ before (front ++ meant ∷ []) (quoted false (drop (place + 1) text))
unquoted-escaped text front place byte meant inside is some sofar =
    let step : quoted true (byte ∷ drop (place + 1) text) ≡ with_byte (Some meant) (quoted false (drop (place + 1) text)) = rw some refl in
    sofar ∙ ap (λ (rest : List ℕ). before front (quoted true rest)) (here text place byte inside is) ∙ ap (before front) step ∙ before-byte front meant (quoted false (drop (place + 1) text))

pub unquoted-end : (text front : List ℕ) (place : ℕ) → place < length text → get_or text place 0 ≡ 34
    → quoted false text ≡ before front (quoted false (drop place text)) → quoted false text ≡ Some (front, drop (place + 1) text)
unquoted-end text front place inside is sofar =
    sofar ∙ ap (λ (rest : List ℕ). before front (quoted false rest)) (here text place 34 inside is) ∙ ap (λ (word : Word). Some (word, drop (place + 1) text)) (append-nil front)

pub unquoted-backslash : (text front : List ℕ) (place : ℕ) → place < length text → get_or text place 0 ≡ 92
    → quoted false text ≡ before front (quoted false (drop place text)) → quoted false text ≡ before front (quoted true (drop (place + 1) text))
unquoted-backslash text front place inside is sofar = sofar ∙ ap (λ (rest : List ℕ). before front (quoted false rest)) (here text place 92 inside is)

pub unquoted-plain : (text front : List ℕ) (place byte : ℕ) → place < length text → get_or text place 0 ≡ byte → (byte ≡ 34 → ⊥) → (byte ≡ 92 → ⊥)
    → quoted false text ≡ before front (quoted false (drop place text)) → quoted false text ≡ before (front ++ byte ∷ []) (quoted false (drop (place + 1) text))
unquoted-plain text front place byte inside is quote backslash sofar =
    let step : quoted false (byte ∷ drop (place + 1) text) ≡ with_byte (Some byte) (quoted false (drop (place + 1) text)) = grind (arith, nat_tests) in
    sofar ∙ ap (λ (rest : List ℕ). before front (quoted false rest)) (here text place byte inside is) ∙ ap (before front) step ∙ before-byte front byte (quoted false (drop (place + 1) text))

pub unquoted-none : (text front : List ℕ) (place : ℕ) (behind : Bool) → length text ≤ place → quoted false text ≡ before front (quoted behind (drop place text)) → quoted false text ≡ None
unquoted-none text front place behind past sofar =
    let over : drop place text ≡ [] = drop_of_length-le text past in
    sofar ∙ ap (λ (rest : List ℕ). before front (quoted behind rest)) over ∙ nothing front behind
  where
    nothing : (front : List ℕ) (behind : Bool) → before front (quoted behind []) ≡ None
    nothing front true = refl
    nothing front false = refl

pub ruleset cut_spaces = (IsCharBoundary-spaces)

pub ruleset cut_word = (IsCharBoundary-word)

pub ruleset quoting = (unquoted-bad, unquoted-escaped, unquoted-end, unquoted-backslash, unquoted-plain, unquoted-none, before-nothing)
