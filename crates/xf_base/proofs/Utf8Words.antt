-- A word of a UTF-8 text is UTF-8.
use Rattle.std.proofs.Common.{◌≡◌, ◌==◌, ◌||◌, ℕ, suc, ◌<◌, ◌≤◌, Bool, true, false, List, [], ◌∷◌, ◌++◌, length, get_or, flat_map, IsUtf8, refl, sym, ◌∙◌, arith, lit<, append-nil, ⊎_elim}
use Rattle.std.specs.Str.{IsAscii}
use Rattle.std.specs.List.{list_any}
use Rattle.std.proofs.lemmas.Bool.{and_parts, cases_lt, cases_Bool}
use Rattle.std.proofs.lemmas.Bool.Decides.{nat_tests}
use Rattle.std.proofs.lemmas.Grind.{flat_map-append}
use Rattle.std.proofs.lemmas.List.Concat.{flat_map-cons}
use Rattle.std.proofs.lemmas.Str.{IsUtf8-nil, IsUtf8-append, IsUtf8-encode, IsUtf8-from_ascii, encode_ascii, inside_one}
use Rattle.std.proofs.lemmas.Str.Ascii.{IsAscii-nil, IsAscii-cons}
use lib.Utf8.{scalar, scalars, encode, encodes}
use Rattle.xf_base.specs.Word.{escape_of, needs_quotes, word_text}
use Rattle.xf_base.proofs.Utf8Texts.{IsAscii-if}

-- the escape of an ASCII byte is ASCII
IsUtf8-escape : (byte : ℕ) → byte < 128 → IsUtf8 (escape_of byte)
IsUtf8-escape byte small =
    let one : IsAscii (byte ∷ []) = IsAscii-cons byte [] small IsAscii-nil in
    let escaped = λ (letter : ℕ) (low : letter < 128). IsAscii-cons 92 (letter ∷ []) (lit< tt) (IsAscii-cons letter [] low IsAscii-nil) in
    IsUtf8-from_ascii (escape_of byte)
    (IsAscii-if (byte == 92) (92 ∷ 92 ∷ []) _ (escaped 92 (lit< tt))
    (IsAscii-if (byte == 34) (92 ∷ 34 ∷ []) _ (escaped 34 (lit< tt))
    (IsAscii-if (byte == 10) (92 ∷ 110 ∷ []) _ (escaped 110 (lit< tt))
    (IsAscii-if (byte == 13) (92 ∷ 114 ∷ []) _ (escaped 114 (lit< tt))
    (IsAscii-if (byte == 9) (92 ∷ 116 ∷ []) (byte ∷ []) (escaped 116 (lit< tt)) one)))))

-- bytes above ASCII stay as they are
escaped-high : (bytes : List ℕ) → ((k : ℕ) → k < length bytes → 128 ≤ get_or bytes k 0) → flat_map escape_of bytes ≡ bytes
escaped-high [] high = refl
escaped-high (byte ∷ bytes) high =
    let large : 128 ≤ byte = high 0 (omega arith) in
    let plain : escape_of byte ≡ byte ∷ [] = grind (arith, nat_tests) in
    let rest = escaped-high bytes (λ k below. high (suc k) (omega arith)) in
    flat_map-cons escape_of byte bytes ∙ rw (plain, rest) refl

-- a character, escaped byte by byte
IsUtf8-escaped_char : (c : ℕ) → scalar c ≡ true → IsUtf8 (flat_map escape_of (encode c))
IsUtf8-escaped_char c ok =
    ⊎_elim
    (λ (small : c < 128). rw (encode_ascii c small, flat_map-cons escape_of c []) (IsUtf8-append (escape_of c) [] (IsUtf8-escape c small) IsUtf8-nil))
    (λ (large : 128 ≤ c).
    let high = λ (k : ℕ) (below : k < length (encode c)). ⊎_elim
    (λ low. absurd (omega (arith, inside_one c [] (encode c) k (sym (append-nil (encode c))) below low)))
    (λ (high : 128 ≤ get_or (encode c) k 0). high)
    (cases_lt (get_or (encode c) k 0) 128) in
    rw (escaped-high (encode c) high) (IsUtf8-encode c ok))
    (cases_lt c 128)

IsUtf8-escaped : (cs : List ℕ) → scalars cs ≡ true → IsUtf8 (flat_map escape_of (encodes cs))
IsUtf8-escaped [] ok = IsUtf8-nil
IsUtf8-escaped (c ∷ cs) ok =
    let parts = and_parts (scalar c) (scalars cs) ok in
    rw (flat_map-append escape_of (encode c) (encodes cs))
    (IsUtf8-append (flat_map escape_of (encode c)) (flat_map escape_of (encodes cs)) (IsUtf8-escaped_char c parts.0) (IsUtf8-escaped cs parts.1))

-- a text between quotes
IsUtf8-quoted : (text : List ℕ) → IsUtf8 text → IsUtf8 (34 ∷ flat_map escape_of text ++ 34 ∷ [])
IsUtf8-quoted text utf8 =
    let quote : IsUtf8 (34 ∷ []) = IsUtf8-from_ascii (34 ∷ []) (IsAscii-cons 34 [] (lit< tt) IsAscii-nil) in
    let escaped : IsUtf8 (flat_map escape_of text) = rw utf8.1.1 at (IsUtf8-escaped utf8.0 utf8.1.0) in
    IsUtf8-append (34 ∷ flat_map escape_of text) (34 ∷ []) (IsUtf8-append (34 ∷ []) (flat_map escape_of text) quote escaped) quote

-- a word
pub IsUtf8-word_text : (text : List ℕ) → IsUtf8 text → IsUtf8 (word_text text)
IsUtf8-word_text text utf8 =
    let quoted : Bool = (length text == 0) || list_any needs_quotes text in
    ⊎_elim
    (λ (is : quoted ≡ true). rw is (IsUtf8-quoted text utf8))
    (λ (is : quoted ≡ false). rw is utf8)
    (cases_Bool quoted)
