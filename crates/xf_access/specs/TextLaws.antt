-- The first letters of texts stand in the order of the texts.
use Rattle.std.proofs.Common.{◌≡◌, ℕ, zero, suc, Bool, true, false, cond, List, [], ◌∷◌, ◌++◌, take, length, refl, sym, subst, IsUtf8, arith, length-append, ⊎_elim}
use Rattle.std.specs.Str.{chars, encode_utf8_all}
use Rattle.std.specs.declared.cmp.Ordering.{Ordering}
use Rattle.std.specs.declared.cmp.Ordering.TheVariants.{Less, Equal, Greater}
use Rattle.std.specs.Ordering.{is_le, nat_cmp, ordering_then}
use Rattle.std.proofs.lemmas.Bool.{cases_eq}
use Rattle.std.proofs.lemmas.Cmp.{ranked}
use Rattle.std.proofs.lemmas.List.{append-nil}
use Rattle.std.proofs.lemmas.Str.{encode_same, encodes-chars, length-encode, len_utf8_bounds}
use Rattle.std.proofs.Math.Utf8.{encode}
use Rattle.xf_base.specs.Key.{text_cmp}
use Rattle.xf_access.specs.Round.{first_letters, is_letter_count, rounded_text}
use Rattle.xf_access.specs.declared.stock_rounding.StockRounding.{StockRounding}
use Rattle.xf_access.specs.declared.stock_rounding.StockRounding.TheVariants.{Same, Floor, MonthOf, YearOf, FirstLetters}

-- a byte is equal to itself
nat_cmp-same : (byte : ℕ) → nat_cmp byte byte ≡ Equal
nat_cmp-same byte = grind arith

-- a front that both have decides nothing
text_cmp-front : (front x y : List ℕ) → text_cmp (front ++ x) (front ++ y) ≡ text_cmp x y
text_cmp-front [] x y = refl
text_cmp-front (byte ∷ front) x y = rw (nat_cmp-same byte) (text_cmp-front front x y)

-- neither of two lists begins with the other
abbrev Apart : List ℕ → List ℕ → Type 0
Apart p q = (x y : List ℕ) → p ++ x ≡ q ++ y → ⊥

-- the rest of two lists that begin with one byte
apart_rest : (a b : ℕ) (p q : List ℕ) → a ≡ b → Apart (a ∷ p) (b ∷ q) → Apart p q
apart_rest a b p q same apart x y h = apart x y (cc)

-- where neither begins with the other, the lists decide, whatever follows them
by_byte : (order : Ordering) (a b : ℕ) (p q : List ℕ) → nat_cmp a b ≡ order → Apart (a ∷ p) (b ∷ q) → (Apart p q → (x y u v : List ℕ) → text_cmp (p ++ x) (q ++ y) ≡ text_cmp (p ++ u) (q ++ v)) → (x y u v : List ℕ) → ordering_then order (text_cmp (p ++ x) (q ++ y)) ≡ ordering_then order (text_cmp (p ++ u) (q ++ v))
by_byte Less a b p q is apart rest x y u v = refl
by_byte Equal a b p q is apart rest x y u v = rest (apart_rest a b p q (ranked a b Equal (sym is)) apart) x y u v
by_byte Greater a b p q is apart rest x y u v = refl

text_cmp-apart : (p q : List ℕ) → Apart p q → (x y u v : List ℕ) → text_cmp (p ++ x) (q ++ y) ≡ text_cmp (p ++ u) (q ++ v)
text_cmp-apart [] q apart x y u v = absurd (apart q [] (sym (append-nil q)))
text_cmp-apart (a ∷ p) [] apart x y u v = absurd (apart [] (a ∷ p) (append-nil (a ∷ p)))
text_cmp-apart (a ∷ p) (b ∷ q) apart x y u v = by_byte (nat_cmp a b) a b p q refl apart (text_cmp-apart p q) x y u v

-- so do two letters that are not the same
letters_apart : (c d : ℕ) → (c ≡ d → ⊥) → Apart (encode c) (encode d)
letters_apart c d different x y h = different (encode_same c d x y h).0

-- nothing comes before no text
empty_first : (text : List ℕ) → is_le (text_cmp [] text) ≡ true
empty_first [] = refl
empty_first (byte ∷ text) = refl

-- the letters of two texts in order
abbrev InOrder : List ℕ → List ℕ → Type 0
InOrder x y = is_le (text_cmp x y) ≡ true

-- no text comes after a letter
nothing_last : (text : List ℕ) → InOrder text [] → length text ≡ 0
nothing_last [] h = refl
nothing_last (byte ∷ text) h = absurd cc

letter_not_last : (c : ℕ) (rest : List ℕ) → InOrder (encode c ++ rest) [] → ⊥
letter_not_last c rest h = omega (arith, nothing_last (encode c ++ rest) h, length-append (encode c) rest, length-encode c, len_utf8_bounds c)

-- a first letter that both have leaves the order to the rest
same_letter : (c : ℕ) (x y u v : List ℕ) → (InOrder x y → InOrder u v) → InOrder (encode c ++ x) (encode c ++ y) → InOrder (encode c ++ u) (encode c ++ v)
same_letter c x y u v step h = rw (text_cmp-front (encode c) u v) (step (rw (text_cmp-front (encode c) x y) at h))

-- and two that differ decide it
first_letter : (c d : ℕ) (x y u v : List ℕ) → (InOrder x y → InOrder u v) → InOrder (encode c ++ x) (encode d ++ y) → InOrder (encode c ++ u) (encode d ++ v)
first_letter c d x y u v step =
    ⊎_elim
    (λ (same : c ≡ d). subst (λ d. InOrder (encode c ++ x) (encode d ++ y) → InOrder (encode c ++ u) (encode d ++ v)) same (same_letter c x y u v step))
    (λ (different : c ≡ d → ⊥) (h : InOrder (encode c ++ x) (encode d ++ y)). rw (text_cmp-apart (encode c) (encode d) (letters_apart c d different) u v x y) h)
    (cases_eq c d)

letters_keep : (count : ℕ) (cs ds : List ℕ) → InOrder (encode_utf8_all cs) (encode_utf8_all ds) → InOrder (encode_utf8_all (take count cs)) (encode_utf8_all (take count ds))
letters_keep zero cs ds h = refl
letters_keep (suc count) [] ds h = empty_first (encode_utf8_all (take (suc count) ds))
letters_keep (suc count) (c ∷ cs) [] h = absurd (letter_not_last c (encode_utf8_all cs) h)
letters_keep (suc count) (c ∷ cs) (d ∷ ds) h =
    first_letter c d (encode_utf8_all cs) (encode_utf8_all ds) (encode_utf8_all (take count cs)) (encode_utf8_all (take count ds)) (letters_keep count cs ds) h

rounded_letters-keep : (count : ℕ) (x y : List ℕ) → IsUtf8 x → IsUtf8 y → InOrder x y → InOrder (first_letters count x) (first_letters count y)
rounded_letters-keep count x y utf8_x utf8_y h =
    letters_keep count (chars x) (chars y) (rw (encodes-chars x utf8_x, encodes-chars y utf8_y) h)

letters_if-keep : (count : ℕ) (x y : List ℕ) (is : Bool) → is_letter_count count ≡ is → IsUtf8 x → IsUtf8 y → InOrder x y → InOrder (cond is (first_letters count x) x) (cond is (first_letters count y) y)
letters_if-keep count x y true is utf8_x utf8_y h = rounded_letters-keep count x y utf8_x utf8_y h
letters_if-keep count x y false is utf8_x utf8_y h = h

pub rounded_text-keeps : (rounding : StockRounding) (x y : List ℕ) → IsUtf8 x → IsUtf8 y → InOrder x y → InOrder (rounded_text rounding x) (rounded_text rounding y)
rounded_text-keeps Same x y utf8_x utf8_y h = h
rounded_text-keeps (Floor width) x y utf8_x utf8_y h = h
rounded_text-keeps MonthOf x y utf8_x utf8_y h = h
rounded_text-keeps YearOf x y utf8_x utf8_y h = h
rounded_text-keeps (FirstLetters count) x y utf8_x utf8_y h = letters_if-keep count x y (is_letter_count count) refl utf8_x utf8_y h
