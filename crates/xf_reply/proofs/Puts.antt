-- Texts that are put one after the other.
use Rattle.std.proofs.Common.{◌≡◌, ◌∙◌, ℕ, zero, suc, ◌+◌, ◌<◌, List, [], ◌∷◌, ◌++◌, length, get_or, take, flat_map, sym, ap, subst, append_assoc, append-nil, arith}
use Rattle.std.specs.List.{AllByRecursion}
use Rattle.std.proofs.lemmas.Grind.{flat_map-append}
use Rattle.std.proofs.lemmas.List.{take_more}
use Rattle.std.proofs.lemmas.Str.{IsUtf8-append, IsUtf8-from_ascii, IsUtf8-nil}
use Rattle.std.proofs.lemmas.Str.Ascii.{IsAscii-cons, IsAscii-nil}
use Rattle.xf_reply.specs.Put.{Puts, PutsIf}

pub puts_two : {old mid new first second : List ℕ} → Puts old mid first → Puts mid new second → Puts old new (first ++ second)
puts_two {old = old} {first = first} {second = second} one two = record {
  appended = two.appended ∙ ap (λ (front : List ℕ). front ++ second) one.appended ∙ append_assoc old first second;
  utf8 = IsUtf8-append first second one.utf8 two.utf8;
}

pub puts_three : {old a b new first second third : List ℕ} → Puts old a first → Puts a b second → Puts b new third → Puts old new (first ++ second ++ third)
puts_three one two three = puts_two (puts_two one two) three

pub puts_four : {old a b c new first second third fourth : List ℕ} → Puts old a first → Puts a b second → Puts b c third → Puts c new fourth → Puts old new (first ++ second ++ third ++ fourth)
puts_four one two three four = puts_two (puts_three one two three) four

pub puts_sure : {sound : Type 0} {old new text : List ℕ} → Puts old new text → PutsIf sound old new text
puts_sure one = record { appended = one.appended; utf8 = λ sound. one.utf8 }

pub puts_if_two : {sound : Type 0} {old mid new first second : List ℕ} → PutsIf sound old mid first → PutsIf sound mid new second → PutsIf sound old new (first ++ second)
puts_if_two {old = old} {first = first} {second = second} one two = record {
  appended = two.appended ∙ ap (λ (front : List ℕ). front ++ second) one.appended ∙ append_assoc old first second;
  utf8 = λ sound. IsUtf8-append first second (one.utf8 sound) (two.utf8 sound);
}

-- a byte is put and then a text
pub puts_byte : {old mid new text : List ℕ} (byte : ℕ) → mid ≡ old ++ byte ∷ [] → Puts mid new text → PutsIf (byte < 128) old new (byte ∷ text)
puts_byte {old = old} {text = text} byte first next = record {
  appended = next.appended ∙ ap (λ (front : List ℕ). front ++ text) first ∙ append_assoc old (byte ∷ []) text;
  utf8 = λ small. IsUtf8-append (byte ∷ []) text (IsUtf8-from_ascii (byte ∷ []) (IsAscii-cons byte [] small IsAscii-nil)) next.utf8;
}

-- nothing is put
pub puts_nothing : (sound : Type 0) (old : List ℕ) → PutsIf sound old old []
puts_nothing sound old = record { appended = sym (append-nil old); utf8 = λ sound. IsUtf8-nil }

-- what is put under one condition is put under one that asks more
pub puts_under : {sound other : Type 0} {old new text : List ℕ} → (other → sound) → PutsIf sound old new text → PutsIf other old new text
puts_under gives one = record { appended = one.appended; utf8 = λ has. one.utf8 (gives has) }

-- the texts of a list, and of one item more
pub puts_more : {X sound : Type 0} {old mid new : List ℕ} (f : X → List ℕ) (xs : List X) (i : ℕ) (x : X) → i < length xs → get_or xs i x ≡ x
    → PutsIf sound old mid (flat_map f (take i xs)) → PutsIf sound mid new (f x) → PutsIf sound old new (flat_map f (take (i + 1) xs))
puts_more {X = X} {sound = sound} {old = old} {new = new} f xs i x below is front next =
    let one : take (i + 1) xs ≡ take i xs ++ x ∷ [] = take_more xs i x below ∙ ap (λ (x : X). take i xs ++ x ∷ []) is in
    let all : flat_map f (take (i + 1) xs) ≡ flat_map f (take i xs) ++ f x =
    ap (flat_map f) one ∙ flat_map-append f (take i xs) (x ∷ []) ∙ ap (λ (back : List ℕ). flat_map f (take i xs) ++ back) (append-nil (f x)) in
    subst (PutsIf sound old new) (sym all) (puts_if_two front next)

-- words and a number behind a text
pub puts_behind : {old mid new text : List ℕ} (words number : List ℕ) → Puts old mid text → Puts mid new (words ++ number) → Puts old new (text ++ words ++ number)
puts_behind {old = old} {new = new} {text = text} words number one two = subst (Puts old new) (sym (append_assoc text words number)) (puts_two one two)

-- each of a list's items
pub all_at : {X : Type 0} (P : X → Type 0) (xs : List X) (i : ℕ) (x : X) → i < length xs → x ≡ get_or xs i x → AllByRecursion P xs → P x
all_at P [] i x below is all = absurd (omega arith)
all_at P (y ∷ ys) zero x below is all = subst P (sym is) all.0
all_at P (y ∷ ys) (suc i) x below is all = all_at P ys i x (omega arith) is all.1
