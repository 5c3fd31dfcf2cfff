-- The letters of a text, taken off one by one.
use Rattle.std.proofs.Common.{◌≡◌, ℕ, zero, suc, true, false, Option, Some, None, is_some, ◌-◌, ◌<◌, ◌≤◌, List, [], ◌++◌, length, take, refl, sym, ap, ◌∙◌, append_assoc, IsUtf8, arith, length-append}
use Rattle.std.specs.List.{slice_range}
use Rattle.std.specs.Str.{IsCharBoundary}
use Rattle.std.specs.Str.Iter.{chars_rest, chars_steps}
use Rattle.std.specs.declared.str.Chars.{Chars}
use Rattle.std.proofs.lemmas.List.{append-nil, nil_from_length}
use Rattle.std.proofs.lemmas.Str.{chars-nil, chars_past_char, IsUtf8-past_char, IsCharBoundary-at_seam}
use Rattle.std.proofs.Math.Seq.{take-nil, take-append_seam}
use Rattle.std.proofs.Math.Utf8.{encode}
use Rattle.xf_access.specs.Round.{first_letters}

-- a front of the text is taken, so many letters are to come, and those are the first of the rest
pub record IsBegun (count : ℕ) (text : List ℕ) (left : ℕ) (rest : List ℕ) : Type 0 where
  pub front : List ℕ
  pub whole : text ≡ front ++ rest
  pub utf8 : IsUtf8 rest
  pub to_come : first_letters count text ≡ front ++ first_letters left rest

pub begin : (count : ℕ) (text rest : List ℕ) → IsUtf8 text → rest ≡ text → IsBegun count text count rest
begin count text rest utf8 is = record { front = []; whole = sym is; utf8 = rw is utf8; to_come = rw is refl }

-- the first of some letters of a text that begins with one
first_letters-cons : (left c : ℕ) (text rest : List ℕ) → IsUtf8 text → text ≡ encode c ++ rest → first_letters (suc left) text ≡ encode c ++ first_letters left rest
first_letters-cons left c text rest utf8 is = rw (chars_past_char text rest c utf8 is) refl

pub one_more : (count : ℕ) (text : List ℕ) (left c : ℕ) (rest later : List ℕ) → IsBegun count text (suc left) rest → rest ≡ encode c ++ later → IsBegun count text left later
one_more count text left c rest later begun is =
    record {
      front = begun.front ++ encode c;
      whole = begun.whole ∙ ap (λ r. begun.front ++ r) is ∙ sym (append_assoc begun.front (encode c) later);
      utf8 = IsUtf8-past_char rest later c begun.utf8 is;
      to_come = begun.to_come ∙ ap (λ r. begun.front ++ r) (first_letters-cons left c rest later begun.utf8 is) ∙ sym (append_assoc begun.front (encode c) (first_letters left later));
    }

-- no letters are in no text
first_letters-nil : (left : ℕ) → first_letters left [] ≡ []
first_letters-nil left = rw (chars-nil, take-nil {A = ℕ} left) refl

-- a step of `chars` that gives a letter
pub step : (count : ℕ) (text : List ℕ) (left : ℕ) (before after : Chars) (given : Option ℕ) → IsBegun count text left (chars_rest before) → chars_steps before given after → is_some given ≡ true → 0 < left → IsBegun count text (left - 1) (chars_rest after)
step count text zero before after given begun steps some more = absurd (omega arith)
step count text (suc left) before after None begun steps some more = absurd cc
step count text (suc left) before after (Some c) begun steps some more =
    let fewer : suc left - 1 ≡ left = omega arith in
    rw fewer (one_more count text left c (chars_rest before) (chars_rest after) begun steps.0)

-- all letters that were asked for, or all that there are, are taken
pub record IsEnded (count : ℕ) (text rest : List ℕ) : Type 0 where
  pub left : ℕ
  pub begun : IsBegun count text left rest
  pub none : first_letters left rest ≡ []

pub end_of_count : (count : ℕ) (text : List ℕ) (left : ℕ) (rest : List ℕ) → IsBegun count text left rest → left ≤ 0 → IsEnded count text rest
end_of_count count text zero rest begun few = record { left = 0; begun = begun; none = refl }
end_of_count count text (suc left) rest begun few = absurd (omega arith)

pub end_of_text : (count : ℕ) (text : List ℕ) (left : ℕ) (before after : Chars) (given : Option ℕ) → IsBegun count text left (chars_rest before) → chars_steps before given after → is_some given ≡ false → IsEnded count text (chars_rest after)
end_of_text count text left before after (Some c) begun steps none = absurd cc
end_of_text count text left before after None begun steps none =
    let empty : chars_rest before ≡ [] = nil_from_length (chars_rest before) steps.0.0 in
    rw (steps.0.1) (record { left = left; begun = begun; none = rw empty (first_letters-nil left) })

-- then the front is what was asked for, and the rest follows it
pub all_taken : (count : ℕ) (text rest : List ℕ) → IsEnded count text rest → first_letters count text ++ rest ≡ text
all_taken count text rest ended =
    let begun = ended.begun in
    let front : first_letters count text ≡ begun.front = begun.to_come ∙ ap (λ r. begun.front ++ r) ended.none ∙ append-nil begun.front in
    ap (λ f. f ++ rest) front ∙ sym begun.whole

-- ---- a text by its front and what follows it

length-front : (front rest text : List ℕ) → front ++ rest ≡ text → length text - length rest ≡ length front
length-front front rest text is = omega (arith, length-append front rest, ap length is)

pub rest-le : (front rest text : List ℕ) → front ++ rest ≡ text → length rest ≤ length text
rest-le front rest text is = omega (arith, length-append front rest, ap length is)

-- it may be cut there
pub is_boundary : (front rest text : List ℕ) → IsUtf8 rest → front ++ rest ≡ text → IsCharBoundary text (length text - length rest)
is_boundary front rest text utf8 is = rw (length-front front rest text is) (IsCharBoundary-at_seam text front rest (sym is) utf8)

pub front_is : (front rest text : List ℕ) → front ++ rest ≡ text → slice_range text 0 (length text - length rest) ≡ front
front_is front rest text is =
    let whole : length front - 0 ≡ length front = omega arith in
    rw (length-front front rest text is, whole) (ap (take (length front)) (sym is) ∙ take-append_seam front rest)
