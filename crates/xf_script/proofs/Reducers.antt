-- The words of a reducer are read as it.
use Rattle.std.proofs.Common.{◌≡◌, ◌∙◌, ℕ, ◌+◌, ◌<◌, List, [], ◌∷◌, ◌++◌, length, codes, Ok, refl, sym, ap, append_assoc, append-nil, length-append, arith}
use Rattle.xf_columns.specs.declared.words.ReducerWords.TheVariants as reducer
use Rattle.xf_columns.specs.declared.words.ReducerWords.{ReducerWords}
use Rattle.xf_columns.specs.declared.words.SimpleWords.TheVariants as simple
use Rattle.xf_columns.specs.declared.words.SimpleWords.{SimpleWords}
use Rattle.xf_filter.specs.Words.{Word}
use Rattle.xf_script.specs.Canonical.{reducer_words, simple_words}
use Rattle.xf_script.specs.Grammar.{◌>>=◌, Read, ending, one_from, both_behind, reducer_from, simple_at}
use Rattle.xf_script.proofs.Positions.{there, there_next, ends}

two : (first : ℕ) → first + 1 + 1 ≡ first + 2
two first = omega arith

-- a reducer of one value, whatever stands behind it
pub simple_again : (front : List Word) (s : SimpleWords) (rest : List Word) (first : ℕ) → first ≡ length front + 1
    → simple_at (front ++ (simple_words s ++ rest)) first ≡ Ok (s, first + length (simple_words s))
simple_again front simple.Count rest first is = rw (there front (codes "count") rest first is) refl
simple_again front (simple.Sum column) rest first is =
    rw (there front (codes "sum") (column ∷ rest) first is, there_next front (codes "sum") column rest (first + 1) (omega arith)) (ap (λ (n : ℕ). Ok (simple.Sum column, n)) (two first))
simple_again front (simple.SumCount column) rest first is =
    rw (there front (codes "sumcount") (column ∷ rest) first is, there_next front (codes "sumcount") column rest (first + 1) (omega arith)) (ap (λ (n : ℕ). Ok (simple.SumCount column, n)) (two first))
simple_again front (simple.SumSquares column) rest first is =
    rw (there front (codes "sumsquares") (column ∷ rest) first is, there_next front (codes "sumsquares") column rest (first + 1) (omega arith)) (ap (λ (n : ℕ). Ok (simple.SumSquares column, n)) (two first))
simple_again front (simple.Spread column) rest first is =
    rw (there front (codes "spread") (column ∷ rest) first is, there_next front (codes "spread") column rest (first + 1) (omega arith)) (ap (λ (n : ℕ). Ok (simple.Spread column, n)) (two first))

one_again : (front : List Word) (s : SimpleWords) (first : ℕ) → first ≡ length front + 1 → one_from (front ++ simple_words s) first ≡ Ok (reducer.One s)
one_again front s first is =
    let words : List Word = front ++ simple_words s in
    let read : simple_at words first ≡ Ok (s, first + length (simple_words s)) = ap (λ (ws : List Word). simple_at (front ++ ws) first) (sym (append-nil (simple_words s))) ∙ simple_again front s [] first is in
    let less : length words < first + length (simple_words s) = omega (arith, length-append front (simple_words s)) in
    ap (λ (one : Read (SimpleWords × ℕ)). one >>= λ one. ending words one.1 (reducer.One one.0)) read ∙ ends words (first + length (simple_words s)) (reducer.One s) less

both_again : (front : List Word) (f s : SimpleWords) (next : ℕ) → next ≡ length front + 1 → both_behind (front ++ (simple_words f ++ simple_words s)) next ≡ Ok (reducer.Both f s)
both_again front f s next is =
    let words : List Word = front ++ (simple_words f ++ simple_words s) in
    let middle : ℕ = next + length (simple_words f) in
    let regroup : words ≡ (front ++ simple_words f) ++ (simple_words s ++ []) = sym (append_assoc front (simple_words f) (simple_words s)) ∙ ap (λ (ws : List Word). (front ++ simple_words f) ++ ws) (sym (append-nil (simple_words s))) in
    let first_read : simple_at words next ≡ Ok (f, middle) = simple_again front f (simple_words s) next is in
    let second_read : simple_at words middle ≡ Ok (s, middle + length (simple_words s)) =
    ap (λ (ws : List Word). simple_at ws middle) regroup ∙ simple_again (front ++ simple_words f) s [] middle (omega (arith, length-append front (simple_words f))) in
    let less : length words < middle + length (simple_words s) = omega (arith, length-append front (simple_words f ++ simple_words s), length-append (simple_words f) (simple_words s)) in
    ap (λ (first : Read (SimpleWords × ℕ)). first >>= λ first. simple_at words first.1 >>= λ second. ending words second.1 (reducer.Both first.0 second.0)) first_read
    ∙ ap (λ (second : Read (SimpleWords × ℕ)). second >>= λ second. ending words second.1 (reducer.Both f second.0)) second_read
    ∙ ends words (middle + length (simple_words s)) (reducer.Both f s) less

-- a reducer that is not `both` begins with another word
one_opened : (front : List Word) (s : SimpleWords) (first : ℕ) → first ≡ length front + 1 → reducer_from (front ++ simple_words s) first ≡ one_from (front ++ simple_words s) first
one_opened front simple.Count first is = rw (there front (codes "count") [] first is) refl
one_opened front (simple.Sum column) first is = rw (there front (codes "sum") (column ∷ []) first is) refl
one_opened front (simple.SumCount column) first is = rw (there front (codes "sumcount") (column ∷ []) first is) refl
one_opened front (simple.SumSquares column) first is = rw (there front (codes "sumsquares") (column ∷ []) first is) refl
one_opened front (simple.Spread column) first is = rw (there front (codes "spread") (column ∷ []) first is) refl

pub reducer_again : (front : List Word) (r : ReducerWords) (first : ℕ) → first ≡ length front + 1 → reducer_from (front ++ reducer_words r) first ≡ Ok r
reducer_again front (reducer.One s) first is = one_opened front s first is ∙ one_again front s first is
reducer_again front (reducer.Both f s) first is =
    let parts : List Word = simple_words f ++ simple_words s in
    let regroup : front ++ codes "both" ∷ parts ≡ (front ++ codes "both" ∷ []) ++ parts = sym (append_assoc front (codes "both" ∷ []) parts) in
    let opened : reducer_from (front ++ codes "both" ∷ parts) first ≡ both_behind (front ++ codes "both" ∷ parts) (first + 1) = rw (there front (codes "both") parts first is) refl in
    opened ∙ ap (λ (ws : List Word). both_behind ws (first + 1)) regroup ∙ both_again (front ++ codes "both" ∷ []) f s (first + 1) (omega (arith, length-append front (codes "both" ∷ [])))
