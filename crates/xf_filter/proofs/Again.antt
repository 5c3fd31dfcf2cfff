-- What is of the grammar is read.
use Rattle.std.proofs.Common.{◌≡◌, ◌∙◌, ℕ, zero, suc, ◌<◌, ◌≤◌, false, pos, List, [], ◌∷◌, ◌++◌, length, flat_map, codes, Some, Result, Ok, refl, sym, ap, append_assoc, append-nil, length-append, arith}
use Rattle.std.proofs.lemmas.List.Concat.{flat_map-cons}
use Rattle.xf_filter.specs.Words.{Word, item_words, divisor_of, remainder_of}
use Rattle.xf_filter.specs.Spelling.{Spells, oneof, prefix, modulo, negation, conjunction, disjunction, SpellsFilter, all, exact, range, func, depth_of, filter_depth}
use Rattle.xf_filter.specs.Reading.{◌>>=◌, is_end, item_behind, item_at, items_at, one_of_at, prefix_at, modulo_at, not_at, two_at, predicate_at, filter_behind, filter_at, filter_of, item_of, alone}
use Rattle.xf_filter.specs.declared.filter_syntax.Fault.{Fault}
use Rattle.xf_filter.specs.declared.raw_filter.RawFilterParts.{RawFilterParts}
use Rattle.xf_filter.specs.declared.raw_filter.RawItemParts.{RawItemParts}
use Rattle.xf_filter.specs.declared.raw_filter.RawItemParts.TheVariants as named
use Rattle.xf_filter.specs.declared.raw_filter.RawPredicate.{RawPredicate}
use Rattle.xf_filter.specs.declared.raw_filter.RawPredicate.TheVariants as raw
use Rattle.xf_filter.proofs.Depths.{depth-oneof, depth-prefix, depth-modulo, depth-not, depth-and, depth-or}
use Rattle.xf_filter.proofs.Found.{items_words}

-- ---- items

pub item_again : (i : RawItemParts) (rest : List Word) → item_at (item_words i ++ rest) ≡ Ok (i, rest)
unfolding item_at item_behind
item_again (named.Exact key) rest = refl
item_again (named.Range low high) rest = refl

pub no_end : (i : RawItemParts) (rest : List Word) → is_end (item_words i ++ rest) ≡ false
no_end (named.Exact key) rest = refl
no_end (named.Range low high) rest = refl

pub has_words : (i : RawItemParts) → 0 < length (item_words i)
has_words (named.Exact key) = omega arith
has_words (named.Range low high) = omega arith

pub items_again : (items : List RawItemParts) (rest : List Word) (most : ℕ) → length items < most → items_at most (flat_map item_words items ++ codes "end" ∷ rest) ≡ Ok (items, rest)
unfolding items_at
items_again items rest zero few = absurd (omega arith)
items_again [] rest (suc most) few = refl
items_again (i ∷ items) rest (suc most) few =
    let tail = flat_map item_words items ++ codes "end" ∷ rest in
    rw (items_words i items (codes "end" ∷ rest), no_end i tail, item_again i tail, items_again items rest most (omega arith)) refl

many_words : (items : List RawItemParts) → length items ≤ length (flat_map item_words items)
many_words [] = omega arith
many_words (i ∷ items) = rw (flat_map-cons item_words i items) (omega (arith, length-append (item_words i) (flat_map item_words items), has_words i, many_words items))

pub one_of_again : (first : RawItemParts) (items : List RawItemParts) (rest : List Word) → one_of_at ((flat_map item_words (first ∷ items) ++ codes "end" ∷ []) ++ rest) ≡ Ok (raw.OneOf (first ∷ items), rest)
unfolding one_of_at
one_of_again first items rest =
    let tail = flat_map item_words items ++ codes "end" ∷ rest in
    let enough : length items < length tail = omega (arith, length-append (flat_map item_words items) (codes "end" ∷ rest), many_words items) in
    let regroup : (flat_map item_words (first ∷ items) ++ codes "end" ∷ []) ++ rest ≡ item_words first ++ tail =
    append_assoc (flat_map item_words (first ∷ items)) (codes "end" ∷ []) rest ∙ items_words first items (codes "end" ∷ rest) in
    ap one_of_at regroup ∙ rw (item_again first tail, items_again items rest (length tail) enough) refl

-- ---- predicates

pub modulo_again : (m r : Word) (divisor remainder : ℕ) (rest : List Word) → divisor_of m ≡ Some divisor → remainder_of divisor r ≡ Some remainder → modulo_at (m ∷ r ∷ rest) ≡ Ok (raw.Modulo (pos divisor) (pos remainder), rest)
unfolding modulo_at
modulo_again m r divisor remainder rest is_divisor is_remainder = rw (is_divisor, is_remainder) refl

pub predicate_again : (p : RawPredicate) (words : List Word) → Spells p words → (depth : ℕ) → depth_of p ≤ depth → (rest : List Word) → predicate_at depth (words ++ rest) ≡ Ok (p, rest)
unfolding predicate_at prefix_at not_at two_at
predicate_again p words (oneof first items) zero deep rest = absurd (omega (arith, depth-oneof (first ∷ items)))
predicate_again p words (oneof first items) (suc depth) deep rest = one_of_again first items rest
predicate_again p words (prefix text) zero deep rest = absurd (omega (arith, depth-prefix text))
predicate_again p words (prefix text) (suc depth) deep rest = refl
predicate_again p words (modulo m r divisor remainder is_divisor is_remainder) zero deep rest = absurd (omega (arith, depth-modulo (pos divisor) (pos remainder)))
predicate_again p words (modulo m r divisor remainder is_divisor is_remainder) (suc depth) deep rest = modulo_again m r divisor remainder rest is_divisor is_remainder
predicate_again p words (negation inner front s) zero deep rest = absurd (omega (arith, depth-not inner))
predicate_again p words (negation inner front s) (suc depth) deep rest = rw (predicate_again inner front s depth (omega (arith, depth-not inner)) rest) refl
predicate_again p words (conjunction first second front more s t) zero deep rest = absurd (omega (arith, depth-and first second))
predicate_again p words (conjunction first second front more s t) (suc depth) deep rest =
    rw (append_assoc front more rest, predicate_again first front s depth (omega (arith, depth-and first second)) (more ++ rest), predicate_again second more t depth (omega (arith, depth-and first second)) rest) refl
predicate_again p words (disjunction first second front more s t) zero deep rest = absurd (omega (arith, depth-or first second))
predicate_again p words (disjunction first second front more s t) (suc depth) deep rest =
    rw (append_assoc front more rest, predicate_again first front s depth (omega (arith, depth-or first second)) (more ++ rest), predicate_again second more t depth (omega (arith, depth-or first second)) rest) refl

-- ---- filters

pub filter_again : (f : RawFilterParts) (words : List Word) → SpellsFilter f words → filter_depth f ≤ 16 → filter_of words ≡ Ok f
unfolding filter_at filter_behind
filter_again f words all deep = refl
filter_again f words (exact key) deep = refl
filter_again f words (range low high) deep = refl
filter_again f words (func predicate front s) deep =
    let read : predicate_at 16 front ≡ Ok (predicate, []) = ap (predicate_at 16) (sym (append-nil front)) ∙ predicate_again predicate front s 16 deep [] in
    rw read refl

pub item_of_again : (i : RawItemParts) → item_of (item_words i) ≡ Ok i
item_of_again i = ap (λ (ws : List Word). item_at ws >>= alone) (sym (append-nil (item_words i))) ∙ ap (λ (read : Result (RawItemParts × List Word) Fault). read >>= alone) (item_again i [])
