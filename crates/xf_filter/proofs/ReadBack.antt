-- The words of a filter that was read are read as that filter.
use Rattle.std.proofs.Common.{◌≡◌, List, ◌∷◌, decimal, pos, Ok, sym, subst}
use Rattle.xf_filter.specs.Words.{Word, predicate_words, filter_words}
use Rattle.xf_filter.specs.Spelling.{Spells, oneof, prefix, modulo, negation, conjunction, disjunction, SpellsFilter, all, exact, range, func, IsReadable}
use Rattle.xf_filter.specs.Reading.{filter_of}
use Rattle.xf_filter.specs.declared.raw_filter.RawFilterParts.{RawFilterParts}
use Rattle.xf_filter.specs.declared.raw_filter.RawPredicate.{RawPredicate}
use Rattle.xf_filter.specs.declared.raw_filter.RawPredicate.TheVariants as raw
use Rattle.xf_filter.proofs.Again.{filter_again}
use Rattle.xf_filter.proofs.CountWords.{divisor_again, remainder_again}
use Rattle.xf_filter.proofs.Printed.{words-oneof, words-prefix, words-modulo, words-not, words-and, words-or}

-- what some words spell its own words spell
spelled_again : (p : RawPredicate) (words : List Word) → Spells p words → Spells p (predicate_words p)
spelled_again p words (oneof first items) = subst (λ (ws : List Word). Spells (raw.OneOf (first ∷ items)) ws) (sym (words-oneof (first ∷ items))) (oneof first items)
spelled_again p words (prefix text) = subst (λ (ws : List Word). Spells (raw.Prefix text) ws) (sym (words-prefix text)) (prefix text)
spelled_again p words (modulo m r divisor remainder is_divisor is_remainder) =
    subst (λ (ws : List Word). Spells (raw.Modulo (pos divisor) (pos remainder)) ws) (sym (words-modulo (pos divisor) (pos remainder)))
    (modulo (decimal divisor) (decimal remainder) divisor remainder (divisor_again m divisor is_divisor) (remainder_again divisor r remainder is_remainder))
spelled_again p words (negation inner front s) =
    subst (λ (ws : List Word). Spells (raw.Not inner) ws) (sym (words-not inner)) (negation inner (predicate_words inner) (spelled_again inner front s))
spelled_again p words (conjunction first second front more s t) =
    subst (λ (ws : List Word). Spells (raw.And first second) ws) (sym (words-and first second))
    (conjunction first second (predicate_words first) (predicate_words second) (spelled_again first front s) (spelled_again second more t))
spelled_again p words (disjunction first second front more s t) =
    subst (λ (ws : List Word). Spells (raw.Or first second) ws) (sym (words-or first second))
    (disjunction first second (predicate_words first) (predicate_words second) (spelled_again first front s) (spelled_again second more t))

filter_spelled : (f : RawFilterParts) (words : List Word) → SpellsFilter f words → SpellsFilter f (filter_words f)
filter_spelled f words all = all
filter_spelled f words (exact key) = exact key
filter_spelled f words (range low high) = range low high
filter_spelled f words (func predicate front s) = func predicate (predicate_words predicate) (spelled_again predicate front s)

pub reads_back : (f : RawFilterParts) → IsReadable f → filter_of (filter_words f) ≡ Ok f
reads_back f is = filter_again f (filter_words f) (filter_spelled f is.1 is.2) is.0
