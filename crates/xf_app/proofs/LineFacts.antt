-- The first line of a text, and how long a text is behind its byte order mark.
use Rattle.std.proofs.Common.{◌≡◌, ℕ, ◌+◌, ◌-◌, ◌<◌, ◌≤◌, Bool, true, false, cond, ◌==◌, nat_lt, List, [], ◌∷◌, length, take, drop, Option, Some, None, MatchOption, refl, sym, ap, subst, ◌∙◌, arith, length-drop, take_all}
use Rattle.csv.specs.Reading.{is_bom, strip_bom}
use Rattle.std.specs.List.{slice_split, position_or_len, before_first, after_first}
use Rattle.std.specs.Str.Lines.{lines, lines_of_parts, strip_carriage_return}
use Rattle.std.proofs.lemmas.List.Splits.{slice_split_none, slice_split_first, length-slice_split}
use Rattle.std.proofs.lemmas.List.Sums.{fails_before_first}
use Rattle.std.proofs.lemmas.List.Elements.{All-from_get_or}
use Rattle.std.proofs.lemmas.Bool.Decides.{nat_tests}

-- whether a byte is a line feed
abbrev is_feed : ℕ → Bool
is_feed byte = byte == 10

-- where a line feed stands, if there is one
abbrev pub feed_of : List ℕ → Option ℕ
feed_of text = cond (nat_lt (position_or_len (λ b. b == 10) text) (length text)) (Some (position_or_len (λ b. b == 10) text)) None

-- a part alone is a line, unless it is empty
lines-one : (x : List ℕ) → 0 < length x → lines_of_parts (x ∷ []) ≡ x ∷ []
lines-one x h = let e : (length x == 0) ≡ false = grind (arith, nat_tests) in rw e refl

-- a part that others follow is a line without its carriage return
lines-more : (x : List ℕ) (parts : List (List ℕ)) → 0 < length parts → lines_of_parts (x ∷ parts) ≡ strip_carriage_return x ∷ lines_of_parts parts
lines-more x [] h = absurd (omega arith)
lines-more x (y ∷ more) h = refl

-- a text without a line feed is one line
lines-last : (text : List ℕ) → length text ≤ position_or_len is_feed text → 0 < length text → lines text ≡ text ∷ []
lines-last text far some =
    let whole : slice_split is_feed text ≡ text ∷ [] =
    slice_split_none is_feed text (All-from_get_or (λ b. is_feed b ≡ false) text 0 (λ i h. fails_before_first is_feed text i 0 (omega arith))) in
    ap lines_of_parts whole ∙ lines-one text some

-- else the first line ends at the first line feed
lines-first : (text : List ℕ) → position_or_len is_feed text < length text
    → lines text ≡ strip_carriage_return (before_first is_feed text) ∷ lines (after_first is_feed text)
lines-first text near =
    ap lines_of_parts (slice_split_first is_feed text 0 near)
    ∙ lines-more (before_first is_feed text) (slice_split is_feed (after_first is_feed text)) (omega (arith, length-slice_split is_feed (after_first is_feed text)))

-- the first line of a text, by where its line feed stands
by_feed : (text : List ℕ) (n : ℕ) (near : Bool) (found : Option ℕ) → nat_lt n (length text) ≡ near → position_or_len is_feed text ≡ n → found ≡ cond near (Some n) None → 0 < length text
    → MatchOption found (lines text ≡ text ∷ []) (λ end. lines text ≡ strip_carriage_return (take end text) ∷ lines (drop (end + 1) text))
by_feed text n true found test e is some =
    let near : n < length text = grind (arith, nat_tests) in
    let first = lines-first text (rw e near) in
    subst (λ (o : Option ℕ). MatchOption o (lines text ≡ text ∷ []) (λ end. lines text ≡ strip_carriage_return (take end text) ∷ lines (drop (end + 1) text))) (sym is)
    (rw e at first)
by_feed text n false found test e is some =
    let far : length text ≤ n = grind (arith, nat_tests) in
    subst (λ (o : Option ℕ). MatchOption o (lines text ≡ text ∷ []) (λ end. lines text ≡ strip_carriage_return (take end text) ∷ lines (drop (end + 1) text))) (sym is)
    (lines-last text (rw e far) some)

-- the same, where the place is the one that is found
pub lines-by_feed : (text : List ℕ) (found : Option ℕ) → found ≡ feed_of text → 0 < length text
    → MatchOption found (lines text ≡ text ∷ []) (λ end. lines text ≡ strip_carriage_return (take end text) ∷ lines (drop (end + 1) text))
lines-by_feed text found e some =
    by_feed text (position_or_len is_feed text) (nat_lt (position_or_len is_feed text) (length text)) found refl refl e some

-- what stands after a place is all that is left there
pub take-rest : (n : ℕ) (text : List ℕ) → take (length text - n) (drop n text) ≡ drop n text
take-rest n text = take_all (length text - n) (drop n text) (omega (arith, length-drop n text))

-- three bytes in front are dropped, or none is
cut-shorter : (bom : Bool) (a b c : ℕ) (rest : List ℕ) → length (cond bom rest (a ∷ b ∷ c ∷ rest)) ≤ length (a ∷ b ∷ c ∷ rest)
cut-shorter true a b c rest = omega arith
cut-shorter false a b c rest = omega arith

-- without its byte order mark a text is no longer
pub strip_bom-le : (text : List ℕ) → length (strip_bom text) ≤ length text
unfolding strip_bom
strip_bom-le [] = omega arith
strip_bom-le (a ∷ []) = omega arith
strip_bom-le (a ∷ b ∷ []) = omega arith
strip_bom-le (a ∷ b ∷ c ∷ rest) = cut-shorter (is_bom a b c) a b c rest
