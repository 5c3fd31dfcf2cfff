-- The fields of a record, and the first that has a name.
use Rattle.std.proofs.Common.{◌≡◌, ℕ, zero, suc, ◌<◌, Bool, true, false, List, [], ◌∷◌, length, get_or, position, unwrap_or, Option, Some, None, Bor, refl, sym, ap, ◌∙◌, arith}
use Rattle.std.specs.Cmp.Lexicographic.{nat_list_eq_equiv, pointwise}
use Rattle.std.specs.List.{slice_get}
use Rattle.std.specs.Option.{option_eq, option_map}
use Rattle.std.specs.Prelude.{nat_eq}
use Rattle.std.specs.Str.{bytes_eq}
use Rattle.std.proofs.lemmas.Bool.{le-ltb, lt-ltb}
use Rattle.std.proofs.lemmas.List.Sums.{position_or_len_is}
use Rattle.csv.specs.Records.{field_at}

-- the crate `csv` looks a field up as a slice is
pub field_at-slice_get : (fields : List (List ℕ)) (i : ℕ) → field_at fields i ≡ slice_get fields i
unfolding field_at
field_at-slice_get [] i = refl
field_at-slice_get (x ∷ fields) zero = refl
field_at-slice_get (x ∷ fields) (suc i) = field_at-slice_get fields i

slice_get-get_or : {X : Type 0} (xs : List X) (i : ℕ) (d : X) → i < length xs → slice_get xs i ≡ Some (get_or xs i d)
slice_get-get_or [] i d h = absurd (omega arith)
slice_get-get_or (x ∷ xs) zero d h = refl
slice_get-get_or (x ∷ xs) (suc i) d h = slice_get-get_or xs i d (omega arith)

-- what the comparison of a looked-up field with a name says
pub name-test : (got : Option (Bor (List ℕ))) (name : Bor (List ℕ)) (fields : List (List ℕ)) (i : ℕ) (answer : Bool) → i < length fields → option_map (λ field. field.now) got ≡ field_at fields i
    → answer ≡ option_eq (λ x y. pointwise nat_eq x.now y.now) got (Some name) → bytes_eq name.now (get_or fields i []) ≡ answer
name-test None name fields i answer within is told =
    let there = is ∙ field_at-slice_get fields i ∙ slice_get-get_or fields i [] within in
    cc there
name-test (Some field) name fields i answer within is told =
    let there = is ∙ field_at-slice_get fields i ∙ slice_get-get_or fields i [] within in
    let same : field.now ≡ get_or fields i [] = cc there in
    ap (bytes_eq name.now) (sym same) ∙ nat_list_eq_equiv.symm name.now field.now ∙ sym told

-- a looked-up field, or an empty one where there is none
pub field-or_empty : (got : Option (Bor (List ℕ))) (empty field : Bor (List ℕ)) (fields : List (List ℕ)) (i : ℕ) → field ≡ unwrap_or got empty → empty.now ≡ [] → option_map (λ f. f.now) got ≡ field_at fields i → field.now ≡ unwrap_or (slice_get fields i) []
field-or_empty None empty field fields i same none is =
    let there = is ∙ field_at-slice_get fields i in
    rw (← there) (ap (λ (f : Bor (List ℕ)). f.now) same ∙ none)
field-or_empty (Some found) empty field fields i same none is =
    let there = is ∙ field_at-slice_get fields i in
    rw (← there) (ap (λ (f : Bor (List ℕ)). f.now) same)

-- the first place at which a test passes
pub position-found : {X : Type 0} (test : X → Bool) (xs : List X) (i : ℕ) (d : X) → i < length xs → ((k : ℕ) → k < i → test (get_or xs k d) ≡ false) → test (get_or xs i d) ≡ true → position test xs ≡ Some i
position-found test xs i d within before here =
    let at = position_or_len_is test xs i d (omega arith) before (λ _. here) in
    rw (at, lt-ltb i (length xs) within) refl

pub position-none : {X : Type 0} (test : X → Bool) (xs : List X) (d : X) → ((k : ℕ) → k < length xs → test (get_or xs k d) ≡ false) → position test xs ≡ None
position-none test xs d never =
    let at = position_or_len_is test xs (length xs) d (omega arith) never (λ past. absurd (omega arith)) in
    rw (at, le-ltb (length xs) (length xs) (omega arith)) refl
