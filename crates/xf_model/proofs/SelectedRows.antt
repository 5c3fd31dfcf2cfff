-- What `selected` keeps where rows are joined, where no filter is set, and where a dimension is left out.
use Rattle.std.proofs.Common.{◌≡◌, ℕ, zero, suc, ◌≤◌, Bool, true, false, ◌&&◌, ◌||◌, cond, List, [], ◌∷◌, ◌++◌, Option, None, Some, length, refl, sym, ap, ◌∙◌, arith}
use Rattle.std.proofs.lemmas.Bool.{true≢false}
use Rattle.std.proofs.lemmas.List.Elements.{filter-append}
use Rattle.std.specs.List.{filter, insert, list_all, list_any, remove}
use Rattle.xf_model.specs.Dimension.{Dimension, all_but, passes, passes_each, selected}

-- the selected of rows that are joined are the selected of each, joined
pub selected-append : {Row Key : Type 0} (dimensions : List (Dimension Row Key)) (but : Option ℕ) (xs ys : List Row) → selected dimensions but (xs ++ ys) ≡ selected dimensions but xs ++ selected dimensions but ys
selected-append dimensions but xs ys = filter-append (passes_each (all_but but dimensions)) xs ys

-- a test that holds of each leaves none out
pub filter_whole : {X : Type 0} (test : X → Bool) → ((x : X) → test x ≡ true) → (xs : List X) → filter test xs ≡ xs
filter_whole test holds [] = refl
filter_whole test holds (x ∷ xs) = rw (holds x) (ap (λ rest. x ∷ rest) (filter_whole test holds xs))

left_true : (a b : Bool) → (a && b) ≡ true → a ≡ true
left_true true b both = refl
left_true false b both = both

right_true : (a b : Bool) → (a && b) ≡ true → b ≡ true
right_true true b both = both
right_true false b both = absurd (true≢false (sym both))

-- a test that holds of all of a list holds of all but one
pub list_all-remove_from_all : {X : Type 0} (test : X → Bool) (xs : List X) (i : ℕ) → list_all test xs ≡ true → list_all test (remove xs i) ≡ true
list_all-remove_from_all test [] zero each = refl
list_all-remove_from_all test [] (suc i) each = refl
list_all-remove_from_all test (x ∷ xs) zero each = right_true (test x) (list_all test xs) each
list_all-remove_from_all test (x ∷ xs) (suc i) each =
    let first : test x ≡ true = left_true (test x) (list_all test xs) each in
    rw first (list_all-remove_from_all test xs i (right_true (test x) (list_all test xs) each))

list_all-all_but : {X : Type 0} (test : X → Bool) (but : Option ℕ) (xs : List X) → list_all test xs ≡ true → list_all test (all_but but xs) ≡ true
list_all-all_but test None xs each = each
list_all-all_but test (Some i) xs each = list_all-remove_from_all test xs i each

-- a row passes dimensions on which no filter is set
pub passes_each-unfiltered : {Row Key : Type 0} (dimensions : List (Dimension Row Key)) (row : Row) → list_all (λ dimension. dimension.chosen.is_all) dimensions ≡ true → passes_each dimensions row ≡ true
passes_each-unfiltered [] row none = refl
passes_each-unfiltered (dimension ∷ dimensions) row none =
    let first : dimension.chosen.is_all ≡ true = left_true dimension.chosen.is_all (list_all (λ other. other.chosen.is_all) dimensions) none in
    rw first (passes_each-unfiltered dimensions row (right_true dimension.chosen.is_all (list_all (λ other. other.chosen.is_all) dimensions) none))

-- where no filter is set all rows are selected
pub selected-unfiltered : {Row Key : Type 0} (dimensions : List (Dimension Row Key)) (but : Option ℕ) (rows : List Row) → list_all (λ dimension. dimension.chosen.is_all) dimensions ≡ true → selected dimensions but rows ≡ rows
selected-unfiltered dimensions but rows none =
    filter_whole (passes_each (all_but but dimensions)) (λ row. passes_each-unfiltered (all_but but dimensions) row (list_all-all_but (λ dimension. dimension.chosen.is_all) but dimensions none)) rows

-- to insert and to remove at the same place changes nothing
pub remove-insert : {X : Type 0} (xs : List X) (i : ℕ) (x : X) → i ≤ length xs → remove (insert xs i x) i ≡ xs
remove-insert [] zero x within = refl
remove-insert [] (suc i) x within = absurd (omega arith)
remove-insert (y ∷ ys) zero x within = refl
remove-insert (y ∷ ys) (suc i) x within = ap (λ rest. y ∷ rest) (remove-insert ys i x (omega arith))

-- what is selected but for one dimension is what is selected where it is not there
pub selected-insert : {Row Key : Type 0} (dimensions : List (Dimension Row Key)) (own : ℕ) (dimension : Dimension Row Key) (rows : List Row) → own ≤ length dimensions → selected (insert dimensions own dimension) (Some own) rows ≡ selected dimensions None rows
selected-insert dimensions own dimension rows within = ap (λ others. filter (passes_each others) rows) (remove-insert dimensions own dimension within)

and_front : (a b c : Bool) → (a && (b && c)) ≡ (b && (a && c))
and_front true b c = refl
and_front false true c = refl
and_front false false c = refl

list_all-insert : {X : Type 0} (test : X → Bool) (xs : List X) (i : ℕ) (x : X) → i ≤ length xs → list_all test (insert xs i x) ≡ (test x && list_all test xs)
list_all-insert test [] zero x within = refl
list_all-insert test [] (suc i) x within = absurd (omega arith)
list_all-insert test (y ∷ ys) zero x within = refl
list_all-insert test (y ∷ ys) (suc i) x within = ap (λ rest. test y && rest) (list_all-insert test ys i x (omega arith)) ∙ and_front (test y) (test x) (list_all test ys)

filter_both : {X : Type 0} (p q both : X → Bool) → ((x : X) → both x ≡ (p x && q x)) → (xs : List X) → filter both xs ≡ filter p (filter q xs)
filter_both p q both same [] = refl
filter_both p q both same (x ∷ xs) = rw (same x, filter_both p q both same xs) (step (p x) (q x) refl)
  where
    step : (a b : Bool) → p x ≡ a → cond (a && b) (x ∷ filter p (filter q xs)) (filter p (filter q xs)) ≡ filter p (cond b (x ∷ filter q xs) (filter q xs))
    step true true is = rw is
    step false true is = rw is
    step true false is = refl
    step false false is = refl

-- of the rows that are selected but for one dimension, those that pass it are selected
pub selected-one_more : {Row Key : Type 0} (dimensions : List (Dimension Row Key)) (own : ℕ) (dimension : Dimension Row Key) (rows : List Row) → own ≤ length dimensions → selected (insert dimensions own dimension) None rows ≡ filter (passes dimension) (selected (insert dimensions own dimension) (Some own) rows)
selected-one_more dimensions own dimension rows within =
    filter_both (passes dimension) (passes_each dimensions) (passes_each (insert dimensions own dimension)) (λ row. list_all-insert (λ d. passes d row) dimensions own dimension within) rows
    ∙ ap (filter (passes dimension)) (sym (selected-insert dimensions own dimension rows within))

and_swap : (a b : Bool) → (a && b) ≡ (b && a)
and_swap true true = refl
and_swap true false = refl
and_swap false true = refl
and_swap false false = refl

-- of rows that are kept, those are selected that were
pub selected-filter : {Row Key : Type 0} (dimensions : List (Dimension Row Key)) (but : Option ℕ) (keep : Row → Bool) (rows : List Row) → selected dimensions but (filter keep rows) ≡ filter keep (selected dimensions but rows)
selected-filter {Row} dimensions but keep rows =
    let pass : Row → Bool = passes_each (all_but but dimensions) in
    let both : Row → Bool = λ row. pass row && keep row in
    sym (filter_both pass keep both (λ row. refl) rows) ∙ filter_both keep pass both (λ row. and_swap (pass row) (keep row)) rows

-- where a dimension's filter is "all", as much is selected without the dimension
pub selected-insert_all : {Row Key : Type 0} (dimensions : List (Dimension Row Key)) (own : ℕ) (dimension : Dimension Row Key) (rows : List Row) → own ≤ length dimensions → dimension.chosen.is_all ≡ true → selected (insert dimensions own dimension) None rows ≡ selected dimensions None rows
selected-insert_all dimensions own dimension rows within is_all =
    selected-one_more dimensions own dimension rows within
    ∙ filter_whole (passes dimension) (λ row. ap (λ b. b || list_any dimension.chosen.holds (dimension.keys row)) is_all) (selected (insert dimensions own dimension) (Some own) rows)
    ∙ selected-insert dimensions own dimension rows within
