-- Only proofs need this file: the laws of the part of the stock that keeps numbers.
use Rattle.std.proofs.Common.{◌≡◌, ℕ, zero, suc, ◌+◌, ◌-◌, ◌/◌, ◌≤◌, Bool, true, false, ◌==◌, if◌then◌else◌, ℤ, pos, nat_abs, List, [], ◌∷◌, length, fold, Less, Equal, Greater, refl, sym, ap, ◌∙◌, lit≤, arith}
use Rattle.std.specs.FinMap.{int_cmp-IsAntisymmetric}
use Rattle.std.specs.List.{AllByRecursion}
use Rattle.std.specs.Ordering.{int_cmp, is_eq, is_lt, ordering_reverse}
use Rattle.std.specs.declared.cmp.Ordering.{Ordering}
use Rattle.std.proofs.lemmas.Cmp.{int_cmp_total, tied_itself}
use Rattle.std.proofs.lemmas.Int.{ints}
use Rattle.xf_base.specs.Schema.{IsRowOf}
use Rattle.xf_base.specs.declared.cell.Cell.{Cell}
use Rattle.xf_base.specs.declared.column.Column.{Column}
use Rattle.xf_base.specs.declared.fixed.TheConstants.{GREATEST_NUMBER}
use Rattle.xf_base.specs.declared.limits.TheConstants.Limits.{ROWS}
use Rattle.xf_model.specs.Group.{distinct_keys, fold_of, with_key}
use Rattle.xf_reduce.specs.Laws.{IsRank, RanksWithin, Swaps, TakesBack}
use Rattle.xf_reduce.specs.CellNumbers.{abs-number_at}
use Rattle.xf_reduce.specs.Number.{fits_at, number_at}
use Rattle.xf_reduce.specs.Stock.{number_in_place, numbers_field, numbers_less, numbers_of, with_number, without_number}

-- the three answers of a comparison, each with its equation
by_order : {P : Type 0} (r : Ordering) → (r ≡ Less → P) → (r ≡ Equal → P) → (r ≡ Greater → P) → P
by_order Less less equal greater = less refl
by_order Equal less equal greater = equal refl
by_order Greater less equal greater = greater refl

-- ---- one number more

-- a number above the first goes among the rest
pub with_number_later : (number first : ℤ) (later : List ℤ) → is_lt (int_cmp first number) ≡ true → with_number number (first ∷ later) ≡ first ∷ with_number number later
with_number_later number first later below = ap (λ test. if test then first ∷ with_number number later else number ∷ first ∷ later) below

-- a number that is not above the first goes before it
pub with_number_here : (number first : ℤ) (later : List ℤ) → is_lt (int_cmp first number) ≡ false → with_number number (first ∷ later) ≡ number ∷ first ∷ later
with_number_here number first later stop = ap (λ test. if test then first ∷ with_number number later else number ∷ first ∷ later) stop

-- a number goes before one that is above it
with_number_before : (number first : ℤ) (later : List ℤ) → int_cmp number first ≡ Less → with_number number (first ∷ later) ≡ number ∷ first ∷ later
with_number_before number first later less = with_number_here number first later (ap is_lt (int_cmp_total.antisymm first number ∙ ap ordering_reverse less))

-- where a number stops, a greater one goes behind it, whichever comes first
swap_here : (lower upper first : ℤ) (later : List ℤ) → int_cmp lower upper ≡ Less → is_lt (int_cmp first lower) ≡ false
    → with_number upper (with_number lower (first ∷ later)) ≡ with_number lower (with_number upper (first ∷ later))
swap_here lower upper first later less stop =
    let behind : with_number upper (with_number lower (first ∷ later)) ≡ lower ∷ with_number upper (first ∷ later) =
    ap (with_number upper) (with_number_here lower first later stop) ∙ with_number_later upper lower (first ∷ later) (ap is_lt less) in
    behind ∙ sym (choose (is_lt (int_cmp first upper)) refl)
  where
    choose : (test : Bool) → is_lt (int_cmp first upper) ≡ test → with_number lower (with_number upper (first ∷ later)) ≡ lower ∷ with_number upper (first ∷ later)
    choose true below =
        let upper_later : with_number upper (first ∷ later) ≡ first ∷ with_number upper later = with_number_later upper first later below in
        ap (with_number lower) upper_later ∙ with_number_here lower first (with_number upper later) stop ∙ ap (λ rest. lower ∷ rest) (sym upper_later)
    choose false above =
        let upper_here : with_number upper (first ∷ later) ≡ upper ∷ first ∷ later = with_number_here upper first later above in
        ap (with_number lower) upper_here ∙ with_number_before lower upper (first ∷ later) less ∙ ap (λ rest. lower ∷ rest) (sym upper_here)

-- two numbers of which one is less come in either order
swap_less : (lower upper : ℤ) (numbers : List ℤ) → int_cmp lower upper ≡ Less → with_number upper (with_number lower numbers) ≡ with_number lower (with_number upper numbers)
swap_less lower upper [] less = with_number_later upper lower [] (ap is_lt less) ∙ sym (with_number_before lower upper [] less)
swap_less lower upper (first ∷ later) less =
    by_order (int_cmp first lower)
    (λ below.
    let also_below : is_lt (int_cmp first upper) ≡ true = ap is_lt (int_cmp_total.trans first lower upper below less) in
    ap (with_number upper) (with_number_later lower first later (ap is_lt below))
    ∙ with_number_later upper first (with_number lower later) also_below
    ∙ ap (λ rest. first ∷ rest) (swap_less lower upper later less)
    ∙ sym (with_number_later lower first (with_number upper later) (ap is_lt below))
    ∙ ap (with_number lower) (sym (with_number_later upper first later also_below)))
    (λ tied. swap_here lower upper first later less (ap is_lt tied))
    (λ above. swap_here lower upper first later less (ap is_lt above))

-- two numbers come in either order
pub with_number-swap : (one other : ℤ) (numbers : List ℤ) → with_number other (with_number one numbers) ≡ with_number one (with_number other numbers)
with_number-swap one other numbers =
    by_order (int_cmp one other)
    (λ less. swap_less one other numbers less)
    (λ tied.
    let same : one ≡ other = int_cmp-IsAntisymmetric one other tied in
    ap (λ last. with_number last (with_number one numbers)) (sym same) ∙ ap (λ first. with_number one (with_number first numbers)) same)
    (λ greater. sym (swap_less other one numbers (int_cmp_total.antisymm other one ∙ ap ordering_reverse greater)))

-- ---- one number less

-- the first goes where it is the number
pub without_number_here : (number : ℤ) (later : List ℤ) → without_number number (number ∷ later) ≡ later
without_number_here number later = ap (λ test. if test then later else number ∷ without_number number later) (ap is_eq (tied_itself int_cmp_total number))

-- another first stays
pub without_number_later : (number first : ℤ) (later : List ℤ) → is_eq (int_cmp first number) ≡ false → without_number number (first ∷ later) ≡ first ∷ without_number number later
without_number_later number first later other = ap (λ test. if test then later else first ∷ without_number number later) other

-- a number that came can go
pub without_number-with_number : (number : ℤ) (numbers : List ℤ) → without_number number (with_number number numbers) ≡ numbers
without_number-with_number number [] = without_number_here number []
without_number-with_number number (first ∷ later) =
    by_order (int_cmp first number)
    (λ below.
    ap (without_number number) (with_number_later number first later (ap is_lt below))
    ∙ without_number_later number first (with_number number later) (ap is_eq below)
    ∙ ap (λ rest. first ∷ rest) (without_number-with_number number later))
    (λ tied. stopped (ap is_lt tied))
    (λ above. stopped (ap is_lt above))
  where
    stopped : is_lt (int_cmp first number) ≡ false → without_number number (with_number number (first ∷ later)) ≡ first ∷ later
    stopped stop = ap (without_number number) (with_number_here number first later stop) ∙ without_number_here number (first ∷ later)

-- ---- how many numbers, and how great

-- one number more is one more
pub length-with_number : (number : ℤ) (numbers : List ℤ) → length (with_number number numbers) ≡ length numbers + 1
length-with_number number [] = omega arith
length-with_number number (first ∷ later) =
    let rest : length (with_number number later) ≡ length later + 1 = length-with_number number later in
    elim (is_lt (int_cmp first number)) as (λ test. length (if test then first ∷ with_number number later else number ∷ first ∷ later) ≡ length (first ∷ later) + 1) [
      | true ↦ omega arith
      | false ↦ omega arith
    ]

length-fold : (place : ℕ) (numbers : List ℤ) (rows : List (List Cell)) → length (fold (λ numbers row. with_number (number_at place row) numbers) numbers rows) ≡ length numbers + length rows
length-fold place numbers [] = omega arith
length-fold place numbers (row ∷ rows) =
    let more : length (with_number (number_at place row) numbers) ≡ length numbers + 1 = length-with_number (number_at place row) numbers in
    length-fold place (with_number (number_at place row) numbers) rows ∙ omega arith

-- there are as many numbers as rows
pub length-numbers_of : (place : ℕ) (rows : List (List Cell)) → length (fold_of (numbers_of place) rows) ≡ length rows
length-numbers_of place rows = length-fold place [] rows ∙ omega arith

-- what holds of a number and of each of others holds of each once it has come
all-with_number : (P : ℤ → Type 0) (number : ℤ) (numbers : List ℤ) → P number → AllByRecursion P numbers → AllByRecursion P (with_number number numbers)
all-with_number P number [] own all = (own, tt)
all-with_number P number (first ∷ later) own all =
    elim (is_lt (int_cmp first number)) as (λ test. AllByRecursion P (if test then first ∷ with_number number later else number ∷ first ∷ later)) [
      | true ↦ (all.0, all-with_number P number later own all.1)
      | false ↦ (own, all)
    ]

-- a number that a cell may hold
abbrev IsSmall : ℤ → Type 0
IsSmall number = nat_abs number ≤ GREATEST_NUMBER

all-fold : (place : ℕ) (columns : List Column) (numbers : List ℤ) (rows : List (List Cell)) → fits_at place columns ≡ true → AllByRecursion (IsRowOf columns) rows
    → AllByRecursion IsSmall numbers → AllByRecursion IsSmall (fold (λ numbers row. with_number (number_at place row) numbers) numbers rows)
all-fold place columns numbers [] fit own all = all
all-fold place columns numbers (row ∷ rows) fit own all =
    all-fold place columns (with_number (number_at place row) numbers) rows fit own.1 (all-with_number IsSmall (number_at place row) numbers (abs-number_at place columns row fit own.0) all)

-- the number at a place is one of them, or 0
in_place_number : (numbers : List ℤ) (place : ℕ) → AllByRecursion IsSmall numbers → IsSmall (number_in_place numbers place)
in_place_number [] place all = omega arith
in_place_number (number ∷ numbers) zero all = all.0
in_place_number (number ∷ numbers) (suc place) all = in_place_number numbers place all.1

-- no more numbers differ than there are
length-with_key : (number : ℤ) (numbers : List ℤ) → length (with_key int_cmp number numbers) ≤ length numbers + 1
length-with_key number [] = omega arith
length-with_key number (first ∷ later) =
    let rest : length (with_key int_cmp number later) ≤ length later + 1 = length-with_key number later in
    choose rest (is_lt (int_cmp number first)) (is_lt (int_cmp first number))
  where
    choose : length (with_key int_cmp number later) ≤ length later + 1 → (before after : Bool)
        → length (if before then number ∷ first ∷ later else if after then first ∷ with_key int_cmp number later else first ∷ later) ≤ length (first ∷ later) + 1
    choose rest true after = omega arith
    choose rest false true = omega arith
    choose rest false false = omega arith

pub length-distinct_keys : (numbers : List ℤ) → length (distinct_keys int_cmp numbers) ≤ length numbers
length-distinct_keys [] = omega arith
length-distinct_keys (number ∷ numbers) =
    let more : length (with_key int_cmp number (distinct_keys int_cmp numbers)) ≤ length (distinct_keys int_cmp numbers) + 1 = length-with_key number (distinct_keys int_cmp numbers) in
    let rest : length (distinct_keys int_cmp numbers) ≤ length numbers = length-distinct_keys numbers in
    omega arith

-- ---- ranks

rank_of_number : (number : ℤ) → IsSmall number → IsRank number
rank_of_number number small = (grind (arith, ints), grind (arith, ints))

rank_of_count : (count : ℕ) → count ≤ ROWS → IsRank (pos count)
rank_of_count count few = (omega (arith, ints), omega (arith, ints))

one_of_four : (P : ℤ → Type 0) (first second third : Bool) (a b c d : ℤ) → P a → P b → P c → P d → P (if first then a else if second then b else if third then c else d)
one_of_four P true second third a b c d pa pb pc pd = pa
one_of_four P false true third a b c d pa pb pc pd = pb
one_of_four P false false true a b c d pa pb pc pd = pc
one_of_four P false false false a b c d pa pb pc pd = pd

-- ---- the laws

pub numbers_few : (1 ≤ 4) × (4 ≤ 100)
numbers_few = (lit≤ tt, lit≤ tt)

pub numbers_swap : (place : ℕ) → Swaps (fits_at place) (numbers_of place)
numbers_swap place = λ columns fit rows one other few all own also. with_number-swap (number_at place one) (number_at place other) (fold_of (numbers_of place) rows)

pub numbers_take_back : (place : ℕ) → TakesBack (fits_at place) (numbers_of place) (numbers_less place)
numbers_take_back place = λ columns fit rows row few all own. without_number-with_number (number_at place row) (fold_of (numbers_of place) rows)

pub numbers_within : (place : ℕ) → RanksWithin (fits_at place) (numbers_of place) numbers_field 4
numbers_within place = λ columns rows field fit own few fields.
    let numbers = fold_of (numbers_of place) rows in
    let all : AllByRecursion IsSmall numbers = all-fold place columns [] rows fit own tt in
    let many : length numbers ≡ length rows = length-numbers_of place rows in
    let differ : length (distinct_keys int_cmp numbers) ≤ length numbers = length-distinct_keys numbers in
    one_of_four IsRank (field == 0) (field == 1) (field == 2)
    (pos (length (distinct_keys int_cmp numbers)))
    (number_in_place numbers 0)
    (number_in_place numbers (length numbers - 1))
    (number_in_place numbers ((length numbers - 1) / 2))
    (rank_of_count (length (distinct_keys int_cmp numbers)) (omega arith))
    (rank_of_number (number_in_place numbers 0) (in_place_number numbers 0 all))
    (rank_of_number (number_in_place numbers (length numbers - 1)) (in_place_number numbers (length numbers - 1) all))
    (rank_of_number (number_in_place numbers ((length numbers - 1) / 2)) (in_place_number numbers ((length numbers - 1) / 2) all))
