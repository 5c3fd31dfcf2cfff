-- Only proofs need this file: what folds of rows keep, and how large their numbers may become.
use Rattle.std.proofs.Common.{◌≡◌, ℕ, ◌+◌, ◌*◌, ◌≤◌, ℤ, nat_abs, ◌+ℤ◌, ◌-ℤ◌, List, [], ◌∷◌, length, fold, refl, ap, ◌∙◌, arith}
use Rattle.std.proofs.lemmas.Int.{ints}
use Rattle.std.specs.List.{AllByRecursion}
use Rattle.xf_base.specs.Schema.{IsRowOf}
use Rattle.xf_base.specs.declared.cell.Cell.{Cell}
use Rattle.xf_base.specs.declared.column.Column.{Column}
use Rattle.xf_model.specs.Group.{Reducer, fold_of}

-- ---- a part of a fold

-- a part of what a reducer keeps, which each row changes as another reducer does
pub record IsPart {Row X Y : Type 0} (part : X → Y) (reducer : Reducer Row X) (own : Reducer Row Y) : Type 0 where
  pub initial : part reducer.initial ≡ own.initial
  pub step : (value : X) (row : Row) → part (reducer.step value row) ≡ own.step (part value) row

part-fold : {Row X Y : Type 0} (part : X → Y) (reducer : Reducer Row X) (own : Reducer Row Y) → IsPart part reducer own → (start : X) (rows : List Row) → part (fold reducer.step start rows) ≡ fold own.step (part start) rows
part-fold part reducer own is start [] = refl
part-fold part reducer own is start (row ∷ rows) =
    part-fold part reducer own is (reducer.step start row) rows ∙ ap (λ value. fold own.step value rows) (is.step start row)

-- that part of a fold is the fold of that other
pub part-fold_of : {Row X Y : Type 0} (part : X → Y) (reducer : Reducer Row X) (own : Reducer Row Y) → IsPart part reducer own → (rows : List Row) → part (fold_of reducer rows) ≡ fold_of own rows
part-fold_of part reducer own is rows = part-fold part reducer own is reducer.initial rows ∙ ap (λ value. fold own.step value rows) is.initial

-- ---- sums

pub swap_sum : (sum one other : ℤ) → (sum +ℤ one) +ℤ other ≡ (sum +ℤ other) +ℤ one
swap_sum sum one other = omega (arith, ints)

pub back_sum : (sum one : ℤ) → (sum +ℤ one) -ℤ one ≡ sum
back_sum sum one = omega (arith, ints)

pub abs-add : (one other : ℤ) → nat_abs (one +ℤ other) ≤ nat_abs one + nat_abs other
abs-add one other = grind (arith, ints)

-- a sum of numbers of rows, of which none is beyond a bound
pub abs-sum : (number : List Cell → ℤ) (bound : ℕ) (columns : List Column) → ((row : List Cell) → IsRowOf columns row → nat_abs (number row) ≤ bound) → (start : ℤ) (rows : List (List Cell)) → AllByRecursion (IsRowOf columns) rows → nat_abs (fold (λ sum row. sum +ℤ number row) start rows) ≤ nat_abs start + length rows * bound
abs-sum number bound columns within start [] all = omega arith
abs-sum number bound columns within start (row ∷ rows) all =
    let here : nat_abs (number row) ≤ bound = within row all.0 in
    let more : nat_abs (start +ℤ number row) ≤ nat_abs start + nat_abs (number row) = abs-add start (number row) in
    let rest : nat_abs (fold (λ sum row. sum +ℤ number row) (start +ℤ number row) rows) ≤ nat_abs (start +ℤ number row) + length rows * bound = abs-sum number bound columns within (start +ℤ number row) rows all.1 in
    omega arith
