-- Only proofs need this file: reducers of lawful parts are lawful.
use Rattle.std.proofs.Common.{◌≡◌, ℕ, ◌+◌, ◌-◌, ◌<◌, ◌≤◌, nat_lt, ℤ, Bool, ◌&&◌, if◌then◌else◌, List, refl, sym, subst, arith}
use Rattle.std.proofs.lemmas.Bool.{and_parts, cond_both}
use Rattle.std.proofs.lemmas.Bool.Decides.{nat_tests}
use Rattle.xf_base.specs.declared.cell.Cell.{Cell}
use Rattle.xf_base.specs.declared.column.Column.{Column}
use Rattle.xf_model.specs.Group.{Reducer, fold_of}
use Rattle.xf_reduce.specs.Folds.{IsPart, part-fold_of}
use Rattle.xf_reduce.specs.Laws.{IsRank, RanksWithin, Swaps, TakesBack}
use Rattle.xf_reduce.specs.Pairs.{both_field, both_less, both_of}

pub alone_few : {fields : ℕ} → (1 ≤ fields) × (fields ≤ 100) → (1 ≤ fields) × (fields ≤ 200)
alone_few few = (few.0, omega arith)

pub both_few : {first second : ℕ} → (1 ≤ first) × (first ≤ 100) → (1 ≤ second) × (second ≤ 100) → (1 ≤ first + second) × (first + second ≤ 200)
both_few one other = (omega arith, omega arith)

-- each of the two is a part of both
pub first_of_both : {Row X Y : Type 0} (first : Reducer Row X) (second : Reducer Row Y) → IsPart (λ (pair : X × Y). pair.0) (both_of first second) first
first_of_both first second = record { initial = refl; step = λ pair row. refl }

pub second_of_both : {Row X Y : Type 0} (first : Reducer Row X) (second : Reducer Row Y) → IsPart (λ (pair : X × Y). pair.1) (both_of first second) second
second_of_both first second = record { initial = refl; step = λ pair row. refl }

-- a field is one of the first's or one of the second's
pub both_is_rank : (fields others field : ℕ) (one other : ℤ) → field < fields + others → (field < fields → IsRank one) → (field - fields < others → IsRank other) → IsRank (if nat_lt field fields then one else other)
both_is_rank fields others field one other within is_one is_other =
    cond_both (nat_lt field fields) one other IsRank (λ test. is_one (grind (arith, nat_tests))) (λ test. is_other (grind (arith, nat_tests)))

module _ {X Y : Type 0} {fits other_fits : List Column → Bool} (first : Reducer (List Cell) X) (second : Reducer (List Cell) Y) where
  pub both_swap : Swaps fits first → Swaps other_fits second → Swaps (λ columns. fits columns && other_fits columns) (both_of first second)
  both_swap one other columns fit rows a b few all is_a is_b =
      let fits_both = and_parts (fits columns) (other_fits columns) fit in
      let front = sym (part-fold_of (λ (pair : X × Y). pair.0) (both_of first second) first (first_of_both first second) rows) in
      let back = sym (part-fold_of (λ (pair : X × Y). pair.1) (both_of first second) second (second_of_both first second) rows) in
      let left = subst (λ (value : X). first.step (first.step value a) b ≡ first.step (first.step value b) a) front (one columns fits_both.0 rows a b few all is_a is_b) in
      let right = subst (λ (value : Y). second.step (second.step value a) b ≡ second.step (second.step value b) a) back (other columns fits_both.1 rows a b few all is_a is_b) in
      λ i. (left i, right i)

  pub both_take_back : (undo : X → List Cell → X) (other_undo : Y → List Cell → Y)
      → TakesBack fits first undo → TakesBack other_fits second other_undo
      → TakesBack (λ columns. fits columns && other_fits columns) (both_of first second) (both_less undo other_undo)
  both_take_back undo other_undo one other columns fit rows row few all is =
      let fits_both = and_parts (fits columns) (other_fits columns) fit in
      let front = sym (part-fold_of (λ (pair : X × Y). pair.0) (both_of first second) first (first_of_both first second) rows) in
      let back = sym (part-fold_of (λ (pair : X × Y). pair.1) (both_of first second) second (second_of_both first second) rows) in
      let left = subst (λ (value : X). undo (first.step value row) row ≡ value) front (one columns fits_both.0 rows row few all is) in
      let right = subst (λ (value : Y). other_undo (second.step value row) row ≡ value) back (other columns fits_both.1 rows row few all is) in
      λ i. (left i, right i)

  pub both_within : (rank : X → ℕ → ℤ) (other_rank : Y → ℕ → ℤ) {fields other_fields : ℕ}
      → RanksWithin fits first rank fields → RanksWithin other_fits second other_rank other_fields
      → RanksWithin (λ columns. fits columns && other_fits columns) (both_of first second) (both_field fields rank other_rank) (fields + other_fields)
  both_within rank other_rank {fields = fields} {other_fields = other_fields} one other columns rows field fit all few within =
      let fits_both = and_parts (fits columns) (other_fits columns) fit in
      let pair = fold_of (both_of first second) rows in
      let front = sym (part-fold_of (λ (pair : X × Y). pair.0) (both_of first second) first (first_of_both first second) rows) in
      let back = sym (part-fold_of (λ (pair : X × Y). pair.1) (both_of first second) second (second_of_both first second) rows) in
      both_is_rank fields other_fields field (rank pair.0 field) (other_rank pair.1 (field - fields)) within
      (λ (is : field < fields). subst (λ (value : X). IsRank (rank value field)) front (one columns rows field fits_both.0 all few is))
      (λ (is : field - fields < other_fields). subst (λ (value : Y). IsRank (other_rank value (field - fields))) back (other columns rows (field - fields) fits_both.1 all few is))
