-- What is true of rows that are not refused, and the other way round.
use Rattle.std.proofs.Common.{◌≡◌, ◌≤◌, ◌+◌, ◌-◌, ◌^◌, ◌<◌, ℕ, nat_lt, Bool, true, false, cond, List, [], ◌∷◌, ◌++◌, length, Option, Some, None, option_map, slice_get, refl, arith, length-append}
use Rattle.std.proofs.lemmas.Bool.Decides.{nat_tests}
use Rattle.std.proofs.lemmas.List.Sums.{sum_by-append}
use Rattle.std.specs.List.{AllByRecursion, cons_option, enumerate_from}
use Rattle.xf_base.specs.Bounds.{Bounds}
use Rattle.xf_base.specs.Cell.{row_bytes}
use Rattle.xf_base.specs.Schema.{IsRowOf, misfit_of}
use Rattle.xf_base.specs.declared.cell.Cell.{Cell}
use Rattle.xf_base.specs.declared.column.Column.{Column}
use Rattle.xf_base.proofs.Misfits.{row-from_no_misfit, no_misfit-from_row}
use Rattle.xf_table.specs.Append.{mismatch_of, refusal_of}
use Rattle.xf_table.specs.Table.{IsTable, text_of_rows}
use Rattle.xf_table.specs.declared.append_refusal.AppendRefusal.{AppendRefusal}
use Rattle.xf_table.specs.declared.append_refusal.AppendRefusal.TheVariants.{KindMismatch}

-- the first row is none that does not fit where none is told, and then none of the others is
first-none : (found : Option ℕ) (place : ℕ) (later : List AppendRefusal) → slice_get (cons_option (option_map (λ column. KindMismatch place column) found) later) 0 ≡ None → (found ≡ None) × (slice_get later 0 ≡ None)
first-none None place later none = (refl, none)
first-none (Some column) place later none = absurd cc

-- rows without a mismatch are of the columns
pub rows-from_no_mismatch : (columns : List Column) (rows : List (List Cell)) (first : ℕ) → mismatch_of columns (enumerate_from first rows) ≡ None → AllByRecursion (IsRowOf columns) rows
rows-from_no_mismatch columns [] first none = tt
rows-from_no_mismatch columns (row ∷ rows) first none =
    let told = first-none (misfit_of columns row) first _ none in
    (row-from_no_misfit columns row told.0, rows-from_no_mismatch columns rows (first + 1) told.1)

-- rows of the columns have no mismatch
pub no_mismatch-from_rows : (columns : List Column) (rows : List (List Cell)) (first : ℕ) → AllByRecursion (IsRowOf columns) rows → mismatch_of columns (enumerate_from first rows) ≡ None
no_mismatch-from_rows columns [] first of = refl
no_mismatch-from_rows columns (row ∷ rows) first of =
    rw (no_misfit-from_row columns row of.0) (no_mismatch-from_rows columns rows (first + 1) of.1)

-- where none of three causes is told, none of them holds
parts : {A : Type 0} (many much : Bool) (first second : A) (third : Option A) → cond many (Some first) (cond much (Some second) third) ≡ None → (many ≡ false) × (much ≡ false) × (third ≡ None)
parts true much first second third none = absurd cc
parts false true first second third none = absurd cc
parts false false first second third none = (refl, refl, none)

-- what holds of each of two lists holds of one after the other
pub all-append : {X : Type 0} (P : X → Type 0) (xs ys : List X) → AllByRecursion P xs → AllByRecursion P ys → AllByRecursion P (xs ++ ys)
all-append P [] ys all more = more
all-append P (x ∷ xs) ys all more = (all.0, all-append P xs ys all.1 more)

-- the text of rows after others, where there are few bytes
text-append : (rows more : List (List Cell)) (limit : ℕ) → limit < 2 ^ 64 - 1 → text_of_rows rows + text_of_rows more ≤ limit → text_of_rows (rows ++ more) ≡ text_of_rows rows + text_of_rows more
text-append rows more limit low small = omega (arith, sum_by-append row_bytes rows more)

-- a table to which rows are added that are not refused
pub IsTable-append : (columns : List Column) (limits : Bounds) (rows more : List (List Cell)) (text added : ℕ) → limits.text_bytes < 2 ^ 64 - 1 → IsTable columns limits rows text → added ≡ text_of_rows more → refusal_of (record { columns = columns; limits = limits; rows = rows }) more ≡ None → IsTable columns limits (rows ++ more) (text + added)
IsTable-append columns limits rows more text added low is counted none =
    let told = parts (nat_lt limits.rows (length rows + length more)) (nat_lt limits.text_bytes (text_of_rows rows + text_of_rows more)) _ _ (mismatch_of columns (enumerate_from 0 more)) none in
    let few : length rows + length more ≤ limits.rows = grind (arith, nat_tests) in
    let small : text_of_rows rows + text_of_rows more ≤ limits.text_bytes = grind (arith, nat_tests) in
    record {
      of_schema = all-append (IsRowOf columns) rows more is.of_schema (rows-from_no_mismatch columns more 0 told.2);
      few = omega (arith, length-append rows more);
      small = omega (arith, is.counted);
      counted = omega (arith, is.counted, text-append rows more limits.text_bytes low small);
    }
