-- What reducers and parts of them are to keep: what their calls ask and tell, and their laws.
use Rattle.std.specs.Prelude.{◌≡◌, ℕ, ◌+◌, ◌-◌, ◌^◌, ◌<◌, ◌≤◌, min, ℤ, pos, neg_ℤ, ◌≤ℤ◌, Bool, true, List, length, Option, Some, None, is_none, ⊤}
use Rattle.std.specs.List.{AllByRecursion}
use Rattle.xf_base.specs.Schema.{IsRowOf, misfit_of}
use Rattle.xf_base.specs.declared.cell.Cell.{Cell}
use Rattle.xf_base.specs.declared.column.Column.{Column}
use Rattle.xf_base.specs.declared.limits.TheConstants.Limits.{ROWS}
use Rattle.xf_model.specs.Group.{Reducer, fold_of}
use Rattle.xf_model.specs.Undo.{StepsSwap, UndoTakesBack}

-- ---- what the calls ask

-- a row of a schema that fits
pub record Suits (fits : List Column → Bool) (row : List Cell) : Type 0 where
  pub columns : List Column
  pub fit : fits columns ≡ true
  pub of_columns : IsRowOf columns row

-- a row of a schema that fits, and a value that means the fold of other rows of it, fewer than there may be
pub record IsFoldBefore {Meaning : Type 0} (fits : List Column → Bool) (reducer : Reducer (List Cell) Meaning) (value : Meaning) (row : List Cell) : Type 0 where
  pub columns : List Column
  pub fit : fits columns ≡ true
  pub of_columns : IsRowOf columns row
  pub rows : List (List Cell)
  pub of_schema : AllByRecursion (IsRowOf columns) rows
  pub few : length rows < ROWS
  pub folded : value ≡ fold_of reducer rows

-- a value that means what such a row makes of such a fold
pub record IsFoldWith {Meaning : Type 0} (fits : List Column → Bool) (reducer : Reducer (List Cell) Meaning) (value : Meaning) (row : List Cell) : Type 0 where
  pub columns : List Column
  pub fit : fits columns ≡ true
  pub of_columns : IsRowOf columns row
  pub rows : List (List Cell)
  pub of_schema : AllByRecursion (IsRowOf columns) rows
  pub few : length rows < ROWS
  pub folded : value ≡ reducer.step (fold_of reducer rows) row

-- ---- what they tell

-- a value stays ready for each row for which it was
abbrev pub StaysReady : {Value : Type 0} → (Value → List Cell → Type 0) → Value → Value → Type 0
StaysReady IsReady old new = (row : List Cell) → IsReady old row → IsReady new row

-- a number of calls with one more, which stands still at its type's end
abbrev pub one_more : ℕ → ℕ
one_more calls = min (calls + 1) (2 ^ 64 - 1)

-- a number of calls, where one is told, is as before
abbrev pub SameCalls : {Value : Type 0} → Option (Value → ℕ) → Value → Value → Type 0
SameCalls None old new = ⊤
SameCalls (Some calls) old new = calls new ≡ calls old

-- it is one more
abbrev pub OneMoreCall : {Value : Type 0} → Option (Value → ℕ) → Value → Value → Type 0
OneMoreCall None old new = ⊤
OneMoreCall (Some calls) old new = calls new ≡ one_more (calls old)

-- ---- laws

-- whether a row is one of a schema's
abbrev pub is_row_of : List Column → List Cell → Bool
is_row_of columns row = is_none (misfit_of columns row)

-- over rows of a schema that fits, two rows change a fold alike in either order
abbrev pub Swaps : {Meaning : Type 0} → (List Column → Bool) → Reducer (List Cell) Meaning → Type 0
Swaps fits reducer = (columns : List Column) → fits columns ≡ true → StepsSwap (is_row_of columns) ROWS reducer

-- and a row that was added can be taken back
abbrev pub TakesBack : {Meaning : Type 0} → (List Column → Bool) → Reducer (List Cell) Meaning → (Meaning → List Cell → Meaning) → Type 0
TakesBack fits reducer undo = (columns : List Column) → fits columns ≡ true → UndoTakesBack (is_row_of columns) ROWS reducer undo

-- a number from -10^36 to 10^36
abbrev pub IsRank : ℤ → Type 0
IsRank number = (neg_ℤ (pos (10 ^ 36)) ≤ℤ number) × (number ≤ℤ pos (10 ^ 36))

-- each field of a fold of as many rows as there may be is such a number
abbrev pub RanksWithin : {Meaning : Type 0} → (List Column → Bool) → Reducer (List Cell) Meaning → (Meaning → ℕ → ℤ) → ℕ → Type 0
RanksWithin fits reducer rank fields =
    (columns : List Column) (rows : List (List Cell)) (field : ℕ) → fits columns ≡ true → AllByRecursion (IsRowOf columns) rows → length rows ≤ ROWS → field < fields
    → IsRank (rank (fold_of reducer rows) field)
