-- Reducers for which the order of rows does not matter, and that can take a row back.
use Rattle.std.specs.Prelude.{◌≡◌, ℕ, ◌+◌, ◌≤◌, Bool, true, List, length}
use Rattle.std.specs.List.{list_all}
use Rattle.xf_model.specs.Group.{Reducer, fold_of}

-- two rows change the fold of others alike in either order, where they are at most so many together and all suit
abbrev pub StepsSwap : {Row Value : Type 0} → (Row → Bool) → ℕ → Reducer Row Value → Type 0
StepsSwap {Row = Row} suits most reducer =
    (rows : List Row) (one other : Row) → length rows + 2 ≤ most → list_all suits rows ≡ true → suits one ≡ true → suits other ≡ true
    → reducer.step (reducer.step (fold_of reducer rows) one) other ≡ reducer.step (reducer.step (fold_of reducer rows) other) one

-- to undo the row that was added to the fold of others gives that fold
abbrev pub UndoTakesBack : {Row Value : Type 0} → (Row → Bool) → ℕ → Reducer Row Value → (Value → Row → Value) → Type 0
UndoTakesBack {Row = Row} suits most reducer undo =
    (rows : List Row) (row : Row) → length rows + 1 ≤ most → list_all suits rows ≡ true → suits row ≡ true
    → undo (reducer.step (fold_of reducer rows) row) row ≡ fold_of reducer rows
