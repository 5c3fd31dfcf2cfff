-- New places of a group, and for which rows its values are ready.
use Rattle.std.specs.Prelude.{◌≡◌, ℕ, Bool, true, List, Option, Some}
use Rattle.std.specs.List.{AllByRecursion, AllZip}
use Rattle.xf_base.specs.Schema.{IsRowOf}
use Rattle.xf_base.specs.declared.cell.Cell.{Cell}
use Rattle.xf_base.specs.declared.column.Column.{Column}
use Rattle.xf_base.specs.declared.key.Key.{Key}
use Rattle.xf_group.specs.Group.{meaning_at, value_at}
use Rattle.xf_group.specs.declared.entry.Entry.{Entry}
use Rattle.xf_reduce.specs.Laws.{SameCalls}

-- rows of a schema that fits
pub record SuitAll (fits : List Column → Bool) (rows : List (List Cell)) : Type 0 where
  pub columns : List Column
  pub fit : fits columns ≡ true
  pub of_schema : AllByRecursion (IsRowOf columns) rows

-- each key's value means what it did; that of a key that is new means what no rows mean
abbrev pub SameMeanings : {Value Meaning : Type 0} → (Value → Meaning) → Meaning → List (Entry Value) → List (Entry Value) → Type 0
SameMeanings meaning_of nothing old new = (key : Key) → meaning_at meaning_of nothing new key ≡ meaning_at meaning_of nothing old key

-- the value of a key is ready for a row
abbrev pub IsReadyAt : {Value : Type 0} → (Value → List Cell → Type 0) → List (Entry Value) → Key → List Cell → Type 0
IsReadyAt {Value = Value} IsReady entries key row = (value : Value) × (value_at entries key ≡ Some value) × IsReady value row

-- each key's value stays ready for each row for which it was
abbrev pub StayReady : {Value : Type 0} → (Value → List Cell → Type 0) → List (Entry Value) → List (Entry Value) → Type 0
StayReady IsReady old new = (key : Key) (row : List Cell) → IsReadyAt IsReady old key row → IsReadyAt IsReady new key row

-- each key's value tells as many calls as it did
abbrev pub StayUncalled : {Value : Type 0} → Option (Value → ℕ) → List (Entry Value) → List (Entry Value) → Type 0
StayUncalled {Value = Value} calls old new = (key : Key) (one other : Value) → value_at old key ≡ Some one → value_at new key ≡ Some other → SameCalls calls one other

-- for each row the values of its keys are ready
abbrev pub AreReady : {Value : Type 0} → (Value → List Cell → Type 0) → List (Entry Value) → List (List Cell) → List (List Key) → Type 0
AreReady IsReady entries rows keys = AllZip (λ row own. AllByRecursion (λ key. IsReadyAt IsReady entries key row) own) rows keys
