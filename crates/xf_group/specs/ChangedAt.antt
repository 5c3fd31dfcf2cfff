-- Only the contracts of private functions need this file: how the values at some positions change.
use Rattle.std.specs.Prelude.{◌≡◌, ℕ, ◌<◌, Bool, List, Option, length, slice_index, slice_index_or}
use Rattle.xf_base.specs.declared.cell.Cell.{Cell}
use Rattle.xf_base.specs.declared.column.Column.{Column}
use Rattle.xf_group.specs.Changed.{IsChangedIf, MayChange}
use Rattle.xf_group.specs.Used.{is_listed}
use Rattle.xf_group.specs.declared.entry.Entry.{Entry}
use Rattle.xf_model.specs.Group.{Reducer}

-- the value at each of the positions may change, and is ready for the row
abbrev pub MayChangeAt : {Value Meaning : Type 0} → (Value → Meaning) → (List Column → Bool) → Reducer (List Cell) Meaning → (Value → List Cell → Type 0) → List ℕ → Bool → List Cell → List (Entry Value) → Type 0
MayChangeAt {Value = Value} meaning_of fits reducer IsReady positions on row entries =
    (i : ℕ) (d : Entry Value) → i < length positions
    → MayChange fits reducer on (meaning_of (slice_index_or entries (slice_index positions i) d).value) row
    × IsReady (slice_index_or entries (slice_index positions i) d).value row

-- the values at the positions changed, and no others
pub record AreChangedAt {Value Meaning : Type 0} (meaning_of : Value → Meaning) (changed : Meaning → Meaning) (IsReady : Value → List Cell → Type 0) (calls : Option (Value → ℕ)) (positions : List ℕ) (old new : List (Entry Value)) : Type 0 where
  pub each : length new ≡ length old
  pub key : (k : ℕ) (d : Entry Value) → k < length old → (slice_index_or new k d).key ≡ (slice_index_or old k d).key
  pub value : (k : ℕ) (d : Entry Value) → k < length old → IsChangedIf meaning_of changed IsReady calls (is_listed positions k) (slice_index_or old k d).value (slice_index_or new k d).value
