-- How a row that comes or goes changes the values of a group.
use Rattle.std.specs.Prelude.{◌≡◌, ℕ, Bool, true, false, List, Option}
use Rattle.std.specs.List.{AllByRecursion, AllZip}
use Rattle.xf_base.specs.Key.{key_cmp}
use Rattle.xf_base.specs.declared.cell.Cell.{Cell}
use Rattle.xf_base.specs.declared.column.Column.{Column}
use Rattle.xf_base.specs.declared.key.Key.{Key}
use Rattle.xf_group.specs.declared.entry.Entry.{Entry}
use Rattle.xf_model.specs.Group.{Reducer}
use Rattle.xf_model.specs.Laws.{is_among}
use Rattle.xf_reduce.specs.Laws.{IsFoldBefore, IsFoldWith, OneMoreCall, StaysReady}

-- a value may take a row in, or give it back
abbrev pub MayChange : {Meaning : Type 0} → (List Column → Bool) → Reducer (List Cell) Meaning → Bool → Meaning → List Cell → Type 0
MayChange fits reducer true meaning row = IsFoldBefore fits reducer meaning row
MayChange fits reducer false meaning row = IsFoldWith fits reducer meaning row

-- the values of some keys may, and are ready for the row
abbrev pub MayChangeAll : {Value Meaning : Type 0} → (Value → Meaning) → (List Column → Bool) → Reducer (List Cell) Meaning → (Value → List Cell → Type 0) → List Key → Bool → List Cell → List (Entry Value) → Type 0
MayChangeAll meaning_of fits reducer IsReady keys on row entries =
    AllByRecursion (λ entry. is_among key_cmp keys entry.key ≡ true → MayChange fits reducer on (meaning_of entry.value) row × IsReady entry.value row) entries

-- the meaning with the row, or without it
abbrev pub changed_meaning : {Meaning : Type 0} → Reducer (List Cell) Meaning → (Meaning → List Cell → Meaning) → Bool → Meaning → List Cell → Meaning
changed_meaning reducer undo true meaning row = reducer.step meaning row
changed_meaning reducer undo false meaning row = undo meaning row

-- a value that took the row in or gave it back: it stays ready for what it was ready for, and tells one call more
pub record IsChanged {Value Meaning : Type 0} (meaning_of : Value → Meaning) (changed : Meaning → Meaning) (IsReady : Value → List Cell → Type 0) (told : Option (Value → ℕ)) (old new : Value) : Type 0 where
  pub meaning : meaning_of new ≡ changed (meaning_of old)
  pub ready : StaysReady IsReady old new
  pub calls : OneMoreCall told old new

-- a value that did so, or one that is as it was
abbrev pub IsChangedIf : {Value Meaning : Type 0} → (Value → Meaning) → (Meaning → Meaning) → (Value → List Cell → Type 0) → Option (Value → ℕ) → Bool → Value → Value → Type 0
IsChangedIf meaning_of changed IsReady calls true old new = IsChanged meaning_of changed IsReady calls old new
IsChangedIf meaning_of changed IsReady calls false old new = new ≡ old

-- the values of some keys changed, and no others
abbrev pub AreChanged : {Value Meaning : Type 0} → (Value → Meaning) → (Meaning → Meaning) → (Value → List Cell → Type 0) → Option (Value → ℕ) → List Key → List (Entry Value) → List (Entry Value) → Type 0
AreChanged meaning_of changed IsReady calls keys old new =
    AllZip (λ one other. (other.key ≡ one.key) × IsChangedIf meaning_of changed IsReady calls (is_among key_cmp keys one.key) one.value other.value) old new
