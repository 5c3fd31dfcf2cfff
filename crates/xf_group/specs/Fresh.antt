-- Only proofs and the contracts of private functions need this file: keys that are new to a group, and values made ready.
use Rattle.std.specs.Prelude.{◌≡◌, ℕ, ◌+◌, List, Option, Some, count_by, filter, flat_map, map, not}
use Rattle.std.specs.List.{enumerate_from}
use Rattle.std.specs.Ordering.{is_lt}
use Rattle.std.specs.declared.cmp.Ordering.{Ordering}
use Rattle.xf_base.specs.Key.{key_cmp}
use Rattle.xf_base.specs.declared.cell.Cell.{Cell}
use Rattle.xf_base.specs.declared.key.Key.{Key}
use Rattle.xf_group.specs.Admitted.{StayReady}
use Rattle.xf_group.specs.Group.{meanings, value_at}
use Rattle.xf_group.specs.Held.{keys_of}
use Rattle.xf_group.specs.declared.entry.Entry.{Entry}
use Rattle.xf_model.specs.Group.{distinct_keys}
use Rattle.xf_model.specs.Laws.{is_among}
use Rattle.xf_reduce.specs.Laws.{SameCalls}

-- the keys of some lists that are not among old keys, in order
abbrev pub new_keys : List Key → List (List Key) → List Key
new_keys old keys = filter (λ key. not (is_among key_cmp old key)) (flat_map (λ own. own) keys)

-- they ascending, each once
abbrev pub fresh_keys : List Key → List (List Key) → List Key
fresh_keys old keys = distinct_keys key_cmp (new_keys old keys)

-- how many keys of a list are below one
abbrev pub count_below : {Key : Type 0} → (Key → Key → Ordering) → Key → List Key → ℕ
count_below cmp key keys = count_by (λ other. is_lt (cmp other key)) keys

-- where a key at a place stands once fresh keys have entered: as many places on as there are fresh keys below it
abbrev pub new_position : List Key → ℕ × Key → ℕ
new_position fresh at = at.0 + count_below key_cmp at.1 fresh

-- that of each key
abbrev pub new_positions : List Key → List Key → List ℕ
new_positions keys fresh = map (new_position fresh) (enumerate_from 0 keys)

-- each key still has a value, which tells as many calls as it did
abbrev pub KeepCalls : {Value : Type 0} → Option (Value → ℕ) → List (Entry Value) → List (Entry Value) → Type 0
KeepCalls {Value = Value} calls old new = (key : Key) (one : Value) → value_at old key ≡ Some one → (other : Value) × (value_at new key ≡ Some other) × SameCalls calls one other

-- entries of the same keys whose values mean the same, each ready for each row for which it was, and tell as many calls
pub record AreKept {Value Meaning : Type 0} (meaning_of : Value → Meaning) (IsReady : Value → List Cell → Type 0) (calls : Option (Value → ℕ)) (old new : List (Entry Value)) : Type 0 where
  pub same_keys : keys_of new ≡ keys_of old
  pub same_meanings : meanings meaning_of new ≡ meanings meaning_of old
  pub stay_ready : StayReady IsReady old new
  pub keep_calls : KeepCalls calls old new
