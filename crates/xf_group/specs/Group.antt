-- What a group is seen as.
use Rattle.std.specs.Prelude.{◌≡◌, ℕ, ℤ, Bool, List, [], flat_map, map, Option, option_map, find, slice_get, unwrap_or}
use Rattle.std.specs.List.{AllByRecursion, enumerate_from}
use Rattle.std.specs.List.Sorted.{IsStrictlySortedBy}
use Rattle.std.specs.Ordering.{is_eq}
use Rattle.xf_base.specs.Key.{key_cmp}
use Rattle.xf_base.specs.declared.key.Key.{Key}
use Rattle.xf_group.specs.declared.entry.Entry.{Entry}
use Rattle.xf_model.specs.Group.{distinct_keys}
use Rattle.xf_model.specs.Top.{ranked}

-- the reducer, the keys in ascending order, each with its value, and for each place its keys
pub record Grouped (R Value : Type 0) : Type 0 where
  pub reducer : R
  pub entries : List (Entry Value)
  pub places : List (List Key)

-- the keys that some place has, ascending
abbrev pub keys_in : List (List Key) → List Key
keys_in places = distinct_keys key_cmp (flat_map (λ keys. keys) places)

-- what is true of every group: its keys are those that a place has, and those of each place ascend
pub record IsGroup {R Value : Type 0} (group : Grouped R Value) : Type 0 where
  pub keys : map (λ entry. entry.key) group.entries ≡ keys_in group.places
  pub ascend : AllByRecursion (IsStrictlySortedBy key_cmp) group.places

-- the keys of a place
abbrev pub keys_at : {R Value : Type 0} → Grouped R Value → ℕ → List Key
keys_at group place = unwrap_or (slice_get group.places place) []

-- the entry of a key, and its value
abbrev pub is_entry_of : {Value : Type 0} → Key → Entry Value → Bool
is_entry_of key entry = is_eq (key_cmp key entry.key)

abbrev pub value_at : {Value : Type 0} → List (Entry Value) → Key → Option Value
value_at entries key = option_map (λ entry. entry.value) (find (is_entry_of key) entries)

-- ---- what the values mean

-- each key with what its value means
abbrev pub meanings : {Value Meaning : Type 0} → (Value → Meaning) → List (Entry Value) → List (Key × Meaning)
meanings meaning_of entries = map (λ entry. (entry.key, meaning_of entry.value)) entries

-- what the value of a key means; a key that is not there yet means what no rows mean
abbrev pub meaning_at : {Value Meaning : Type 0} → (Value → Meaning) → Meaning → List (Entry Value) → Key → Meaning
meaning_at meaning_of nothing entries key = unwrap_or (option_map meaning_of (value_at entries key)) nothing

-- the keys of these places, each with what its value means
abbrev pub meanings_for : {Value Meaning : Type 0} → (Value → Meaning) → Meaning → List (Entry Value) → List (List Key) → List (Key × Meaning)
meanings_for meaning_of nothing entries places = map (λ key. (key, meaning_at meaning_of nothing entries key)) (keys_in places)

-- ---- the order of the top

-- the positions of the entries, by rank, the greatest first, and where ranks are equal by key
abbrev pub ranked_positions : {Value : Type 0} → (Value → ℤ) → List (Entry Value) → List ℕ
ranked_positions rank entries = map (λ at. at.0) (ranked (λ at. rank at.1.value) (enumerate_from 0 entries))
