-- Only proofs and the contracts of private functions need this file: what a group keeps.
use Rattle.std.specs.Prelude.{ℕ, ◌<◌, ◌≤◌, List, flat_map, length, map, slice_get}
use Rattle.std.specs.List.{AllByRecursion}
use Rattle.std.specs.Option.{option_to_list}
use Rattle.xf_base.specs.declared.key.Key.{Key}
use Rattle.xf_group.specs.Group.{Grouped, IsGroup}
use Rattle.xf_group.specs.declared.entry.Entry.{Entry}

-- the keys of entries
abbrev pub keys_of : {Value : Type 0} → List (Entry Value) → List Key
keys_of entries = map (λ entry. entry.key) entries

-- the keys at some positions
abbrev pub keys_at_positions : List Key → List ℕ → List Key
keys_at_positions keys positions = flat_map (λ position. option_to_list (slice_get keys position)) positions

-- the keys of each place, by their positions
abbrev pub key_lists : List Key → List (List ℕ) → List (List Key)
key_lists keys places = map (keys_at_positions keys) places

-- each position is one of so many
abbrev pub AreWithin : ℕ → List (List ℕ) → Type 0
AreWithin count places = AllByRecursion (AllByRecursion (λ position. position < count)) places

abbrev pub grouped : {R Value : Type 0} → R → List (Entry Value) → List (List ℕ) → Grouped R Value
grouped reducer entries places = record { reducer = reducer; entries = entries; places = key_lists (keys_of entries) places }

-- what a group keeps: its entries, the positions of each place's keys, and room to count as many as there are entries
pub record HoldsGroup {R Value : Type 0} (reducer : R) (entries : List (Entry Value)) (places : List (List ℕ)) (numbers : ℕ) : Type 0 where
  pub group : IsGroup (grouped reducer entries places)
  pub within : AreWithin (length entries) places
  pub room : length entries ≤ numbers
