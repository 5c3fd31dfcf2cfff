-- JSON values as plain lists.
use Rattle.std.specs.Prelude.{ℕ, List, [], ◌∷◌, Bool, Option, is_some, option_map, option_and_then}
use Rattle.std.specs.Option.{option_map_or}
use Rattle.serde_json.specs.Data.{Data, Items, no_items, item, Members, no_members, member}
use Rattle.serde_json.specs.Find.{as_array, as_number, as_object, as_u64}

abbrev pub list_of : Items → List Data
list_of no_items = []
list_of (item value values) = value ∷ list_of values

-- the names of members, which stand in the order of their bytes
abbrev pub names_of : Members → List (List ℕ)
names_of no_members = []
names_of (member name value members) = name ∷ names_of members

-- the elements of an array
abbrev pub array_of : Data → Option (List Data)
array_of value = option_map list_of (as_array value)

-- the names of an object's members; none of any other value
abbrev pub member_names : Data → List (List ℕ)
member_names value = option_map_or names_of (as_object value) []

abbrev pub is_object : Data → Bool
is_object value = is_some (as_object value)

-- an unsigned whole number
abbrev pub whole_number : Data → Option ℕ
whole_number value = option_and_then as_u64 (as_number value)
