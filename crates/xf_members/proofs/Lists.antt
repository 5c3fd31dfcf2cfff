-- Elements and members as lists.
use Rattle.std.proofs.Common.{◌≡◌, ◌∙◌, ◌∷◌, [], List, Bool, true, false, cond, not, map, Option, Some, String, Global, string_bytes, ap, sym, refl}
use Rattle.std.specs.Prelude.{find, option_map}
use Rattle.std.specs.Option.{option_map_or}
use Rattle.std.specs.Map.{keys_of}
use Rattle.serde_json.specs.Data.{Data, Members}
use Rattle.serde_json.specs.Find.{as_object}
use Rattle.serde_json.specs.View.{items_of, members_view}
use Rattle.serde_json.specs.declared.value.Value.{Value}
use Rattle.xf_members.specs.Members.{first_unknown, is_member}
use Rattle.xf_members.specs.Values.{list_of, member_names, names_of}
use Rattle.xf_members.specs.declared.object_sort.ObjectSort.{ObjectSort}

pub list_of-items : (values : List Data) → list_of (items_of values) ≡ values
list_of-items [] = refl
list_of-items (value ∷ values) = ap (λ vs. value ∷ vs) (list_of-items values)

names_of-members : (entries : List (String Global × Value)) → names_of (members_view entries) ≡ map string_bytes (keys_of entries)
names_of-members [] = refl
names_of-members (entry ∷ entries) = ap (λ names. string_bytes entry.0 ∷ names) (names_of-members entries)

find-step : {X Y : Type 0} (f : X → Y) (p : Y → Bool) (x : X) (xs : List X) (passes : Bool) → option_map f (find (λ y. p (f y)) xs) ≡ find p (map f xs)
    → option_map f (cond passes (Some x) (find (λ y. p (f y)) xs)) ≡ cond passes (Some (f x)) (find p (map f xs))
find-step f p x xs true rest = refl
find-step f p x xs false rest = rest

find-map : {X Y : Type 0} (f : X → Y) (p : Y → Bool) (xs : List X) → option_map f (find (λ x. p (f x)) xs) ≡ find p (map f xs)
find-map f p [] = refl
find-map f p (x ∷ xs) = find-step f p x xs (p (f x)) (find-map f p xs)

-- the first key that is no member is the first unknown name
pub first-unknown : (sort : ObjectSort) (entries : List (String Global × Value)) (value : Data) (found : Option (String Global)) → Some (members_view entries) ≡ as_object value
    → found ≡ find (λ name. not (is_member sort (string_bytes name))) (keys_of entries) → option_map string_bytes found ≡ first_unknown sort (member_names value)
first-unknown sort entries value found object is =
    let names = names_of-members entries in
    ap (option_map string_bytes) is ∙ find-map string_bytes (λ name. not (is_member sort name)) (keys_of entries)
    ∙ ap (first_unknown sort) (sym names ∙ ap (λ (o : Option Members). option_map_or names_of o []) object)
