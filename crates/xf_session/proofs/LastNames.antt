-- The last name: what it stands for is set, and it goes again.
use Rattle.std.proofs.Common.{◌≡◌, ℕ, zero, suc, ◌+◌, ◌-◌, ◌<◌, not, ◌||◌, cond, true, false, Bool, List, [], ◌∷◌, ◌++◌, length, None, refl, sym, ap, ◌∙◌, arith}
use Rattle.std.proofs.lemmas.List.{length-append, length-map}
use Rattle.std.proofs.lemmas.Slice.Eq.{bytes_eq-Decides}
use Rattle.std.specs.Str.{bytes_eq}
use Rattle.std.specs.String.{string_bytes}
use Rattle.std.specs.declared.string.String.{String}
use Rattle.indexmap.specs.IndexMap.{set_value_at}
use Rattle.xf_session.proofs.NameLists.{absent-among, seen}
use Rattle.xf_session.specs.Command.{without_name}
use Rattle.xf_session.specs.State.{Name, is_among, named, names_in}

-- a value that is set is seen
pub seen-set : {Y A : Type 0} (entries : List (String Y × A)) (place : ℕ) (value : A) → seen (set_value_at entries place value) ≡ set_value_at (seen entries) place value
seen-set [] zero value = refl
seen-set [] (suc place) value = refl
seen-set (entry ∷ entries) zero value = refl
seen-set (entry ∷ entries) (suc place) value = ap (λ rest. (string_bytes entry.0, entry.1) ∷ rest) (seen-set entries place value)

set-end : {A : Type 0} (names : List (Name × A)) (name : Name) (old value : A) → set_value_at (names ++ (name, old) ∷ []) (length names) value ≡ names ++ (name, value) ∷ []
set-end [] name old value = refl
set-end (entry ∷ names) name old value = ap (λ rest. entry ∷ rest) (set-end names name old value)

-- one last name more
many-and-last : {Y A : Type 0} (entries : List (String Y × A)) (names : List (Name × A)) (name : Name) (old : A) → seen entries ≡ names ++ (name, old) ∷ []
    → length entries ≡ length names + 1
many-and-last entries names name old are =
    sym (length-map entries (λ entry. (string_bytes entry.0, entry.1))) ∙ ap length are ∙ length-append names ((name, old) ∷ [])

-- the place of the last of some is one of theirs
pub last-within : {Y A : Type 0} (entries : List (String Y × A)) (names : List (Name × A)) (name : Name) (old : A) → seen entries ≡ names ++ (name, old) ∷ []
    → length entries - 1 < length entries
last-within entries names name old are = let many : length entries ≡ length names + 1 = many-and-last entries names name old are in omega (arith, many)

-- the last of some
pub set-last : {Y A : Type 0} (entries : List (String Y × A)) (names : List (Name × A)) (name : Name) (old value : A) → seen entries ≡ names ++ (name, old) ∷ []
    → seen (set_value_at entries (length entries - 1) value) ≡ names ++ (name, value) ∷ []
set-last entries names name old value are =
    let many : length entries ≡ length names + 1 = many-and-last entries names name old are in
    let place : length entries - 1 ≡ length names = omega (arith, many) in
    seen-set entries (length entries - 1) value ∙ ap (λ at. set_value_at (seen entries) at value) place ∙ ap (λ list. set_value_at list (length names) value) are ∙ set-end names name old value

either-not : (a b : Bool) → (a || b) ≡ false → (a ≡ false) × (b ≡ false)
either-not true b e = absurd cc
either-not false b e = (refl, e)

-- a new name that goes again
pub pushed-gone : {A : Type 0} (names : List (Name × A)) (name : Name) (value : A) → named names name ≡ None → without_name name (names ++ (name, value) ∷ []) ≡ names
pushed-gone {A} names name value absent = go names (absent-among names name absent)
  where
    go : (names : List (Name × A)) → is_among (names_in names) name ≡ false → without_name name (names ++ (name, value) ∷ []) ≡ names
    go [] absent = ap (λ b. cond (not b) ((name, value) ∷ []) []) ((bytes_eq-Decides name name).1 refl)
    go (entry ∷ names) absent =
        let parts = either-not (bytes_eq name entry.0) (is_among (names_in names) name) absent in
        ap (λ b. cond (not b) (entry ∷ without_name name (names ++ (name, value) ∷ [])) (without_name name (names ++ (name, value) ∷ []))) parts.0 ∙ ap (λ later. entry ∷ later) (go names parts.1)
