-- Names as they are kept, the entries of a map with texts as keys, and as they are seen.
use Rattle.std.proofs.Common.{◌≡◌, ℕ, zero, suc, Bool, true, false, not, ◌||◌, cond, List, [], ◌∷◌, ◌++◌, map, Option, Some, None, filter, remove, refl, sym, ap, ◌∙◌}
use Rattle.std.proofs.lemmas.List.{map-append}
use Rattle.std.proofs.lemmas.Slice.Eq.{bytes_eq-Decides}
use Rattle.std.specs.List.{AllByRecursion, IsDistinct}
use Rattle.std.specs.Map.{keys_of, lookup, remove_entry}
use Rattle.std.specs.Str.{bytes_eq}
use Rattle.std.specs.String.{string_bytes, string_eq}
use Rattle.std.specs.declared.string.String.{String}
use Rattle.xf_session.specs.Command.{without_name}
use Rattle.xf_session.specs.State.{AreDistinctNames, Name, is_among, named, names_in}

-- what entries are seen as
abbrev pub seen : {Y A : Type 0} → List (String Y × A) → List (Name × A)
seen entries = map (λ entry. (string_bytes entry.0, entry.1)) entries

-- what a name stands for is what is kept for its text
pub named-seen : {Y A : Type 0} (name : Name) (entries : List (String Y × A)) → lookup (λ key. bytes_eq name (string_bytes key)) entries ≡ named (seen entries) name
named-seen name [] = refl
named-seen {Y = Y} {A = A} name (entry ∷ entries) = ap (λ (rest : Option A). cond (bytes_eq name (string_bytes entry.0)) (Some entry.1) rest) (named-seen name entries)

-- a new name is seen last
pub seen-push : {Y A : Type 0} (entries : List (String Y × A)) (key : String Y) (value : A) → seen (entries ++ (key, value) ∷ []) ≡ seen entries ++ (string_bytes key, value) ∷ []
seen-push entries key value = map-append (λ entry. (string_bytes entry.0, entry.1)) entries ((key, value) ∷ [])

-- without the entry at a place
pub seen-remove : {Y A : Type 0} (entries : List (String Y × A)) (place : ℕ) → seen (remove entries place) ≡ remove (seen entries) place
seen-remove [] zero = refl
seen-remove [] (suc place) = refl
seen-remove (entry ∷ entries) zero = refl
seen-remove (entry ∷ entries) (suc place) = ap (λ rest. (string_bytes entry.0, entry.1) ∷ rest) (seen-remove entries place)

neither : (a b : Bool) → a ≡ false → b ≡ false → (a || b) ≡ false
neither a b e f = ap (λ x. x || b) e ∙ f

either-not : (a b : Bool) → (a || b) ≡ false → (a ≡ false) × (b ≡ false)
either-not true b e = absurd cc
either-not false b e = (refl, e)

-- names that differ by their texts differ
not-among : {Y : Type 0} (key : String Y) {A : Type 0} (entries : List (String Y × A)) → AllByRecursion (λ other. string_eq key other ≡ false) (keys_of entries) → is_among (names_in (seen entries)) (string_bytes key) ≡ false
not-among key [] all = refl
not-among key (entry ∷ entries) all =
    neither (string_eq key entry.0) (is_among (names_in (seen entries)) (string_bytes key)) all.0 (not-among key entries all.1)

pub distinct-seen : {Y A : Type 0} (entries : List (String Y × A)) → IsDistinct string_eq (keys_of entries) → AreDistinctNames (names_in (seen entries))
unfolding IsDistinct
distinct-seen [] distinct = tt
distinct-seen (entry ∷ entries) distinct = (not-among entry.0 entries distinct.0, distinct-seen entries distinct.1)

pub same-name : (one other : Name) → bytes_eq one other ≡ true → one ≡ other
same-name one other e = (bytes_eq-Decides one other).0 e

-- names stay as they are without one that is not among them
pub without-absent : {A : Type 0} (name : Name) (names : List (Name × A)) → is_among (names_in names) name ≡ false → without_name name names ≡ names
without-absent name [] absent = refl
without-absent {A} name (entry ∷ names) absent =
    let parts = either-not (bytes_eq name entry.0) (is_among (names_in names) name) absent in
    let rest : List (Name × A) = without_name name names in
    ap (λ b. cond (not b) (entry ∷ rest) rest) parts.0 ∙ ap (λ later. entry ∷ later) (without-absent name names parts.1)

-- without the one entry of a name, which no other has
first-gone : {A : Type 0} (is : Bool) (name : Name) (entry : Name × A) (names kept : List (Name × A))
    → (is ≡ true → name ≡ entry.0) → is_among (names_in names) entry.0 ≡ false → kept ≡ without_name name names
    → cond is names (entry ∷ kept) ≡ cond (not is) (entry ∷ without_name name names) (without_name name names)
first-gone true name entry names kept same absent rest = sym (without-absent name names (ap (is_among (names_in names)) (same refl) ∙ absent))
first-gone false name entry names kept same absent rest = ap (λ later. entry ∷ later) rest

seen-cond : {Y A : Type 0} (is : Bool) (one other : List (String Y × A)) → seen (cond is one other) ≡ cond is (seen one) (seen other)
seen-cond true one other = refl
seen-cond false one other = refl

pub seen-without : {Y A : Type 0} (name : Name) (entries : List (String Y × A)) → AreDistinctNames (names_in (seen entries))
    → seen (remove_entry (λ key. bytes_eq name (string_bytes key)) entries) ≡ without_name name (seen entries)
seen-without name [] distinct = refl
seen-without {Y} {A} name (entry ∷ entries) distinct =
    let kept : List (String Y × A) = remove_entry (λ key. bytes_eq name (string_bytes key)) entries in
    seen-cond (bytes_eq name (string_bytes entry.0)) entries (entry ∷ kept)
    ∙ first-gone (bytes_eq name (string_bytes entry.0)) name (string_bytes entry.0, entry.1) (seen entries) (seen kept)
    (same-name name (string_bytes entry.0)) distinct.0 (seen-without name entries distinct.1)

-- a name that stands for nothing is kept last, where a new key is
pub seen-pushed : {Y A : Type 0} (entries new : List (String Y × A)) (key : String Y) (value : A) (names : List (Name × A)) (name : Name)
    → seen entries ≡ names → string_bytes key ≡ name → named names name ≡ None
    → (lookup (string_eq key) entries ≡ None → new ≡ entries ++ (key, value) ∷ []) → seen new ≡ names ++ (name, value) ∷ []
seen-pushed {Y} {A} entries new key value names name are same absent put =
    let none : lookup (string_eq key) entries ≡ None = named-seen (string_bytes key) entries ∙ ap (λ (list : List (Name × A)). named list (string_bytes key)) are ∙ ap (named names) same ∙ absent in
    ap seen (put none) ∙ seen-push entries key value ∙ ap (λ (list : List (Name × A)). list ++ (string_bytes key, value) ∷ []) are ∙ ap (λ (text : Name). names ++ (text, value) ∷ []) same

-- names stay distinct without some
among-filter : {A : Type 0} (p : Name × A → Bool) (name : Name) (names : List (Name × A)) → is_among (names_in names) name ≡ false → is_among (names_in (filter p names)) name ≡ false
among-filter p name [] absent = refl
among-filter p name (entry ∷ names) absent =
    let parts = either-not (bytes_eq name entry.0) (is_among (names_in names) name) absent in
    let rest : is_among (names_in (filter p names)) name ≡ false = among-filter p name names parts.1 in
    elim (p entry) as (λ b. is_among (names_in (cond b (entry ∷ filter p names) (filter p names))) name ≡ false) [
      | true ↦ neither (bytes_eq name entry.0) (is_among (names_in (filter p names)) name) parts.0 rest
      | false ↦ rest
    ]

pub distinct-names-filter : {A : Type 0} (p : Name × A → Bool) (names : List (Name × A)) → AreDistinctNames (names_in names) → AreDistinctNames (names_in (filter p names))
distinct-names-filter p [] distinct = tt
distinct-names-filter p (entry ∷ names) distinct =
    let rest : AreDistinctNames (names_in (filter p names)) = distinct-names-filter p names distinct.1 in
    elim (p entry) as (λ b. AreDistinctNames (names_in (cond b (entry ∷ filter p names) (filter p names)))) [
      | true ↦ (among-filter p entry.0 names distinct.0, rest)
      | false ↦ rest
    ]

-- a name that stands for nothing is not among them
pub absent-among : {A : Type 0} (names : List (Name × A)) (name : Name) → named names name ≡ None → is_among (names_in names) name ≡ false
absent-among [] name absent = refl
absent-among (entry ∷ names) name absent =
    elim (bytes_eq name entry.0) as (λ b. cond b (Some entry.1) (named names name) ≡ None → (b || is_among (names_in names) name) ≡ false) [
      | true ↦ λ e. absurd cc
      | false ↦ λ e. absent-among names name e
    ] absent

other-way : (one other : Name) → bytes_eq one other ≡ false → bytes_eq other one ≡ false
other-way one other apart = go (bytes_eq other one) refl
  where
    go : (b : Bool) → bytes_eq other one ≡ b → bytes_eq other one ≡ false
    go true e = let both : bytes_eq one other ≡ true = (bytes_eq-Decides one other).1 (sym (same-name other one e)) in absurd cc
    go false e = e

-- and with such a name more
among-push : {A : Type 0} (name : Name) (names : List (Name × A)) (new : Name) (value : A) → is_among (names_in names) name ≡ false → bytes_eq name new ≡ false → is_among (names_in (names ++ (new, value) ∷ [])) name ≡ false
among-push name [] new value absent apart = neither (bytes_eq name new) false apart refl
among-push name (entry ∷ names) new value absent apart =
    let parts = either-not (bytes_eq name entry.0) (is_among (names_in names) name) absent in
    neither (bytes_eq name entry.0) (is_among (names_in (names ++ (new, value) ∷ [])) name) parts.0 (among-push name names new value parts.1 apart)

pub distinct-names-push : {A : Type 0} (names : List (Name × A)) (new : Name) (value : A) → AreDistinctNames (names_in names) → is_among (names_in names) new ≡ false → AreDistinctNames (names_in (names ++ (new, value) ∷ []))
distinct-names-push [] new value distinct absent = (refl, tt)
distinct-names-push (entry ∷ names) new value distinct absent =
    let parts = either-not (bytes_eq new entry.0) (is_among (names_in names) new) absent in
    (among-push entry.0 names new value distinct.0 (other-way new entry.0 parts.0), distinct-names-push names new value distinct.1 parts.1)
