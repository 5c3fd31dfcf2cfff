-- What is found by an id stands within the list, and what holds of each holds of it.
use Rattle.std.proofs.Common.{◌≡◌, ℕ, ℤ, ◌+◌, ◌<◌, Bool, true, is_some, List, [], ◌∷◌, ◌++◌, Option, Some, None, length, map, take, get_or, slice_get, refl, sym, ap, subst, ◌∙◌, arith}
use Rattle.std.proofs.lemmas.Grind.{flat_map-append}
use Rattle.std.proofs.lemmas.List.{length-map, map-append, take_more}
use Rattle.std.proofs.lemmas.List.Quantifiers.{position-Some}
use Rattle.std.proofs.lemmas.Option.{slice_get-get_or, slice_get-map, slice_get_within}
use Rattle.std.specs.Borrow.{Bor}
use Rattle.std.specs.List.{AllByRecursion, flat_map, position}
use Rattle.std.specs.Option.{option_copied, option_map, option_to_list}
use Rattle.xf_engine.specs.Folding.{entry_numbers}
use Rattle.xf_engine.specs.Held.{live_group, live_groups, live_whole, live_wholes}
use Rattle.xf_engine.specs.State.{group_has_id, whole_has_id}
use Rattle.xf_engine.specs.declared.grouping.Grouping.{Grouping}
use Rattle.xf_engine.specs.declared.key_number.KeyNumber.{KeyNumber}
use Rattle.xf_engine.specs.declared.whole.Whole.{Whole}
use Rattle.xf_group.specs.Group.{Grouped}
use Rattle.xf_group.specs.declared.entry.Entry.{Entry}
use Rattle.xf_engine.proofs.HeldCounts.{all-get}

-- what holds of each holds of the one at a place
pub held-at : {X : Type 0} (P : X → Type 0) (xs : List X) (i : ℕ) (d : X) → AllByRecursion P xs → i < length xs → d ≡ get_or xs i d → P d
held-at P xs i d all within same = subst P (sym same) (all-get P xs i d within all)

-- a place that is told is within the list
placed-within : {X : Type 0} (p : X → Bool) (xs : List X) (place : ℕ) → position p xs ≡ Some place → place < length xs
placed-within p [] place told = absurd cc
placed-within p (x ∷ xs) place told = (position-Some p (x ∷ xs) place x told).0

pub group-within : {G R V : Type 0} (id : ℕ) (held : List (Grouping G (Grouped R V))) (place : ℕ) → position (group_has_id id) (live_groups held) ≡ Some place → place < length held
group-within id held place told = omega (arith, placed-within (group_has_id id) (live_groups held) place told, length-map held live_group)

pub whole-within : {R V : Type 0} (id : ℕ) (held : List (Whole R V)) (place : ℕ) → position (whole_has_id id) (live_wholes held) ≡ Some place → place < length held
whole-within id held place told = omega (arith, placed-within (whole_has_id id) (live_wholes held) place told, length-map held live_whole)

-- where something is told of what is found, it was found
pub found-live : {X Y : Type 0} (f : X → Y) (found : Option X) (own : Y) → option_map f found ≡ Some own → is_some found ≡ true
found-live f None own told = absurd cc
found-live f (Some x) own told = refl

-- what a value behind a reference means
pub copied-meaning : {V M : Type 0} (meaning_of : V → M) (found : Option (Bor V)) → option_map (λ value. meaning_of value.now) found ≡ option_map meaning_of (option_copied found)
copied-meaning meaning_of None = refl
copied-meaning meaning_of (Some value) = refl

-- ---- numbers of entries, one after the other

-- one more of those at the front
pub next-taken : {X : Type 0} (xs : List X) (i : ℕ) (x : X) → slice_get xs i ≡ Some x → take (i + 1) xs ≡ take i xs ++ x ∷ []
next-taken xs i x there =
    let within : i < length xs = slice_get_within xs i x there in
    let some : Some (get_or xs i x) ≡ Some x = sym (slice_get-get_or xs i x within) ∙ there in
    let same : get_or xs i x ≡ x = cc in
    take_more xs i x within ∙ ap (λ y. take i xs ++ y ∷ []) same

one-mapped : {X Y : Type 0} (f : X → Y) (found : Option X) (y : Y) → option_map f found ≡ Some y → map f (option_to_list found ++ []) ≡ y ∷ []
one-mapped f None y told = absurd cc
one-mapped f (Some x) y told = let same : f x ≡ y = cc in ap (λ z. z ∷ []) same

-- the number at one position more
pub next-number : {V : Type 0} (rank : V → ℤ) (entries : List (Entry V)) (positions : List ℕ) (i position : ℕ) (own : KeyNumber) → slice_get positions i ≡ Some position → slice_get (entry_numbers rank entries) position ≡ Some own → entry_numbers rank (flat_map (λ at. option_to_list (slice_get entries at)) (take (i + 1) positions)) ≡ entry_numbers rank (flat_map (λ at. option_to_list (slice_get entries at)) (take i positions)) ++ own ∷ []
next-number {V} rank entries positions i position own there told =
    let at : ℕ → List (Entry V) = λ position. option_to_list (slice_get entries position) in
    let numbered : Entry V → KeyNumber = λ entry. record { key = entry.key; number = rank entry.value } in
    ap (λ ps. entry_numbers rank (flat_map at ps)) (next-taken positions i position there)
    ∙ ap (entry_numbers rank) (flat_map-append at (take i positions) (position ∷ []))
    ∙ map-append numbered (flat_map at (take i positions)) (flat_map at (position ∷ []))
    ∙ ap (λ rest. entry_numbers rank (flat_map at (take i positions)) ++ rest) (one-mapped numbered (slice_get entries position) own (sym (slice_get-map numbered entries position) ∙ told))
