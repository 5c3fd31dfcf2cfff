-- What is asked of a group's entries, by what their values mean: how many there are, one of them, their numbers and the first by rank.
use Rattle.std.proofs.Common.{◌≡◌, ℕ, ℤ, suc, ◌+◌, ◌<◌, Bool, true, false, cond, List, [], ◌∷◌, ◌++◌, Option, Some, None, length, map, take, slice_get, refl, sym, ap, subst, ◌∙◌, arith}
use Rattle.std.proofs.lemmas.List.{length-map, take-map}
use Rattle.std.proofs.lemmas.Option.{slice_get-map, slice_get_within}
use Rattle.std.specs.List.{AllByRecursion, enumerate_from, find, flat_map}
use Rattle.std.specs.Option.{option_and_then, option_map, option_to_list}
use Rattle.std.specs.Ordering.{int_cmp, is_eq, is_le}
use Rattle.xf_base.specs.Key.{key_cmp}
use Rattle.xf_base.specs.declared.cell.Cell.{Cell}
use Rattle.xf_base.specs.declared.key.Key.{Key}
use Rattle.xf_engine.specs.Answers.{all_of, entries_of, group_top_of, meaning_of_key, numbers_of, top_entries}
use Rattle.xf_engine.specs.Folding.{entry_numbers}
use Rattle.xf_engine.specs.Held.{HoldsGroupOf, live_group}
use Rattle.xf_engine.specs.State.{LiveGroup, State, group_named}
use Rattle.xf_engine.specs.declared.grouping.Grouping.{Grouping}
use Rattle.xf_group.specs.Group.{Grouped, is_entry_of, meanings, ranked_positions, value_at}
use Rattle.xf_group.specs.Order.{order_field}
use Rattle.xf_group.specs.declared.entry.Entry.{Entry}
use Rattle.xf_group.proofs.JoinedGroup.{all-take}
use Rattle.xf_model.specs.Group.{Reducer}
use Rattle.xf_model.specs.Top.{group_top, ranked, with_ranked}

-- ---- by what values mean

-- an entry with what its value means
abbrev pub meant : {V M : Type 0} → (V → M) → Entry V → Key × M
meant meaning_of entry = (entry.key, meaning_of entry.value)

-- as many are meant as there are
pub size-meant : {V M : Type 0} (meaning_of : V → M) (entries : List (Entry V)) → length (meanings meaning_of entries) ≡ length entries
size-meant meaning_of entries = length-map entries (meant meaning_of)

-- the one at a position
pub at-meant : {V M : Type 0} (meaning_of : V → M) (entries : List (Entry V)) (i : ℕ) (entry : Entry V) → slice_get entries i ≡ Some entry → slice_get (meanings meaning_of entries) i ≡ Some (entry.key, meaning_of entry.value)
at-meant meaning_of entries i entry there = slice_get-map (meant meaning_of) entries i ∙ ap (option_map (meant meaning_of)) there

-- what is meant by the value of a key
pub value-meant : {V M : Type 0} (meaning_of : V → M) (entries : List (Entry V)) (key : Key) → meaning_of_key (meanings meaning_of entries) key ≡ option_map meaning_of (value_at entries key)
value-meant meaning_of [] key = refl
value-meant {V} {M} meaning_of (entry ∷ entries) key = step (is_entry_of key entry) (value-meant meaning_of entries key)
  where
    step : (b : Bool) → meaning_of_key (meanings meaning_of entries) key ≡ option_map meaning_of (value_at entries key)
        → option_map (λ (one : Key × M). one.1) (cond b (Some (meant meaning_of entry)) (find (λ one. is_eq (key_cmp key one.0)) (meanings meaning_of entries))) ≡ option_map meaning_of (option_map (λ (one : Entry V). one.value) (cond b (Some entry) (find (is_entry_of key) entries)))
    step true rest = refl
    step false rest = rest

-- the numbers of a field
pub numbers-meant : {V M : Type 0} (meaning_of : V → M) (rank : M → ℕ → ℤ) (field : ℕ) (entries : List (Entry V)) → numbers_of rank field (meanings meaning_of entries) ≡ entry_numbers (λ value. rank (meaning_of value) field) entries
numbers-meant meaning_of rank field [] = refl
numbers-meant meaning_of rank field (entry ∷ entries) = ap (λ rest. record { key = entry.key; number = rank (meaning_of entry.value) field } ∷ rest) (numbers-meant meaning_of rank field entries)

-- ---- by rank

with_ranked-map : {X Y : Type 0} (rank : Y → ℤ) (f : X → Y) (one : X) (xs : List X) → with_ranked rank (f one) (map f xs) ≡ map f (with_ranked (λ x. rank (f x)) one xs)
with_ranked-map rank f one [] = refl
with_ranked-map {X} {Y} rank f one (x ∷ xs) = step (is_le (int_cmp (rank (f x)) (rank (f one)))) (with_ranked-map rank f one xs)
  where
    step : (b : Bool) → {some : List Y} → some ≡ map f (with_ranked (λ x. rank (f x)) one xs) → cond b (f one ∷ f x ∷ map f xs) (f x ∷ some) ≡ map f (cond b (one ∷ x ∷ xs) (x ∷ with_ranked (λ x. rank (f x)) one xs))
    step true same = refl
    step false same = ap (λ rest. f x ∷ rest) same

-- what is ranked of a list, seen by a function, is what is ranked by what it sees
pub ranked-map : {X Y : Type 0} (rank : Y → ℤ) (f : X → Y) (xs : List X) → ranked rank (map f xs) ≡ map f (ranked (λ x. rank (f x)) xs)
ranked-map rank f [] = refl
ranked-map rank f (x ∷ xs) = ap (with_ranked rank (f x)) (ranked-map rank f xs) ∙ with_ranked-map rank f x (ranked (λ x. rank (f x)) xs)

all-with_ranked : {X : Type 0} (P : X → Type 0) (rank : X → ℤ) (one : X) (xs : List X) → P one → AllByRecursion P xs → AllByRecursion P (with_ranked rank one xs)
all-with_ranked P rank one [] here all = (here, tt)
all-with_ranked P rank one (x ∷ xs) here all =
    let rest : AllByRecursion P (with_ranked rank one xs) = all-with_ranked P rank one xs here all.1 in
    elim (is_le (int_cmp (rank x) (rank one))) as (λ b. AllByRecursion P (cond b (one ∷ x ∷ xs) (x ∷ with_ranked rank one xs))) [ true ↦ (here, all) | false ↦ (all.0, rest) ]

-- what holds of each holds of each that is ranked
pub all-ranked : {X : Type 0} (P : X → Type 0) (rank : X → ℤ) (xs : List X) → AllByRecursion P xs → AllByRecursion P (ranked rank xs)
all-ranked P rank [] all = tt
all-ranked P rank (x ∷ xs) all = all-with_ranked P rank x (ranked rank xs) all.0 (all-ranked P rank xs all.1)

-- ---- by position

places-gone : {X : Type 0} (n : ℕ) (xs : List X) → map (λ (at : ℕ × X). at.1) (enumerate_from n xs) ≡ xs
places-gone n [] = refl
places-gone n (x ∷ xs) = ap (λ rest. x ∷ rest) (places-gone (n + 1) xs)

-- each stands at its place
all-placed : {X : Type 0} (all : List X) (n : ℕ) (xs : List X) → ((k : ℕ) → slice_get all (n + k) ≡ slice_get xs k) → AllByRecursion (λ (at : ℕ × X). slice_get all at.0 ≡ Some at.1) (enumerate_from n xs)
all-placed all n [] same = tt
all-placed {X} all n (x ∷ xs) same = (
  let here : n + 0 ≡ n = omega arith in subst (λ at. slice_get all at ≡ Some x) here (same 0),
  all-placed all (n + 1) xs (λ k. let next : n + suc k ≡ n + 1 + k = omega arith in subst (λ at. slice_get all at ≡ slice_get xs k) next (same (suc k))),
)

-- what stands at the places of some is those
picked : {X : Type 0} (all : List X) (ats : List (ℕ × X)) → AllByRecursion (λ (at : ℕ × X). slice_get all at.0 ≡ Some at.1) ats → flat_map (λ place. option_to_list (slice_get all place)) (map (λ (at : ℕ × X). at.0) ats) ≡ map (λ (at : ℕ × X). at.1) ats
picked all [] placed = refl
picked {X} all (at ∷ ats) placed = (λ i. option_to_list (placed.0 i) ++ picked all ats placed.1 i)

map-map : {X Y Z : Type 0} (f : Y → Z) (g : X → Y) (xs : List X) → map f (map g xs) ≡ map (λ x. f (g x)) xs
map-map f g [] = refl
map-map f g (x ∷ xs) = ap (λ rest. f (g x) ∷ rest) (map-map f g xs)

-- entries by rank, each with its position
abbrev ranked_entries : {V : Type 0} → (V → ℤ) → List (Entry V) → List (ℕ × Entry V)
ranked_entries {V = V} rank entries = ranked (λ (at : ℕ × Entry V). rank at.1.value) (enumerate_from 0 entries)

ranked-placed : {V : Type 0} (rank : V → ℤ) (entries : List (Entry V)) (k : ℕ) → AllByRecursion (λ (at : ℕ × Entry V). slice_get entries at.0 ≡ Some at.1) (take k (ranked_entries rank entries))
ranked-placed {V} rank entries k =
    all-take (λ (at : ℕ × Entry V). slice_get entries at.0 ≡ Some at.1) k (ranked_entries rank entries)
    (all-ranked (λ (at : ℕ × Entry V). slice_get entries at.0 ≡ Some at.1) (λ (at : ℕ × Entry V). rank at.1.value) (enumerate_from 0 entries) (all-placed entries 0 entries (λ k. let here : 0 + k ≡ k = omega arith in ap (slice_get entries) here)))

-- the entries at the first positions by rank
abbrev pub first_entries : {V : Type 0} → (V → ℤ) → ℕ → List (Entry V) → List (Entry V)
first_entries rank k entries = flat_map (λ position. option_to_list (slice_get entries position)) (take k (ranked_positions rank entries))

-- they are the first entries by rank
pub first_entries-ranked : {V : Type 0} (rank : V → ℤ) (k : ℕ) (entries : List (Entry V)) → first_entries rank k entries ≡ take k (ranked (λ entry. rank entry.value) entries)
first_entries-ranked {V} rank k entries =
    let second : ℕ × Entry V → Entry V = λ at. at.1 in
    ap (flat_map (λ position. option_to_list (slice_get entries position))) (take-map (λ (at : ℕ × Entry V). at.0) k (ranked_entries rank entries))
    ∙ picked entries (take k (ranked_entries rank entries)) (ranked-placed rank entries k)
    ∙ sym (take-map second k (ranked_entries rank entries))
    ∙ ap (take k) (sym (ranked-map (λ (entry : Entry V). rank entry.value) second (enumerate_from 0 entries)) ∙ ap (ranked (λ (entry : Entry V). rank entry.value)) (places-gone 0 entries))

-- the positions are those of entries
pub first_positions-within : {V : Type 0} (rank : V → ℤ) (k : ℕ) (entries : List (Entry V)) → AllByRecursion (λ position. position < length entries) (take k (ranked_positions rank entries))
first_positions-within {V} rank k entries =
    subst (AllByRecursion (λ position. position < length entries)) (sym (take-map (λ (at : ℕ × Entry V). at.0) k (ranked_entries rank entries))) (go (take k (ranked_entries rank entries)) (ranked-placed rank entries k))
  where
    go : (ats : List (ℕ × Entry V)) → AllByRecursion (λ (at : ℕ × Entry V). slice_get entries at.0 ≡ Some at.1) ats → AllByRecursion (λ position. position < length entries) (map (λ (at : ℕ × Entry V). at.0) ats)
    go [] all = tt
    go (at ∷ ats) all = (slice_get_within entries at.0 at.1 all.0, go ats all.1)

-- the first entries by what they mean are what the first entries mean
pub top-meant : {V M : Type 0} (meaning_of : V → M) (rank : M → ℤ) (k : ℕ) (entries : List (Entry V)) → group_top rank k (meanings meaning_of entries) ≡ meanings meaning_of (first_entries (λ value. rank (meaning_of value)) k entries)
top-meant {V} {M} meaning_of rank k entries =
    ap (take k) (ranked-map (λ (one : Key × M). rank one.1) (meant meaning_of) entries)
    ∙ take-map (meant meaning_of) k (ranked (λ (entry : Entry V). rank (meaning_of entry.value)) entries)
    ∙ ap (map (meant meaning_of)) (sym (first_entries-ranked (λ value. rank (meaning_of value)) k entries))

-- ---- of the group of an id

-- what is made of one answer, and of two
pub named-then : {X Y Z : Type 0} (f : X → Y) (g : Y → Z) (found : Option X) (y : Y) → option_map f found ≡ Some y → option_map (λ x. g (f x)) found ≡ Some (g y)
named-then f g None y told = absurd cc
named-then f g (Some x) y told = let same : f x ≡ y = cc in ap (λ z. Some (g z)) same

pub named-and_then : {X Y Z : Type 0} (f : X → Y) (g : Y → Option Z) (found : Option X) (y : Y) → option_map f found ≡ Some y → option_and_then (λ x. g (f x)) found ≡ g y
named-and_then f g None y told = absurd cc
named-and_then f g (Some x) y told = let same : f x ≡ y = cc in ap g same

pub named-both : {X Y Z W : Type 0} (f : X → Y) (g : X → Z) (h : Y → Z → W) (found : Option X) (y : Y) (z : Z) → option_map f found ≡ Some y → option_map g found ≡ Some z → option_map (λ x. h (f x) (g x)) found ≡ Some (h y z)
named-both f g h None y z one other = absurd cc
named-both f g h (Some x) y z one other = let first : f x ≡ y = cc in let second : g x ≡ z = cc in (λ i. Some (h (first i) (second i)))

-- how many entries a group has
pub size-answer : {A G P R V M : Type 0} (keys_of : A → List Cell → List Key) (says : P → Key → Bool) (rounded : G → Key → Key) (meaning_of : V → M) (folding : R → Reducer (List Cell) M) (state : State A G P R) (id : ℕ) (entries : List (Entry V))
    → option_map (entries_of keys_of says rounded folding state) (group_named state id) ≡ Some (meanings meaning_of entries)
    → option_map (λ group. length (entries_of keys_of says rounded folding state group)) (group_named state id) ≡ Some (length entries)
size-answer keys_of says rounded meaning_of folding state id entries told =
    named-then (entries_of keys_of says rounded folding state) length (group_named state id) (meanings meaning_of entries) told ∙ ap Some (size-meant meaning_of entries)

-- the entry at a position
pub at-answer : {A G P R V M : Type 0} (keys_of : A → List Cell → List Key) (says : P → Key → Bool) (rounded : G → Key → Key) (meaning_of : V → M) (folding : R → Reducer (List Cell) M) (state : State A G P R) (id : ℕ) (entries : List (Entry V)) (i : ℕ) (entry : Entry V)
    → option_map (entries_of keys_of says rounded folding state) (group_named state id) ≡ Some (meanings meaning_of entries) → slice_get entries i ≡ Some entry
    → option_and_then (λ group. slice_get (entries_of keys_of says rounded folding state group) i) (group_named state id) ≡ Some (entry.key, meaning_of entry.value)
at-answer keys_of says rounded meaning_of folding state id entries i entry told there =
    named-and_then (entries_of keys_of says rounded folding state) (λ own. slice_get own i) (group_named state id) (meanings meaning_of entries) told ∙ at-meant meaning_of entries i entry there

-- what the value of a key means
pub value-answer : {A G P R V M : Type 0} (keys_of : A → List Cell → List Key) (says : P → Key → Bool) (rounded : G → Key → Key) (meaning_of : V → M) (folding : R → Reducer (List Cell) M) (state : State A G P R) (id : ℕ) (entries : List (Entry V)) (key : Key)
    → option_map (entries_of keys_of says rounded folding state) (group_named state id) ≡ Some (meanings meaning_of entries)
    → option_and_then (λ group. meaning_of_key (entries_of keys_of says rounded folding state group) key) (group_named state id) ≡ option_map meaning_of (value_at entries key)
value-answer keys_of says rounded meaning_of folding state id entries key told =
    named-and_then (entries_of keys_of says rounded folding state) (λ own. meaning_of_key own key) (group_named state id) (meanings meaning_of entries) told ∙ value-meant meaning_of entries key

-- all entries, each with the number of a field
pub all-answer : {A G P R V M : Type 0} (keys_of : A → List Cell → List Key) (says : P → Key → Bool) (rounded : G → Key → Key) (meaning_of : V → M) (folding : R → Reducer (List Cell) M) (rank : R → M → ℕ → ℤ) (state : State A G P R) (id field : ℕ) (reducer : R) (entries : List (Entry V))
    → option_map (λ group. group.reducer) (group_named state id) ≡ Some reducer
    → option_map (entries_of keys_of says rounded folding state) (group_named state id) ≡ Some (meanings meaning_of entries)
    → all_of keys_of says rounded folding rank state id field ≡ Some (entry_numbers (λ value. rank reducer (meaning_of value) field) entries)
all-answer {A} {G} {P} {R} keys_of says rounded meaning_of folding rank state id field reducer entries own told =
    named-both (λ (group : LiveGroup G R). group.reducer) (entries_of keys_of says rounded folding state) (λ r es. numbers_of (rank r) field es) (group_named state id) reducer (meanings meaning_of entries) own told
    ∙ ap Some (numbers-meant meaning_of (rank reducer) field entries)

-- the first entries by rank, each with the number of a field
pub top-answer : {A G P R V M : Type 0} (keys_of : A → List Cell → List Key) (says : P → Key → Bool) (rounded : G → Key → Key) (meaning_of : V → M) (folding : R → Reducer (List Cell) M) (rank : R → M → ℕ → ℤ) (state : State A G P R) (id k field : ℕ) (held : Grouping G (Grouped R V))
    → group_named state id ≡ Some (live_group held) → HoldsGroupOf keys_of says rounded meaning_of folding state held
    → group_top_of keys_of says rounded folding rank state id k field ≡ Some (entry_numbers (λ value. rank held.group.reducer (meaning_of value) field) (first_entries (λ value. rank held.group.reducer (meaning_of value) (order_field held.order)) k held.group.entries))
top-answer {A} {G} {P} {R} keys_of says rounded meaning_of folding rank state id k field held named holds =
    let order : ℕ = order_field held.order in
    let own : R = held.group.reducer in
    ap (option_map (λ (group : LiveGroup G R). numbers_of (rank group.reducer) field (top_entries keys_of says rounded folding rank state k group))) named
    ∙ ap (λ entries. Some (numbers_of (rank own) field (group_top (λ meaning. rank own meaning order) k entries))) (sym holds.1)
    ∙ ap (λ entries. Some (numbers_of (rank own) field entries)) (top-meant meaning_of (λ meaning. rank own meaning order) k held.group.entries)
    ∙ ap Some (numbers-meant meaning_of (rank own) field (first_entries (λ value. rank own (meaning_of value) order) k held.group.entries))
