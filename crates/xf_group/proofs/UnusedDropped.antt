-- What is left of entries once those are dropped whose positions no place has.
use Rattle.std.proofs.Common.{◌≡◌, ℕ, ◌<◌, ◌≤◌, Bool, true, false, cond, eqb, not, List, [], ◌∷◌, Some, map, length, get_or, slice_get, slice_index, take, refl, sym, ap, subst, ◌∙◌, arith}
use Rattle.std.proofs.lemmas.List.{get_or-map, length-map}
use Rattle.std.proofs.lemmas.Option.{slice_get-map}
use Rattle.std.specs.List.{AllByRecursion, count_by, filter}
use Rattle.std.specs.List.Sorted.{IsStrictlySortedBy}
use Rattle.std.specs.Option.{option_map}
use Rattle.xf_base.proofs.KeptItems.{kept-stands}
use Rattle.xf_base.specs.Gone.{kept, new_place}
use Rattle.xf_base.specs.Key.{key_cmp}
use Rattle.xf_base.specs.declared.key.Key.{Key}
use Rattle.xf_group.specs.Held.{AreWithin, key_lists, keys_of}
use Rattle.xf_group.specs.Used.{AreMarked, AreRenumbered, is_used, unused_marks}
use Rattle.xf_group.specs.declared.entry.Entry.{Entry}
use Rattle.xf_group.proofs.KeptEntries.{kept_by}
use Rattle.xf_group.proofs.PlacedKeys.{all_keys, among_places, renumbered_lists, renumbered_within, used_each}
use Rattle.xf_model.specs.Laws.{is_among}

-- two facts of each element give a third
pub all_both : {X : Type 0} (P Q R : X → Type 0) → ((x : X) → P x → Q x → R x) → (xs : List X) → AllByRecursion P xs → AllByRecursion Q xs → AllByRecursion R xs
all_both P Q R step [] ps qs = tt
all_both P Q R step (x ∷ xs) ps qs = (step x ps.0 qs.0, all_both P Q R step xs ps.1 qs.1)

zero_mark : (used : Bool) → eqb (cond used 1 0) 0 ≡ not used
zero_mark true = refl
zero_mark false = refl

-- a number is 0 where no place has its position
pub marks_say : (places : List (List ℕ)) (marked : List ℕ) → AreMarked places marked → (k : ℕ) → k < length marked → get_or (unused_marks marked) k true ≡ not (is_used places k)
marks_say places marked said k inside =
    get_or-map (λ number. eqb number 0) marked k 0 true inside ∙ ap (λ n. eqb n 0) (said k inside) ∙ zero_mark (is_used places k)

-- whether some place has the key of an entry
abbrev pub is_placed : {V : Type 0} → List Key → List (List ℕ) → Entry V → Bool
is_placed keys places entry = is_among key_cmp (all_keys (key_lists keys places)) entry.key

-- the entries that are not marked with 0 are those whose keys some place has
pub kept_used : {V : Type 0} (entries : List (Entry V)) (places : List (List ℕ)) (marked : List ℕ) → IsStrictlySortedBy key_cmp (keys_of entries) → AreWithin (length entries) places → length entries ≤ length marked → AreMarked places marked
    → kept (unused_marks marked) entries ≡ filter (is_placed (keys_of entries) places) entries
kept_used {V} entries places marked sorted within room said =
    let keys : List Key = keys_of entries in
    let many : length keys ≡ length entries = length-map entries (λ (entry : Entry V). entry.key) in
    let marks : length (unused_marks marked) ≡ length marked = length-map marked (λ (number : ℕ). eqb number 0) in
    kept_by (is_placed keys places) (unused_marks marked) entries (omega (arith, room, marks))
    (λ k d inside.
    let here : get_or keys k d.key ≡ (get_or entries k d).key = get_or-map (λ (entry : Entry V). entry.key) entries k d d.key inside in
    let placed : is_among key_cmp (all_keys (key_lists keys places)) (get_or keys k d.key) ≡ is_used places k =
    among_places keys sorted places k d.key (subst (λ n. AreWithin n places) (sym many) within) (omega (arith, many, inside)) in
    marks_say places marked said k (omega (arith, inside, room))
    ∙ ap not (sym (ap (is_among key_cmp (all_keys (key_lists keys places))) (sym here) ∙ placed)))

-- an entry that stays stands at its new position
stays_at : (marks : List Bool) (p : ℕ) → get_or marks p true ≡ false → new_place marks p ≡ Some (count_by not (take p marks))
stays_at marks p stays = rw stays refl

moved_key : {V : Type 0} (entries : List (Entry V)) (marks : List Bool) (count : ℕ) (numbers : List ℕ) → AreRenumbered marks count numbers → (p : ℕ) → p < count → get_or marks p true ≡ false → slice_get (keys_of (kept marks entries)) (slice_index numbers p) ≡ slice_get (keys_of entries) p
moved_key {V} entries marks count numbers renumbered p inside stays =
    let place : new_place marks p ≡ Some (count_by not (take p marks)) = stays_at marks p stays in
    ap (slice_get (keys_of (kept marks entries))) (renumbered p (count_by not (take p marks)) inside place)
    ∙ slice_get-map (λ (entry : Entry V). entry.key) (kept marks entries) (count_by not (take p marks))
    ∙ ap (option_map (λ (entry : Entry V). entry.key)) (kept-stands marks entries p (count_by not (take p marks)) place)
    ∙ sym (slice_get-map (λ (entry : Entry V). entry.key) entries p)

moved_keys : {V : Type 0} (entries : List (Entry V)) (places : List (List ℕ)) (marked numbers : List ℕ) → AreWithin (length entries) places → length entries ≤ length marked → AreMarked places marked → AreRenumbered (unused_marks marked) (length entries) numbers
    → AllByRecursion (AllByRecursion (λ p. slice_get (keys_of (kept (unused_marks marked) entries)) (slice_index numbers p) ≡ slice_get (keys_of entries) p)) places
moved_keys {V} entries places marked numbers within room said renumbered =
    let Stands : ℕ → Type 0 = λ p. slice_get (keys_of (kept (unused_marks marked) entries)) (slice_index numbers p) ≡ slice_get (keys_of entries) p in
    all_both (AllByRecursion (λ p. p < length entries)) (AllByRecursion (λ p. is_used places p ≡ true)) (AllByRecursion Stands)
    (all_both (λ p. p < length entries) (λ p. is_used places p ≡ true) Stands
    (λ p inside used.
    moved_key entries (unused_marks marked) (length entries) numbers renumbered p inside
    (marks_say places marked said p (omega (arith, inside, room)) ∙ ap not used)))
    places within (used_each places (λ p. is_used places p ≡ true) (λ p used. used))

-- the places have the keys that they had, by their new positions, which are within what is left
pub same_keys : {V : Type 0} (entries : List (Entry V)) (places : List (List ℕ)) (marked numbers : List ℕ) → AreWithin (length entries) places → length entries ≤ length marked → AreMarked places marked → AreRenumbered (unused_marks marked) (length entries) numbers
    → key_lists (keys_of (kept (unused_marks marked) entries)) (map (map (slice_index numbers)) places) ≡ key_lists (keys_of entries) places
same_keys entries places marked numbers within room said renumbered =
    renumbered_lists (keys_of entries) (keys_of (kept (unused_marks marked) entries)) (slice_index numbers) places (moved_keys entries places marked numbers within room said renumbered)

pub still_within : {V : Type 0} (entries : List (Entry V)) (places : List (List ℕ)) (marked numbers : List ℕ) → AreWithin (length entries) places → length entries ≤ length marked → AreMarked places marked → AreRenumbered (unused_marks marked) (length entries) numbers
    → AreWithin (length (kept (unused_marks marked) entries)) (map (map (slice_index numbers)) places)
still_within {V} entries places marked numbers within room said renumbered =
    let many : length (keys_of entries) ≡ length entries = length-map entries (λ (entry : Entry V). entry.key) in
    let left : length (keys_of (kept (unused_marks marked) entries)) ≡ length (kept (unused_marks marked) entries) = length-map (kept (unused_marks marked) entries) (λ (entry : Entry V). entry.key) in
    subst (λ n. AreWithin n (map (map (slice_index numbers)) places)) left
    (renumbered_within (keys_of entries) (keys_of (kept (unused_marks marked) entries)) (slice_index numbers) places
    (subst (λ n. AreWithin n places) (sym many) within) (moved_keys entries places marked numbers within room said renumbered))
