-- Entries whose keys ascend: which of them has a key.
use Rattle.std.proofs.Common.{◌≡◌, ℕ, zero, suc, ◌+◌, ◌<◌, ◌≤◌, Bool, true, false, List, [], ◌∷◌, Some, None, map, length, get_or, refl, sym, ap, ◌∙◌, arith, below_more, ⊎_elim}
use Rattle.std.proofs.lemmas.Bool.{cases_eq, cases_lt, lt-ltb, le-ltb}
use Rattle.std.proofs.lemmas.Cmp.{tied_back, alike_right}
use Rattle.std.proofs.lemmas.List.Elements.{All-from_recursion}
use Rattle.std.proofs.lemmas.List.Sums.{position_or_len_is}
use Rattle.std.specs.Cmp.{IsTotalOrder}
use Rattle.std.specs.List.{AllByRecursion, position, position_or_len}
use Rattle.std.specs.List.Sorted.{IsStrictlySortedBy}
use Rattle.std.specs.Ordering.{is_eq, ordering_reverse}
use Rattle.std.specs.declared.cmp.Ordering.{Ordering}
use Rattle.std.specs.declared.cmp.Ordering.TheVariants.{Less, Equal, Greater}
use Rattle.xf_base.specs.Key.{key_cmp}
use Rattle.xf_base.specs.KeyOrder.{key_cmp_total}
use Rattle.xf_base.specs.declared.key.Key.{Key}
use Rattle.xf_group.specs.Group.{is_entry_of}
use Rattle.xf_group.specs.Held.{keys_of}
use Rattle.xf_group.specs.declared.entry.Entry.{Entry}

-- what holds of each element holds of what a function makes of it
all_of_map : {X Y : Type 0} (P : Y → Type 0) (f : X → Y) (xs : List X) → AllByRecursion P (map f xs) → AllByRecursion (λ x. P (f x)) xs
all_of_map P f [] all = tt
all_of_map P f (x ∷ xs) all = (all.0, all_of_map P f xs all.1)

-- of elements that ascend an earlier one is below a later one
pub sorted_places : {X K : Type 0} (cmp : K → K → Ordering) (f : X → K) (xs : List X) → IsStrictlySortedBy cmp (map f xs) → (i j : ℕ) (d : X) → i < j → j < length xs → cmp (f (get_or xs i d)) (f (get_or xs j d)) ≡ Less
unfolding IsStrictlySortedBy
sorted_places cmp f [] sorted i j d before inside = absurd (omega (arith, inside))
sorted_places cmp f (x ∷ xs) sorted i zero d before inside = absurd (omega (arith, before))
sorted_places {X} {K} cmp f (x ∷ xs) sorted zero (suc j) d before inside =
    All-from_recursion (λ y. cmp (f x) (f y) ≡ Less) xs (all_of_map (λ y. cmp (f x) y ≡ Less) f xs sorted.0) j d (omega (arith, inside))
sorted_places cmp f (x ∷ xs) sorted (suc i) (suc j) d before inside = sorted_places cmp f xs sorted.1 i j d (omega (arith, before)) (omega (arith, inside))

pub less_back : {K : Type 0} {cmp : K → K → Ordering} → IsTotalOrder cmp → (x y : K) → cmp x y ≡ Less → cmp y x ≡ Greater
less_back order x y less = order.antisymm y x ∙ ap ordering_reverse less

pub greater_turned : {K : Type 0} {cmp : K → K → Ordering} → IsTotalOrder cmp → (x y : K) → cmp x y ≡ Greater → cmp y x ≡ Less
greater_turned order x y greater = order.antisymm y x ∙ ap ordering_reverse greater

-- the key of an entry at a place
abbrev key_at : {V : Type 0} → List (Entry V) → ℕ → Entry V → Key
key_at entries k d = (get_or entries k d).key

-- a key above that of an entry is above those of the entries before it
pub above_all : {V : Type 0} (entries : List (Entry V)) (key : Key) (j : ℕ) → IsStrictlySortedBy key_cmp (keys_of entries) → j < length entries → ((d : Entry V) → key_cmp key (key_at entries j d) ≡ Greater) → (k : ℕ) (d : Entry V) → k < j + 1 → key_cmp key (key_at entries k d) ≡ Greater
above_all {V} entries key j sorted inside greater k d before =
    below_more (λ k. key_cmp key (key_at entries k d) ≡ Greater) j
    (λ k early.
    let earlier : key_cmp (key_at entries k d) (key_at entries j d) ≡ Less = sorted_places key_cmp (λ (entry : Entry V). entry.key) entries sorted k j d early inside in
    let later : key_cmp (key_at entries j d) key ≡ Less = greater_turned key_cmp_total key (key_at entries j d) (greater d) in
    less_back key_cmp_total (key_at entries k d) key (key_cmp_total.trans (key_at entries k d) (key_at entries j d) key earlier later))
    (greater d) k before

-- a key below that of an entry is below those of the entries after it
pub below_all : {V : Type 0} (entries : List (Entry V)) (key : Key) (j : ℕ) → IsStrictlySortedBy key_cmp (keys_of entries) → ((d : Entry V) → key_cmp key (key_at entries j d) ≡ Less) → (k : ℕ) (d : Entry V) → j ≤ k → k < length entries → key_cmp key (key_at entries k d) ≡ Less
below_all {V} entries key j sorted less k d after inside =
    ⊎_elim
    (λ (same : j ≡ k). ap (λ n. key_cmp key (key_at entries n d)) (sym same) ∙ less d)
    (λ (other : j ≡ k → ⊥).
    let later : key_cmp (key_at entries j d) (key_at entries k d) ≡ Less = sorted_places key_cmp (λ (entry : Entry V). entry.key) entries sorted j k d (omega (arith, after, other)) inside in
    key_cmp_total.trans key (key_at entries j d) (key_at entries k d) (less d) later)
    (cases_eq j k)

-- the first place that passes a test, and that there is none
pub position_at : {X : Type 0} (p : X → Bool) (xs : List X) (i : ℕ) (d : X) → i < length xs → ((k : ℕ) → k < i → p (get_or xs k d) ≡ false) → p (get_or xs i d) ≡ true → position p xs ≡ Some i
position_at p xs i d inside before here =
    let first : position_or_len p xs ≡ i = position_or_len_is p xs i d (omega (arith, inside)) before (λ _. here) in
    rw (first, lt-ltb i (length xs) inside) refl

pub position_none : {X : Type 0} (p : X → Bool) (xs : List X) → ((k : ℕ) (d : X) → k < length xs → p (get_or xs k d) ≡ false) → position p xs ≡ None
position_none p [] none = refl
position_none {X} p (x ∷ xs) none =
    let all : position_or_len p (x ∷ xs) ≡ length (x ∷ xs) = position_or_len_is p (x ∷ xs) (length (x ∷ xs)) x (omega arith) (λ k inside. none k x inside) (λ past. absurd (omega (arith, past))) in
    rw (all, le-ltb (length (x ∷ xs)) (length (x ∷ xs)) (omega arith)) refl

-- the place of the entry whose key ties with a key
pub entry_at : {V : Type 0} (entries : List (Entry V)) (key : Key) (i : ℕ) → IsStrictlySortedBy key_cmp (keys_of entries) → i < length entries → (d : Entry V) → key_cmp key (key_at entries i d) ≡ Equal → position (is_entry_of key) entries ≡ Some i
entry_at {V} entries key i sorted inside d tied =
    position_at (is_entry_of key) entries i d inside
    (λ k early.
    let earlier : key_cmp (key_at entries k d) (key_at entries i d) ≡ Less = sorted_places key_cmp (λ (entry : Entry V). entry.key) entries sorted k i d early inside in
    let less : key_cmp (key_at entries k d) key ≡ Less = sym (alike_right key_cmp_total (key_at entries i d) key (key_at entries k d) (tied_back key_cmp_total key (key_at entries i d) tied)) ∙ earlier in
    ap is_eq (less_back key_cmp_total (key_at entries k d) key less))
    (ap is_eq tied)

-- where each key is above or below
pub entry_none : {V : Type 0} (entries : List (Entry V)) (key : Key) (low : ℕ) → ((k : ℕ) (d : Entry V) → k < low → key_cmp key (key_at entries k d) ≡ Greater) → ((k : ℕ) (d : Entry V) → low ≤ k → k < length entries → key_cmp key (key_at entries k d) ≡ Less) → position (is_entry_of key) entries ≡ None
entry_none {V} entries key low above below =
    position_none (is_entry_of key) entries (λ k d inside.
    ⊎_elim
    (λ (early : k < low). ap is_eq (above k d early))
    (λ (late : low ≤ k). ap is_eq (below k d late inside))
    (cases_lt k low))
