-- Rows that come one by one into a group, or into a whole, that has none: what its values mean, and that they may come.
use Rattle.std.proofs.Common.{◌≡◌, ℕ, suc, ◌+◌, ◌<◌, ◌≤◌, Bool, true, false, ◌&&◌, ◌||◌, cond, List, [], ◌∷◌, ◌++◌, Option, Some, get_or, length, map, slice_get, take, refl, sym, ap, subst, ◌∙◌, arith}
use Rattle.std.proofs.lemmas.Bool.{true≢false}
use Rattle.std.proofs.lemmas.Cmp.{tied_itself}
use Rattle.std.proofs.lemmas.List.{length-take, map-id}
use Rattle.std.proofs.lemmas.List.Elements.{All-from_recursion}
use Rattle.std.proofs.lemmas.Option.{get_or_from_slice_get, unwrap_or-slice_get}
use Rattle.std.specs.List.{AllByRecursion, find, flat_map}
use Rattle.std.specs.List.Sorted.{IsStrictlySortedBy}
use Rattle.std.specs.Option.{option_map, unwrap_or}
use Rattle.std.specs.Ordering.{is_eq}
use Rattle.std.specs.declared.cmp.Ordering.TheVariants.{Less, Greater}
use Rattle.xf_base.proofs.EqualKeys.{key_cmp-equal}
use Rattle.xf_base.specs.Key.{key_cmp}
use Rattle.xf_base.specs.KeyOrder.{key_cmp_total}
use Rattle.xf_base.specs.Schema.{IsRowOf}
use Rattle.xf_base.specs.declared.cell.Cell.{Cell}
use Rattle.xf_base.specs.declared.column.Column.{Column}
use Rattle.xf_base.specs.declared.key.Key.{Key}
use Rattle.xf_base.specs.declared.limits.TheConstants.Limits.{ROWS}
use Rattle.xf_group.proofs.AdmitFresh.{equal_from_test}
use Rattle.xf_group.proofs.AscendingEntries.{less_back}
use Rattle.xf_group.proofs.JoinedGroup.{all-take}
use Rattle.xf_group.specs.Admitted.{IsReadyAt, SuitAll}
use Rattle.xf_group.specs.Changed.{AreChanged, IsChangedIf, MayChange, MayChangeAll, changed_meaning}
use Rattle.xf_group.specs.Group.{Grouped, is_entry_of, keys_at, keys_in, meaning_at, meanings, meanings_for, value_at}
use Rattle.xf_group.specs.Held.{keys_of}
use Rattle.xf_group.specs.declared.entry.Entry.{Entry}
use Rattle.xf_model.proofs.AscendingKeys.{all_implies, sorted-distinct_keys}
use Rattle.xf_model.specs.Group.{Reducer, fold_of}
use Rattle.xf_model.specs.Laws.{is_among}
use Rattle.xf_reduce.specs.Laws.{IsFoldBefore, Suits}
use Rattle.xf_engine.proofs.FoldedEntries.{counted-next, entries-next, fold_of-next, with_row}
use Rattle.xf_engine.specs.Folding.{counted, counted_with}

-- ---- lists

-- what holds of each of joined lists holds of each at the back
all_back : {X : Type 0} (P : X → Type 0) (xs ys : List X) → AllByRecursion P (xs ++ ys) → AllByRecursion P ys
all_back P [] ys all = all
all_back P (x ∷ xs) ys all = all_back P xs ys all.1

all_both : {X : Type 0} (P Q : X → Type 0) (xs : List X) → AllByRecursion P xs → AllByRecursion Q xs → AllByRecursion (λ x. P x × Q x) xs
all_both P Q [] one other = tt
all_both P Q (x ∷ xs) one other = ((one.0, other.0), all_both P Q xs one.1 other.1)

all_of_map : {X Y : Type 0} (P : Y → Type 0) (f : X → Y) (xs : List X) → AllByRecursion P (map f xs) → AllByRecursion (λ x. P (f x)) xs
all_of_map P f [] all = tt
all_of_map P f (x ∷ xs) all = (all.0, all_of_map P f xs all.1)

map_map : {X Y Z : Type 0} (f : Y → Z) (g : X → Y) (xs : List X) → map f (map g xs) ≡ map (λ x. f (g x)) xs
map_map f g [] = refl
map_map f g (x ∷ xs) = ap (λ rest. f (g x) ∷ rest) (map_map f g xs)

-- ---- rows

-- where joined rows suit those at the back do
pub suit_back : (fits : List Column → Bool) (rows others : List (List Cell)) → SuitAll fits (rows ++ others) → SuitAll fits others
suit_back fits rows others suit = record { columns = suit.columns; fit = suit.fit; of_schema = all_back (IsRowOf suit.columns) rows others suit.of_schema }

-- the row at a place
is_at : {X : Type 0} (xs : List X) (i : ℕ) (x : X) → slice_get xs i ≡ Some x → x ≡ get_or xs i x
is_at xs i x here = sym (get_or_from_slice_get xs i x x here)

row_of : (fits : List Column → Bool) (rows : List (List Cell)) (i : ℕ) (row : List Cell) (suit : SuitAll fits rows) → i < length rows → row ≡ get_or rows i row → IsRowOf suit.columns row
row_of fits rows i row suit inside here = subst (IsRowOf suit.columns) (sym here) (All-from_recursion (IsRowOf suit.columns) rows suit.of_schema i row inside)

-- the rows that count are some of the rows
all_choice : {X : Type 0} (P : X → Type 0) (test : Bool) (x : X) (xs : List X) → P x → AllByRecursion P xs → AllByRecursion P (cond test (x ∷ xs) xs)
all_choice P true x xs first rest = (first, rest)
all_choice P false x xs first rest = rest

few_choice : {X : Type 0} (test : Bool) (x : X) (xs : List X) (n : ℕ) → length xs ≤ n → length (cond test (x ∷ xs) xs) ≤ suc n
few_choice true x xs n few = omega (arith, few)
few_choice false x xs n few = omega (arith, few)

all_counted : {Row : Type 0} (P : Row → Type 0) (rows : List Row) (counts : List Bool) → AllByRecursion P rows → AllByRecursion P (counted rows counts)
all_counted P [] counts all = tt
all_counted P (row ∷ rows) [] all = tt
all_counted P (row ∷ rows) (counts ∷ later) all = all_choice P counts row (counted rows later) all.0 (all_counted P rows later all.1)

few_counted : {Row : Type 0} (rows : List Row) (counts : List Bool) → length (counted rows counts) ≤ length rows
few_counted [] counts = omega arith
few_counted (row ∷ rows) [] = omega arith
few_counted (row ∷ rows) (counts ∷ later) = few_choice counts row (counted rows later) (length rows) (few_counted rows later)

all_counted_with : {Row : Type 0} (P : Row → Type 0) (key : Key) (rows : List Row) (keys : List (List Key)) (counts : List Bool) → AllByRecursion P rows → AllByRecursion P (counted_with key rows keys counts)
all_counted_with P key [] keys counts all = tt
all_counted_with P key (row ∷ rows) [] counts all = tt
all_counted_with P key (row ∷ rows) (own ∷ keys) [] all = tt
all_counted_with P key (row ∷ rows) (own ∷ keys) (counts ∷ later) all =
    all_choice P (counts && is_among key_cmp own key) row (counted_with key rows keys later) all.0 (all_counted_with P key rows keys later all.1)

few_counted_with : {Row : Type 0} (key : Key) (rows : List Row) (keys : List (List Key)) (counts : List Bool) → length (counted_with key rows keys counts) ≤ length rows
few_counted_with key [] keys counts = omega arith
few_counted_with key (row ∷ rows) [] counts = omega arith
few_counted_with key (row ∷ rows) (own ∷ keys) [] = omega arith
few_counted_with key (row ∷ rows) (own ∷ keys) (counts ∷ later) =
    few_choice (counts && is_among key_cmp own key) row (counted_with key rows keys later) (length rows) (few_counted_with key rows keys later)

-- a fold of some of the rows before a place may take the row at the place in
fold_before : {Meaning : Type 0} (fits : List Column → Bool) (folding : Reducer (List Cell) Meaning) (value : Meaning) (rows some : List (List Cell)) (i : ℕ) (row : List Cell) (suit : SuitAll fits rows) → length rows ≤ ROWS → i < length rows → row ≡ get_or rows i row
    → AllByRecursion (IsRowOf suit.columns) some → length some ≤ length (take i rows) → value ≡ fold_of folding some → IsFoldBefore fits folding value row
fold_before fits folding value rows some i row suit few inside here of_schema less folded = record {
  columns = suit.columns;
  fit = suit.fit;
  of_columns = row_of fits rows i row suit inside here;
  rows = some;
  of_schema = of_schema;
  few = omega (arith, few, inside, less, length-take i rows);
  folded = folded;
}

-- ---- wholes

-- what a value means that has those that count of the first rows
abbrev pub whole_of_first : {Meaning : Type 0} → Reducer (List Cell) Meaning → List (List Cell) → List Bool → ℕ → Meaning
whole_of_first folding rows counts n = fold_of folding (counted (take n rows) (take n counts))

module _ {Meaning : Type 0} (fits : List Column → Bool) (folding : Reducer (List Cell) Meaning) (rows : List (List Cell)) (counts : List Bool) (i : ℕ) (row : List Cell) (inside : i < length rows) (here : slice_get rows i ≡ Some row) (before value : Meaning) (so_far : before ≡ whole_of_first folding rows counts i) (same : value ≡ before) where
  -- it may take the row at the place in
  pub whole_may_take : SuitAll fits rows → length rows ≤ ROWS → IsFoldBefore fits folding value row
  whole_may_take suit few =
      fold_before fits folding value rows (counted (take i rows) (take i counts)) i row suit few inside (is_at rows i row here)
      (all_counted (IsRowOf suit.columns) (take i rows) (take i counts) (all-take (IsRowOf suit.columns) i rows suit.of_schema))
      (few_counted (take i rows) (take i counts)) (same ∙ so_far)

  whole_next : (says : Bool) → length counts ≡ length rows → get_or counts i false ≡ says → cond says (folding.step value row) value ≡ whole_of_first folding rows counts (i + 1)
  whole_next says long is =
      ap (λ meaning. cond says (folding.step meaning row) meaning) (same ∙ so_far)
      ∙ ap (λ b. cond b (folding.step (whole_of_first folding rows counts i) row) (whole_of_first folding rows counts i)) (sym is)
      ∙ sym (fold_of-next folding (counted (take i rows) (take i counts)) row (get_or counts i false))
      ∙ ap (fold_of folding) (sym (counted-next rows counts i row inside long (is_at rows i row here)))

  -- which counts
  pub whole_taken : (after : Meaning) → length counts ≡ length rows → get_or counts i false ≡ true → after ≡ folding.step value row → after ≡ whole_of_first folding rows counts (i + 1)
  whole_taken after long says step = step ∙ whole_next true long says

  -- which does not count
  pub whole_passed : length counts ≡ length rows → get_or counts i false ≡ false → value ≡ whole_of_first folding rows counts (i + 1)
  whole_passed long says = whole_next false long says

-- ---- groups

-- an entry
abbrev entry : {Meaning : Type 0} → Key → Meaning → Key × Meaning
entry key meaning = (key, meaning)

-- what the entries of a group mean that has those that count of the first rows
abbrev pub group_of_first : {Meaning : Type 0} → Reducer (List Cell) Meaning → List (List Cell) → List (List Key) → List Bool → ℕ → List (Key × Meaning)
group_of_first folding rows keys counts n = map (λ key. (key, fold_of folding (counted_with key (take n rows) (take n keys) (take n counts)))) (keys_in keys)

-- entries with no row more are as they were
with_no_row : {Meaning : Type 0} (folding : Reducer (List Cell) Meaning) (row : List Cell) (own : List Key) (entries : List (Key × Meaning)) → with_row folding row own false entries ≡ entries
with_no_row folding row own [] = refl
with_no_row folding row own (one ∷ rest) = ap (λ later. one ∷ later) (with_no_row folding row own rest)

-- the row at a place counts, or it does not
pub group_next : {Meaning : Type 0} (folding : Reducer (List Cell) Meaning) (rows : List (List Cell)) (keys : List (List Key)) (counts : List Bool) (i : ℕ) (row : List Cell) (says : Bool)
    → i < length rows → length keys ≡ length rows → length counts ≡ length rows → slice_get rows i ≡ Some row → get_or counts i false ≡ says
    → group_of_first folding rows keys counts (i + 1) ≡ with_row folding row (get_or keys i []) says (group_of_first folding rows keys counts i)
group_next folding rows keys counts i row says inside each long here is =
    entries-next folding (keys_in keys) rows keys counts i row inside each long (is_at rows i row here)
    ∙ ap (λ b. with_row folding row (get_or keys i []) b (group_of_first folding rows keys counts i)) is

pub group_passed : {Meaning : Type 0} (folding : Reducer (List Cell) Meaning) (rows : List (List Cell)) (keys : List (List Key)) (counts : List Bool) (i : ℕ) (row : List Cell)
    → i < length rows → length keys ≡ length rows → length counts ≡ length rows → slice_get rows i ≡ Some row → get_or counts i false ≡ false
    → group_of_first folding rows keys counts (i + 1) ≡ group_of_first folding rows keys counts i
group_passed folding rows keys counts i row inside each long here is =
    group_next folding rows keys counts i row false inside each long here is ∙ with_no_row folding row (get_or keys i []) (group_of_first folding rows keys counts i)

module _ {V Meaning : Type 0} (meaning_of : V → Meaning) where
  -- where each key means what a function of the key gives
  meant_by : (f : Key → Meaning) (keys : List Key) → AllByRecursion (λ (one : Key × Meaning). one.1 ≡ f one.0) (map (λ key. entry key (f key)) keys)
  meant_by f [] = tt
  meant_by f (key ∷ keys) = (refl, meant_by f keys)

  meant_each : (f : Key → Meaning) (entries : List (Entry V)) (keys : List Key) → meanings meaning_of entries ≡ map (λ key. entry key (f key)) keys → AllByRecursion (λ (own : Entry V). meaning_of own.value ≡ f own.key) entries
  meant_each f entries keys same =
      all_of_map (λ (one : Key × Meaning). one.1 ≡ f one.0) (λ (own : Entry V). entry own.key (meaning_of own.value)) entries
      (subst (AllByRecursion (λ (one : Key × Meaning). one.1 ≡ f one.0)) (sym same) (meant_by f keys))

  -- its keys are those
  meant_keys : (f : Key → Meaning) (entries : List (Entry V)) (keys : List Key) → meanings meaning_of entries ≡ map (λ key. entry key (f key)) keys → keys_of entries ≡ keys
  meant_keys f entries keys same =
      sym (map_map (λ (one : Key × Meaning). one.0) (λ (own : Entry V). entry own.key (meaning_of own.value)) entries)
      ∙ ap (map (λ (one : Key × Meaning). one.0)) same
      ∙ map_map (λ (one : Key × Meaning). one.0) (λ key. entry key (f key)) keys
      ∙ map-id keys

  -- where each means nothing yet every key does
  nothing_found : (nothing : Meaning) (key : Key) (entries : List (Entry V)) → AllByRecursion (λ (own : Entry V). meaning_of own.value ≡ nothing) entries → meaning_at meaning_of nothing entries key ≡ nothing
  nothing_found nothing key [] all = refl
  nothing_found nothing key (first ∷ rest) all =
      elim (is_entry_of key first) as (λ b. unwrap_or (option_map meaning_of (option_map (λ (own : Entry V). own.value) (cond b (Some first) (find (is_entry_of key) rest)))) nothing ≡ nothing) [
        | true ↦ all.0
        | false ↦ nothing_found nothing key rest all.1
      ]

  entries_agree : (f g : Key → Meaning) → ((key : Key) → f key ≡ g key) → (keys : List Key) → map (λ key. entry key (f key)) keys ≡ map (λ key. entry key (g key)) keys
  entries_agree f g same [] = refl
  entries_agree f g same (key ∷ keys) =
      ap (λ meaning. entry key meaning ∷ map (λ key. entry key (f key)) keys) (same key) ∙ ap (λ later. entry key (g key) ∷ later) (entries_agree f g same keys)

  -- places that enter such a group leave it one
  pub entered_nothing : (nothing : Meaning) (old new : List (Entry V)) (keys : List Key) (places : List (List Key))
      → meanings meaning_of old ≡ map (λ key. (key, nothing)) keys → meanings meaning_of new ≡ meanings_for meaning_of nothing old places → meanings meaning_of new ≡ map (λ key. (key, nothing)) (keys_in places)
  entered_nothing nothing old new keys places before now =
      now
      ∙ entries_agree (meaning_at meaning_of nothing old) (λ _. nothing) (λ key. nothing_found nothing key old (meant_each (λ _. nothing) old keys before)) (keys_in places)

  -- ---- a row that comes

  module _ (folding : Reducer (List Cell) Meaning) (undo : Meaning → List Cell → Meaning) (IsReady : V → List Cell → Type 0) (calls : Option (V → ℕ)) where
    -- the values of a row's keys took it in
    abbrev pub TookIn : List Cell → List Key → List (Entry V) → List (Entry V) → Type 0
    TookIn row own old new = AreChanged meaning_of (λ meaning. changed_meaning folding undo true meaning row) IsReady calls own old new

    abbrev TookInIf : List Cell → Bool → V → V → Type 0
    TookInIf row changed old new = IsChangedIf meaning_of (λ meaning. changed_meaning folding undo true meaning row) IsReady calls changed old new

    took_meaning : (row : List Cell) (changed : Bool) (old new : V) → TookInIf row changed old new → meaning_of new ≡ cond changed (folding.step (meaning_of old) row) (meaning_of old)
    took_meaning row true old new is = is.meaning
    took_meaning row false old new is = ap meaning_of is

    -- so they mean what they did with the row
    pub took_meanings : (row : List Cell) (own : List Key) (old new : List (Entry V)) → TookIn row own old new → meanings meaning_of new ≡ with_row folding row own true (meanings meaning_of old)
    took_meanings row own [] [] all = refl
    took_meanings row own [] (y ∷ ys) all = absurd all
    took_meanings row own (x ∷ xs) [] all = absurd all
    took_meanings row own (x ∷ xs) (y ∷ ys) all =
        ap (λ key. entry key (meaning_of y.value) ∷ meanings meaning_of ys) all.0.0
        ∙ ap (λ meaning. entry x.key meaning ∷ meanings meaning_of ys) (took_meaning row (is_among key_cmp own x.key) x.value y.value all.0.1)
        ∙ ap (λ later. entry x.key (cond (is_among key_cmp own x.key) (folding.step (meaning_of x.value) row) (meaning_of x.value)) ∷ later) (took_meanings row own xs ys all.1)

-- ---- groups whose values are ready for a row

module _ {V : Type 0} (IsReady : V → List Cell → Type 0) where
  -- what holds of each key of a list holds of one that ties with one of them
  among_step : (P : Key → Type 0) (q key : Key) (tied : Bool) (rest : Bool) → is_eq (key_cmp q key) ≡ tied → P key → (rest ≡ true → P q) → (tied || rest) ≡ true → P q
  among_step P q key true rest is here later among = subst P (sym (key_cmp-equal q key (equal_from_test (key_cmp q key) is))) here
  among_step P q key false rest is here later among = later among

  among_all : (P : Key → Type 0) (q : Key) (keys : List Key) → AllByRecursion P keys → is_among key_cmp keys q ≡ true → P q
  among_all P q [] all among = absurd (true≢false (sym among))
  among_all P q (key ∷ keys) all among = among_step P q key (is_eq (key_cmp q key)) (is_among key_cmp keys q) refl all.0 (among_all P q keys all.1) among

  -- where keys ascend each entry is the one of its key
  own_first : (first : Entry V) (rest : List (Entry V)) → value_at (first ∷ rest) first.key ≡ Some first.value
  own_first first rest = rw (tied_itself key_cmp_total first.key) refl

  own_later : (first : Entry V) (rest : List (Entry V)) (own : Entry V) → key_cmp first.key own.key ≡ Less → value_at rest own.key ≡ Some own.value → value_at (first ∷ rest) own.key ≡ Some own.value
  own_later first rest own less there = let greater : key_cmp own.key first.key ≡ Greater = less_back key_cmp_total first.key own.key less in rw greater there

  own_values : (entries : List (Entry V)) → IsStrictlySortedBy key_cmp (keys_of entries) → AllByRecursion (λ (own : Entry V). value_at entries own.key ≡ Some own.value) entries
  unfolding IsStrictlySortedBy
  own_values [] sorted = tt
  own_values (first ∷ rest) sorted = (
    own_first first rest,
    all_implies (λ (own : Entry V). (key_cmp first.key own.key ≡ Less) × (value_at rest own.key ≡ Some own.value)) (λ (own : Entry V). value_at (first ∷ rest) own.key ≡ Some own.value)
        (λ own both. own_later first rest own both.0 both.1) rest
        (all_both (λ (own : Entry V). key_cmp first.key own.key ≡ Less) (λ (own : Entry V). value_at rest own.key ≡ Some own.value) rest
        (all_of_map (λ key. key_cmp first.key key ≡ Less) (λ (own : Entry V). own.key) rest sorted.0) (own_values rest sorted.1)),
  )

  -- the value of an entry whose key is ready for a row
  own_ready : (entries : List (Entry V)) (own : Entry V) (row : List Cell) → value_at entries own.key ≡ Some own.value → IsReadyAt IsReady entries own.key row → IsReady own.value row
  own_ready entries own row here ready =
      let same : ready.0 ≡ own.value = cc in
      subst (λ value. IsReady value row) same ready.2

  -- the values of the keys of the row at a place may take it in, once they have those that count of the rows before it
  pub may_take : {Meaning : Type 0} (meaning_of : V → Meaning) (fits : List Column → Bool) (folding : Reducer (List Cell) Meaning) (rows : List (List Cell)) (keys : List (List Key)) (counts : List Bool) (i : ℕ) (row : List Cell) (entries : List (Entry V))
      → SuitAll fits rows → length rows ≤ ROWS → i < length rows → slice_get rows i ≡ Some row → AllByRecursion (λ key. IsReadyAt IsReady entries key row) (get_or keys i []) → meanings meaning_of entries ≡ group_of_first folding rows keys counts i
      → MayChangeAll meaning_of fits folding IsReady (get_or keys i []) true row entries
  may_take {Meaning} meaning_of fits folding rows keys counts i row entries suit few inside here own so_far =
      let f : Key → Meaning = λ key. fold_of folding (counted_with key (take i rows) (take i keys) (take i counts)) in
      let is_row : row ≡ get_or rows i row = is_at rows i row here in
      let sorted : IsStrictlySortedBy key_cmp (keys_of entries) = subst (IsStrictlySortedBy key_cmp) (sym (meant_keys meaning_of f entries (keys_in keys) so_far)) (sorted-distinct_keys key_cmp_total (flat_map (λ (own : List Key). own) keys)) in
      all_implies (λ (one : Entry V). (value_at entries one.key ≡ Some one.value) × (meaning_of one.value ≡ f one.key))
      (λ (one : Entry V). is_among key_cmp (get_or keys i []) one.key ≡ true → MayChange fits folding true (meaning_of one.value) row × IsReady one.value row)
      (λ one both among. (
        fold_before fits folding (meaning_of one.value) rows (counted_with one.key (take i rows) (take i keys) (take i counts)) i row suit few inside is_row
            (all_counted_with (IsRowOf suit.columns) one.key (take i rows) (take i keys) (take i counts) (all-take (IsRowOf suit.columns) i rows suit.of_schema))
            (few_counted_with one.key (take i rows) (take i keys) (take i counts)) both.1,
        own_ready entries one row both.0 (among_all (λ key. IsReadyAt IsReady entries key row) one.key (get_or keys i []) own among),
      ))
      entries
      (all_both (λ (one : Entry V). value_at entries one.key ≡ Some one.value) (λ (one : Entry V). meaning_of one.value ≡ f one.key) entries (own_values entries sorted) (meant_each meaning_of f entries (keys_in keys) so_far))

-- ---- a group that takes rows in one after another

-- one that has those that count of the first rows
pub record HasFirst {R V Meaning : Type 0} (meaning_of : V → Meaning) (folding : R → Reducer (List Cell) Meaning) (first : Grouped R V) (rows : List (List Cell)) (counts : List Bool) (n : ℕ) (group : Grouped R V) : Type 0 where
  pub reducer : group.reducer ≡ first.reducer
  pub places : group.places ≡ first.places
  pub means : meanings meaning_of group.entries ≡ group_of_first (folding first.reducer) rows first.places counts n

module _ {R V Meaning : Type 0} (meaning_of : V → Meaning) (folding : R → Reducer (List Cell) Meaning) (first : Grouped R V) (rows : List (List Cell)) (counts : List Bool) (i : ℕ) (row : List Cell) (group : Grouped R V) (has : HasFirst meaning_of folding first rows counts i group) where
  -- the keys of the row at the place
  own_keys : keys_at group i ≡ get_or first.places i []
  own_keys = unwrap_or-slice_get group.places i [] ∙ ap (λ places. get_or places i []) has.places

  -- the row is one that its reducer fits
  pub first_suits : (fits : R → List Column → Bool) → SuitAll (fits first.reducer) rows → i < length rows → slice_get rows i ≡ Some row → Suits (fits group.reducer) row
  first_suits fits suit inside here =
      subst (λ (reducer : R). Suits (fits reducer) row) (sym has.reducer) (record { columns = suit.columns; fit = suit.fit; of_columns = row_of (fits first.reducer) rows i row suit inside (is_at rows i row here) })

  -- values that are made ready for it
  pub first_ready : (IsReady : R → V → List Cell → Type 0) (entries : List (Entry V)) → AllByRecursion (λ key. IsReadyAt (IsReady group.reducer) entries key row) (keys_at group i) → AllByRecursion (λ key. IsReadyAt (IsReady first.reducer) entries key row) (get_or first.places i [])
  first_ready IsReady entries ready =
      subst (λ own. AllByRecursion (λ key. IsReadyAt (IsReady first.reducer) entries key row) own) own_keys
      (subst (λ (reducer : R). AllByRecursion (λ key. IsReadyAt (IsReady reducer) entries key row) (keys_at group i)) has.reducer ready)

  pub first_same : (new : Grouped R V) → new.reducer ≡ group.reducer → new.places ≡ group.places → meanings meaning_of new.entries ≡ meanings meaning_of group.entries → HasFirst meaning_of folding first rows counts i new
  first_same new reducer places means = record {
    reducer = reducer ∙ has.reducer;
    places = places ∙ has.places;
    means = means ∙ has.means;
  }

  -- it may take the row at the place in
  pub may_take_in : (IsReady : R → V → List Cell → Type 0) (fits : R → List Column → Bool) → SuitAll (fits first.reducer) rows → length rows ≤ ROWS → i < length rows → slice_get rows i ≡ Some row → AllByRecursion (λ key. IsReadyAt (IsReady first.reducer) group.entries key row) (get_or first.places i [])
      → MayChangeAll meaning_of (fits group.reducer) (folding group.reducer) (IsReady group.reducer) (keys_at group i) true row group.entries
  may_take_in IsReady fits suit few inside here ready =
      subst (λ (reducer : R). MayChangeAll meaning_of (fits reducer) (folding reducer) (IsReady reducer) (keys_at group i) true row group.entries) (sym has.reducer)
      (subst (λ own. MayChangeAll meaning_of (fits first.reducer) (folding first.reducer) (IsReady first.reducer) own true row group.entries) (sym own_keys)
      (may_take (IsReady first.reducer) meaning_of (fits first.reducer) (folding first.reducer) rows first.places counts i row group.entries suit few inside here ready has.means))

  -- which counts
  pub first_taken : (IsReady : R → V → List Cell → Type 0) (undo : R → Meaning → List Cell → Meaning) (calls : Option (V → ℕ)) (new : Grouped R V) → i < length rows → length first.places ≡ length rows → length counts ≡ length rows → slice_get rows i ≡ Some row → get_or counts i false ≡ true
      → new.reducer ≡ group.reducer → new.places ≡ group.places
      → AreChanged meaning_of (λ meaning. changed_meaning (folding group.reducer) (undo group.reducer) true meaning row) (IsReady group.reducer) calls (keys_at group i) group.entries new.entries
      → HasFirst meaning_of folding first rows counts (i + 1) new
  first_taken IsReady undo calls new inside each long here says reducer places changed =
      let took : TookIn meaning_of (folding first.reducer) (undo first.reducer) (IsReady first.reducer) calls row (get_or first.places i []) group.entries new.entries =
      subst (λ own. TookIn meaning_of (folding first.reducer) (undo first.reducer) (IsReady first.reducer) calls row own group.entries new.entries) own_keys
      (subst (λ (reducer : R). TookIn meaning_of (folding reducer) (undo reducer) (IsReady reducer) calls row (keys_at group i) group.entries new.entries) has.reducer changed) in
      record {
        reducer = reducer ∙ has.reducer;
        places = places ∙ has.places;
        means = took_meanings meaning_of (folding first.reducer) (undo first.reducer) (IsReady first.reducer) calls row (get_or first.places i []) group.entries new.entries took
            ∙ ap (with_row (folding first.reducer) row (get_or first.places i []) true) has.means
            ∙ sym (group_next (folding first.reducer) rows first.places counts i row true inside each long here says);
      }

  -- which does not count
  pub first_passed : i < length rows → length first.places ≡ length rows → length counts ≡ length rows → slice_get rows i ≡ Some row → get_or counts i false ≡ false → HasFirst meaning_of folding first rows counts (i + 1) group
  first_passed inside each long here says = record {
    reducer = has.reducer;
    places = has.places;
    means = has.means ∙ sym (group_passed (folding first.reducer) rows first.places counts i row inside each long here says);
  }
