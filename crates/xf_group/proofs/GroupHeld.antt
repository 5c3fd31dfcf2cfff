-- What a group keeps, and the keys of one place.
use Rattle.std.proofs.Common.{◌≡◌, ℕ, zero, suc, ◌<◌, ◌≤◌, Bool, List, [], ◌∷◌, Some, None, length, get_or, slice_get, refl, sym, ap, subst, ◌∙◌, arith, ⊎_elim}
use Rattle.std.proofs.lemmas.Bool.{cases_lt, lt-ltb}
use Rattle.std.proofs.lemmas.List.{get_or-map, length-map}
use Rattle.std.proofs.lemmas.List.Folds.{find_at}
use Rattle.std.proofs.lemmas.List.Quantifiers.{position-Some}
use Rattle.std.proofs.lemmas.List.Sums.{position_or_len_is}
use Rattle.std.proofs.lemmas.Option.{slice_get-map, slice_get_past}
use Rattle.std.specs.List.{AllByRecursion, AllZip, find, position, position_or_len}
use Rattle.std.specs.List.Sorted.{IsStrictlySortedBy}
use Rattle.std.specs.Option.{option_map, unwrap_or}
use Rattle.std.specs.Ordering.{nat_cmp}
use Rattle.xf_base.specs.Key.{key_cmp}
use Rattle.xf_base.specs.KeyOrder.{key_cmp_total}
use Rattle.xf_base.specs.declared.key.Key.{Key}
use Rattle.xf_group.specs.Group.{IsGroup, is_entry_of, keys_at, keys_in, value_at}
use Rattle.xf_group.specs.Held.{AreWithin, grouped, key_lists, keys_at_positions, keys_of}
use Rattle.xf_group.specs.Used.{is_listed}
use Rattle.xf_group.specs.declared.entry.Entry.{Entry}
use Rattle.xf_group.proofs.PlacedKeys.{all_keys, among_positions, keys_within, positions_ascend, some_key}
use Rattle.xf_model.specs.Laws.{is_among}
use Rattle.xf_model.proofs.AscendingKeys.{sorted-distinct_keys}

-- the key of an entry
abbrev pub key_of : {V : Type 0} → Entry V → Key
key_of entry = entry.key

-- what holds of each element holds of one of them
pub all_at : {X : Type 0} (P : X → Type 0) (xs : List X) (k : ℕ) (x : X) → AllByRecursion P xs → slice_get xs k ≡ Some x → P x
all_at P [] k x all here = absurd cc
all_at P (y ∷ ys) zero x all here = let same : y ≡ x = cc in subst P same all.0
all_at P (y ∷ ys) (suc k) x all here = all_at P ys k x all.1 here

-- a relation that holds at each place holds along both lists
pub all_zip_from_places : {X Y : Type 0} (R : X → Y → Type 0) (xs : List X) (ys : List Y) → length ys ≡ length xs → ((k : ℕ) (d : X) (e : Y) → k < length xs → R (get_or xs k d) (get_or ys k e)) → AllZip R xs ys
all_zip_from_places R [] [] same at = tt
all_zip_from_places R [] (y ∷ ys) same at = absurd (omega (arith, same))
all_zip_from_places R (x ∷ xs) [] same at = absurd (omega (arith, same))
all_zip_from_places R (x ∷ xs) (y ∷ ys) same at = (at 0 x y (omega arith), all_zip_from_places R xs ys (omega (arith, same)) (λ k d e inside. at (suc k) d e (omega (arith, inside))))

-- ---- what is found

pub found_at : {X : Type 0} (p : X → Bool) (xs : List X) (i : ℕ) → position p xs ≡ Some i → find p xs ≡ slice_get xs i
found_at p [] i here = refl
found_at {X} p (x ∷ xs) i here =
    let said = position-Some p (x ∷ xs) i x here in
    let first : position_or_len p (x ∷ xs) ≡ i = position_or_len_is p (x ∷ xs) i x (omega (arith, said.0)) said.2 (λ _. said.1) in
    find_at p (x ∷ xs) ∙ ap (slice_get (x ∷ xs)) first

pub found_none : {X : Type 0} (p : X → Bool) (xs : List X) → position p xs ≡ None → find p xs ≡ None
found_none {X} p xs none =
    ⊎_elim
    (λ (early : position_or_len p xs < length xs).
    let some : position p xs ≡ Some (position_or_len p xs) = rw (lt-ltb (position_or_len p xs) (length xs) early) refl in
    absurd cc)
    (λ (late : length xs ≤ position_or_len p xs). find_at p xs ∙ slice_get_past xs (position_or_len p xs) late)
    (cases_lt (position_or_len p xs) (length xs))

pub value_found : {V : Type 0} (entries : List (Entry V)) (key : Key) (i : ℕ) (d : Entry V) → position (is_entry_of key) entries ≡ Some i → slice_get entries i ≡ Some (get_or entries i d) → value_at entries key ≡ Some (get_or entries i d).value
value_found {V} entries key i d here there = ap (option_map (λ (entry : Entry V). entry.value)) (found_at (is_entry_of key) entries i here ∙ there)

pub value_none : {V : Type 0} (entries : List (Entry V)) (key : Key) → position (is_entry_of key) entries ≡ None → value_at entries key ≡ None
value_none {V} entries key none = ap (option_map (λ (entry : Entry V). entry.value)) (found_none (is_entry_of key) entries none)

-- ---- groups

module _ {R V : Type 0} (reducer : R) where
  -- the keys of a group ascend
  pub keys_sorted : (entries : List (Entry V)) (places : List (List ℕ)) → IsGroup (grouped reducer entries places) → IsStrictlySortedBy key_cmp (keys_of entries)
  keys_sorted entries places group = subst (IsStrictlySortedBy key_cmp) (sym group.keys) (sorted-distinct_keys key_cmp_total (all_keys (key_lists (keys_of entries) places)))

  -- other entries with the same keys are a group too
  pub same_group : (old new : List (Entry V)) (places : List (List ℕ)) → keys_of new ≡ keys_of old → IsGroup (grouped reducer old places) → IsGroup (grouped reducer new places)
  same_group old new places same group = record {
    keys = subst (λ (ks : List Key). ks ≡ keys_in (key_lists ks places)) (sym same) group.keys;
    ascend = subst (λ (ks : List Key). AllByRecursion (IsStrictlySortedBy key_cmp) (key_lists ks places)) (sym same) group.ascend;
  }

  -- the keys of one place
  place_keys : (entries : List (Entry V)) (places : List (List ℕ)) (place : ℕ) (own : List ℕ) → Some own ≡ slice_get places place → slice_get (key_lists (keys_of entries) places) place ≡ Some (keys_at_positions (keys_of entries) own)
  place_keys entries places place own here =
      slice_get-map (keys_at_positions (keys_of entries)) places place ∙ ap (option_map (keys_at_positions (keys_of entries))) (sym here)

  pub keys_at_is : (entries : List (Entry V)) (places : List (List ℕ)) (place : ℕ) (own : List ℕ) → Some own ≡ slice_get places place → keys_at (grouped reducer entries places) place ≡ keys_at_positions (keys_of entries) own
  keys_at_is entries places place own here = ap (λ found. unwrap_or found []) (place_keys entries places place own here)

  pub own_within : (entries : List (Entry V)) (places : List (List ℕ)) (place : ℕ) (own : List ℕ) → AreWithin (length entries) places → Some own ≡ slice_get places place → AllByRecursion (λ position. position < length entries) own
  own_within entries places place own within here = all_at (AllByRecursion (λ position. position < length entries)) places place own within (sym here)

  own_keys_within : (entries : List (Entry V)) (own : List ℕ) → AllByRecursion (λ position. position < length entries) own → AllByRecursion (λ position. position < length (keys_of entries)) own
  own_keys_within entries own within = subst (λ n. AllByRecursion (λ position. position < n) own) (sym (length-map entries (λ (entry : Entry V). entry.key))) within

  pub own_ascend : (entries : List (Entry V)) (places : List (List ℕ)) (place : ℕ) (own : List ℕ) → IsGroup (grouped reducer entries places) → AreWithin (length entries) places → Some own ≡ slice_get places place → IsStrictlySortedBy nat_cmp own
  own_ascend entries places place own group within here =
      positions_ascend (keys_of entries) (keys_sorted entries places group) own (own_keys_within entries own (own_within entries places place own within here))
      (all_at (IsStrictlySortedBy key_cmp) (key_lists (keys_of entries) places) place (keys_at_positions (keys_of entries) own) group.ascend (place_keys entries places place own here))

  -- the key of an entry is among them where its position is
  pub own_among : (entries : List (Entry V)) (places : List (List ℕ)) (place : ℕ) (own : List ℕ) (k : ℕ) (d : Entry V) → IsGroup (grouped reducer entries places) → AreWithin (length entries) places → Some own ≡ slice_get places place → k < length entries
      → is_among key_cmp (keys_at (grouped reducer entries places) place) (get_or entries k d).key ≡ is_listed own k
  own_among entries places place own k d group within here inside =
      let keys : List Key = keys_of entries in
      let many : length keys ≡ length entries = length-map entries (λ (entry : Entry V). entry.key) in
      let there : get_or keys k d.key ≡ (get_or entries k d).key = get_or-map (λ (entry : Entry V). entry.key) entries k d d.key inside in
      ap (λ ks. is_among key_cmp ks (get_or entries k d).key) (keys_at_is entries places place own here)
      ∙ ap (is_among key_cmp (keys_at_positions keys own)) (sym there)
      ∙ among_positions keys (keys_sorted entries places group) own k d.key (own_keys_within entries own (own_within entries places place own within here)) (omega (arith, many, inside))

  -- there are as many of them as positions
  pub own_many : (entries : List (Entry V)) (places : List (List ℕ)) (place : ℕ) (own : List ℕ) → AreWithin (length entries) places → Some own ≡ slice_get places place → length (keys_at (grouped reducer entries places) place) ≡ length own
  own_many entries places place own within here =
      ap length (keys_at_is entries places place own here)
      ∙ ap length (keys_within (keys_of entries) own some_key (own_keys_within entries own (own_within entries places place own within here)))
      ∙ length-map own (λ position. get_or (keys_of entries) position some_key)
