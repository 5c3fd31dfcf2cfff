-- What the values of entries mean, by key.
use Rattle.std.proofs.Common.{◌≡◌, ℕ, Bool, true, false, ◌||◌, cond, List, [], ◌∷◌, Option, Some, map, refl, sym, ap, subst, ◌∙◌}
use Rattle.std.proofs.lemmas.Cmp.{tied_itself}
use Rattle.std.proofs.lemmas.List.Elements.{filter_passes, recursion_from_All}
use Rattle.std.specs.List.{AllByRecursion, filter, find, list_any}
use Rattle.std.specs.List.Sorted.{IsStrictlySortedBy}
use Rattle.std.specs.Option.{option_map, unwrap_or}
use Rattle.std.specs.Ordering.{is_eq}
use Rattle.std.specs.declared.cmp.Ordering.TheVariants.{Less, Greater}
use Rattle.xf_base.specs.Key.{key_cmp}
use Rattle.xf_base.specs.KeyOrder.{key_cmp_total}
use Rattle.xf_base.specs.declared.cell.Cell.{Cell}
use Rattle.xf_base.specs.declared.key.Key.{Key}
use Rattle.xf_group.specs.Admitted.{SameMeanings, StayReady}
use Rattle.xf_group.specs.Group.{is_entry_of, keys_in, meaning_at, meanings, meanings_for, value_at}
use Rattle.xf_group.specs.Held.{key_lists, keys_of}
use Rattle.xf_group.specs.Fresh.{KeepCalls}
use Rattle.xf_group.specs.declared.entry.Entry.{Entry}
use Rattle.xf_group.proofs.KeptCalls.{calls_from_stay, stay_from_calls}
use Rattle.xf_reduce.specs.Laws.{SameCalls}
use Rattle.xf_group.proofs.AscendingEntries.{less_back}
use Rattle.xf_group.proofs.KeptEntries.{find-filter, map-filter, tied_equal}
use Rattle.xf_group.proofs.PlacedKeys.{all_keys, or_left, or_right}
use Rattle.xf_group.proofs.UnusedDropped.{is_placed}
use Rattle.xf_model.specs.Laws.{is_among}
use Rattle.xf_model.proofs.AscendingKeys.{ties-distinct_keys}

-- functions that agree on each element map alike
map_agree : {X Y : Type 0} (f g : X → Y) (xs : List X) → AllByRecursion (λ x. f x ≡ g x) xs → map f xs ≡ map g xs
map_agree f g [] all = refl
map_agree f g (x ∷ xs) all = ap (λ y. y ∷ map f xs) all.0 ∙ ap (λ rest. g x ∷ rest) (map_agree f g xs all.1)

all_implied : {X : Type 0} (P Q : X → Type 0) → ((x : X) → P x → Q x) → (xs : List X) → AllByRecursion P xs → AllByRecursion Q xs
all_implied P Q step [] all = tt
all_implied P Q step (x ∷ xs) all = (step x all.0, all_implied P Q step xs all.1)

all_of : {X : Type 0} (P : X → Type 0) → ((x : X) → P x) → (xs : List X) → AllByRecursion P xs
all_of P each [] = tt
all_of P each (x ∷ xs) = (each x, all_of P each xs)

-- ---- what is left once entries are dropped

-- a key that some place has has the value that it had
pub left_value : {V : Type 0} (mid : List (Entry V)) (keys : List Key) (places : List (List ℕ)) (q : Key) → is_among key_cmp (all_keys (key_lists keys places)) q ≡ true → value_at (filter (is_placed keys places) mid) q ≡ value_at mid q
left_value {V} mid keys places q among =
    ap (option_map (λ (entry : Entry V). entry.value))
    (find-filter (is_entry_of q) (is_placed keys places) (λ entry tied. ap (is_among key_cmp (all_keys (key_lists keys places))) (tied_equal q entry.key tied) ∙ among) mid)

left_among : {V : Type 0} (mid : List (Entry V)) (places : List (List ℕ)) → AllByRecursion (λ q. is_among key_cmp (all_keys (key_lists (keys_of mid) places)) q ≡ true) (keys_of (filter (is_placed (keys_of mid) places) mid))
left_among {V} mid places =
    let all : List Key = all_keys (key_lists (keys_of mid) places) in
    subst (AllByRecursion (λ q. is_among key_cmp all q ≡ true)) (sym (map-filter (λ (entry : Entry V). entry.key) (is_among key_cmp all) mid))
    (recursion_from_All (λ q. is_among key_cmp all q ≡ true) (filter (is_among key_cmp all) (keys_of mid)) (filter_passes (is_among key_cmp all) (keys_of mid)))

module _ {V Meaning : Type 0} (meaning_of : V → Meaning) (nothing : Meaning) where
  -- a key with what its value means
  abbrev pub meant : List (Entry V) → Key → Key × Meaning
  meant entries key = (key, meaning_at meaning_of nothing entries key)

  meant_first : (first : Entry V) (rest : List (Entry V)) → meant (first ∷ rest) first.key ≡ (first.key, meaning_of first.value)
  meant_first first rest = rw (tied_itself key_cmp_total first.key) refl

  meant_later : (first : Entry V) (rest : List (Entry V)) (key : Key) → key_cmp first.key key ≡ Less → meant (first ∷ rest) key ≡ meant rest key
  meant_later first rest key less = let greater : key_cmp key first.key ≡ Greater = less_back key_cmp_total first.key key less in rw greater refl

  -- where keys ascend each entry is the one of its key
  pub own_meanings : (entries : List (Entry V)) → IsStrictlySortedBy key_cmp (keys_of entries) → meanings meaning_of entries ≡ map (meant entries) (keys_of entries)
  unfolding IsStrictlySortedBy
  own_meanings [] sorted = refl
  own_meanings (first ∷ rest) sorted =
      let later : map (meant (first ∷ rest)) (keys_of rest) ≡ map (meant rest) (keys_of rest) =
      map_agree (meant (first ∷ rest)) (meant rest) (keys_of rest) (all_implied (λ key. key_cmp first.key key ≡ Less) (λ key. meant (first ∷ rest) key ≡ meant rest key) (λ key less. meant_later first rest key less) (keys_of rest) sorted.0) in
      ap (λ more. (first.key, meaning_of first.value) ∷ more) (own_meanings rest sorted.1 ∙ sym later)
      ∙ ap (λ (one : Key × Meaning). one ∷ map (meant (first ∷ rest)) (keys_of rest)) (sym (meant_first first rest))

  -- keys whose meanings are the same
  pub same_meant : (old new : List (Entry V)) (keys : List Key) → SameMeanings meaning_of nothing old new → map (meant new) keys ≡ map (meant old) keys
  same_meant old new keys same = map_agree (meant new) (meant old) keys (all_of (λ key. meant new key ≡ meant old key) (λ key. ap (λ (meaning : Meaning). (key, meaning)) (same key)) keys)

  -- the meanings once keys are entered
  pub entered_meanings : (old new : List (Entry V)) (places : List (List Key)) → IsStrictlySortedBy key_cmp (keys_of new) → keys_of new ≡ keys_in places → SameMeanings meaning_of nothing old new → meanings meaning_of new ≡ meanings_for meaning_of nothing old places
  entered_meanings old new places sorted keys same = own_meanings new sorted ∙ same_meant old new (keys_of new) same ∙ ap (map (meant old)) keys

  -- the meanings once the keys that were entered are dropped again
  pub left_meanings : (old mid left : List (Entry V)) (places : List (List ℕ)) → IsStrictlySortedBy key_cmp (keys_of old) → IsStrictlySortedBy key_cmp (keys_of left) → left ≡ filter (is_placed (keys_of mid) places) mid → keys_of left ≡ keys_of old → SameMeanings meaning_of nothing old mid
      → meanings meaning_of left ≡ meanings meaning_of old
  left_meanings old mid left places sorted sorted_left is keys same =
      let kept_keys : AllByRecursion (λ q. is_among key_cmp (all_keys (key_lists (keys_of mid) places)) q ≡ true) (keys_of left) =
      subst (λ (es : List (Entry V)). AllByRecursion (λ q. is_among key_cmp (all_keys (key_lists (keys_of mid) places)) q ≡ true) (keys_of es)) (sym is) (left_among mid places) in
      let as_mid : map (meant left) (keys_of left) ≡ map (meant mid) (keys_of left) =
      map_agree (meant left) (meant mid) (keys_of left)
      (all_implied (λ q. is_among key_cmp (all_keys (key_lists (keys_of mid) places)) q ≡ true) (λ q. meant left q ≡ meant mid q)
      (λ q among. ap (λ (es : List (Entry V)). meant es q) is ∙ ap (λ (found : Option V). (q, unwrap_or (option_map meaning_of found) nothing)) (left_value mid (keys_of mid) places q among))
      (keys_of left) kept_keys) in
      own_meanings left sorted_left ∙ as_mid ∙ same_meant old mid (keys_of left) same ∙ ap (map (meant old)) keys ∙ sym (own_meanings old sorted)

-- a key whose value is found is among the keys
found_step : {X Y : Type 0} (f : X → Y) (p : X → Bool) (x : X) (xs : List X) (y : Y) (b : Bool) → p x ≡ b → (option_map f (find p xs) ≡ Some y → list_any p xs ≡ true) → option_map f (find p (x ∷ xs)) ≡ Some y → list_any p (x ∷ xs) ≡ true
found_step f p x xs y true here rest found = or_left (p x) (list_any p xs) here
found_step f p x xs y false here rest found = or_right (p x) (list_any p xs) (rest (sym (ap (λ b. option_map f (cond b (Some x) (find p xs))) here) ∙ found))

found_any : {X Y : Type 0} (f : X → Y) (p : X → Bool) (xs : List X) (y : Y) → option_map f (find p xs) ≡ Some y → list_any p xs ≡ true
found_any f p [] y found = absurd cc
found_any f p (x ∷ xs) y found = found_step f p x xs y (p x) refl (found_any f p xs y) found

any-map : {X Y : Type 0} (f : X → Y) (p : Y → Bool) (xs : List X) → list_any (λ x. p (f x)) xs ≡ list_any p (map f xs)
any-map f p [] = refl
any-map f p (x ∷ xs) = ap (λ b. p (f x) || b) (any-map f p xs)

pub value_among : {V : Type 0} (entries : List (Entry V)) (key : Key) (value : V) → value_at entries key ≡ Some value → is_among key_cmp (keys_of entries) key ≡ true
value_among {V} entries key value found =
    sym (any-map (λ (entry : Entry V). entry.key) (λ own. is_eq (key_cmp key own)) entries)
    ∙ found_any (λ (entry : Entry V). entry.value) (is_entry_of key) entries value found

-- values stay ready when the keys that were entered are dropped again
pub left_ready : {V : Type 0} (IsReady : V → List Cell → Type 0) (old mid left : List (Entry V)) (places : List (List ℕ)) → left ≡ filter (is_placed (keys_of mid) places) mid → keys_of old ≡ keys_in (key_lists (keys_of mid) places) → StayReady IsReady old mid → StayReady IsReady old left
left_ready {V} IsReady old mid left places is keys stay key row ready =
    let all : List Key = all_keys (key_lists (keys_of mid) places) in
    let among : is_among key_cmp all key ≡ true = sym (ties-distinct_keys key_cmp_total key all) ∙ sym (ap (λ ks. is_among key_cmp ks key) keys) ∙ value_among old key ready.0 ready.1 in
    let there = stay key row ready in
    (there.0, ap (λ es. value_at es key) is ∙ left_value mid (keys_of mid) places key among ∙ there.1, there.2)

-- and tell as many calls
pub left_calls : {V : Type 0} (calls : Option (V → ℕ)) (old mid left : List (Entry V)) (places : List (List ℕ)) → left ≡ filter (is_placed (keys_of mid) places) mid → keys_of old ≡ keys_in (key_lists (keys_of mid) places) → KeepCalls calls old mid → KeepCalls calls old left
left_calls calls old mid left places is keys keep =
    calls_from_stay calls old left (λ one. left_ready (λ value row. SameCalls calls one value) old mid left places is keys (stay_from_calls calls old mid keep one))
