-- A key that goes among ascending keys from the first on, and keys that go there from the last on.
use Rattle.std.proofs.Common.{◌≡◌, ℕ, ◌+◌, ◌<◌, ◌≤◌, List, [], ◌∷◌, ◌++◌, append_assoc, drop, get_or, length, map, refl, slice_get, Some, suc, sym, take, zero, ap, ◌∙◌, arith}
use Rattle.std.proofs.lemmas.List.{drop_all, drop_more, length-map, map-append, take-append-drop, take_all, take_more}
use Rattle.std.specs.Cmp.{IsTotalOrder}
use Rattle.std.specs.List.{AllByRecursion}
use Rattle.std.specs.List.Sorted.{IsStrictlySortedBy}
use Rattle.std.specs.Ordering.{ordering_reverse}
use Rattle.std.specs.declared.cmp.Ordering.{Ordering}
use Rattle.std.specs.declared.cmp.Ordering.TheVariants.{Less, Equal, Greater}
use Rattle.std.proofs.lemmas.Cmp.{tied_back}
use Rattle.xf_model.proofs.AscendingKeys.{sorted-distinct_keys}
use Rattle.xf_model.specs.Group.{distinct_keys, with_key}

-- a key that is above all keys so far
abbrev pub IsAbove : {Key : Type 0} → (Key → Key → Ordering) → Key → List Key → ℕ → Type 0
IsAbove cmp key keys place = take place keys ++ with_key cmp key (drop place keys) ≡ with_key cmp key keys

below_first : {Key : Type 0} (cmp : Key → Key → Ordering) (key first : Key) (rest : List Key) → cmp key first ≡ Less → with_key cmp key (first ∷ rest) ≡ key ∷ first ∷ rest
below_first cmp key first rest less = rw less

tied_first : {Key : Type 0} {cmp : Key → Key → Ordering} → IsTotalOrder cmp → (key first : Key) (rest : List Key) → cmp key first ≡ Equal → with_key cmp key (first ∷ rest) ≡ first ∷ rest
tied_first {Key} {cmp} order key first rest equal =
    let back : cmp first key ≡ Equal = tied_back order key first equal in
    rw (equal, back)

above_first : {Key : Type 0} {cmp : Key → Key → Ordering} → IsTotalOrder cmp → (key first : Key) (rest : List Key) → cmp key first ≡ Greater → with_key cmp key (first ∷ rest) ≡ first ∷ with_key cmp key rest
above_first {Key} {cmp} order key first rest greater =
    let less : cmp first key ≡ Less = order.antisymm first key ∙ ap ordering_reverse greater in
    rw (greater, less)

-- the keys from a place on begin with the one that stands there
from_place : {Key : Type 0} (keys : List Key) (place : ℕ) (first : Key) → place < length keys → first ≡ get_or keys place first → drop place keys ≡ first ∷ drop (place + 1) keys
from_place keys place first within is = drop_more keys place first within ∙ ap (λ key. key ∷ drop (place + 1) keys) (sym is)

-- where the next is greater, the key goes before it
pub inserted-less : {Key : Type 0} (cmp : Key → Key → Ordering) (key : Key) (keys : List Key) (place : ℕ) (first : Key) → place < length keys → first ≡ get_or keys place first → IsAbove cmp key keys place → cmp key first ≡ Less → take place keys ++ key ∷ drop place keys ≡ with_key cmp key keys
inserted-less cmp key keys place first within is above less =
    let begins = from_place keys place first within is in
    ap (λ rest. take place keys ++ key ∷ rest) begins
    ∙ ap (λ rest. take place keys ++ rest) (sym (below_first cmp key first (drop (place + 1) keys) less))
    ∙ ap (λ rest. take place keys ++ with_key cmp key rest) (sym begins)
    ∙ above

-- where the next is the key, nothing changes
pub inserted-equal : {Key : Type 0} {cmp : Key → Key → Ordering} → IsTotalOrder cmp → (key : Key) (keys : List Key) (place : ℕ) (first : Key) → place < length keys → first ≡ get_or keys place first → IsAbove cmp key keys place → cmp key first ≡ Equal → keys ≡ with_key cmp key keys
inserted-equal {Key} {cmp} order key keys place first within is above equal =
    let begins = from_place keys place first within is in
    sym (take-append-drop place keys)
    ∙ ap (λ rest. take place keys ++ rest) begins
    ∙ ap (λ rest. take place keys ++ rest) (sym (tied_first order key first (drop (place + 1) keys) equal))
    ∙ ap (λ rest. take place keys ++ with_key cmp key rest) (sym begins)
    ∙ above

-- where the next is lower, the key is above it too
pub above-next : {Key : Type 0} {cmp : Key → Key → Ordering} → IsTotalOrder cmp → (key : Key) (keys : List Key) (place : ℕ) (first : Key) → place < length keys → first ≡ get_or keys place first → IsAbove cmp key keys place → cmp key first ≡ Greater → IsAbove cmp key keys (place + 1)
above-next {Key} {cmp} order key keys place first within is above greater =
    let begins = from_place keys place first within is in
    let later = drop (place + 1) keys in
    ap (λ front. front ++ with_key cmp key later) (take_more keys place first within ∙ ap (λ key. take place keys ++ key ∷ []) (sym is))
    ∙ append_assoc (take place keys) (first ∷ []) (with_key cmp key later)
    ∙ ap (λ rest. take place keys ++ rest) (sym (above_first order key first later greater))
    ∙ ap (λ rest. take place keys ++ with_key cmp key rest) (sym begins)
    ∙ above

-- a key that is above all goes to the end
pub pushed-above : {Key : Type 0} (cmp : Key → Key → Ordering) (key : Key) (keys : List Key) (place : ℕ) → length keys ≤ place → IsAbove cmp key keys place → keys ++ key ∷ [] ≡ with_key cmp key keys
pushed-above cmp key keys place past above =
    ap (λ front. front ++ key ∷ []) (sym (take_all place keys past))
    ∙ ap (λ rest. take place keys ++ with_key cmp key rest) (sym (drop_all place keys past))
    ∙ above

next_taken : {X : Type 0} (xs : List X) (place : ℕ) (x : X) → Some x ≡ slice_get xs place → take (suc place) xs ≡ take place xs ++ x ∷ []
next_taken [] place x here = absurd cc
next_taken (y ∷ xs) zero x here = let same : x ≡ y = cc in ap (λ z. z ∷ []) (sym same)
next_taken (y ∷ xs) (suc place) x here = ap (λ rest. y ∷ rest) (next_taken xs place x here)

-- what stands at a place stands earlier once the first are cut off
pub slice_get-later : {X : Type 0} (xs : List X) (from place : ℕ) → slice_get xs (from + place) ≡ slice_get (drop from xs) place
slice_get-later xs zero place = let same : zero + place ≡ place = omega arith in ap (slice_get xs) same
slice_get-later [] (suc from) place = refl
slice_get-later (x ∷ xs) (suc from) place = let next : suc from + place ≡ suc (from + place) = omega arith in ap (slice_get (x ∷ xs)) next ∙ slice_get-later xs from place

-- what a function makes of the items so far, and of the next
pub mapped-next : {X Y : Type 0} (f : X → Y) (xs : List X) (place : ℕ) (x : X) (done more : List Y) (y : Y) → Some x ≡ slice_get xs place → done ≡ map f (take place xs) → y ≡ f x → more ≡ done ++ y ∷ [] → more ≡ map f (take (place + 1) xs)
mapped-next f xs place x done more y here so_far made pushed =
    let next : place + 1 ≡ suc place = omega arith in
    pushed
    ∙ ap (λ front. front ++ y ∷ []) so_far
    ∙ ap (λ last. map f (take place xs) ++ last ∷ []) made
    ∙ sym (map-append f (take place xs) (x ∷ []))
    ∙ ap (map f) (sym (next_taken xs place x here))
    ∙ ap (λ n. map f (take n xs)) (sym next)

-- the rounded keys of each row ascend strictly
pub rounded_lists-ascend : {Key : Type 0} {cmp : Key → Key → Ordering} → IsTotalOrder cmp → (round : Key → Key) (lists : List (List Key)) → AllByRecursion (IsStrictlySortedBy cmp) (map (λ keys. distinct_keys cmp (map round keys)) lists)
rounded_lists-ascend order round [] = tt
rounded_lists-ascend order round (keys ∷ lists) = (sorted-distinct_keys order (map round keys), rounded_lists-ascend order round lists)

-- there are as many as rows
pub rounded_lists-length : {Key : Type 0} (cmp : Key → Key → Ordering) (round : Key → Key) (lists : List (List Key)) → length (map (λ keys. distinct_keys cmp (map round keys)) lists) ≡ length lists
rounded_lists-length cmp round lists = length-map lists (λ keys. distinct_keys cmp (map round keys))
