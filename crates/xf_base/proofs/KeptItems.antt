-- What is kept of lists, and what moves it to the front.
use Rattle.std.proofs.Common.{◌≡◌, ℕ, zero, suc, ◌+◌, ◌<◌, ◌≤◌, Bool, true, false, cond, not, List, [], ◌∷◌, ◌++◌, length, take, drop, get_or, set, map, Some, None, slice_get, refl, sym, ap, ◌∙◌, arith, append_assoc, add-one, ⊎_elim}
use Rattle.std.proofs.lemmas.Bool.{cases_eq}
use Rattle.std.proofs.lemmas.List.{take-set-le, take_more_set, drop-set-lt, set-set}
use Rattle.std.proofs.lemmas.List.Edits.{swap_is}
use Rattle.std.proofs.lemmas.List.Sums.{sum_by-cons}
use Rattle.std.specs.List.{count_by, filter, swap}
use Rattle.xf_base.specs.Gone.{kept, new_place}

-- an item that is swapped to the front of what lies before it
take-set-both : {X : Type 0} (xs : List X) (count place : ℕ) (d : X) → count ≤ place → place < length xs → take (count + 1) (set (set xs count (get_or xs place d)) place (get_or xs count d)) ≡ take count xs ++ get_or xs place d ∷ []
take-set-both xs count place d le lt =
    let within : count < length xs = omega arith in
    ⊎_elim
    (λ (same : count ≡ place).
    rw (← same)
    (ap (take (count + 1)) (set-set xs count (get_or xs count d) (get_or xs count d)) ∙ take_more_set xs count (get_or xs count d) within))
    (λ (other : count ≡ place → ⊥).
    let above : count + 1 ≤ place = omega arith in
    take-set-le (count + 1) (set xs count (get_or xs place d)) place (get_or xs count d) above
    ∙ take_more_set xs count (get_or xs place d) within)
    (cases_eq count place)

pub take-swap : {X : Type 0} (xs : List X) (count place : ℕ) (d : X) → count ≤ place → place < length xs → take (count + 1) (swap xs count place) ≡ take count xs ++ get_or xs place d ∷ []
take-swap xs count place d le lt =
    ap (take (count + 1)) (sym (swap_is xs count place d (omega arith) lt)) ∙ take-set-both xs count place d le lt

-- what lies after a swap stays
drop-swap-at : {X : Type 0} (xs : List X) (count place : ℕ) (d : X) → count ≤ place → place < length xs → drop (place + 1) (swap xs count place) ≡ drop (place + 1) xs
drop-swap-at xs count place d le lt =
    ap (drop (place + 1)) (sym (swap_is xs count place d (omega arith) lt))
    ∙ drop-set-lt (place + 1) (set xs count (get_or xs place d)) place (get_or xs count d) (omega arith)
    ∙ drop-set-lt (place + 1) xs count (get_or xs place d) (omega arith)

pub drop-swap : {X : Type 0} (xs : List X) (count place : ℕ) → count ≤ place → place < length xs → drop (place + 1) (swap xs count place) ≡ drop (place + 1) xs
drop-swap [] count place le lt = absurd (omega (arith, lt))
drop-swap (d ∷ xs) count place le lt = drop-swap-at (d ∷ xs) count place d le lt

-- what is kept from a place on, where the place is removed and where it stays
kept-gone : {X : Type 0} (marks : List Bool) (xs : List X) (place : ℕ) → place < length marks → place < length xs → get_or marks place true ≡ true → kept (drop place marks) (drop place xs) ≡ kept (drop (suc place) marks) (drop (suc place) xs)
kept-gone [] xs place m x e = absurd (omega (arith, m))
kept-gone (mark ∷ marks) [] place m x e = absurd (omega (arith, x))
kept-gone (mark ∷ marks) (item ∷ xs) zero m x e = rw e refl
kept-gone (mark ∷ marks) (item ∷ xs) (suc place) m x e = kept-gone marks xs place (omega (arith, m)) (omega (arith, x)) e

kept-stays : {X : Type 0} (marks : List Bool) (xs : List X) (place : ℕ) (d : X) → place < length marks → place < length xs → get_or marks place true ≡ false → kept (drop place marks) (drop place xs) ≡ get_or xs place d ∷ kept (drop (suc place) marks) (drop (suc place) xs)
kept-stays [] xs place d m x e = absurd (omega (arith, m))
kept-stays (mark ∷ marks) [] place d m x e = absurd (omega (arith, x))
kept-stays (mark ∷ marks) (item ∷ xs) zero d m x e = rw e refl
kept-stays (mark ∷ marks) (item ∷ xs) (suc place) d m x e = kept-stays marks xs place d (omega (arith, m)) (omega (arith, x)) e

pub kept-past : {X : Type 0} (marks : List Bool) (xs : List X) (place : ℕ) → place < length marks → place < length xs → get_or marks place true ≡ true → kept (drop place marks) (drop place xs) ≡ kept (drop (place + 1) marks) (drop (place + 1) xs)
kept-past marks xs place m x e = rw add-one (kept-gone marks xs place m x e)

pub kept-next : {X : Type 0} (marks : List Bool) (xs : List X) (place : ℕ) (d : X) → place < length marks → place < length xs → get_or marks place true ≡ false → kept (drop place marks) (drop place xs) ≡ get_or xs place d ∷ kept (drop (place + 1) marks) (drop (place + 1) xs)
kept-next marks xs place d m x e = rw add-one (kept-stays marks xs place d m x e)

-- an item that stays is swapped behind those that stay before it
moved-at : {X : Type 0} (marks : List Bool) (xs : List X) (count place : ℕ) (d : X) → count ≤ place → place < length marks → place < length xs → get_or marks place true ≡ false → take (count + 1) (swap xs count place) ++ kept (drop (place + 1) marks) (drop (place + 1) (swap xs count place)) ≡ take count xs ++ kept (drop place marks) (drop place xs)
moved-at marks xs count place d le m x e =
    let moved : take (count + 1) (swap xs count place) ≡ take count xs ++ get_or xs place d ∷ [] = take-swap xs count place d le x in
    let later : drop (place + 1) (swap xs count place) ≡ drop (place + 1) xs = drop-swap-at xs count place d le x in
    let next : kept (drop place marks) (drop place xs) ≡ get_or xs place d ∷ kept (drop (place + 1) marks) (drop (place + 1) xs) = kept-next marks xs place d m x e in
    rw (moved, later, next) (append_assoc (take count xs) (get_or xs place d ∷ []) (kept (drop (place + 1) marks) (drop (place + 1) xs)))

pub kept-moved : {X : Type 0} (marks : List Bool) (xs : List X) (count place : ℕ) → count ≤ place → place < length marks → place < length xs → get_or marks place true ≡ false → take (count + 1) (swap xs count place) ++ kept (drop (place + 1) marks) (drop (place + 1) (swap xs count place)) ≡ take count xs ++ kept (drop place marks) (drop place xs)
kept-moved marks [] count place le m x e = absurd (omega (arith, x))
kept-moved marks (d ∷ xs) count place le m x e = moved-at marks (d ∷ xs) count place d le m x e

-- what a test marked is kept where it does not pass the test
kept-more : {X : Type 0} (gone : Bool) (item : X) (some all : List X) → some ≡ all → cond gone some (item ∷ some) ≡ cond (not gone) (item ∷ all) all
kept-more true item some all e = e
kept-more false item some all e = ap (λ items. item ∷ items) e

pub kept-tested : {X : Type 0} (test : X → Bool) (items : List X) → kept (map test items) items ≡ filter (λ item. not (test item)) items
kept-tested test [] = refl
kept-tested test (item ∷ items) = kept-more (test item) item _ _ (kept-tested test items)

-- a place after one that is removed, and after one that stays
after-gone : (gone : Bool) (before count place : ℕ) → before ≡ 0 + count → cond gone None (Some before) ≡ Some place → cond gone None (Some count) ≡ Some place
after-gone true before count place b e = absurd cc
after-gone false before count place b e = let same : before ≡ count = omega arith in cc

after-stays : (gone : Bool) (before count place : ℕ) → before ≡ 1 + count → cond gone None (Some before) ≡ Some place → (place ≡ suc count) × (cond gone None (Some count) ≡ Some count)
after-stays true before count place b e = absurd cc
after-stays false before count place b e = let same : before ≡ place = cc in (omega arith, refl)

-- an item that is kept stands at its new place
pub kept-stands : {X : Type 0} (marks : List Bool) (items : List X) (old place : ℕ) → new_place marks old ≡ Some place → slice_get (kept marks items) place ≡ slice_get items old
kept-stands [] items old place e = absurd cc
kept-stands (mark ∷ marks) [] old place e = refl
kept-stands (true ∷ marks) (item ∷ items) zero place e = absurd cc
kept-stands (false ∷ marks) (item ∷ items) zero place e = let first : place ≡ 0 = cc in rw first refl
kept-stands (true ∷ marks) (item ∷ items) (suc old) place e =
    kept-stands marks items old place (after-gone (get_or marks old true) _ _ place (sum_by-cons (λ gone. cond (not gone) 1 0) true (take old marks)) e)
kept-stands (false ∷ marks) (item ∷ items) (suc old) place e =
    let told = after-stays (get_or marks old true) _ (count_by not (take old marks)) place (sum_by-cons (λ gone. cond (not gone) 1 0) false (take old marks)) e in
    rw told.0 (kept-stands marks items old _ told.1)
