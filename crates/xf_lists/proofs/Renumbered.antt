-- Items that are changed in place, alone and in the lists that are cut of them.
use Rattle.std.proofs.Common.{◌≡◌, ℕ, zero, suc, ◌+◌, ◌-◌, ◌≤◌, List, [], ◌∷◌, ◌++◌, length, take, drop, map, refl, sym, ap, subst, ◌∙◌, arith}
use Rattle.std.proofs.lemmas.List.{append-nil, drop-drop, drop_all, take-append-drop, take-map, take_all}
use Rattle.std.specs.List.{AllByRecursion}
use Rattle.xf_lists.specs.Lists.{AreEnds, cut_at}

-- in the end all are changed
pub changed-all : {X : Type 0} (f : X → X) (xs : List X) (i : ℕ) → length xs ≤ i → map f (take i xs) ++ drop i xs ≡ map f xs
changed-all f xs i all =
    ap (λ rest. map f (take i xs) ++ rest) (drop_all i xs all)
    ∙ append-nil (map f (take i xs))
    ∙ ap (map f) (take_all i xs all)

all-append : {X : Type 0} (P : X → Type 0) (xs ys : List X) → AllByRecursion P xs → AllByRecursion P ys → AllByRecursion P (xs ++ ys)
all-append P [] ys front back = back
all-append P (x ∷ xs) ys front back = (front.0, all-append P xs ys front.1 back)

-- a part and what lies after it
part-after : {X : Type 0} (start end : ℕ) (items : List X) → start ≤ end → take (end - start) (drop start items) ++ drop end items ≡ drop start items
part-after start end items le =
    let split : start + (end - start) ≡ end = omega (arith, le) in
    ap (λ n. take (end - start) (drop start items) ++ drop n items) (sym split)
    ∙ ap (λ rest. take (end - start) (drop start items) ++ rest) (sym (drop-drop (end - start) start items))
    ∙ take-append-drop (end - start) (drop start items)

-- what holds in each list holds for the items that they are cut of
pub all-cut : {X : Type 0} (P : X → Type 0) (start : ℕ) (ends : List ℕ) (items : List X) → AreEnds start ends (length items) → AllByRecursion (AllByRecursion P) (cut_at start ends items) → AllByRecursion P (drop start items)
all-cut P start [] items are all = subst (AllByRecursion P) (sym (drop_all start items (omega (arith, are)))) tt
all-cut P start (end ∷ ends) items are all =
    subst (AllByRecursion P) (part-after start end items are.0)
    (all-append P (take (end - start) (drop start items)) (drop end items) all.0 (all-cut P end ends items are.1 all.1))

drop-map : {X Y : Type 0} (f : X → Y) (n : ℕ) (xs : List X) → drop n (map f xs) ≡ map f (drop n xs)
drop-map f zero xs = refl
drop-map f (suc n) [] = refl
drop-map f (suc n) (x ∷ xs) = drop-map f n xs

-- the lists that are cut of changed items
pub cut_at-map : {X Y : Type 0} (f : X → Y) (start : ℕ) (ends : List ℕ) (items : List X) → cut_at start ends (map f items) ≡ map (map f) (cut_at start ends items)
cut_at-map f start [] items = refl
cut_at-map f start (end ∷ ends) items =
    ap (λ part. take (end - start) part ∷ cut_at end ends (map f items)) (drop-map f start items)
    ∙ ap (λ part. part ∷ cut_at end ends (map f items)) (take-map f (end - start) (drop start items))
    ∙ ap (λ rest. map f (take (end - start) (drop start items)) ∷ rest) (cut_at-map f end ends items)
