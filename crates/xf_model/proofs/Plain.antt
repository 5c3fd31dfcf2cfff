-- What the plain functions compute on the way to what the definitions say.
use Rattle.std.proofs.Common.{◌≡◌, ℕ, ℤ, Some, ◌+◌, ◌-◌, ◌<◌, suc, Bool, false, ◌&&◌, List, [], ◌++◌, map, take, drop, get_or, ◌∷◌, cond, not, true, if◌then◌else◌, length, refl, sym, ap, ◌∙◌, add-one, arith}
use mathlib.Core.Bool.{beq}
use Rattle.std.specs.Ordering.{int_cmp}
use Rattle.xf_model.specs.declared.dimension.PlainDimension.{PlainDimension}
use Rattle.xf_model.specs.Dimension.{Filter, selected}
use Rattle.xf_model.specs.Group.{count, fold_of, has_key}
use Rattle.xf_model.specs.Moved.{exactly_one, moved_keys}
use Rattle.xf_model.specs.Plain.{column_keys, plain_dimension}
use Rattle.std.specs.List.{list_all, filter, remove, take-map, drop-map}
use Rattle.std.proofs.lemmas.List.{take_all, length-drop, take_more, map-append}
use Rattle.std.proofs.lemmas.List.Folds.{list_all-append, list_all-map, list_all_at}

-- a test fails of the images where it fails of one
pub list_all_fails : {X Y : Type 0} (test : Y → Bool) (f : X → Y) (xs : List X) (i : ℕ) (d : X) → i < length xs → test (f (get_or xs i d)) ≡ false → list_all test (map f xs) ≡ false
list_all_fails test f xs i d within fails = list_all-map test f xs ∙ list_all_at (λ x. test (f x)) xs i d within fails

-- a test holds of all but one of the images where it holds of those before and of those after
pub list_all-remove : {X Y : Type 0} (test : Y → Bool) (f : X → Y) (xs : List X) (i : ℕ) → list_all test (remove (map f xs) i) ≡ (list_all test (map f (take i xs)) && list_all test (map f (take (length xs - (i + 1)) (drop (i + 1) xs))))
list_all-remove test f xs i =
    let rest : take (length xs - (i + 1)) (drop (i + 1) xs) ≡ drop (i + 1) xs = take_all (length xs - (i + 1)) (drop (i + 1) xs) (omega (arith, length-drop (i + 1) xs)) in
    rw (rest, list_all-append test (take i (map f xs)) (drop (suc i) (map f xs)), take-map f i xs, drop-map f (suc i) xs, add-one i)

-- what is found of a list, seen by one function, is the list so far, seen by another, with one element more of each
pub map_push : {X Y Z : Type 0} (f : X → Z) (g : Y → Z) (found : List X) (x : X) (ys : List Y) (i : ℕ) (d : Y) → i < length ys → map f found ≡ map g (take i ys) → f x ≡ g (get_or ys i d) → map f (found ++ x ∷ []) ≡ map g (take (i + 1) ys)
map_push f g found x ys i d within so_far one =
    let more : map g (take (i + 1) ys) ≡ map g (take i ys) ++ g (get_or ys i d) ∷ [] = ap (map g) (take_more ys i d within) ∙ map-append g (take i ys) (get_or ys i d ∷ []) in
    map-append f found (x ∷ []) ∙ ap (λ front. front ++ f x ∷ []) so_far ∙ ap (λ last. map g (take i ys) ++ last ∷ []) one ∙ sym more

one_of_two : (a b : Bool) → (if not (beq a b) then 1 else 0) ≡ 0 + cond (exactly_one a b) 1 0
one_of_two true true = refl
one_of_two true false = refl
one_of_two false true = refl
one_of_two false false = refl

-- what moves of one key is told by what the two filters say of it
pub moved_one : (a b : Bool) (old new : Filter ℤ) (key : ℤ) → a ≡ old.holds key → b ≡ new.holds key → (if not (beq a b) then 1 else 0) ≡ moved_keys old new (key ∷ [])
moved_one a b old new key is_a is_b = rw (← is_a, ← is_b) (one_of_two a b)

-- the entry of a key, in a group of the dimension at a place, over a column
abbrev pub entry_at : List PlainDimension → ℕ → ℕ → List (List ℤ) → ℤ → ℤ × ℕ
entry_at dimensions own column rows key = (key, fold_of count (filter (has_key int_cmp (column_keys column) key) (selected (map plain_dimension dimensions) (Some own) rows)))
