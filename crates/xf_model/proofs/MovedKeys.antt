-- What `moved` says of one filter, of two the other way round, and of rows that are joined.
use Rattle.std.proofs.Common.{◌≡◌, ℕ, ◌+◌, Bool, true, false, cond, not, List, [], ◌∷◌, ◌++◌, refl, sym, ap, ◌∙◌, arith}
use Rattle.std.proofs.lemmas.List.Sums.{sum_by-append, sum_by-cons}
use Rattle.std.specs.List.{sum_by}
use Rattle.xf_model.specs.Dimension.{Filter, all}
use Rattle.xf_model.specs.Laws.{left_out}
use Rattle.xf_model.specs.Moved.{exactly_one, moved_keys, moved}

not_both : (a : Bool) → exactly_one a a ≡ false
not_both true = refl
not_both false = refl

either_way : (a b : Bool) → exactly_one a b ≡ exactly_one b a
either_way true true = refl
either_way true false = refl
either_way false true = refl
either_way false false = refl

sum_by_none : {X : Type 0} (f : X → ℕ) → ((x : X) → f x ≡ 0) → (xs : List X) → sum_by f xs ≡ 0
sum_by_none f none [] = refl
sum_by_none f none (x ∷ xs) =
    let here : f x ≡ 0 = none x in
    let rest : sum_by f xs ≡ 0 = sum_by_none f none xs in
    sum_by-cons f x xs ∙ omega arith

sum_by_same : {X : Type 0} (f g : X → ℕ) → ((x : X) → f x ≡ g x) → (xs : List X) → sum_by f xs ≡ sum_by g xs
sum_by_same f g same [] = refl
sum_by_same f g same (x ∷ xs) =
    let here : f x ≡ g x = same x in
    let rest : sum_by f xs ≡ sum_by g xs = sum_by_same f g same xs in
    sum_by-cons f x xs ∙ omega arith ∙ sym (sum_by-cons g x xs)

moved_keys-same : {Key : Type 0} (chosen : Filter Key) (keys : List Key) → moved_keys chosen chosen keys ≡ 0
moved_keys-same chosen [] = ap (λ b. cond b 1 0) (not_both chosen.is_all)
moved_keys-same chosen (key ∷ keys) = sum_by_none (λ k. cond (exactly_one (chosen.holds k) (chosen.holds k)) 1 0) (λ k. ap (λ b. cond b 1 0) (not_both (chosen.holds k))) (key ∷ keys)

moved_keys-swap : {Key : Type 0} (one other : Filter Key) (keys : List Key) → moved_keys one other keys ≡ moved_keys other one keys
moved_keys-swap one other [] = ap (λ b. cond b 1 0) (either_way one.is_all other.is_all)
moved_keys-swap one other (key ∷ keys) =
    sum_by_same (λ k. cond (exactly_one (one.holds k) (other.holds k)) 1 0) (λ k. cond (exactly_one (other.holds k) (one.holds k)) 1 0)
    (λ k. ap (λ b. cond b 1 0) (either_way (one.holds k) (other.holds k))) (key ∷ keys)

-- a filter in its own place moves nothing
pub moved-same : {Row Key : Type 0} (keys : Row → List Key) (chosen : Filter Key) (rows : List Row) → moved keys chosen chosen rows ≡ 0
moved-same keys chosen rows = sum_by_none (λ row. moved_keys chosen chosen (keys row)) (λ row. moved_keys-same chosen (keys row)) rows

-- as much moves the other way round
pub moved-swap : {Row Key : Type 0} (keys : Row → List Key) (one other : Filter Key) (rows : List Row) → moved keys one other rows ≡ moved keys other one rows
moved-swap keys one other rows = sum_by_same (λ row. moved_keys one other (keys row)) (λ row. moved_keys other one (keys row)) (λ row. moved_keys-swap one other (keys row)) rows

-- what moves of rows that are joined is what moves of each
pub moved-append : {Row Key : Type 0} (keys : Row → List Key) (old new : Filter Key) (xs ys : List Row) → moved keys old new (xs ++ ys) ≡ moved keys old new xs + moved keys old new ys
moved-append keys old new xs ys = sum_by-append (λ row. moved_keys old new (keys row)) xs ys

all_or_not : (a : Bool) → exactly_one a true ≡ not a
all_or_not true = refl
all_or_not false = refl

moved_keys-to_all : {Key : Type 0} (chosen : Filter Key) (keys : List Key) → chosen.is_all ≡ false → moved_keys chosen all keys ≡ left_out chosen keys
moved_keys-to_all chosen [] some = ap (λ a. cond (exactly_one a true) 1 0) some
moved_keys-to_all chosen (key ∷ keys) some =
    sum_by_same (λ k. cond (exactly_one (chosen.holds k) true) 1 0) (λ k. cond (not (chosen.holds k)) 1 0)
    (λ k. ap (λ b. cond b 1 0) (all_or_not (chosen.holds k))) (key ∷ keys)

-- to take a filter away moves what it leaves out
pub moved-to_all : {Row Key : Type 0} (keys : Row → List Key) (chosen : Filter Key) (rows : List Row) → chosen.is_all ≡ false → moved keys chosen all rows ≡ sum_by (λ row. left_out chosen (keys row)) rows
moved-to_all keys chosen rows some = sum_by_same (λ row. moved_keys chosen all (keys row)) (λ row. left_out chosen (keys row)) (λ row. moved_keys-to_all chosen (keys row) some) rows
