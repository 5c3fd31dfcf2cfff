-- The values of a list, one more at a time.
use Rattle.std.proofs.Common.{◌≡◌, ℕ, ◌+◌, ◌<◌, ◌≤◌, List, [], ◌∷◌, ◌++◌, length, get_or, drop, Result, Ok, Err, refl, sym, ap, ◌∙◌, arith}
use Rattle.std.specs.Result.{result_map_both}
use Rattle.std.proofs.lemmas.List.{append-nil, append_assoc, drop_all, drop_more}
use Rattle.xf_load.specs.Fallible.{◌>>=◌, each_ok}

-- the values of the rest after those of the front
abbrev pub after : {Y E : Type 0} → List Y → Result (List Y) E → Result (List Y) E
after front rest = result_map_both (λ values. front ++ values) (λ refusal. refusal) rest

-- where a list is read as far as `front`, what is left gives the values after these
abbrev pub IsReadTo : {X Y E : Type 0} → (X → Result Y E) → List X → List Y → ℕ → Type 0
IsReadTo value_of xs front n = each_ok value_of xs ≡ after front (each_ok value_of (drop n xs))

after-push : {Y E : Type 0} (front : List Y) (value : Y) (rest : Result (List Y) E) → after front (rest >>= (λ values. Ok (value ∷ values))) ≡ after (front ++ value ∷ []) rest
after-push front value (Ok values) = ap Ok (sym (append_assoc front (value ∷ []) values))
after-push front value (Err refusal) = refl

after-more : {X Y E : Type 0} (value_of : X → Result Y E) (x : X) (xs : List X) (front : List Y) (value : Y) → value_of x ≡ Ok value → after front (each_ok value_of (x ∷ xs)) ≡ after (front ++ value ∷ []) (each_ok value_of xs)
after-more value_of x xs front value is = rw is (after-push front value (each_ok value_of xs))

-- one value more
pub IsReadTo-more : {X Y E : Type 0} (value_of : X → Result Y E) (xs : List X) (front : List Y) (n : ℕ) (x : X) (value : Y) → n < length xs → x ≡ get_or xs n x → value_of x ≡ Ok value → IsReadTo value_of xs front n
    → IsReadTo value_of xs (front ++ value ∷ []) (n + 1)
IsReadTo-more value_of xs front n x value within at is read =
    let next : drop n xs ≡ x ∷ drop (n + 1) xs = drop_more xs n x within ∙ ap (λ y. y ∷ drop (n + 1) xs) (sym at) in
    read ∙ ap (λ rest. after front (each_ok value_of rest)) next ∙ after-more value_of x (drop (n + 1) xs) front value is

-- a refusal is the first
pub IsReadTo-refused : {X Y E : Type 0} (value_of : X → Result Y E) (xs : List X) (front : List Y) (n : ℕ) (x : X) (refusal : E) → n < length xs → x ≡ get_or xs n x → value_of x ≡ Err refusal → IsReadTo value_of xs front n
    → each_ok value_of xs ≡ Err refusal
IsReadTo-refused value_of xs front n x refusal within at is read =
    let next : drop n xs ≡ x ∷ drop (n + 1) xs = drop_more xs n x within ∙ ap (λ y. y ∷ drop (n + 1) xs) (sym at) in
    read ∙ ap (λ rest. after front (each_ok value_of rest)) next ∙ rw is refl

-- all values are there
pub IsReadTo-all : {X Y E : Type 0} (value_of : X → Result Y E) (xs : List X) (front : List Y) (n : ℕ) → length xs ≤ n → IsReadTo value_of xs front n → each_ok value_of xs ≡ Ok front
IsReadTo-all value_of xs front n past read =
    read ∙ ap (λ rest. after front (each_ok value_of rest)) (drop_all n xs past) ∙ ap Ok (append-nil front)

rest-Ok : {Y E : Type 0} (value : Y) (rest : Result (List Y) E) (values : List Y) → (rest >>= (λ more. Ok (value ∷ more))) ≡ Ok values → (more : List Y) × (rest ≡ Ok more) × (value ∷ more ≡ values)
rest-Ok value (Ok more) values h = (more, refl, cc h)
rest-Ok value (Err refusal) values h = cc h

-- where all gave values the first did, and so did the rest
pub first-Ok : {Y E : Type 0} (first : Result Y E) (rest : Result (List Y) E) (values : List Y) → (first >>= (λ value. rest >>= (λ more. Ok (value ∷ more)))) ≡ Ok values
    → (value : Y) × (more : List Y) × (first ≡ Ok value) × (rest ≡ Ok more) × (value ∷ more ≡ values)
first-Ok (Ok value) rest values h = let (more, is, same) = rest-Ok value rest values h in (value, more, refl, is, same)
first-Ok (Err refusal) rest values h = cc h

-- there is a value for each
pub each_ok-length : {X Y E : Type 0} (value_of : X → Result Y E) (xs : List X) (values : List Y) → each_ok value_of xs ≡ Ok values → length values ≡ length xs
each_ok-length value_of [] values is = let none : [] ≡ values = cc is in ap length (sym none)
each_ok-length value_of (x ∷ xs) values is =
    let (value, more, here, there, same) = first-Ok (value_of x) (each_ok value_of xs) values is in
    omega (arith, each_ok-length value_of xs more there, ap length same)
