-- Values that may be refused: a step after another, and the values of a whole list.
use Rattle.std.specs.Prelude.{List, [], ◌∷◌, Result, Ok, Err}
use Rattle.std.specs.Result.{result_map_both}

-- the second step is taken with the value of the first, unless that is refused
infixl 10 ◌>>=◌
abbrev pub ◌>>=◌ : {X Y E : Type 0} → Result X E → (X → Result Y E) → Result Y E
Ok value >>= next = next value
Err refusal >>= next = Err refusal

-- the same value, or the refusal as another type tells it
abbrev pub map_err : {X E F : Type 0} → (E → F) → Result X E → Result X F
map_err told read = result_map_both (λ value. value) told read

-- the values of all, or the first refusal
abbrev pub each_ok : {X Y E : Type 0} → (X → Result Y E) → List X → Result (List Y) E
each_ok value_of [] = Ok []
each_ok value_of (x ∷ xs) = do
  value ← value_of x
  values ← each_ok value_of xs
  Ok (value ∷ values)
