-- Only proofs and the contracts of private functions need this file: the keys that a listing sorts, each with the place
-- of its row, and the places of rows that pass.
use Rattle.std.specs.Prelude.{ℕ, Bool, ◌||◌, List, [], ◌∷◌, filter, map, if◌then◌else◌}
use Rattle.std.specs.List.{list_all}
use Rattle.std.specs.Borrow.{Bor}
use Rattle.xf_base.specs.declared.key.Key.{Key}
use Rattle.xf_engine.specs.Held.{keys_at, passes_at, passes_each_at}
use Rattle.xf_engine.specs.State.{is_taken}
use Rattle.xf_engine.specs.declared.dimension.Dimension.{Dimension}
use Rattle.xf_filter.specs.Filter.{filter_of}

-- what references to keys are seen as, each with a place
abbrev pub told : List (Bor Key × ℕ) → List (Key × ℕ)
told pairs = map (λ pair. (pair.0.now, pair.1)) pairs

-- of the row at a place, if it passes each dimension, the keys for which the own dimension's filter holds
abbrev pub pairs_at : {A P : Type 0} → (P → Key → Bool) → List (Dimension A P) → Dimension A P → ℕ → List (Key × ℕ)
pairs_at says dimensions own place =
    if passes_each_at says dimensions place then map (λ key. (key, place)) (filter (filter_of says own.filter).holds (keys_at own place)) else []

-- whether the row at a place passes a dimension, or need not, since the dimension is ignored
abbrev pub passes_unless : {A P : Type 0} → (P → Key → Bool) → List ℕ → ℕ → Dimension A P → Bool
passes_unless says ignored place held = is_taken ignored held.id.0 || passes_at says place held

-- a place, where its row passes each dimension that is not ignored
abbrev pub place_at : {A P : Type 0} → (P → Key → Bool) → List (Dimension A P) → List ℕ → ℕ → List ℕ
place_at says dimensions ignored place = if list_all (passes_unless says ignored place) dimensions then place ∷ [] else []
