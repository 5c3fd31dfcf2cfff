-- A dimension, a group or a whole that comes: the rows that it is folded over, where its dimension stands, and what stays where it is refused.
use Rattle.std.proofs.Common.{◌≡◌, ℕ, ◌<◌, ◌≤◌, nat_le, true, [], ◌∷◌, ◌++◌, append-nil, List, Some, Result, Ok, Err, OnErr, length, refl, ◌∙◌, arith}
use Rattle.std.proofs.lemmas.Bool.Decides.{nat_tests}
use Rattle.std.specs.List.{position}
use Rattle.xf_base.specs.declared.cell.Cell.{Cell}
use Rattle.xf_base.specs.declared.key.Key.{Key}
use Rattle.xf_engine.specs.Held.{live_dimensions}
use Rattle.xf_engine.specs.Refusals.{dimension_refusal_of}
use Rattle.xf_engine.specs.State.{State, has_id}
use Rattle.xf_engine.specs.declared.dimension.Dimension.{Dimension}
use Rattle.xf_engine.specs.declared.dimension_refusal.DimensionRefusal.TheVariants.{TooManyDimensions}
use Rattle.xf_engine.proofs.HeldStates.{placed-dimension}

-- rows that are joined with none are all that there are
pub joined : {rows own none : List (List Cell)} → own ≡ rows → none ≡ [] → own ++ none ≡ rows
joined {rows} own_is none_is = (λ i. own_is i ++ none_is i) ∙ append-nil rows

-- what holds, holds where an error is given
pub holds-on_err : {T E : Type 0} (result : Result T E) (P : Type 0) → P → OnErr result P
holds-on_err (Ok value) P told = tt
holds-on_err (Err error) P told = told

-- the dimension of an id stands among those that are held
pub dimension-among : {A P : Type 0} (id : ℕ) (held : List (Dimension A P)) (place : ℕ) → position (has_id id) (live_dimensions held) ≡ Some place → place < length held
dimension-among id [] place told = absurd cc
dimension-among id (one ∷ held) place told = (placed-dimension id (one ∷ held) place one told).0

-- a dimension is refused where there are too many
pub refused-dimensions : {A G P R : Type 0} (keys_of : A → List Cell → List Key) (state : State A G P R) (accessor : A) → state.limits.dimensions ≤ length state.dimensions → dimension_refusal_of keys_of state accessor ≡ Some (TooManyDimensions state.limits.dimensions)
refused-dimensions keys_of state accessor full =
    let test : nat_le state.limits.dimensions (length state.dimensions) ≡ true = grind (arith, nat_tests, full) in
    rw test refl
