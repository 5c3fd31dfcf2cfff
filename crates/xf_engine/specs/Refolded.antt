-- Only proofs and the contracts of private functions need this file: another filter on the dimension at a place, and groups and wholes with the values that were folded for them.
use Rattle.std.specs.Prelude.{◌≡◌, ℕ, zero, suc, Bool, List, [], ◌∷◌}
use Rattle.xf_base.specs.declared.cell.Cell.{Cell}
use Rattle.xf_base.specs.declared.key.Key.{Key}
use Rattle.xf_engine.specs.Folding.{AreFoldedFor, AreValuesFor, regrouped, revalued}
use Rattle.xf_engine.specs.State.{LiveDimension}
use Rattle.xf_engine.specs.declared.dimension.Dimension.{Dimension}
use Rattle.xf_engine.specs.declared.grouping.Grouping.{Grouping}
use Rattle.xf_engine.specs.declared.whole.Whole.{Whole}
use Rattle.xf_filter.specs.declared.filter.Filter.{Filter}
use Rattle.xf_group.specs.Group.{Grouped}
use Rattle.xf_model.specs.Group.{Reducer}

-- the dimension at a place with another filter
abbrev pub filtered_at : {A P : Type 0} → ℕ → Filter P → List (Dimension A P) → List (Dimension A P)
filtered_at place new [] = []
filtered_at zero new (one ∷ held) = record one { filter = new } ∷ held
filtered_at (suc place) new (one ∷ held) = one ∷ filtered_at place new held

-- groups with the values that were folded for them
pub record AreRegrouped {A G P R V M : Type 0} (keys_of : A → List Cell → List Key) (says : P → Key → Bool) (rounded : G → Key → Key) (meaning_of : V → M) (folding : R → Reducer (List Cell) M) (lives : List (LiveDimension A P)) (rows : List (List Cell)) (old new : List (Grouping G (Grouped R V))) : Type 0 where
  pub values : List (Grouped R V)
  pub folded : AreFoldedFor keys_of says rounded meaning_of folding lives rows old values
  pub placed : new ≡ regrouped old values

-- wholes with theirs
pub record AreRevalued {A P R V M : Type 0} (keys_of : A → List Cell → List Key) (says : P → Key → Bool) (meaning_of : V → M) (folding : R → Reducer (List Cell) M) (lives : List (LiveDimension A P)) (rows : List (List Cell)) (old new : List (Whole R V)) : Type 0 where
  pub values : List V
  pub folded : AreValuesFor keys_of says meaning_of folding lives rows old values
  pub placed : new ≡ revalued old values
