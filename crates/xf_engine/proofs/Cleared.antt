-- Dimensions without their filters.
use Rattle.std.proofs.Common.{◌≡◌, ℕ, ◌+◌, ◌*◌, ◌^◌, ◌<◌, ◌≤◌, Bool, List, [], ◌∷◌, length, map, take, get_or, refl, sym, ap, ◌∙◌, arith}
use Rattle.std.proofs.lemmas.List.{length-map}
use Rattle.std.proofs.lemmas.List.Sums.{sum_by-cons}
use Rattle.std.proofs.lemmas.Option.{slice_get-get_or}
use Rattle.std.specs.List.{AllByRecursion, sum_by}
use Rattle.xf_base.specs.declared.cell.Cell.{Cell}
use Rattle.xf_base.specs.declared.key.Key.{Key}
use Rattle.xf_engine.specs.Answers.{moved_to}
use Rattle.xf_engine.specs.Changes.{once_filtered, unfiltered, without_filters}
use Rattle.xf_engine.specs.Held.{HoldsKeysOf, held_count, held_moved, held_unfiltered, live_dimension, live_dimensions, most_moved, state_of}
use Rattle.xf_engine.specs.declared.dimension.Dimension.{Dimension}
use Rattle.xf_engine.specs.declared.events.Events.{Events}
use Rattle.xf_engine.specs.declared.grouping.Grouping.{Grouping}
use Rattle.xf_engine.specs.declared.whole.Whole.{Whole}
use Rattle.xf_filter.specs.declared.filter.Filter.TheVariants.{All}
use Rattle.xf_engine.proofs.HeldCounts.{moved-held}
use Rattle.xf_engine.proofs.MovedKeys.{sum_more}
use Rattle.xf_engine.proofs.Swept.{swept, swept_at}
use Rattle.xf_group.specs.Group.{Grouped}
use Rattle.xf_table.specs.Table.{Contents}

-- the element that is changed next is as it was, and counts beside those before it
pub sum-swept : {X : Type 0} (f : X → X) (value : X → ℕ) (i : ℕ) (xs done : List X) (d : X) → done ≡ swept f i xs → i < length xs → sum_by value (take (i + 1) xs) ≡ sum_by value (take i xs) + value (get_or done i d)
sum-swept f value i xs done d same within =
    let at : get_or xs i d ≡ get_or done i d = sym (ap (λ ys. get_or ys i d) same ∙ swept_at f i xs d) in
    sum_more value xs i (get_or xs i d) (sym (slice_get-get_or xs i d within)) ∙ ap (λ x. sum_by value (take i xs) + value x) at

-- so much may move at most in all dimensions
pub cleared-few : {A P : Type 0} (keys_of : A → List Cell → List Key) (rows : List (List Cell)) (held : List (Dimension A P)) → AllByRecursion (HoldsKeysOf keys_of rows) held → length rows ≤ 2 ^ 20 → sum_by most_moved held ≤ sum_by held_count held + length held * 2 ^ 20
cleared-few keys_of rows [] hold few = omega arith
cleared-few keys_of rows (one ∷ held) hold few =
    omega (arith, sum_by-cons most_moved one held, sum_by-cons held_count one held, ap length hold.0, length-map rows (keys_of one.accessor), few, cleared-few keys_of rows held hold.1 few)

-- what moves among the keys that are held is what moves among the rows
pub cleared-moved : {A P : Type 0} (keys_of : A → List Cell → List Key) (says : P → Key → Bool) (rows : List (List Cell)) (held : List (Dimension A P)) → AllByRecursion (HoldsKeysOf keys_of rows) held → sum_by (held_moved says All) held ≡ sum_by (moved_to keys_of says rows All) (live_dimensions held)
cleared-moved keys_of says rows [] hold = refl
cleared-moved keys_of says rows (one ∷ held) hold =
    omega (arith, sum_by-cons (held_moved says All) one held, sum_by-cons (moved_to keys_of says rows All) (live_dimension one) (live_dimensions held), moved-held keys_of says rows one All hold.0, cleared-moved keys_of says rows held hold.1)

-- the keys stay
pub holds-cleared : {A P : Type 0} (keys_of : A → List Cell → List Key) (rows : List (List Cell)) (held : List (Dimension A P)) → AllByRecursion (HoldsKeysOf keys_of rows) held → AllByRecursion (HoldsKeysOf keys_of rows) (map held_unfiltered held)
holds-cleared keys_of rows [] hold = tt
holds-cleared keys_of rows (one ∷ held) hold = (hold.0, holds-cleared keys_of rows held hold.1)

pub cleared-live : {A P : Type 0} (held : List (Dimension A P)) → live_dimensions (map held_unfiltered held) ≡ map unfiltered (live_dimensions held)
cleared-live [] = refl
cleared-live (one ∷ held) = ap (λ lives. unfiltered (live_dimension one) ∷ lives) (cleared-live held)

-- what is held without filters is the state without them
pub held-without_filters : {A G P R V : Type 0} (table : Contents) (held : List (Dimension A P)) (groups : List (Grouping G (Grouped R V))) (wholes : List (Whole R V)) (events : Events) → state_of table (map held_unfiltered held) groups wholes (once_filtered events) ≡ without_filters (state_of table held groups wholes events)
held-without_filters table held groups wholes events = ap (λ lives. record (state_of table held groups wholes events) { dimensions = lives; events = once_filtered events }) (cleared-live held)
