-- What groups and wholes hold after a change of what is kept: where a dimension, a group or a whole comes or goes.
use Rattle.std.proofs.Common.{◌≡◌, ℕ, ◌==◌, Bool, true, false, List, [], ◌∷◌, ◌++◌, Some, get_or, slice_get, refl, sym, ap, ◌∙◌, arith}
use Rattle.std.proofs.lemmas.Bool.Decides.{nat_tests}
use Rattle.std.proofs.lemmas.List.{get_or-map, length-map, map-append}
use Rattle.std.proofs.lemmas.List.Quantifiers.{position-Some}
use Rattle.std.specs.List.{AllByRecursion, filter, find, position, remove}
use Rattle.xf_base.specs.declared.cell.Cell.{Cell}
use Rattle.xf_base.specs.declared.key.Key.{Key}
use Rattle.xf_engine.specs.Answers.{entries_at, entries_under}
use Rattle.xf_engine.specs.Folding.{AreFoldedFor, AreValuesFor, regrouped, revalued}
use Rattle.xf_engine.specs.Held.{HoldsGroupOf, HoldsWholeOf, is_elsewhere, live_dimension, live_dimensions, live_groups, places_under, state_of}
use Rattle.xf_engine.specs.State.{LiveDimension, State, dimension_ids, dimension_place, dimensions_of, has_id, is_taken}
use Rattle.xf_engine.specs.declared.dimension.Dimension.{Dimension}
use Rattle.xf_engine.specs.declared.events.Events.{Events}
use Rattle.xf_engine.specs.declared.grouping.Grouping.{Grouping}
use Rattle.xf_engine.specs.declared.whole.Whole.{Whole}
use Rattle.xf_engine.proofs.ById.{all-push, all-remove, map-remove}
use Rattle.xf_engine.proofs.Values.{found-placed, holds-folded, holds-with_last, holds-without_place, values-folded, values-with_last, values-without_place}
use Rattle.xf_filter.specs.declared.filter.Filter.TheVariants.{All}
use Rattle.xf_group.specs.Group.{Grouped, meanings}
use Rattle.xf_model.specs.Group.{Reducer, whole_value}
use Rattle.xf_table.specs.Table.{Contents}

-- ---- a dimension comes

pub entries-dimension_added : {A G P R V M : Type 0} (keys_of : A → List Cell → List Key) (says : P → Key → Bool) (rounded : G → Key → Key) (meaning_of : V → M) (folding : R → Reducer (List Cell) M) (table : Contents) (dimensions : List (Dimension A P)) (groups : List (Grouping G (Grouped R V))) (wholes : List (Whole R V)) (events : Events) (dimension : Dimension A P)
    → dimension.filter ≡ All → is_taken (dimension_ids (live_dimensions dimensions)) dimension.id.0 ≡ false
    → AllByRecursion (λ group. is_taken (dimension_ids (live_dimensions dimensions)) group.dimension ≡ true) (live_groups groups)
    → AllByRecursion (HoldsGroupOf keys_of says rounded meaning_of folding (state_of table dimensions groups wholes events)) groups
    → AllByRecursion (HoldsGroupOf keys_of says rounded meaning_of folding (state_of table (dimensions ++ dimension ∷ []) groups wholes events)) groups
entries-dimension_added keys_of says rounded meaning_of folding table dimensions groups wholes events dimension =
    holds-with_last keys_of says rounded meaning_of folding (state_of table dimensions groups wholes events) (state_of table (dimensions ++ dimension ∷ []) groups wholes events) (live_dimension dimension) groups (map-append live_dimension dimensions (dimension ∷ [])) refl

pub values-dimension_added : {A G P R V M : Type 0} (keys_of : A → List Cell → List Key) (says : P → Key → Bool) (meaning_of : V → M) (folding : R → Reducer (List Cell) M) (table : Contents) (dimensions : List (Dimension A P)) (groups : List (Grouping G (Grouped R V))) (wholes : List (Whole R V)) (events : Events) (dimension : Dimension A P)
    → dimension.filter ≡ All
    → AllByRecursion (HoldsWholeOf {G = G} keys_of says meaning_of folding (state_of table dimensions groups wholes events)) wholes
    → AllByRecursion (HoldsWholeOf {G = G} keys_of says meaning_of folding (state_of table (dimensions ++ dimension ∷ []) groups wholes events)) wholes
values-dimension_added keys_of says meaning_of folding table dimensions groups wholes events dimension =
    values-with_last keys_of says meaning_of folding (state_of table dimensions groups wholes events) (state_of table (dimensions ++ dimension ∷ []) groups wholes events) (live_dimension dimension) wholes (map-append live_dimension dimensions (dimension ∷ [])) refl

-- ---- a dimension goes, whose filter was taken away before all was folded

same-number : (a b : ℕ) → (a == b) ≡ true → a ≡ b
same-number a b same = grind (arith, nat_tests, same)

-- what is at the place of an id, as a dimension of the state
live-placed : {A P : Type 0} (dimensions : List (Dimension A P)) (id place : ℕ) (d : Dimension A P) → position (has_id id) (live_dimensions dimensions) ≡ Some place
    → ((get_or (live_dimensions dimensions) place (live_dimension d)).id ≡ id) × (get_or (live_dimensions dimensions) place (live_dimension d) ≡ live_dimension (get_or dimensions place d))
live-placed dimensions id place d told =
    let at = position-Some (has_id id) (live_dimensions dimensions) place (live_dimension d) told in (
      same-number (get_or (live_dimensions dimensions) place (live_dimension d)).id id at.1,
      get_or-map live_dimension dimensions place d (live_dimension d) (omega (arith, at.0, length-map dimensions live_dimension)),
    )

pub entries-dimension_gone : {A G P R V M : Type 0} (keys_of : A → List Cell → List Key) (says : P → Key → Bool) (rounded : G → Key → Key) (meaning_of : V → M) (folding : R → Reducer (List Cell) M) (table : Contents) (dimensions : List (Dimension A P)) (groups : List (Grouping G (Grouped R V))) (wholes : List (Whole R V)) (events : Events) (id place : ℕ) (d : Dimension A P) (folded : List (Grouped R V))
    → position (has_id id) (live_dimensions dimensions) ≡ Some place → (get_or dimensions place d).filter ≡ All
    → AreFoldedFor keys_of says rounded meaning_of folding (live_dimensions dimensions) table.rows groups folded
    → AllByRecursion (HoldsGroupOf keys_of says rounded meaning_of folding (state_of table (remove dimensions place) (filter (is_elsewhere id) (regrouped groups folded)) wholes events)) (filter (is_elsewhere id) (regrouped groups folded))
entries-dimension_gone {A} {G} {P} {R} keys_of says rounded meaning_of folding table dimensions groups wholes events id place d folded told free each =
    let before : State A G P R = state_of table dimensions (regrouped groups folded) wholes events in
    let after : State A G P R = state_of table (remove dimensions place) (filter (is_elsewhere id) (regrouped groups folded)) wholes events in
    let here = live-placed dimensions id place d told in
    holds-without_place keys_of says rounded meaning_of folding before after id place (live_dimension d) (regrouped groups folded)
    (map-remove live_dimension dimensions place) refl here.0 (ap (λ (live : LiveDimension A P). live.filter) here.1 ∙ free)
    (holds-folded keys_of says rounded meaning_of folding (live_dimensions dimensions) table.rows before groups folded refl refl each)

pub values-dimension_gone : {A G P R V M : Type 0} (keys_of : A → List Cell → List Key) (says : P → Key → Bool) (meaning_of : V → M) (folding : R → Reducer (List Cell) M) (table : Contents) (dimensions : List (Dimension A P)) (groups : List (Grouping G (Grouped R V))) (wholes : List (Whole R V)) (events : Events) (id place : ℕ) (d : Dimension A P) (values : List V)
    → position (has_id id) (live_dimensions dimensions) ≡ Some place → (get_or dimensions place d).filter ≡ All
    → AreValuesFor keys_of says meaning_of folding (live_dimensions dimensions) table.rows wholes values
    → AllByRecursion (HoldsWholeOf {G = G} keys_of says meaning_of folding (state_of table (remove dimensions place) groups (revalued wholes values) events)) (revalued wholes values)
values-dimension_gone {A} {G} {P} {R} keys_of says meaning_of folding table dimensions groups wholes events id place d values told free each =
    let before : State A G P R = state_of table dimensions groups (revalued wholes values) events in
    let after : State A G P R = state_of table (remove dimensions place) groups (revalued wholes values) events in
    let here = live-placed dimensions id place d told in
    values-without_place keys_of says meaning_of folding before after place (live_dimension d) (revalued wholes values)
    (map-remove live_dimension dimensions place) refl (ap (λ (live : LiveDimension A P). live.filter) here.1 ∙ free)
    (values-folded keys_of says meaning_of folding (live_dimensions dimensions) table.rows before wholes values refl refl each)

-- ---- a group or a whole comes

-- a group that was folded under the dimension at the place of its own holds its places and its entries
pub holds-group : {A G P R V M : Type 0} (keys_of : A → List Cell → List Key) (says : P → Key → Bool) (rounded : G → Key → Key) (meaning_of : V → M) (folding : R → Reducer (List Cell) M) (state : State A G P R) (rows : List (List Cell)) (own : ℕ) (reducer : R) (group : Grouping G (Grouped R V))
    → dimension_place state group.dimension.0 ≡ Some own → rows ≡ state.rows → group.group.reducer ≡ reducer
    → group.group.places ≡ places_under keys_of (rounded group.rounding) (slice_get state.dimensions own) rows
    → meanings meaning_of group.group.entries ≡ entries_at keys_of says state.dimensions rows (rounded group.rounding) (folding reducer) own
    → HoldsGroupOf keys_of says rounded meaning_of folding state group
holds-group keys_of says rounded meaning_of folding state rows own reducer group placed same_rows same_reducer places entries = (
  places
      ∙ ap (λ found. places_under keys_of (rounded group.rounding) found rows) (found-placed (has_id group.dimension.0) state.dimensions own placed)
      ∙ ap (places_under keys_of (rounded group.rounding) (find (has_id group.dimension.0) state.dimensions)) same_rows,
  entries
      ∙ ap (λ rs. entries_at keys_of says state.dimensions rs (rounded group.rounding) (folding reducer) own) same_rows
      ∙ ap (λ r. entries_at keys_of says state.dimensions state.rows (rounded group.rounding) (folding r) own) (sym same_reducer)
      ∙ ap (entries_under keys_of says state.dimensions state.rows (rounded group.rounding) (folding group.group.reducer)) (sym placed),
)

pub entries-group_added : {A G P R V M : Type 0} (keys_of : A → List Cell → List Key) (says : P → Key → Bool) (rounded : G → Key → Key) (meaning_of : V → M) (folding : R → Reducer (List Cell) M) (table : Contents) (dimensions : List (Dimension A P)) (groups : List (Grouping G (Grouped R V))) (wholes : List (Whole R V)) (events : Events) (rows : List (List Cell)) (own : ℕ) (reducer : R) (group : Grouping G (Grouped R V))
    → position (has_id group.dimension.0) (live_dimensions dimensions) ≡ Some own → rows ≡ table.rows → group.group.reducer ≡ reducer
    → group.group.places ≡ places_under keys_of (rounded group.rounding) (slice_get (live_dimensions dimensions) own) rows
    → meanings meaning_of group.group.entries ≡ entries_at keys_of says (live_dimensions dimensions) rows (rounded group.rounding) (folding reducer) own
    → AllByRecursion (HoldsGroupOf keys_of says rounded meaning_of folding (state_of table dimensions groups wholes events)) groups
    → AllByRecursion (HoldsGroupOf keys_of says rounded meaning_of folding (state_of table dimensions (groups ++ group ∷ []) wholes events)) (groups ++ group ∷ [])
entries-group_added {A} {G} {P} {R} keys_of says rounded meaning_of folding table dimensions groups wholes events rows own reducer group placed same_rows same_reducer places entries all =
    let state : State A G P R = state_of table dimensions (groups ++ group ∷ []) wholes events in
    all-push (HoldsGroupOf keys_of says rounded meaning_of folding state) groups group all (holds-group keys_of says rounded meaning_of folding state rows own reducer group placed same_rows same_reducer places entries)

pub values-whole_added : {A G P R V M : Type 0} (keys_of : A → List Cell → List Key) (says : P → Key → Bool) (meaning_of : V → M) (folding : R → Reducer (List Cell) M) (table : Contents) (dimensions : List (Dimension A P)) (groups : List (Grouping G (Grouped R V))) (wholes : List (Whole R V)) (events : Events) (rows : List (List Cell)) (whole : Whole R V)
    → rows ≡ table.rows → meaning_of whole.value ≡ whole_value (folding whole.reducer) (dimensions_of keys_of says (live_dimensions dimensions)) rows
    → AllByRecursion (HoldsWholeOf {G = G} keys_of says meaning_of folding (state_of table dimensions groups wholes events)) wholes
    → AllByRecursion (HoldsWholeOf {G = G} keys_of says meaning_of folding (state_of table dimensions groups (wholes ++ whole ∷ []) events)) (wholes ++ whole ∷ [])
values-whole_added {A} {G} {P} {R} keys_of says meaning_of folding table dimensions groups wholes events rows whole same_rows value all =
    let state : State A G P R = state_of table dimensions groups (wholes ++ whole ∷ []) events in
    all-push (HoldsWholeOf keys_of says meaning_of folding state) wholes whole all (value ∙ ap (whole_value (folding whole.reducer) (dimensions_of keys_of says (live_dimensions dimensions))) same_rows)

-- ---- a group or a whole goes

pub entries-group_gone : {A G P R V M : Type 0} (keys_of : A → List Cell → List Key) (says : P → Key → Bool) (rounded : G → Key → Key) (meaning_of : V → M) (folding : R → Reducer (List Cell) M) (table : Contents) (dimensions : List (Dimension A P)) (groups : List (Grouping G (Grouped R V))) (wholes : List (Whole R V)) (events : Events) (place : ℕ)
    → AllByRecursion (HoldsGroupOf keys_of says rounded meaning_of folding (state_of table dimensions groups wholes events)) groups
    → AllByRecursion (HoldsGroupOf keys_of says rounded meaning_of folding (state_of table dimensions (remove groups place) wholes events)) (remove groups place)
entries-group_gone keys_of says rounded meaning_of folding table dimensions groups wholes events place =
    all-remove (HoldsGroupOf keys_of says rounded meaning_of folding (state_of table dimensions groups wholes events)) groups place

pub values-whole_gone : {A G P R V M : Type 0} (keys_of : A → List Cell → List Key) (says : P → Key → Bool) (meaning_of : V → M) (folding : R → Reducer (List Cell) M) (table : Contents) (dimensions : List (Dimension A P)) (groups : List (Grouping G (Grouped R V))) (wholes : List (Whole R V)) (events : Events) (place : ℕ)
    → AllByRecursion (HoldsWholeOf {G = G} keys_of says meaning_of folding (state_of table dimensions groups wholes events)) wholes
    → AllByRecursion (HoldsWholeOf {G = G} keys_of says meaning_of folding (state_of table dimensions groups (remove wholes place) events)) (remove wholes place)
values-whole_gone keys_of says meaning_of folding table dimensions groups wholes events place =
    all-remove (HoldsWholeOf keys_of says meaning_of folding (state_of table dimensions groups wholes events)) wholes place
