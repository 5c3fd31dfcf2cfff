-- A dimension whose filter was taken away, with all values folded anew, goes with its groups.
use Rattle.std.proofs.Common.{◌≡◌, ℕ, Bool, List, Some, get_or, sym, ap, subst, ◌∙◌}
use Rattle.std.specs.List.{AllByRecursion, filter, position, remove}
use Rattle.xf_base.specs.declared.cell.Cell.{Cell}
use Rattle.xf_base.specs.declared.column.Column.{Column}
use Rattle.xf_base.specs.declared.key.Key.{Key}
use Rattle.xf_base.specs.declared.kind.KeyKind.{KeyKind}
use Rattle.xf_engine.specs.Changes.{without_dimension}
use Rattle.xf_engine.specs.Folding.{regrouped, revalued}
use Rattle.xf_engine.specs.Held.{HoldsGroupOf, HoldsKeysOf, HoldsWholeOf, IsCross, is_elsewhere, live_dimensions, state_of}
use Rattle.xf_engine.specs.Refolded.{AreRegrouped, AreRevalued, filtered_at}
use Rattle.xf_engine.specs.State.{AreDistinct, IsState, LiveDimension, State, dimension_ids, has_id}
use Rattle.xf_engine.specs.declared.dimension.Dimension.{Dimension}
use Rattle.xf_engine.specs.declared.events.Events.{Events}
use Rattle.xf_engine.specs.declared.grouping.Grouping.{Grouping}
use Rattle.xf_engine.specs.declared.whole.Whole.{Whole}
use Rattle.xf_engine.proofs.ById.{all-remove}
use Rattle.xf_engine.proofs.HeldStates.{held-without_dimension}
use Rattle.xf_engine.proofs.HeldValues.{entries-dimension_gone, values-dimension_gone}
use Rattle.xf_engine.proofs.Refolded.{dimension-within, filtered-get, filtered-placed, refolded-state, remove-filtered}
use Rattle.xf_engine.proofs.Sound.{sound-without_dimension}
use Rattle.xf_filter.specs.declared.filter.Filter.TheVariants.{All}
use Rattle.xf_group.specs.Group.{Grouped}
use Rattle.xf_model.specs.Group.{Reducer}
use Rattle.xf_table.specs.Table.{Contents}

-- what is left is the state without it
pub disposed-state : {A G P R V M : Type 0} (keys_of : A → List Cell → List Key) (says : P → Key → Bool) (rounded : G → Key → Key) (meaning_of : V → M) (folding : R → Reducer (List Cell) M) (lives : List (LiveDimension A P)) (rows : List (List Cell)) (table : Contents) (held : List (Dimension A P)) (old_groups groups : List (Grouping G (Grouped R V))) (old_wholes wholes : List (Whole R V)) (events : Events) (id place : ℕ) (d : Dimension A P)
    → AreDistinct (dimension_ids (live_dimensions held)) → position (has_id id) (live_dimensions held) ≡ Some place
    → AreRegrouped keys_of says rounded meaning_of folding lives rows old_groups groups → AreRevalued keys_of says meaning_of folding lives rows old_wholes wholes
    → state_of table (remove held place) (filter (is_elsewhere id) groups) wholes events ≡ without_dimension (state_of table held old_groups old_wholes events) id
disposed-state {A} {G} {P} {R} keys_of says rounded meaning_of folding lives rows table held old_groups groups old_wholes wholes events id place d distinct told for_groups for_wholes =
    held-without_dimension table held groups wholes events id place d distinct told
    ∙ ap (λ (s : State A G P R). without_dimension s id) (refolded-state keys_of says rounded meaning_of folding lives rows table held old_groups groups old_wholes wholes events for_groups for_wholes)

-- and is kept as such
pub cross-disposed : {A G P R V M : Type 0} (keys_of : A → List Cell → List Key) (fits_to : A → List Column → Bool) (kind_of : A → KeyKind) (says : P → Key → Bool) (keys_in : P → List Key) (rounded : G → Key → Key) (suits : R → List Column → Bool) (fields : R → ℕ) (meaning_of : V → M) (folding : R → Reducer (List Cell) M) (table : Contents) (held : List (Dimension A P)) (old_groups groups : List (Grouping G (Grouped R V))) (old_wholes wholes : List (Whole R V)) (events : Events) (id place : ℕ) (d : Dimension A P)
    → IsState keys_of fits_to kind_of keys_in suits fields (state_of table held old_groups old_wholes events) → AllByRecursion (HoldsKeysOf keys_of table.rows) held → position (has_id id) (live_dimensions held) ≡ Some place
    → AreRegrouped keys_of says rounded meaning_of folding (live_dimensions (filtered_at place All held)) table.rows old_groups groups → AreRevalued keys_of says meaning_of folding (live_dimensions (filtered_at place All held)) table.rows old_wholes wholes
    → IsCross keys_of fits_to kind_of says keys_in rounded suits fields meaning_of folding table (remove held place) (filter (is_elsewhere id) groups) wholes events
cross-disposed {A} {G} {P} {R} {V} keys_of fits_to kind_of says keys_in rounded suits fields meaning_of folding table held old_groups groups old_wholes wholes events id place d is keys told for_groups for_wholes =
    let cleared : List (Dimension A P) = filtered_at place All held in
    let lives : List (LiveDimension A P) = live_dimensions cleared in
    let before : State A G P R = state_of table held old_groups old_wholes events in
    let there : position (has_id id) lives ≡ Some place = filtered-placed id held place All ∙ told in
    let free : (get_or cleared place d).filter ≡ All = filtered-get held place d All (dimension-within id held place told) in
    let gone : remove cleared place ≡ remove held place = remove-filtered held place All in
    let shown : List (Dimension A P) → List (Grouping G (Grouped R V)) → Type 0 = λ ds gs. AllByRecursion (HoldsGroupOf keys_of says rounded meaning_of folding (state_of table ds (filter (is_elsewhere id) gs) wholes events)) (filter (is_elsewhere id) gs) in
    let told_wholes : List (Dimension A P) → List (Whole R V) → Type 0 = λ ds ws. AllByRecursion (HoldsWholeOf {G = G} keys_of says meaning_of folding (state_of table ds (filter (is_elsewhere id) groups) ws events)) ws in
    record {
      state = subst (IsState keys_of fits_to kind_of keys_in suits fields) (sym (disposed-state keys_of says rounded meaning_of folding lives table.rows table held old_groups groups old_wholes wholes events id place d is.distinct told for_groups for_wholes))
          (sound-without_dimension keys_of fits_to kind_of keys_in suits fields before id is);
      keys = all-remove (HoldsKeysOf keys_of table.rows) held place keys;
      entries = subst (shown (remove held place)) (sym for_groups.placed) (subst (λ ds. shown ds (regrouped old_groups for_groups.values)) gone
          (entries-dimension_gone keys_of says rounded meaning_of folding table cleared old_groups wholes events id place d for_groups.values there free for_groups.folded));
      values = subst (told_wholes (remove held place)) (sym for_wholes.placed) (subst (λ ds. told_wholes ds (revalued old_wholes for_wholes.values)) gone
          (values-dimension_gone keys_of says meaning_of folding table cleared (filter (is_elsewhere id) groups) old_wholes events id place d for_wholes.values there free for_wholes.folded));
    }
