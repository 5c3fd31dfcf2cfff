-- What is held after a change is the state after it.
use Rattle.std.proofs.Common.{◌≡◌, ℕ, zero, suc, ◌<◌, ◌==◌, Bool, true, false, not, cond, is_some, List, [], ◌∷◌, ◌++◌, None, Some, length, map, get_or, set, refl, sym, ap, ◌∙◌, arith}
use Rattle.std.proofs.lemmas.List.{get_or-map, length-map, map-append}
use Rattle.std.proofs.lemmas.List.Quantifiers.{position-Some}
use Rattle.std.specs.List.{AllZip, filter, position, remove}
use Rattle.xf_base.specs.declared.cell.Cell.{Cell}
use Rattle.xf_base.specs.declared.key.Key.{Key}
use Rattle.xf_engine.specs.Changes.{once_added, once_filtered, with_dimension, with_filter, with_group, with_order, with_rows, with_whole, without_dimension, without_group, without_whole}
use Rattle.xf_engine.specs.Folding.{AreFoldedFor, regrouped, revalued}
use Rattle.xf_engine.specs.Held.{held_group_ids, held_ids, held_whole_ids, is_elsewhere, live_dimension, live_dimensions, live_group, live_groups, live_whole, live_wholes, state_of, with_keys_of}
use Rattle.xf_engine.specs.State.{AreDistinct, LiveDimension, LiveGroup, LiveWhole, dimension_ids, group_has_id, group_ids, has_id, is_taken, whole_has_id, whole_ids}
use Rattle.xf_engine.specs.declared.dimension.Dimension.{Dimension}
use Rattle.xf_engine.specs.declared.events.Events.{Events}
use Rattle.xf_engine.specs.declared.grouping.Grouping.{Grouping}
use Rattle.xf_engine.specs.declared.whole.Whole.{Whole}
use Rattle.xf_engine.proofs.ById.{filter-at, filter-free, map-at, map-free, map-remove, map-set}
use Rattle.xf_engine.proofs.FreeId.{taken_dimension, taken_group, taken_whole}
use Rattle.xf_engine.proofs.Named.{position_live_group, position_live_whole}
use Rattle.xf_filter.specs.declared.filter.Filter.{Filter}
use Rattle.xf_filter.specs.declared.filter.Filter.TheVariants.{All}
use Rattle.xf_group.specs.Group.{Grouped}
use Rattle.xf_group.specs.Order.{order_field}
use Rattle.xf_group.specs.declared.order.GroupOrder.{GroupOrder}
use Rattle.xf_model.specs.Group.{Reducer}
use Rattle.xf_table.specs.Table.{Contents}

-- the ids that are held are those of the state
pub ids-live : {A P : Type 0} (held : List (Dimension A P)) → dimension_ids (live_dimensions held) ≡ held_ids held
ids-live [] = refl
ids-live (one ∷ held) = ap (λ ids. one.id.0 ∷ ids) (ids-live held)

pub ids-live_group : {G R V : Type 0} (held : List (Grouping G (Grouped R V))) → group_ids (live_groups held) ≡ held_group_ids held
ids-live_group [] = refl
ids-live_group (one ∷ held) = ap (λ ids. one.id.0 ∷ ids) (ids-live_group held)

pub ids-live_whole : {R V : Type 0} (held : List (Whole R V)) → whole_ids (live_wholes held) ≡ held_whole_ids held
ids-live_whole [] = refl
ids-live_whole (one ∷ held) = ap (λ ids. one.id.0 ∷ ids) (ids-live_whole held)

-- where an id is not held it is not taken
pub free-dimension : {A P : Type 0} (id : ℕ) (held : List (Dimension A P)) → position (has_id id) (live_dimensions held) ≡ None → is_taken (dimension_ids (live_dimensions held)) id ≡ false
free-dimension id held none = ap (λ ids. is_taken ids id) (ids-live held) ∙ sym (taken_dimension id held) ∙ ap is_some none

pub free-group : {G R V : Type 0} (id : ℕ) (held : List (Grouping G (Grouped R V))) → position (group_has_id id) (live_groups held) ≡ None → is_taken (group_ids (live_groups held)) id ≡ false
free-group id held none = ap (λ ids. is_taken ids id) (ids-live_group held) ∙ sym (taken_group id held) ∙ ap is_some (sym (position_live_group id held) ∙ none)

pub free-whole : {R V : Type 0} (id : ℕ) (held : List (Whole R V)) → position (whole_has_id id) (live_wholes held) ≡ None → is_taken (whole_ids (live_wholes held)) id ≡ false
free-whole id held none = ap (λ ids. is_taken ids id) (ids-live_whole held) ∙ sym (taken_whole id held) ∙ ap is_some (sym (position_live_whole id held) ∙ none)

-- and where it is, it is
pub taken-dimension : {A P : Type 0} (id place : ℕ) (held : List (Dimension A P)) → position (has_id id) (live_dimensions held) ≡ Some place → is_taken (dimension_ids (live_dimensions held)) id ≡ true
taken-dimension id place held some = ap (λ ids. is_taken ids id) (ids-live held) ∙ sym (taken_dimension id held) ∙ ap is_some some

-- what is at the place of an id has it
pub placed-dimension : {A P : Type 0} (id : ℕ) (held : List (Dimension A P)) (place : ℕ) (d : Dimension A P) → position (has_id id) (live_dimensions held) ≡ Some place → (place < length held) × (((get_or held place d).id.0 == id) ≡ true)
placed-dimension id held place d told =
    let at = position-Some (has_id id) (live_dimensions held) place (live_dimension d) told in
    let within : place < length held = omega (arith, at.0, length-map held live_dimension) in
    (within, ap (λ (live : LiveDimension _ _). live.id == id) (sym (get_or-map live_dimension held place d (live_dimension d) within)) ∙ at.1)

pub placed-group : {G R V : Type 0} (id : ℕ) (held : List (Grouping G (Grouped R V))) (place : ℕ) (d : Grouping G (Grouped R V)) → position (group_has_id id) (live_groups held) ≡ Some place → (place < length held) × (((get_or held place d).id.0 == id) ≡ true)
placed-group id held place d told =
    let at = position-Some (group_has_id id) (live_groups held) place (live_group d) told in
    let within : place < length held = omega (arith, at.0, length-map held live_group) in
    (within, ap (λ (live : LiveGroup _ _). live.id == id) (sym (get_or-map live_group held place d (live_group d) within)) ∙ at.1)

pub placed-whole : {R V : Type 0} (id : ℕ) (held : List (Whole R V)) (place : ℕ) (d : Whole R V) → position (whole_has_id id) (live_wholes held) ≡ Some place → (place < length held) × (((get_or held place d).id.0 == id) ≡ true)
placed-whole id held place d told =
    let at = position-Some (whole_has_id id) (live_wholes held) place (live_whole d) told in
    let within : place < length held = omega (arith, at.0, length-map held live_whole) in
    (within, ap (λ (live : LiveWhole _). live.id == id) (sym (get_or-map live_whole held place d (live_whole d) within)) ∙ at.1)

-- a group more
pub held-with_group : {A G P R V : Type 0} (table : Contents) (dimensions : List (Dimension A P)) (groups : List (Grouping G (Grouped R V))) (wholes : List (Whole R V)) (events : Events) (group : Grouping G (Grouped R V)) → order_field group.order ≡ 0 → state_of table dimensions (groups ++ group ∷ []) wholes events ≡ with_group (state_of table dimensions groups wholes events) group.id.0 group.dimension.0 group.rounding group.group.reducer
held-with_group {A} {G} {P} {R} table dimensions groups wholes events group natural =
    let ordered : ℕ → LiveGroup G R = λ field. record { id = group.id.0; dimension = group.dimension.0; rounding = group.rounding; reducer = group.group.reducer; field = field } in
    ap (λ lives. record (state_of table dimensions groups wholes events) { groups = lives }) (map-append live_group groups (group ∷ []))
    ∙ ap (λ field. record (state_of table dimensions groups wholes events) { groups = live_groups groups ++ ordered field ∷ [] }) natural

-- a whole more
pub held-with_whole : {A G P R V : Type 0} (table : Contents) (dimensions : List (Dimension A P)) (groups : List (Grouping G (Grouped R V))) (wholes : List (Whole R V)) (events : Events) (whole : Whole R V) → state_of table dimensions groups (wholes ++ whole ∷ []) events ≡ with_whole (state_of table dimensions groups wholes events) whole.id.0 whole.reducer
held-with_whole table dimensions groups wholes events whole = ap (λ lives. record (state_of table dimensions groups wholes events) { wholes = lives }) (map-append live_whole wholes (whole ∷ []))

-- a dimension more
pub held-with_dimension : {A G P R V : Type 0} (table : Contents) (dimensions : List (Dimension A P)) (groups : List (Grouping G (Grouped R V))) (wholes : List (Whole R V)) (events : Events) (dimension : Dimension A P) → dimension.filter ≡ All → state_of table (dimensions ++ dimension ∷ []) groups wholes events ≡ with_dimension (state_of table dimensions groups wholes events) dimension.id.0 dimension.accessor
held-with_dimension table dimensions groups wholes events dimension free =
    ap (λ lives. record (state_of table dimensions groups wholes events) { dimensions = lives }) (map-append live_dimension dimensions (dimension ∷ []))
    ∙ ap (λ filter. record (state_of table dimensions groups wholes events) { dimensions = live_dimensions dimensions ++ record { id = dimension.id.0; accessor = dimension.accessor; filter = filter } ∷ [] }) free

-- without a group
pub held-without_group : {A G P R V : Type 0} (table : Contents) (dimensions : List (Dimension A P)) (groups : List (Grouping G (Grouped R V))) (wholes : List (Whole R V)) (events : Events) (id place : ℕ) (d : Grouping G (Grouped R V)) → AreDistinct (group_ids (live_groups groups)) → position (group_has_id id) (live_groups groups) ≡ Some place → state_of table dimensions (remove groups place) wholes events ≡ without_group (state_of table dimensions groups wholes events) id
held-without_group {A} {G} {P} {R} table dimensions groups wholes events id place d distinct told =
    let at = position-Some (group_has_id id) (live_groups groups) place (live_group d) told in
    ap (λ lives. record (state_of table dimensions groups wholes events) { groups = lives })
    (map-remove live_group groups place ∙ sym (filter-at (λ (g : LiveGroup G R). g.id) id (live_groups groups) place (live_group d) distinct at.0 at.1))

pub held-no_group : {A G P R V : Type 0} (table : Contents) (dimensions : List (Dimension A P)) (groups : List (Grouping G (Grouped R V))) (wholes : List (Whole R V)) (events : Events) (id : ℕ) → position (group_has_id id) (live_groups groups) ≡ None → state_of table dimensions groups wholes events ≡ without_group (state_of table dimensions groups wholes events) id
held-no_group {A} {G} {P} {R} table dimensions groups wholes events id told =
    ap (λ lives. record (state_of table dimensions groups wholes events) { groups = lives }) (sym (filter-free (λ (g : LiveGroup G R). g.id) id (live_groups groups) (free-group id groups told)))

-- another order of a group
pub held-with_order : {A G P R V : Type 0} (table : Contents) (dimensions : List (Dimension A P)) (groups : List (Grouping G (Grouped R V))) (wholes : List (Whole R V)) (events : Events) (id place : ℕ) (d : Grouping G (Grouped R V)) (order : GroupOrder) → AreDistinct (group_ids (live_groups groups)) → position (group_has_id id) (live_groups groups) ≡ Some place → state_of table dimensions (set groups place (record (get_or groups place d) { order = order })) wholes events ≡ with_order (state_of table dimensions groups wholes events) id (order_field order)
held-with_order {A} {G} {P} {R} table dimensions groups wholes events id place d order distinct told =
    let at = position-Some (group_has_id id) (live_groups groups) place (live_group d) told in
    let within : place < length groups = omega (arith, at.0, length-map groups live_group) in
    let now : LiveGroup G R → LiveGroup G R = λ g. record g { field = order_field order } in
    ap (λ lives. record (state_of table dimensions groups wholes events) { groups = lives })
    (map-set live_group groups place (record (get_or groups place d) { order = order })
    ∙ ap (λ g. set (live_groups groups) place (now g)) (sym (get_or-map live_group groups place d (live_group d) within))
    ∙ sym (map-at (λ (g : LiveGroup G R). g.id) now id (live_groups groups) place (live_group d) distinct at.0 at.1))

pub held-no_order : {A G P R V : Type 0} (table : Contents) (dimensions : List (Dimension A P)) (groups : List (Grouping G (Grouped R V))) (wholes : List (Whole R V)) (events : Events) (id field : ℕ) → position (group_has_id id) (live_groups groups) ≡ None → state_of table dimensions groups wholes events ≡ with_order (state_of table dimensions groups wholes events) id field
held-no_order {A} {G} {P} {R} table dimensions groups wholes events id field told =
    ap (λ lives. record (state_of table dimensions groups wholes events) { groups = lives })
    (sym (map-free (λ (g : LiveGroup G R). g.id) (λ (g : LiveGroup G R). record g { field = field }) id (live_groups groups) (free-group id groups told)))

-- without a whole
pub held-without_whole : {A G P R V : Type 0} (table : Contents) (dimensions : List (Dimension A P)) (groups : List (Grouping G (Grouped R V))) (wholes : List (Whole R V)) (events : Events) (id place : ℕ) (d : Whole R V) → AreDistinct (whole_ids (live_wholes wholes)) → position (whole_has_id id) (live_wholes wholes) ≡ Some place → state_of table dimensions groups (remove wholes place) events ≡ without_whole (state_of table dimensions groups wholes events) id
held-without_whole {A} {G} {P} {R} table dimensions groups wholes events id place d distinct told =
    let at = position-Some (whole_has_id id) (live_wholes wholes) place (live_whole d) told in
    ap (λ lives. record (state_of table dimensions groups wholes events) { wholes = lives })
    (map-remove live_whole wholes place ∙ sym (filter-at (λ (w : LiveWhole R). w.id) id (live_wholes wholes) place (live_whole d) distinct at.0 at.1))

pub held-no_whole : {A G P R V : Type 0} (table : Contents) (dimensions : List (Dimension A P)) (groups : List (Grouping G (Grouped R V))) (wholes : List (Whole R V)) (events : Events) (id : ℕ) → position (whole_has_id id) (live_wholes wholes) ≡ None → state_of table dimensions groups wholes events ≡ without_whole (state_of table dimensions groups wholes events) id
held-no_whole {A} {G} {P} {R} table dimensions groups wholes events id told =
    ap (λ lives. record (state_of table dimensions groups wholes events) { wholes = lives }) (sym (filter-free (λ (w : LiveWhole R). w.id) id (live_wholes wholes) (free-whole id wholes told)))

-- groups that are left, as groups of the state
pub elsewhere-live : {G R V : Type 0} (dimension : ℕ) (groups : List (Grouping G (Grouped R V))) → live_groups (filter (is_elsewhere dimension) groups) ≡ filter (λ g. not (g.dimension == dimension)) (live_groups groups)
elsewhere-live dimension [] = refl
elsewhere-live {G} {R} dimension (group ∷ groups) =
    let rest : live_groups (filter (is_elsewhere dimension) groups) ≡ filter (λ g. not (g.dimension == dimension)) (live_groups groups) = elsewhere-live dimension groups in
    elim (group.dimension.0 == dimension) as (λ b. live_groups (cond (not b) (group ∷ filter (is_elsewhere dimension) groups) (filter (is_elsewhere dimension) groups)) ≡ cond (not b) (live_group group ∷ filter (λ (g : LiveGroup G R). not (g.dimension == dimension)) (live_groups groups)) (filter (λ (g : LiveGroup G R). not (g.dimension == dimension)) (live_groups groups))) [
      | true ↦ rest
      | false ↦ ap (λ lives. live_group group ∷ lives) rest
    ]

-- without a dimension and its groups
pub held-without_dimension : {A G P R V : Type 0} (table : Contents) (dimensions : List (Dimension A P)) (groups : List (Grouping G (Grouped R V))) (wholes : List (Whole R V)) (events : Events) (id place : ℕ) (d : Dimension A P) → AreDistinct (dimension_ids (live_dimensions dimensions)) → position (has_id id) (live_dimensions dimensions) ≡ Some place → state_of table (remove dimensions place) (filter (is_elsewhere id) groups) wholes events ≡ without_dimension (state_of table dimensions groups wholes events) id
held-without_dimension {A} {G} {P} {R} table dimensions groups wholes events id place d distinct told =
    let at = position-Some (has_id id) (live_dimensions dimensions) place (live_dimension d) told in
    ap (λ lives. record (state_of table dimensions groups wholes events) { dimensions = lives; groups = live_groups (filter (is_elsewhere id) groups) })
    (map-remove live_dimension dimensions place ∙ sym (filter-at (λ (x : LiveDimension A P). x.id) id (live_dimensions dimensions) place (live_dimension d) distinct at.0 at.1))
    ∙ ap (λ lives. record (without_dimension (state_of table dimensions groups wholes events) id) { groups = lives }) (elsewhere-live id groups)

-- another filter
pub held-refiltered : {A G P R V : Type 0} (table : Contents) (dimensions : List (Dimension A P)) (groups : List (Grouping G (Grouped R V))) (wholes : List (Whole R V)) (events : Events) (id place : ℕ) (d : Dimension A P) (new : Filter P) → AreDistinct (dimension_ids (live_dimensions dimensions)) → position (has_id id) (live_dimensions dimensions) ≡ Some place → state_of table (set dimensions place (record (get_or dimensions place d) { filter = new })) groups wholes (once_filtered events) ≡ with_filter (state_of table dimensions groups wholes events) id new
held-refiltered {A} {G} {P} {R} table dimensions groups wholes events id place d new distinct told =
    let at = position-Some (has_id id) (live_dimensions dimensions) place (live_dimension d) told in
    let within : place < length dimensions = omega (arith, at.0, length-map dimensions live_dimension) in
    let now : LiveDimension A P → LiveDimension A P = λ x. record x { filter = new } in
    ap (λ lives. record (state_of table dimensions groups wholes events) { dimensions = lives; events = once_filtered events })
    (map-set live_dimension dimensions place (record (get_or dimensions place d) { filter = new })
    ∙ ap (λ x. set (live_dimensions dimensions) place (now x)) (sym (get_or-map live_dimension dimensions place d (live_dimension d) within))
    ∙ sym (map-at (λ (x : LiveDimension A P). x.id) now id (live_dimensions dimensions) place (live_dimension d) distinct at.0 at.1))

-- the dimensions that are live then
pub live-refiltered : {A P : Type 0} (dimensions : List (Dimension A P)) (place : ℕ) (d : Dimension A P) (new : Filter P) → place < length dimensions → live_dimensions (set dimensions place (record (get_or dimensions place d) { filter = new })) ≡ set (live_dimensions dimensions) place (record (get_or (live_dimensions dimensions) place (live_dimension d)) { filter = new })
live-refiltered {A} {P} dimensions place d new within =
    let now : LiveDimension A P → LiveDimension A P = λ x. record x { filter = new } in
    map-set live_dimension dimensions place (record (get_or dimensions place d) { filter = new })
    ∙ ap (λ x. set (live_dimensions dimensions) place (now x)) (sym (get_or-map live_dimension dimensions place d (live_dimension d) within))

pub held-refiltered-set : {A G P R V : Type 0} (table : Contents) (dimensions : List (Dimension A P)) (groups : List (Grouping G (Grouped R V))) (wholes : List (Whole R V)) (events : Events) (place : ℕ) (d : Dimension A P) (new : Filter P) → place < length dimensions → state_of table (set dimensions place (record (get_or dimensions place d) { filter = new })) groups wholes (once_filtered events) ≡ record (state_of table dimensions groups wholes events) { dimensions = set (live_dimensions dimensions) place (record (get_or (live_dimensions dimensions) place (live_dimension d)) { filter = new }); events = once_filtered events }
held-refiltered-set table dimensions groups wholes events place d new within =
    ap (λ lives. record (state_of table dimensions groups wholes events) { dimensions = lives; events = once_filtered events }) (live-refiltered dimensions place d new within)

-- a place that is set twice, and the one that goes
set-back : {X : Type 0} (xs : List X) (place : ℕ) (new d : X) → set (set xs place new) place (get_or xs place d) ≡ xs
set-back [] zero new d = refl
set-back [] (suc place) new d = refl
set-back (x ∷ xs) zero new d = refl
set-back (x ∷ xs) (suc place) new d = ap (λ rest. x ∷ rest) (set-back xs place new d)

pub remove-set : {X : Type 0} (xs : List X) (place : ℕ) (new : X) → remove (set xs place new) place ≡ remove xs place
remove-set [] zero new = refl
remove-set [] (suc place) new = refl
remove-set (x ∷ xs) zero new = refl
remove-set (x ∷ xs) (suc place) new = ap (λ rest. x ∷ rest) (remove-set xs place new)

get-set : {X : Type 0} (xs : List X) (place : ℕ) (new d : X) → place < length xs → get_or (set xs place new) place d ≡ new
get-set [] place new d within = absurd (omega (arith, within))
get-set (x ∷ xs) zero new d within = refl
get-set (x ∷ xs) (suc place) new d within = get-set xs place new d (omega (arith, within))

-- the old filter is put back
pub held-restored : {A P : Type 0} (dimensions : List (Dimension A P)) (place : ℕ) (d e : Dimension A P) (new : Filter P) → place < length dimensions → set (set dimensions place (record (get_or dimensions place d) { filter = new })) place (record (get_or (set dimensions place (record (get_or dimensions place d) { filter = new })) place e) { filter = (get_or dimensions place d).filter }) ≡ dimensions
held-restored {A} {P} dimensions place d e new within =
    let old : Dimension A P → Dimension A P = λ x. record x { filter = (get_or dimensions place d).filter } in
    let now : Dimension A P = record (get_or dimensions place d) { filter = new } in
    ap (λ x. set (set dimensions place now) place (old x)) (get-set dimensions place now e within) ∙ set-back dimensions place now d

-- values that are put in place are not seen
regrouped-live : {G R V : Type 0} (groups : List (Grouping G (Grouped R V))) (folded : List (Grouped R V)) → AllZip (λ held own. own.reducer ≡ held.group.reducer) groups folded → live_groups (regrouped groups folded) ≡ live_groups groups
regrouped-live [] folded same = refl
regrouped-live (group ∷ groups) [] same = refl
regrouped-live {G} {R} {V} (group ∷ groups) (own ∷ folded) same =
    let under : R → LiveGroup G R = λ reducer. record (live_group group) { reducer = reducer } in
    ap (λ reducer. under reducer ∷ live_groups (regrouped groups folded)) same.0 ∙ ap (λ lives. live_group group ∷ lives) (regrouped-live groups folded same.1)

revalued-live : {R V : Type 0} (wholes : List (Whole R V)) (values : List V) → live_wholes (revalued wholes values) ≡ live_wholes wholes
revalued-live [] values = refl
revalued-live (whole ∷ wholes) [] = refl
revalued-live (whole ∷ wholes) (value ∷ values) = ap (λ lives. live_whole whole ∷ lives) (revalued-live wholes values)

pub held-regrouped : {A G P R V : Type 0} (table : Contents) (dimensions : List (Dimension A P)) (groups : List (Grouping G (Grouped R V))) (wholes : List (Whole R V)) (events : Events) (folded : List (Grouped R V)) (values : List V) → AllZip (λ held own. own.reducer ≡ held.group.reducer) groups folded → state_of table dimensions (regrouped groups folded) (revalued wholes values) events ≡ state_of table dimensions groups wholes events
held-regrouped table dimensions groups wholes events folded values same =
    ap (λ lives. record (state_of table dimensions groups (revalued wholes values) events) { groups = lives }) (regrouped-live groups folded same)
    ∙ ap (λ lives. record (state_of table dimensions groups wholes events) { wholes = lives }) (revalued-live wholes values)

-- each group that was folded has the reducer of the one that is held
pub folded-reducers : {A G P R V M : Type 0} (keys_of : A → List Cell → List Key) (says : P → Key → Bool) (rounded : G → Key → Key) (meaning_of : V → M) (folding : R → Reducer (List Cell) M) (lives : List (LiveDimension A P)) (rows : List (List Cell)) (groups : List (Grouping G (Grouped R V))) (folded : List (Grouped R V)) → AreFoldedFor keys_of says rounded meaning_of folding lives rows groups folded → AllZip (λ held own. own.reducer ≡ held.group.reducer) groups folded
folded-reducers keys_of says rounded meaning_of folding lives rows [] [] are = tt
folded-reducers keys_of says rounded meaning_of folding lives rows [] (own ∷ folded) are = absurd are
folded-reducers keys_of says rounded meaning_of folding lives rows (group ∷ groups) [] are = absurd are
folded-reducers keys_of says rounded meaning_of folding lives rows (group ∷ groups) (own ∷ folded) are = (are.0.reducer, folded-reducers keys_of says rounded meaning_of folding lives rows groups folded are.1)

-- rows more
pub keys-unseen : {A P : Type 0} (keys_of : A → List Cell → List Key) (rows : List (List Cell)) (dimensions : List (Dimension A P)) → live_dimensions (map (with_keys_of keys_of rows) dimensions) ≡ live_dimensions dimensions
keys-unseen keys_of rows [] = refl
keys-unseen keys_of rows (one ∷ dimensions) = ap (λ lives. live_dimension one ∷ lives) (keys-unseen keys_of rows dimensions)

pub held-with_rows : {A G P R V : Type 0} (keys_of : A → List Cell → List Key) (table : Contents) (dimensions : List (Dimension A P)) (groups : List (Grouping G (Grouped R V))) (wholes : List (Whole R V)) (events : Events) (rows : List (List Cell)) → state_of (record table { rows = table.rows ++ rows }) (map (with_keys_of keys_of rows) dimensions) groups wholes (once_added events) ≡ with_rows (state_of table dimensions groups wholes events) rows
held-with_rows keys_of table dimensions groups wholes events rows = ap (λ lives. record (with_rows (state_of table dimensions groups wholes events) rows) { dimensions = lives }) (keys-unseen keys_of rows dimensions)
