-- Another filter on one dimension, and groups and wholes with the values that were folded for them: what is asked of a fold, and what is kept after it.
use Rattle.std.proofs.Common.{◌≡◌, ℕ, zero, suc, ◌+◌, ◌^◌, ◌<◌, ◌≤◌, ◌==◌, nat_lt, Bool, true, false, not, cond, List, [], ◌∷◌, ◌++◌, None, Some, Result, Ok, Err, OnErr, length, map, take, drop, get_or, set, slice_get, refl, sym, ap, subst, ◌∙◌, arith}
use Rattle.std.proofs.lemmas.List.{length-map}
use Rattle.std.proofs.lemmas.Option.{slice_get-get_or}
use Rattle.std.specs.List.{AllByRecursion, find, position, position_or_len, remove, sum_by}
use Rattle.std.specs.Option.{option_map}
use Rattle.xf_base.specs.Key.{key_cmp}
use Rattle.xf_base.specs.Schema.{IsRowOf}
use Rattle.xf_base.specs.declared.cell.Cell.{Cell}
use Rattle.xf_base.specs.declared.column.Column.{Column}
use Rattle.xf_base.specs.declared.key.Key.{Key}
use Rattle.xf_base.specs.declared.kind.KeyKind.{KeyKind}
use Rattle.xf_base.specs.declared.limits.TheConstants.Limits.{ROWS}
use Rattle.xf_engine.specs.Answers.{keys_under, moved_to}
use Rattle.xf_engine.specs.Changes.{once_filtered, with_filter}
use Rattle.xf_engine.specs.Folding.{AreFoldedFor, AreValuesFor, regrouped, revalued}
use Rattle.xf_engine.specs.Held.{HoldsGroupOf, HoldsKeysOf, HoldsPlacesOf, HoldsWholeOf, IsCross, held_ids, held_moved, live_dimension, live_dimensions, live_groups, live_wholes, most_moved, state_of}
use Rattle.xf_engine.specs.Refolded.{AreRegrouped, AreRevalued, filtered_at}
use Rattle.xf_engine.specs.Refusals.{filter_refusal_of}
use Rattle.xf_engine.specs.State.{AreDistinct, IsState, LiveDimension, State, dimension_ids, has_id, is_taken}
use Rattle.xf_engine.specs.declared.dimension.Dimension.{Dimension}
use Rattle.xf_engine.specs.declared.events.Events.{Events}
use Rattle.xf_engine.specs.declared.grouping.Grouping.{Grouping}
use Rattle.xf_engine.specs.declared.whole.Whole.{Whole}
use Rattle.xf_engine.proofs.Added.{whole-slice}
use Rattle.xf_engine.proofs.Answered.{fits-accepted}
use Rattle.xf_engine.proofs.Cleared.{cleared-few}
use Rattle.xf_engine.proofs.HeldCounts.{all-get, held-entries, moved-held}
use Rattle.xf_engine.proofs.HeldStates.{folded-reducers, held-refiltered, held-regrouped, ids-live, live-refiltered, placed-dimension}
use Rattle.xf_engine.proofs.Named.{find-placed, find-placed-dimension}
use Rattle.xf_engine.proofs.Sound.{sound-refiltered}
use Rattle.xf_engine.proofs.Values.{holds-folded, values-folded}
use Rattle.xf_filter.specs.Filter.{filter_of}
use Rattle.xf_filter.specs.declared.filter.Filter.{Filter}
use Rattle.xf_group.specs.Admitted.{SuitAll}
use Rattle.xf_group.specs.Group.{Grouped}
use Rattle.xf_model.specs.Group.{Reducer, rounded_keys}
use Rattle.xf_model.specs.Moved.{moved_keys}
use Rattle.xf_table.specs.Table.{Contents}

-- ---- what is lent and given back

-- what was given back in place of a whole list is the list then
pub given-back : {X : Type 0} (n : ℕ) (items back now : List X) → length items ≡ n → back ≡ now → length now ≡ length items → take n (back ++ drop (length back) items) ≡ now
given-back n items back now long same alike =
    let fits : length back ≡ n = omega (arith, ap length same, alike, long) in
    whole-slice n items back fits long ∙ same

pub on-err : {X E : Type 0} (result : Result X E) (P : Type 0) → P → OnErr result P
on-err (Ok value) P told = tt
on-err (Err error) P told = told

-- ---- the dimension at a place with another filter

pub dimension-within : {A P : Type 0} (id : ℕ) (held : List (Dimension A P)) (place : ℕ) → position (has_id id) (live_dimensions held) ≡ Some place → place < length held
dimension-within id [] place told = absurd cc
dimension-within id (one ∷ held) place told = (placed-dimension id (one ∷ held) place one told).0

pub filtered_at-length : {A P : Type 0} (held : List (Dimension A P)) (place : ℕ) (new : Filter P) → length (filtered_at place new held) ≡ length held
filtered_at-length [] place new = refl
filtered_at-length (one ∷ held) zero new = refl
filtered_at-length (one ∷ held) (suc place) new = ap (λ n. suc n) (filtered_at-length held place new)

pub filtered-set : {A P : Type 0} (held : List (Dimension A P)) (place : ℕ) (d : Dimension A P) (new : Filter P) → place < length held → set held place (record (get_or held place d) { filter = new }) ≡ filtered_at place new held
filtered-set [] place d new within = absurd (omega (arith, within))
filtered-set (one ∷ held) zero d new within = refl
filtered-set (one ∷ held) (suc place) d new within = ap (λ rest. one ∷ rest) (filtered-set held place d new (omega (arith, within)))

pub get-set : {X : Type 0} (xs : List X) (place : ℕ) (new d : X) → place < length xs → get_or (set xs place new) place d ≡ new
get-set [] place new d within = absurd (omega (arith, within))
get-set (x ∷ xs) zero new d within = refl
get-set (x ∷ xs) (suc place) new d within = get-set xs place new d (omega (arith, within))

pub filtered-get : {A P : Type 0} (held : List (Dimension A P)) (place : ℕ) (d : Dimension A P) (new : Filter P) → place < length held → (get_or (filtered_at place new held) place d).filter ≡ new
filtered-get [] place d new within = absurd (omega (arith, within))
filtered-get (one ∷ held) zero d new within = refl
filtered-get (one ∷ held) (suc place) d new within = filtered-get held place d new (omega (arith, within))

-- ids stay
pub set-ids : {A P : Type 0} (held : List (Dimension A P)) (place : ℕ) (d : Dimension A P) (new : Filter P) → held_ids (set held place (record (get_or held place d) { filter = new })) ≡ held_ids held
set-ids [] zero d new = refl
set-ids [] (suc place) d new = refl
set-ids (one ∷ held) zero d new = refl
set-ids (one ∷ held) (suc place) d new = ap (λ rest. one.id.0 ∷ rest) (set-ids held place d new)

-- so do keys
pub filtered-keys : {A P : Type 0} (keys_of : A → List Cell → List Key) (rows : List (List Cell)) (held : List (Dimension A P)) (place : ℕ) (new : Filter P) → AllByRecursion (HoldsKeysOf keys_of rows) held → AllByRecursion (HoldsKeysOf keys_of rows) (filtered_at place new held)
filtered-keys keys_of rows [] place new hold = tt
filtered-keys keys_of rows (one ∷ held) zero new hold = hold
filtered-keys keys_of rows (one ∷ held) (suc place) new hold = (hold.0, filtered-keys keys_of rows held place new hold.1)

-- without it nothing is another
pub remove-filtered : {A P : Type 0} (held : List (Dimension A P)) (place : ℕ) (new : Filter P) → remove (filtered_at place new held) place ≡ remove held place
remove-filtered [] zero new = refl
remove-filtered [] (suc place) new = refl
remove-filtered (one ∷ held) zero new = refl
remove-filtered (one ∷ held) (suc place) new = ap (λ rest. one ∷ rest) (remove-filtered held place new)

-- ids are found where they were
filtered-position : {A P : Type 0} (id : ℕ) (held : List (Dimension A P)) (place : ℕ) (new : Filter P) → position_or_len (has_id id) (live_dimensions (filtered_at place new held)) ≡ position_or_len (has_id id) (live_dimensions held)
filtered-position id [] place new = refl
filtered-position id (one ∷ held) zero new = refl
filtered-position id (one ∷ held) (suc place) new = ap (λ later. cond (not (one.id.0 == id)) (1 + later) 0) (filtered-position id held place new)

filtered-length : {A P : Type 0} (held : List (Dimension A P)) (place : ℕ) (new : Filter P) → length (live_dimensions (filtered_at place new held)) ≡ length (live_dimensions held)
filtered-length [] place new = refl
filtered-length (one ∷ held) zero new = refl
filtered-length (one ∷ held) (suc place) new = ap (λ n. suc n) (filtered-length held place new)

pub filtered-placed : {A P : Type 0} (id : ℕ) (held : List (Dimension A P)) (place : ℕ) (new : Filter P) → position (has_id id) (live_dimensions (filtered_at place new held)) ≡ position (has_id id) (live_dimensions held)
filtered-placed id held place new =
    let at = filtered-position id held place new in
    let long = filtered-length held place new in
    λ i. cond (nat_lt (at i) (long i)) (Some (at i)) None

-- how much moves at a place
pub moved-at : {A P : Type 0} (says : P → Key → Bool) (held : List (Dimension A P)) (place : ℕ) (d e : Dimension A P) (old new now : Filter P) → place < length held → old ≡ (get_or held place d).filter → now ≡ new
    → sum_by (moved_keys (filter_of says old) (filter_of says (get_or (set held place (record (get_or held place d) { filter = now })) place e).filter)) (get_or (set held place (record (get_or held place d) { filter = now })) place e).keys ≡ held_moved says new (get_or held place d)
moved-at {A} {P} says held place d e old new now within before after =
    let own : Dimension A P = get_or held place d in
    ap (λ (x : Dimension A P). sum_by (moved_keys (filter_of says old) (filter_of says x.filter)) x.keys) (get-set held place (record own { filter = now }) e within)
    ∙ ap (λ f. sum_by (moved_keys (filter_of says f) (filter_of says now)) own.keys) before
    ∙ ap (λ f. sum_by (moved_keys (filter_of says own.filter) (filter_of says f)) own.keys) after

-- the keys there stay
pub keys-stay : {A P : Type 0} (held : List (Dimension A P)) (place : ℕ) (d e : Dimension A P) (new : Filter P) → (get_or (set held place (record (get_or held place d) { filter = new })) place e).keys ≡ (get_or held place e).keys
keys-stay [] zero d e new = refl
keys-stay [] (suc place) d e new = refl
keys-stay (one ∷ held) zero d e new = refl
keys-stay (one ∷ held) (suc place) d e new = keys-stay held place d e new

-- what moves there is what moves in the dimension of that id
pub moved-named : {A P : Type 0} (keys_of : A → List Cell → List Key) (says : P → Key → Bool) (rows : List (List Cell)) (held : List (Dimension A P)) (id place : ℕ) (new : Filter P) → position (has_id id) (live_dimensions held) ≡ Some place → AllByRecursion (HoldsKeysOf keys_of rows) held
    → option_map (held_moved says new) (slice_get held place) ≡ option_map (moved_to keys_of says rows new) (find (has_id id) (live_dimensions held))
moved-named keys_of says rows [] id place new told hold = absurd cc
moved-named {A} {P} keys_of says rows (one ∷ held) id place new told hold =
    let all : List (Dimension A P) = one ∷ held in
    let within : place < length all = (placed-dimension id all place one told).0 in
    ap (option_map (held_moved says new)) (slice_get-get_or all place one within)
    ∙ ap Some (moved-held keys_of says rows (get_or all place one) new (all-get (HoldsKeysOf keys_of rows) all place one within hold))
    ∙ sym (ap (option_map (moved_to keys_of says rows new)) (find-placed-dimension id all place one told))

-- what is held with another filter is the state with it, and stays sound
pub filtered-state : {A G P R V : Type 0} (table : Contents) (held : List (Dimension A P)) (groups : List (Grouping G (Grouped R V))) (wholes : List (Whole R V)) (events : Events) (id place : ℕ) (new : Filter P) → AreDistinct (dimension_ids (live_dimensions held)) → position (has_id id) (live_dimensions held) ≡ Some place
    → state_of table (filtered_at place new held) groups wholes (once_filtered events) ≡ with_filter (state_of table held groups wholes events) id new
filtered-state table [] groups wholes events id place new distinct told = absurd cc
filtered-state {A} {G} {P} {R} {V} table (one ∷ held) groups wholes events id place new distinct told =
    let all : List (Dimension A P) = one ∷ held in
    let within : place < length all = (placed-dimension id all place one told).0 in
    ap (λ ds. state_of table ds groups wholes (once_filtered events)) (sym (filtered-set all place one new within))
    ∙ held-refiltered table all groups wholes events id place one new distinct told

pub filtered-sound : {A G P R V : Type 0} (keys_of : A → List Cell → List Key) (fits_to : A → List Column → Bool) (kind_of : A → KeyKind) (keys_in : P → List Key) (suits : R → List Column → Bool) (fields : R → ℕ) (table : Contents) (held : List (Dimension A P)) (groups : List (Grouping G (Grouped R V))) (wholes : List (Whole R V)) (events later : Events) (id place : ℕ) (new : Filter P)
    → IsState keys_of fits_to kind_of keys_in suits fields (state_of table held groups wholes events) → position (has_id id) (live_dimensions held) ≡ Some place → filter_refusal_of kind_of keys_in (state_of table held groups wholes events) id new ≡ None
    → IsState keys_of fits_to kind_of keys_in suits fields (state_of table (filtered_at place new held) groups wholes later)
filtered-sound keys_of fits_to kind_of keys_in suits fields table [] groups wholes events later id place new is told accepted = absurd cc
filtered-sound {A} {G} {P} {R} keys_of fits_to kind_of keys_in suits fields table (one ∷ held) groups wholes events later id place new is told accepted =
    let all : List (Dimension A P) = one ∷ held in
    let live : LiveDimension A P = live_dimension one in
    let here : State A G P R = state_of table all groups wholes events in
    let within : place < length all = (placed-dimension id all place one told).0 in
    let named = find-placed (has_id id) (live_dimensions all) place live told in
    let of_kind = fits-accepted kind_of keys_in here id new (get_or (live_dimensions all) place live) named accepted in
    let same : live_dimensions (filtered_at place new all) ≡ set (live_dimensions all) place (record (get_or (live_dimensions all) place live) { filter = new }) =
    ap live_dimensions (sym (filtered-set all place one new within)) ∙ live-refiltered all place one new within in
    subst (λ lives. IsState keys_of fits_to kind_of keys_in suits fields (record here { dimensions = lives; events = later })) (sym same)
    (sound-refiltered keys_of fits_to kind_of keys_in suits fields here place live new later is (omega (arith, within, length-map all live_dimension)) of_kind)

-- ---- what is asked of a fold

live-held : {G R V : Type 0} (ids : List ℕ) (groups : List (Grouping G (Grouped R V))) → AllByRecursion (λ group. is_taken ids group.dimension ≡ true) (live_groups groups) → AllByRecursion (λ held. is_taken ids held.dimension.0 ≡ true) groups
live-held ids [] live = tt
live-held ids (group ∷ groups) live = (live.0, live-held ids groups live.1)

pub fold-live : {A G P R V : Type 0} (dimensions : List (Dimension A P)) (groups : List (Grouping G (Grouped R V))) → AllByRecursion (λ group. is_taken (dimension_ids (live_dimensions dimensions)) group.dimension ≡ true) (live_groups groups) → AllByRecursion (λ held. is_taken (held_ids dimensions) held.dimension.0 ≡ true) groups
fold-live {A} {G} {P} {R} {V} dimensions groups live =
    subst (λ ids. AllByRecursion {X = Grouping G (Grouped R V)} (λ held. is_taken ids held.dimension.0 ≡ true) groups) (ids-live dimensions) (live-held (dimension_ids (live_dimensions dimensions)) groups live)

pub fold-places : {A G P R V M : Type 0} (keys_of : A → List Cell → List Key) (says : P → Key → Bool) (rounded : G → Key → Key) (meaning_of : V → M) (folding : R → Reducer (List Cell) M) (state : State A G P R) (groups : List (Grouping G (Grouped R V))) → AllByRecursion (HoldsGroupOf keys_of says rounded meaning_of folding state) groups → AllByRecursion (HoldsPlacesOf keys_of rounded state.dimensions state.rows) groups
fold-places keys_of says rounded meaning_of folding state [] all = tt
fold-places keys_of says rounded meaning_of folding state (group ∷ groups) all = (all.0.0, fold-places keys_of says rounded meaning_of folding state groups all.1)

-- the keys of rows under a dimension, and so the places of groups, are the same under another filter
set-keys : {A P : Type 0} (keys_of : A → List Cell → List Key) (id : ℕ) (held : List (Dimension A P)) (place : ℕ) (d : Dimension A P) (new : Filter P) → keys_under keys_of (find (has_id id) (live_dimensions (set held place (record (get_or held place d) { filter = new })))) ≡ keys_under keys_of (find (has_id id) (live_dimensions held))
set-keys keys_of id [] zero d new = refl
set-keys keys_of id [] (suc place) d new = refl
set-keys keys_of id (one ∷ held) zero d new =
    elim (one.id.0 == id) as (λ b. keys_under keys_of (cond b (Some (live_dimension (record one { filter = new }))) (find (has_id id) (live_dimensions held))) ≡ keys_under keys_of (cond b (Some (live_dimension one)) (find (has_id id) (live_dimensions held)))) [ true ↦ refl | false ↦ refl ]
set-keys keys_of id (one ∷ held) (suc place) d new =
    elim (one.id.0 == id) as (λ b. keys_under keys_of (cond b (Some (live_dimension one)) (find (has_id id) (live_dimensions (set held place (record (get_or held place d) { filter = new }))))) ≡ keys_under keys_of (cond b (Some (live_dimension one)) (find (has_id id) (live_dimensions held)))) [ true ↦ refl | false ↦ set-keys keys_of id held place d new ]

pub set-places : {A G P R V : Type 0} (keys_of : A → List Cell → List Key) (rounded : G → Key → Key) (rows : List (List Cell)) (held : List (Dimension A P)) (place : ℕ) (d : Dimension A P) (new : Filter P) (groups : List (Grouping G (Grouped R V))) → AllByRecursion (HoldsPlacesOf keys_of rounded (live_dimensions held) rows) groups
    → AllByRecursion (HoldsPlacesOf keys_of rounded (live_dimensions (set held place (record (get_or held place d) { filter = new }))) rows) groups
set-places keys_of rounded rows held place d new [] all = tt
set-places keys_of rounded rows held place d new (group ∷ groups) all = (
  all.0 ∙ ap (λ (keys : List Cell → List Key). map (rounded_keys key_cmp (rounded group.rounding) keys) rows) (sym (set-keys keys_of group.dimension.0 held place d new)),
  set-places keys_of rounded rows held place d new groups all.1,
)

pub fold-suit : {G R V : Type 0} (suits : R → List Column → Bool) (columns : List Column) (rows : List (List Cell)) (groups : List (Grouping G (Grouped R V))) → AllByRecursion (IsRowOf columns) rows → AllByRecursion (λ group. suits group.reducer columns ≡ true) (live_groups groups) → AllByRecursion (λ held. SuitAll (suits held.group.reducer) rows) groups
fold-suit suits columns rows [] of fit = tt
fold-suit suits columns rows (group ∷ groups) of fit = (record { columns = columns; fit = fit.0; of_schema = of }, fold-suit suits columns rows groups of fit.1)

pub fold-whole_suit : {R V : Type 0} (suits : R → List Column → Bool) (columns : List Column) (rows : List (List Cell)) (wholes : List (Whole R V)) → AllByRecursion (IsRowOf columns) rows → AllByRecursion (λ whole. suits whole.reducer columns ≡ true) (live_wholes wholes) → AllByRecursion (λ held. SuitAll (suits held.reducer) rows) wholes
fold-whole_suit suits columns rows [] of fit = tt
fold-whole_suit suits columns rows (whole ∷ wholes) of fit = (record { columns = columns; fit = fit.0; of_schema = of }, fold-whole_suit suits columns rows wholes of fit.1)

pub rows-few : {A G P R V : Type 0} (keys_of : A → List Cell → List Key) (fits_to : A → List Column → Bool) (kind_of : A → KeyKind) (keys_in : P → List Key) (suits : R → List Column → Bool) (fields : R → ℕ) (table : Contents) (dimensions : List (Dimension A P)) (groups : List (Grouping G (Grouped R V))) (wholes : List (Whole R V)) (events : Events) → IsState keys_of fits_to kind_of keys_in suits fields (state_of table dimensions groups wholes events) → length table.rows ≤ ROWS
rows-few keys_of fits_to kind_of keys_in suits fields table dimensions groups wholes events is = omega (arith, is.few_rows, is.limits.rows)

-- so much may move at most
pub moved-few : {A G P R V : Type 0} (keys_of : A → List Cell → List Key) (fits_to : A → List Column → Bool) (kind_of : A → KeyKind) (keys_in : P → List Key) (suits : R → List Column → Bool) (fields : R → ℕ) (table : Contents) (dimensions : List (Dimension A P)) (groups : List (Grouping G (Grouped R V))) (wholes : List (Whole R V)) (events : Events) → IsState keys_of fits_to kind_of keys_in suits fields (state_of table dimensions groups wholes events) → AllByRecursion (HoldsKeysOf keys_of table.rows) dimensions → sum_by most_moved dimensions < 2 ^ 64
moved-few keys_of fits_to kind_of keys_in suits fields table dimensions groups wholes events is hold =
    let few : length table.rows ≤ 2 ^ 20 = omega (arith, is.few_rows, is.limits.rows) in
    let most = cleared-few keys_of table.rows dimensions hold few in
    let have = held-entries keys_of table.rows dimensions hold in
    omega (arith, most, have, length-map dimensions live_dimension, is.few_entries, is.few_dimensions, is.limits.entries, is.limits.dimensions)

-- a value is folded for each
pub folded-length : {A G P R V M : Type 0} (keys_of : A → List Cell → List Key) (says : P → Key → Bool) (rounded : G → Key → Key) (meaning_of : V → M) (folding : R → Reducer (List Cell) M) (lives : List (LiveDimension A P)) (rows : List (List Cell)) (groups : List (Grouping G (Grouped R V))) (folded : List (Grouped R V)) → AreFoldedFor keys_of says rounded meaning_of folding lives rows groups folded → length folded ≡ length groups
folded-length keys_of says rounded meaning_of folding lives rows [] [] are = refl
folded-length keys_of says rounded meaning_of folding lives rows [] (own ∷ folded) are = absurd are
folded-length keys_of says rounded meaning_of folding lives rows (group ∷ groups) [] are = absurd are
folded-length keys_of says rounded meaning_of folding lives rows (group ∷ groups) (own ∷ folded) are = ap (λ n. suc n) (folded-length keys_of says rounded meaning_of folding lives rows groups folded are.1)

pub values-length : {A P R V M : Type 0} (keys_of : A → List Cell → List Key) (says : P → Key → Bool) (meaning_of : V → M) (folding : R → Reducer (List Cell) M) (lives : List (LiveDimension A P)) (rows : List (List Cell)) (wholes : List (Whole R V)) (values : List V) → AreValuesFor keys_of says meaning_of folding lives rows wholes values → length values ≡ length wholes
values-length keys_of says meaning_of folding lives rows [] [] are = refl
values-length keys_of says meaning_of folding lives rows [] (value ∷ values) are = absurd are
values-length keys_of says meaning_of folding lives rows (whole ∷ wholes) [] are = absurd are
values-length keys_of says meaning_of folding lives rows (whole ∷ wholes) (value ∷ values) are = ap (λ n. suc n) (values-length keys_of says meaning_of folding lives rows wholes values are.1)

-- as many are held then
regrouped-length : {G T : Type 0} (groups : List (Grouping G T)) (values : List T) → length (regrouped groups values) ≡ length groups
regrouped-length [] values = refl
regrouped-length (group ∷ groups) [] = refl
regrouped-length (group ∷ groups) (value ∷ values) = ap (λ n. suc n) (regrouped-length groups values)

revalued-length : {R V : Type 0} (wholes : List (Whole R V)) (values : List V) → length (revalued wholes values) ≡ length wholes
revalued-length [] values = refl
revalued-length (whole ∷ wholes) [] = refl
revalued-length (whole ∷ wholes) (value ∷ values) = ap (λ n. suc n) (revalued-length wholes values)

pub are_regrouped-length : {A G P R V M : Type 0} (keys_of : A → List Cell → List Key) (says : P → Key → Bool) (rounded : G → Key → Key) (meaning_of : V → M) (folding : R → Reducer (List Cell) M) (lives : List (LiveDimension A P)) (rows : List (List Cell)) (old new : List (Grouping G (Grouped R V))) → AreRegrouped keys_of says rounded meaning_of folding lives rows old new → length new ≡ length old
are_regrouped-length keys_of says rounded meaning_of folding lives rows old new are = ap length are.placed ∙ regrouped-length old are.values

pub are_revalued-length : {A P R V M : Type 0} (keys_of : A → List Cell → List Key) (says : P → Key → Bool) (meaning_of : V → M) (folding : R → Reducer (List Cell) M) (lives : List (LiveDimension A P)) (rows : List (List Cell)) (old new : List (Whole R V)) → AreRevalued keys_of says meaning_of folding lives rows old new → length new ≡ length old
are_revalued-length keys_of says meaning_of folding lives rows old new are = ap length are.placed ∙ revalued-length old are.values

-- ---- what is kept after it

-- the values are not seen in the state
pub refolded-state : {A G P R V M : Type 0} (keys_of : A → List Cell → List Key) (says : P → Key → Bool) (rounded : G → Key → Key) (meaning_of : V → M) (folding : R → Reducer (List Cell) M) (lives : List (LiveDimension A P)) (rows : List (List Cell)) (table : Contents) (dimensions : List (Dimension A P)) (old_groups groups : List (Grouping G (Grouped R V))) (old_wholes wholes : List (Whole R V)) (events : Events)
    → AreRegrouped keys_of says rounded meaning_of folding lives rows old_groups groups → AreRevalued keys_of says meaning_of folding lives rows old_wholes wholes
    → state_of table dimensions groups wholes events ≡ state_of table dimensions old_groups old_wholes events
refolded-state keys_of says rounded meaning_of folding lives rows table dimensions old_groups groups old_wholes wholes events for_groups for_wholes =
    ap (λ gs. state_of table dimensions gs wholes events) for_groups.placed
    ∙ ap (λ ws. state_of table dimensions (regrouped old_groups for_groups.values) ws events) for_wholes.placed
    ∙ held-regrouped table dimensions old_groups old_wholes events for_groups.values for_wholes.values (folded-reducers keys_of says rounded meaning_of folding lives rows old_groups for_groups.values for_groups.folded)

-- a state that is sound, with the keys of its rows and the values that were folded for its dimensions and rows, is one that a crossfilter keeps
pub cross-refolded : {A G P R V M : Type 0} (keys_of : A → List Cell → List Key) (fits_to : A → List Column → Bool) (kind_of : A → KeyKind) (says : P → Key → Bool) (keys_in : P → List Key) (rounded : G → Key → Key) (suits : R → List Column → Bool) (fields : R → ℕ) (meaning_of : V → M) (folding : R → Reducer (List Cell) M) (lives : List (LiveDimension A P)) (rows : List (List Cell)) (table : Contents) (dimensions : List (Dimension A P)) (old_groups groups : List (Grouping G (Grouped R V))) (old_wholes wholes : List (Whole R V)) (events : Events)
    → IsState keys_of fits_to kind_of keys_in suits fields (state_of table dimensions old_groups old_wholes events) → AllByRecursion (HoldsKeysOf keys_of table.rows) dimensions
    → live_dimensions dimensions ≡ lives → table.rows ≡ rows
    → AreRegrouped keys_of says rounded meaning_of folding lives rows old_groups groups → AreRevalued keys_of says meaning_of folding lives rows old_wholes wholes
    → IsCross keys_of fits_to kind_of says keys_in rounded suits fields meaning_of folding table dimensions groups wholes events
cross-refolded {A} {G} {P} {R} {V} keys_of fits_to kind_of says keys_in rounded suits fields meaning_of folding lives rows table dimensions old_groups groups old_wholes wholes events sound keys same_lives same_rows for_groups for_wholes =
    let now : State A G P R = state_of table dimensions groups wholes events in
    record {
      state = subst (IsState keys_of fits_to kind_of keys_in suits fields) (sym (refolded-state keys_of says rounded meaning_of folding lives rows table dimensions old_groups groups old_wholes wholes events for_groups for_wholes)) sound;
      keys = keys;
      entries = subst (AllByRecursion (HoldsGroupOf keys_of says rounded meaning_of folding now)) (sym for_groups.placed) (holds-folded keys_of says rounded meaning_of folding lives rows now old_groups for_groups.values same_lives same_rows for_groups.folded);
      values = subst (AllByRecursion (HoldsWholeOf {G = G} keys_of says meaning_of folding now)) (sym for_wholes.placed) (values-folded keys_of says meaning_of folding lives rows now old_wholes for_wholes.values same_lives same_rows for_wholes.folded);
    }
