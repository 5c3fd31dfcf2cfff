-- What is held of one dimension, as the state says it.
use Rattle.std.proofs.Common.{◌≡◌, ℕ, zero, suc, ◌+◌, ◌<◌, ◌≤◌, ◌^◌, Bool, true, List, [], ◌∷◌, ◌++◌, length, map, get_or, refl, sym, ap, subst, ◌∙◌, arith}
use Rattle.std.proofs.lemmas.List.{get_or-map, length-map, map-append}
use Rattle.std.proofs.lemmas.List.Sums.{sum_by-append, sum_by-cons}
use Rattle.std.specs.List.{AllByRecursion, sum_by}
use Rattle.std.specs.List.Sorted.{IsStrictlySortedBy}
use Rattle.xf_access.specs.Keys.{AreKeysOf}
use Rattle.xf_base.specs.Key.{key_cmp}
use Rattle.xf_base.specs.Schema.{IsRowOf}
use Rattle.xf_base.specs.declared.cell.Cell.{Cell}
use Rattle.xf_base.specs.declared.column.Column.{Column}
use Rattle.xf_base.specs.declared.key.Key.{Key}
use Rattle.xf_base.specs.declared.kind.KeyKind.{KeyKind}
use Rattle.xf_engine.specs.Answers.{moved_to}
use Rattle.xf_engine.specs.Held.{HoldsKeysOf, held_count, live_dimension, live_dimensions, live_group, live_groups, live_whole, live_wholes, more_count, state_of, with_keys_of}
use Rattle.xf_engine.specs.State.{IsState, LiveDimension, LiveGroup, LiveWhole, entries_by}
use Rattle.xf_engine.specs.declared.dimension.Dimension.{Dimension}
use Rattle.xf_engine.specs.declared.events.Events.{Events}
use Rattle.xf_engine.specs.declared.grouping.Grouping.{Grouping}
use Rattle.xf_engine.specs.declared.whole.Whole.{Whole}
use Rattle.xf_filter.specs.Filter.{filter_of}
use Rattle.xf_filter.specs.declared.filter.Filter.{Filter}
use Rattle.xf_group.specs.Group.{Grouped}
use Rattle.xf_model.specs.Moved.{moved_keys}
use Rattle.xf_table.specs.Table.{Contents}

-- what holds of each holds of the one at a place
pub all-get : {X : Type 0} (P : X → Type 0) (xs : List X) (i : ℕ) (d : X) → i < length xs → AllByRecursion P xs → P (get_or xs i d)
all-get P [] i d e all = absurd (omega (arith, e))
all-get P (x ∷ xs) zero d e all = all.0
all-get P (x ∷ xs) (suc i) d e all = all-get P xs i d (omega (arith, e)) all.1

pub live-at : {A P : Type 0} (Q : LiveDimension A P → Type 0) (held : List (Dimension A P)) (place : ℕ) (d : Dimension A P) → AllByRecursion Q (live_dimensions held) → place < length held → d ≡ get_or held place d → Q (live_dimension d)
live-at Q held place d all within here =
    let at : get_or (live_dimensions held) place (live_dimension d) ≡ live_dimension d = get_or-map live_dimension held place d (live_dimension d) within ∙ ap live_dimension (sym here) in
    subst Q at (all-get Q (live_dimensions held) place (live_dimension d) (omega (arith, within, length-map held live_dimension)) all)

pub live-group-at : {G R V : Type 0} (P : LiveGroup G R → Type 0) (held : List (Grouping G (Grouped R V))) (place : ℕ) (d : Grouping G (Grouped R V)) → AllByRecursion P (live_groups held) → place < length held → d ≡ get_or held place d → P (live_group d)
live-group-at P held place d all within here =
    let at : get_or (live_groups held) place (live_group d) ≡ live_group d = get_or-map live_group held place d (live_group d) within ∙ ap live_group (sym here) in
    subst P at (all-get P (live_groups held) place (live_group d) (omega (arith, within, length-map held live_group)) all)

pub live-whole-at : {R V : Type 0} (P : LiveWhole R → Type 0) (held : List (Whole R V)) (place : ℕ) (d : Whole R V) → AllByRecursion P (live_wholes held) → place < length held → d ≡ get_or held place d → P (live_whole d)
live-whole-at P held place d all within here =
    let at : get_or (live_wholes held) place (live_whole d) ≡ live_whole d = get_or-map live_whole held place d (live_whole d) within ∙ ap live_whole (sym here) in
    subst P at (all-get P (live_wholes held) place (live_whole d) (omega (arith, within, length-map held live_whole)) all)

pub keys-at : {A P : Type 0} (keys_of : A → List Cell → List Key) (rows : List (List Cell)) (held : List (Dimension A P)) (place : ℕ) (d : Dimension A P) → AllByRecursion (HoldsKeysOf keys_of rows) held → place < length held → d ≡ get_or held place d → HoldsKeysOf keys_of rows d
keys-at keys_of rows held place d all within here = subst (HoldsKeysOf keys_of rows) (sym here) (all-get (HoldsKeysOf keys_of rows) held place d within all)

-- sums over what is mapped, and one part of a sum
pub sum-map : {X Y : Type 0} (f : Y → ℕ) (g : X → Y) (xs : List X) → sum_by f (map g xs) ≡ sum_by (λ x. f (g x)) xs
sum-map f g [] = refl
sum-map f g (x ∷ xs) = omega (arith, sum_by-cons f (g x) (map g xs), sum_by-cons (λ y. f (g y)) x xs, sum-map f g xs)

pub sum-part : {X : Type 0} (f : X → ℕ) (xs : List X) (i : ℕ) (d : X) → i < length xs → f (get_or xs i d) ≤ sum_by f xs
sum-part f [] i d e = absurd (omega (arith, e))
sum-part f (x ∷ xs) zero d e = omega (arith, sum_by-cons f x xs)
sum-part f (x ∷ xs) (suc i) d e = omega (arith, sum_by-cons f x xs, sum-part f xs i d (omega (arith, e)))

-- the keys of a dimension are few
pub held-few : {A G P R V : Type 0} (keys_of : A → List Cell → List Key) (fits_to : A → List Column → Bool) (kind_of : A → KeyKind) (keys_in : P → List Key) (suits : R → List Column → Bool) (fields : R → ℕ) (table : Contents) (dimensions : List (Dimension A P)) (groups : List (Grouping G (Grouped R V))) (wholes : List (Whole R V)) (events : Events) (place : ℕ) (d : Dimension A P) → IsState keys_of fits_to kind_of keys_in suits fields (state_of table dimensions groups wholes events) → AllByRecursion (HoldsKeysOf keys_of table.rows) dimensions → place < length dimensions → d ≡ get_or dimensions place d → sum_by length d.keys + length d.keys < 2 ^ 64
held-few {A} {G} {P} keys_of fits_to kind_of keys_in suits fields table dimensions groups wholes events place d is hold within here =
    let keys : d.keys ≡ map (keys_of d.accessor) table.rows = keys-at keys_of table.rows dimensions place d hold within here in
    let rows : length d.keys ≡ length table.rows = ap length keys ∙ length-map table.rows (keys_of d.accessor) in
    let entries : sum_by length d.keys ≡ entries_by keys_of table.rows d.accessor = ap (sum_by length) keys ∙ sum-map length (keys_of d.accessor) table.rows in
    let by : LiveDimension A P → ℕ = λ live. entries_by keys_of table.rows live.accessor in
    let part : by (get_or (live_dimensions dimensions) place (live_dimension d)) ≤ sum_by by (live_dimensions dimensions) = sum-part by (live_dimensions dimensions) place (live_dimension d) (omega (arith, within, length-map dimensions live_dimension)) in
    let same : by (get_or (live_dimensions dimensions) place (live_dimension d)) ≡ entries_by keys_of table.rows d.accessor = ap by (get_or-map live_dimension dimensions place d (live_dimension d) within ∙ ap live_dimension (sym here)) in
    omega (arith, rows, entries, part, same, is.few_rows, is.few_entries, is.limits.rows, is.limits.entries)

-- what moves among the keys that are held is what moves among the rows
pub moved-held : {A P : Type 0} (keys_of : A → List Cell → List Key) (says : P → Key → Bool) (rows : List (List Cell)) (d : Dimension A P) (new : Filter P) → HoldsKeysOf keys_of rows d → sum_by (moved_keys (filter_of says d.filter) (filter_of says new)) d.keys ≡ moved_to keys_of says rows new (live_dimension d)
moved-held keys_of says rows d new holds =
    ap (sum_by (moved_keys (filter_of says d.filter) (filter_of says new))) holds ∙ sum-map (moved_keys (filter_of says d.filter) (filter_of says new)) (keys_of d.accessor) rows

-- the keys of each row ascend
pub rows-ascend : {A : Type 0} (keys_of : A → List Cell → List Key) (fits_to : A → List Column → Bool) (kind_of : A → KeyKind) (gives_many : A → Bool) → ((accessor : A) (columns : List Column) (row : List Cell) → fits_to accessor columns ≡ true → IsRowOf columns row → AreKeysOf (kind_of accessor) (gives_many accessor) (keys_of accessor row)) → (accessor : A) (columns : List Column) (rows : List (List Cell)) → fits_to accessor columns ≡ true → AllByRecursion (IsRowOf columns) rows → AllByRecursion (λ row. IsStrictlySortedBy key_cmp (keys_of accessor row)) rows
rows-ascend keys_of fits_to kind_of gives_many lawful accessor columns [] fit of = tt
rows-ascend keys_of fits_to kind_of gives_many lawful accessor columns (row ∷ rows) fit of = ((lawful accessor columns row fit of.0).ascending, rows-ascend keys_of fits_to kind_of gives_many lawful accessor columns rows fit of.1)

-- the keys of more rows count beside those that were there
pub grown-count : {A P : Type 0} (keys_of : A → List Cell → List Key) (rows : List (List Cell)) (held : List (Dimension A P)) → sum_by held_count (map (with_keys_of keys_of rows) held) ≡ sum_by held_count held + more_count keys_of rows held
grown-count keys_of rows [] = refl
grown-count {A} {P} keys_of rows (one ∷ held) =
    omega (
      arith,
      sum_by-cons held_count (with_keys_of keys_of rows one) (map (with_keys_of keys_of rows) held),
      sum_by-cons held_count one held,
      sum_by-cons (λ (d : Dimension A P). entries_by keys_of rows d.accessor) one held,
      sum_by-append length one.keys (map (keys_of one.accessor) rows),
      sum-map length (keys_of one.accessor) rows,
      grown-count keys_of rows held,
    )

-- the keys that are held are the entries of the state
pub held-entries : {A P : Type 0} (keys_of : A → List Cell → List Key) (rows : List (List Cell)) (held : List (Dimension A P)) → AllByRecursion (HoldsKeysOf keys_of rows) held → sum_by held_count held ≡ sum_by (λ live. entries_by keys_of rows live.accessor) (live_dimensions held)
held-entries keys_of rows [] hold = refl
held-entries {A} {P} keys_of rows (one ∷ held) hold =
    omega (arith, sum_by-cons held_count one held, sum_by-cons (λ (live : LiveDimension A P). entries_by keys_of rows live.accessor) (live_dimension one) (live_dimensions held), ap (sum_by length) hold.0, sum-map length (keys_of one.accessor) rows, held-entries keys_of rows held hold.1)

pub more-entries : {A P : Type 0} (keys_of : A → List Cell → List Key) (rows : List (List Cell)) (held : List (Dimension A P)) → more_count keys_of rows held ≡ sum_by (λ live. entries_by keys_of rows live.accessor) (live_dimensions held)
more-entries keys_of rows [] = refl
more-entries {A} {P} keys_of rows (one ∷ held) =
    omega (arith, sum_by-cons (λ (d : Dimension A P). entries_by keys_of rows d.accessor) one held, sum_by-cons (λ (live : LiveDimension A P). entries_by keys_of rows live.accessor) (live_dimension one) (live_dimensions held), more-entries keys_of rows held)

-- the keys of all rows are held after more came
pub holds-more : {A P : Type 0} (keys_of : A → List Cell → List Key) (rows more : List (List Cell)) (held : List (Dimension A P)) → AllByRecursion (HoldsKeysOf keys_of rows) held → AllByRecursion (HoldsKeysOf keys_of (rows ++ more)) (map (with_keys_of keys_of more) held)
holds-more keys_of rows more [] hold = tt
holds-more keys_of rows more (one ∷ held) hold =
    (ap (λ keys. keys ++ map (keys_of one.accessor) more) hold.0 ∙ sym (map-append (keys_of one.accessor) rows more), holds-more keys_of rows more held hold.1)
