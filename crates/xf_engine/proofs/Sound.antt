-- A state stays sound under each change.
use Rattle.std.proofs.Common.{◌≡◌, ℕ, zero, suc, ◌+◌, ◌<◌, ◌≤◌, ◌==◌, Bool, true, false, not, ◌||◌, cond, List, [], ◌∷◌, ◌++◌, IfSome, None, Some, length, map, get_or, set, refl, sym, ap, subst, ◌∙◌, arith, length-append}
use Rattle.std.proofs.lemmas.Bool.Decides.{nat_tests}
use Rattle.std.proofs.lemmas.List.{length-map, length-set, map-append}
use Rattle.std.proofs.lemmas.List.Filters.{length-filter_both, sum_by-filter_both}
use Rattle.std.proofs.lemmas.List.Folds.{list_any-append}
use Rattle.std.proofs.lemmas.List.Sums.{sum_by-append, sum_by-cons}
use Rattle.std.specs.List.{AllByRecursion, filter, find, sum_by}
use Rattle.xf_base.specs.Schema.{IsRowOf}
use Rattle.xf_base.specs.declared.cell.Cell.{Cell}
use Rattle.xf_base.specs.declared.column.Column.{Column}
use Rattle.xf_base.specs.declared.key.Key.{Key}
use Rattle.xf_base.specs.declared.kind.KeyKind.{KeyKind}
use Rattle.xf_engine.specs.Changes.{reordered, unfiltered, with_dimension, with_group, with_order, with_rows, with_whole, without_dimension, without_filters, without_group, without_whole}
use Rattle.xf_engine.specs.State.{AreDistinct, IsState, LiveDimension, LiveGroup, LiveWhole, State, dimension_ids, entries_by, entry_count, group_has_id, group_ids, group_named, is_taken, whole_ids}
use Rattle.xf_engine.specs.declared.events.Events.{Events}
use Rattle.xf_engine.proofs.ById.{all-filter, all-push, all-set, distinct-filter, distinct-push, map-free}
use Rattle.xf_filter.specs.Filter.{filter_keys, first_other}
use Rattle.xf_filter.specs.declared.filter.Filter.{Filter}
use Rattle.xf_filter.specs.declared.filter.Filter.TheVariants.{All}
use Rattle.xf_engine.proofs.HeldCounts.{sum-map}
use Rattle.xf_table.proofs.Refusals.{all-append}

-- no more are left than there are
fewer : {X : Type 0} (p : X → Bool) (xs : List X) → length (filter p xs) ≤ length xs
fewer p xs = omega (arith, length-filter_both p (λ x. not (p x)) (λ x. refl) xs)

less : {X : Type 0} (f : X → ℕ) (p : X → Bool) (xs : List X) → sum_by f (filter p xs) ≤ sum_by f xs
less f p xs = omega (arith, sum_by-filter_both p (λ x. not (p x)) (λ x. refl) f xs)

one-more : {X : Type 0} (xs : List X) (x : X) → length (xs ++ x ∷ []) ≡ length xs + 1
one-more xs x = length-append xs (x ∷ [])

-- what holds of each holds of it in a weaker form
weaken : {X : Type 0} (P Q : X → Type 0) (xs : List X) → ((x : X) → P x → Q x) → AllByRecursion P xs → AllByRecursion Q xs
weaken P Q [] weaker all = tt
weaken P Q (x ∷ xs) weaker all = (weaker x all.0, weaken P Q xs weaker all.1)

-- an id that is taken is taken among more
still-taken : (ids more : List ℕ) (id : ℕ) → is_taken ids id ≡ true → is_taken (ids ++ more) id ≡ true
still-taken ids more id taken = list_any-append (λ other. other == id) ids more ∙ ap (λ b. b || is_taken more id) taken

-- and among those of other ids that stay
taken-others : {X : Type 0} (of : X → ℕ) (gone id : ℕ) (xs : List X) → is_taken (map of xs) id ≡ true → (id == gone) ≡ false → is_taken (map of (filter (λ x. not (of x == gone)) xs)) id ≡ true
taken-others of gone id [] taken other = absurd cc
taken-others {X} of gone id (x ∷ xs) taken other = go (of x == gone) (of x == id) refl refl taken (λ t. taken-others of gone id xs t other)
  where
    rest : List X
    rest = filter (λ y. not (of y == gone)) xs

    go : (a b : Bool) → (of x == gone) ≡ a → (of x == id) ≡ b → (b || is_taken (map of xs) id) ≡ true → (is_taken (map of xs) id ≡ true → is_taken (map of rest) id ≡ true) → is_taken (map of (cond (not a) (x ∷ rest) rest)) id ≡ true
    go true true e f t later = absurd (let both : id ≡ gone = grind (arith, nat_tests, e, f) in let same : (id == gone) ≡ true = grind (arith, nat_tests, both) in let clash : true ≡ false = sym same ∙ other in cc)
    go true false e f t later = later t
    go false true e f t later = ap (λ b. b || is_taken (map of rest) id) f
    go false false e f t later = ap (λ b. b || is_taken (map of rest) id) f ∙ later t

-- with a group more
pub sound-with_group : {A G P R : Type 0} (keys_of : A → List Cell → List Key) (fits_to : A → List Column → Bool) (kind_of : A → KeyKind) (keys_in : P → List Key) (suits : R → List Column → Bool) (fields : R → ℕ) (state : State A G P R) (id dimension : ℕ) (rounding : G) (reducer : R) → IsState keys_of fits_to kind_of keys_in suits fields state → is_taken (group_ids state.groups) id ≡ false → is_taken (dimension_ids state.dimensions) dimension ≡ true → suits reducer state.columns ≡ true → 0 < fields reducer → length state.groups + length state.wholes < state.limits.groups → IsState keys_of fits_to kind_of keys_in suits fields (with_group state id dimension rounding reducer)
sound-with_group {A} {G} {P} {R} keys_of fits_to kind_of keys_in suits fields state id dimension rounding reducer is free taken fit some few =
    let group : LiveGroup G R = record { id = id; dimension = dimension; rounding = rounding; reducer = reducer; field = 0 } in
    record {
      limits = is.limits;
      of_schema = is.of_schema;
      fit = is.fit;
      filters = is.filters;
      group_fit = all-push (λ (g : LiveGroup G R). suits g.reducer state.columns ≡ true) state.groups group is.group_fit fit;
      group_fields = all-push (λ (g : LiveGroup G R). g.field < fields g.reducer) state.groups group is.group_fields some;
      whole_fit = is.whole_fit;
      distinct = is.distinct;
      distinct_groups = subst AreDistinct (sym (map-append (λ (g : LiveGroup G R). g.id) state.groups (group ∷ []))) (distinct-push (group_ids state.groups) id is.distinct_groups free);
      distinct_wholes = is.distinct_wholes;
      live = all-push (λ (g : LiveGroup G R). is_taken (dimension_ids state.dimensions) g.dimension ≡ true) state.groups group is.live taken;
      few_rows = is.few_rows;
      few_entries = is.few_entries;
      few_dimensions = is.few_dimensions;
      few_groups = omega (arith, one-more state.groups group, few);
    }

-- without a group
pub sound-without_group : {A G P R : Type 0} (keys_of : A → List Cell → List Key) (fits_to : A → List Column → Bool) (kind_of : A → KeyKind) (keys_in : P → List Key) (suits : R → List Column → Bool) (fields : R → ℕ) (state : State A G P R) (id : ℕ) → IsState keys_of fits_to kind_of keys_in suits fields state → IsState keys_of fits_to kind_of keys_in suits fields (without_group state id)
sound-without_group {A} {G} {P} {R} keys_of fits_to kind_of keys_in suits fields state id is =
    let stays : LiveGroup G R → Bool = λ g. not (g.id == id) in
    record {
      limits = is.limits;
      of_schema = is.of_schema;
      fit = is.fit;
      filters = is.filters;
      group_fit = all-filter (λ (g : LiveGroup G R). suits g.reducer state.columns ≡ true) stays state.groups is.group_fit;
      group_fields = all-filter (λ (g : LiveGroup G R). g.field < fields g.reducer) stays state.groups is.group_fields;
      whole_fit = is.whole_fit;
      distinct = is.distinct;
      distinct_groups = distinct-filter (λ (g : LiveGroup G R). g.id) stays state.groups is.distinct_groups;
      distinct_wholes = is.distinct_wholes;
      live = all-filter (λ (g : LiveGroup G R). is_taken (dimension_ids state.dimensions) g.dimension ≡ true) stays state.groups is.live;
      few_rows = is.few_rows;
      few_entries = is.few_entries;
      few_dimensions = is.few_dimensions;
      few_groups = omega (arith, fewer stays state.groups, is.few_groups);
    }

-- with a whole more
pub sound-with_whole : {A G P R : Type 0} (keys_of : A → List Cell → List Key) (fits_to : A → List Column → Bool) (kind_of : A → KeyKind) (keys_in : P → List Key) (suits : R → List Column → Bool) (fields : R → ℕ) (state : State A G P R) (id : ℕ) (reducer : R) → IsState keys_of fits_to kind_of keys_in suits fields state → is_taken (whole_ids state.wholes) id ≡ false → suits reducer state.columns ≡ true → length state.groups + length state.wholes < state.limits.groups → IsState keys_of fits_to kind_of keys_in suits fields (with_whole state id reducer)
sound-with_whole {A} {G} {P} {R} keys_of fits_to kind_of keys_in suits fields state id reducer is free fit few =
    let whole : LiveWhole R = record { id = id; reducer = reducer } in
    record {
      limits = is.limits;
      of_schema = is.of_schema;
      fit = is.fit;
      filters = is.filters;
      group_fit = is.group_fit;
      group_fields = is.group_fields;
      whole_fit = all-push (λ (w : LiveWhole R). suits w.reducer state.columns ≡ true) state.wholes whole is.whole_fit fit;
      distinct = is.distinct;
      distinct_groups = is.distinct_groups;
      distinct_wholes = subst AreDistinct (sym (map-append (λ (w : LiveWhole R). w.id) state.wholes (whole ∷ []))) (distinct-push (whole_ids state.wholes) id is.distinct_wholes free);
      live = is.live;
      few_rows = is.few_rows;
      few_entries = is.few_entries;
      few_dimensions = is.few_dimensions;
      few_groups = omega (arith, one-more state.wholes whole, few);
    }

-- without a whole
pub sound-without_whole : {A G P R : Type 0} (keys_of : A → List Cell → List Key) (fits_to : A → List Column → Bool) (kind_of : A → KeyKind) (keys_in : P → List Key) (suits : R → List Column → Bool) (fields : R → ℕ) (state : State A G P R) (id : ℕ) → IsState keys_of fits_to kind_of keys_in suits fields state → IsState keys_of fits_to kind_of keys_in suits fields (without_whole state id)
sound-without_whole {A} {G} {P} {R} keys_of fits_to kind_of keys_in suits fields state id is =
    let stays : LiveWhole R → Bool = λ w. not (w.id == id) in
    record {
      limits = is.limits;
      of_schema = is.of_schema;
      fit = is.fit;
      filters = is.filters;
      group_fit = is.group_fit;
      group_fields = is.group_fields;
      whole_fit = all-filter (λ (w : LiveWhole R). suits w.reducer state.columns ≡ true) stays state.wholes is.whole_fit;
      distinct = is.distinct;
      distinct_groups = is.distinct_groups;
      distinct_wholes = distinct-filter (λ (w : LiveWhole R). w.id) stays state.wholes is.distinct_wholes;
      live = is.live;
      few_rows = is.few_rows;
      few_entries = is.few_entries;
      few_dimensions = is.few_dimensions;
      few_groups = omega (arith, fewer stays state.wholes, is.few_groups);
    }

-- with a dimension more
pub sound-with_dimension : {A G P R : Type 0} (keys_of : A → List Cell → List Key) (fits_to : A → List Column → Bool) (kind_of : A → KeyKind) (keys_in : P → List Key) (suits : R → List Column → Bool) (fields : R → ℕ) (state : State A G P R) (id : ℕ) (accessor : A) → IsState keys_of fits_to kind_of keys_in suits fields state → is_taken (dimension_ids state.dimensions) id ≡ false → fits_to accessor state.columns ≡ true → length state.dimensions < state.limits.dimensions → entry_count keys_of state state.rows + entries_by keys_of state.rows accessor ≤ state.limits.entries → IsState keys_of fits_to kind_of keys_in suits fields (with_dimension state id accessor)
sound-with_dimension {A} {G} {P} {R} keys_of fits_to kind_of keys_in suits fields state id accessor is free fit few room =
    let live : LiveDimension A P = record { id = id; accessor = accessor; filter = All } in
    let ids : dimension_ids (state.dimensions ++ live ∷ []) ≡ dimension_ids state.dimensions ++ id ∷ [] = map-append (λ (d : LiveDimension A P). d.id) state.dimensions (live ∷ []) in
    record {
      limits = is.limits;
      of_schema = is.of_schema;
      fit = all-push (λ (d : LiveDimension A P). fits_to d.accessor state.columns ≡ true) state.dimensions live is.fit fit;
      filters = all-push (λ (d : LiveDimension A P). first_other (kind_of d.accessor) (filter_keys keys_in d.filter) ≡ None) state.dimensions live is.filters refl;
      group_fit = is.group_fit;
      group_fields = is.group_fields;
      whole_fit = is.whole_fit;
      distinct = subst AreDistinct (sym ids) (distinct-push (dimension_ids state.dimensions) id is.distinct free);
      distinct_groups = is.distinct_groups;
      distinct_wholes = is.distinct_wholes;
      live = weaken (λ (g : LiveGroup G R). is_taken (dimension_ids state.dimensions) g.dimension ≡ true) (λ (g : LiveGroup G R). is_taken (dimension_ids (state.dimensions ++ live ∷ [])) g.dimension ≡ true) state.groups
          (λ g taken. ap (λ all. is_taken all g.dimension) ids ∙ still-taken (dimension_ids state.dimensions) (id ∷ []) g.dimension taken) is.live;
      few_rows = is.few_rows;
      few_entries = omega (arith, sum_by-append (λ (d : LiveDimension A P). entries_by keys_of state.rows d.accessor) state.dimensions (live ∷ []), sum_by-cons (λ (d : LiveDimension A P). entries_by keys_of state.rows d.accessor) live [], room);
      few_dimensions = omega (arith, one-more state.dimensions live, few);
      few_groups = is.few_groups;
    }

-- the groups of other dimensions are still of live ones
groups-stay : {A G P R : Type 0} (gone : ℕ) (dimensions : List (LiveDimension A P)) (groups : List (LiveGroup G R)) → AllByRecursion (λ group. is_taken (dimension_ids dimensions) group.dimension ≡ true) groups → AllByRecursion (λ group. is_taken (dimension_ids (filter (λ d. not (d.id == gone)) dimensions)) group.dimension ≡ true) (filter (λ group. not (group.dimension == gone)) groups)
groups-stay gone dimensions [] live = tt
groups-stay {A} {G} {P} {R} gone dimensions (group ∷ groups) live = go (group.dimension == gone) refl (groups-stay gone dimensions groups live.1)
  where
    kept : List (LiveGroup G R)
    kept = filter (λ other. not (other.dimension == gone)) groups

    left : LiveGroup G R → Type 0
    left other = is_taken (dimension_ids (filter (λ d. not (d.id == gone)) dimensions)) other.dimension ≡ true

    go : (b : Bool) → (group.dimension == gone) ≡ b → AllByRecursion left kept → AllByRecursion left (cond (not b) (group ∷ kept) kept)
    go true e rest = rest
    go false e rest = (taken-others (λ (d : LiveDimension A P). d.id) gone group.dimension dimensions live.0 e, rest)

-- without a dimension and its groups
pub sound-without_dimension : {A G P R : Type 0} (keys_of : A → List Cell → List Key) (fits_to : A → List Column → Bool) (kind_of : A → KeyKind) (keys_in : P → List Key) (suits : R → List Column → Bool) (fields : R → ℕ) (state : State A G P R) (id : ℕ) → IsState keys_of fits_to kind_of keys_in suits fields state → IsState keys_of fits_to kind_of keys_in suits fields (without_dimension state id)
sound-without_dimension {A} {G} {P} {R} keys_of fits_to kind_of keys_in suits fields state id is =
    let stays : LiveDimension A P → Bool = λ d. not (d.id == id) in
    let elsewhere : LiveGroup G R → Bool = λ g. not (g.dimension == id) in
    record {
      limits = is.limits;
      of_schema = is.of_schema;
      fit = all-filter (λ (d : LiveDimension A P). fits_to d.accessor state.columns ≡ true) stays state.dimensions is.fit;
      filters = all-filter (λ (d : LiveDimension A P). first_other (kind_of d.accessor) (filter_keys keys_in d.filter) ≡ None) stays state.dimensions is.filters;
      group_fit = all-filter (λ (g : LiveGroup G R). suits g.reducer state.columns ≡ true) elsewhere state.groups is.group_fit;
      group_fields = all-filter (λ (g : LiveGroup G R). g.field < fields g.reducer) elsewhere state.groups is.group_fields;
      whole_fit = is.whole_fit;
      distinct = distinct-filter (λ (d : LiveDimension A P). d.id) stays state.dimensions is.distinct;
      distinct_groups = distinct-filter (λ (g : LiveGroup G R). g.id) elsewhere state.groups is.distinct_groups;
      distinct_wholes = is.distinct_wholes;
      live = groups-stay id state.dimensions state.groups is.live;
      few_rows = is.few_rows;
      few_entries = omega (arith, less (λ (d : LiveDimension A P). entries_by keys_of state.rows d.accessor) stays state.dimensions, is.few_entries);
      few_dimensions = omega (arith, fewer stays state.dimensions, is.few_dimensions);
      few_groups = omega (arith, fewer elsewhere state.groups, is.few_groups);
    }

-- a list with another element in a place, where a value is the same
sum-set : {X : Type 0} (f : X → ℕ) (xs : List X) (i : ℕ) (y d : X) → i < length xs → f y ≡ f (get_or xs i d) → sum_by f (set xs i y) ≡ sum_by f xs
sum-set f [] i y d e same = absurd (omega (arith, e))
sum-set f (x ∷ xs) zero y d e same = omega (arith, sum_by-cons f y xs, sum_by-cons f x xs, same)
sum-set f (x ∷ xs) (suc i) y d e same = omega (arith, sum_by-cons f x (set xs i y), sum_by-cons f x xs, sum-set f xs i y d (omega (arith, e)) same)

set-same : {X Y : Type 0} (f : X → Y) (xs : List X) (i : ℕ) (y d : X) → f y ≡ f (get_or xs i d) → map f (set xs i y) ≡ map f xs
set-same f [] zero y d same = refl
set-same f [] (suc i) y d same = refl
set-same f (x ∷ xs) zero y d same = ap (λ first. first ∷ map f xs) same
set-same f (x ∷ xs) (suc i) y d same = ap (λ rest. f x ∷ rest) (set-same f xs i y d same)

all-get : {X : Type 0} (P : X → Type 0) (xs : List X) (i : ℕ) (d : X) → i < length xs → AllByRecursion P xs → P (get_or xs i d)
all-get P [] i d e all = absurd (omega (arith, e))
all-get P (x ∷ xs) zero d e all = all.0
all-get P (x ∷ xs) (suc i) d e all = all-get P xs i d (omega (arith, e)) all.1

-- with another filter on the dimension at a place
pub sound-refiltered : {A G P R : Type 0} (keys_of : A → List Cell → List Key) (fits_to : A → List Column → Bool) (kind_of : A → KeyKind) (keys_in : P → List Key) (suits : R → List Column → Bool) (fields : R → ℕ) (state : State A G P R) (place : ℕ) (d : LiveDimension A P) (new : Filter P) (events : Events) → IsState keys_of fits_to kind_of keys_in suits fields state → place < length state.dimensions → first_other (kind_of (get_or state.dimensions place d).accessor) (filter_keys keys_in new) ≡ None → IsState keys_of fits_to kind_of keys_in suits fields (record state { dimensions = set state.dimensions place (record (get_or state.dimensions place d) { filter = new }); events = events })
sound-refiltered {A} {G} {P} {R} keys_of fits_to kind_of keys_in suits fields state place d new events is within of_kind =
    let now : LiveDimension A P = record (get_or state.dimensions place d) { filter = new } in
    let ids : dimension_ids (set state.dimensions place now) ≡ dimension_ids state.dimensions = set-same (λ (x : LiveDimension A P). x.id) state.dimensions place now d refl in
    record {
      limits = is.limits;
      of_schema = is.of_schema;
      fit = all-set (λ (x : LiveDimension A P). fits_to x.accessor state.columns ≡ true) state.dimensions place now is.fit (all-get (λ (x : LiveDimension A P). fits_to x.accessor state.columns ≡ true) state.dimensions place d within is.fit);
      filters = all-set (λ (x : LiveDimension A P). first_other (kind_of x.accessor) (filter_keys keys_in x.filter) ≡ None) state.dimensions place now is.filters of_kind;
      group_fit = is.group_fit;
      group_fields = is.group_fields;
      whole_fit = is.whole_fit;
      distinct = subst AreDistinct (sym ids) is.distinct;
      distinct_groups = is.distinct_groups;
      distinct_wholes = is.distinct_wholes;
      live = weaken (λ (g : LiveGroup G R). is_taken (dimension_ids state.dimensions) g.dimension ≡ true) (λ (g : LiveGroup G R). is_taken (dimension_ids (set state.dimensions place now)) g.dimension ≡ true) state.groups (λ g taken. ap (λ all. is_taken all g.dimension) ids ∙ taken) is.live;
      few_rows = is.few_rows;
      few_entries = omega (arith, sum-set (λ (x : LiveDimension A P). entries_by keys_of state.rows x.accessor) state.dimensions place now d within refl, is.few_entries);
      few_dimensions = omega (arith, length-set state.dimensions place now, is.few_dimensions);
      few_groups = is.few_groups;
    }

-- the entries of joined rows
pub entries-append : {A P : Type 0} (keys_of : A → List Cell → List Key) (dimensions : List (LiveDimension A P)) (rows more : List (List Cell)) → sum_by (λ live. entries_by keys_of (rows ++ more) live.accessor) dimensions ≡ sum_by (λ live. entries_by keys_of rows live.accessor) dimensions + sum_by (λ live. entries_by keys_of more live.accessor) dimensions
entries-append keys_of [] rows more = refl
entries-append {A} {P} keys_of (live ∷ dimensions) rows more =
    omega (
      arith,
      sum_by-cons (λ (d : LiveDimension A P). entries_by keys_of (rows ++ more) d.accessor) live dimensions,
      sum_by-cons (λ (d : LiveDimension A P). entries_by keys_of rows d.accessor) live dimensions,
      sum_by-cons (λ (d : LiveDimension A P). entries_by keys_of more d.accessor) live dimensions,
      sum_by-append (λ row. length (keys_of live.accessor row)) rows more,
      entries-append keys_of dimensions rows more,
    )

-- with rows more
pub sound-with_rows : {A G P R : Type 0} (keys_of : A → List Cell → List Key) (fits_to : A → List Column → Bool) (kind_of : A → KeyKind) (keys_in : P → List Key) (suits : R → List Column → Bool) (fields : R → ℕ) (state : State A G P R) (more : List (List Cell)) → IsState keys_of fits_to kind_of keys_in suits fields state → AllByRecursion (IsRowOf state.columns) more → length state.rows + length more ≤ state.limits.rows → entry_count keys_of state state.rows + entry_count keys_of state more ≤ state.limits.entries → IsState keys_of fits_to kind_of keys_in suits fields (with_rows state more)
sound-with_rows {A} {G} {P} {R} keys_of fits_to kind_of keys_in suits fields state more is also few room =
    record {
      limits = is.limits;
      of_schema = all-append (IsRowOf state.columns) state.rows more is.of_schema also;
      fit = is.fit;
      filters = is.filters;
      group_fit = is.group_fit;
      group_fields = is.group_fields;
      whole_fit = is.whole_fit;
      distinct = is.distinct;
      distinct_groups = is.distinct_groups;
      distinct_wholes = is.distinct_wholes;
      live = is.live;
      few_rows = omega (arith, length-append state.rows more, few);
      few_entries = omega (arith, entries-append keys_of state.dimensions state.rows more, room);
      few_dimensions = is.few_dimensions;
      few_groups = is.few_groups;
    }

-- what is mapped alike is mapped the same, and what holds of the images holds of all that is mapped
mapped-same : {X Y : Type 0} (f : X → X) (g : X → Y) (xs : List X) → ((x : X) → g (f x) ≡ g x) → map g (map f xs) ≡ map g xs
mapped-same f g [] same = refl
mapped-same f g (x ∷ xs) same = let first : g (f x) ≡ g x = same x in let rest : map g (map f xs) ≡ map g xs = mapped-same f g xs same in λ i. first i ∷ rest i

all-map : {X Y : Type 0} (P : Y → Type 0) (f : X → Y) (xs : List X) → AllByRecursion (λ x. P (f x)) xs → AllByRecursion P (map f xs)
all-map P f [] all = tt
all-map P f (x ∷ xs) all = (all.0, all-map P f xs all.1)

-- without filters
pub sound-without_filters : {A G P R : Type 0} (keys_of : A → List Cell → List Key) (fits_to : A → List Column → Bool) (kind_of : A → KeyKind) (keys_in : P → List Key) (suits : R → List Column → Bool) (fields : R → ℕ) (state : State A G P R) → IsState keys_of fits_to kind_of keys_in suits fields state → IsState keys_of fits_to kind_of keys_in suits fields (without_filters state)
sound-without_filters {A} {G} {P} {R} keys_of fits_to kind_of keys_in suits fields state is =
    let ids : dimension_ids (map unfiltered state.dimensions) ≡ dimension_ids state.dimensions = mapped-same unfiltered (λ (d : LiveDimension A P). d.id) state.dimensions (λ d. refl) in
    record {
      limits = is.limits;
      of_schema = is.of_schema;
      fit = all-map (λ (d : LiveDimension A P). fits_to d.accessor state.columns ≡ true) unfiltered state.dimensions is.fit;
      filters = all-map (λ (d : LiveDimension A P). first_other (kind_of d.accessor) (filter_keys keys_in d.filter) ≡ None) unfiltered state.dimensions
          (weaken (λ (d : LiveDimension A P). fits_to d.accessor state.columns ≡ true) (λ (d : LiveDimension A P). first_other (kind_of d.accessor) [] ≡ None) state.dimensions (λ d fits. refl) is.fit);
      group_fit = is.group_fit;
      group_fields = is.group_fields;
      whole_fit = is.whole_fit;
      distinct = subst AreDistinct (sym ids) is.distinct;
      distinct_groups = is.distinct_groups;
      distinct_wholes = is.distinct_wholes;
      live = weaken (λ (g : LiveGroup G R). is_taken (dimension_ids state.dimensions) g.dimension ≡ true) (λ (g : LiveGroup G R). is_taken (dimension_ids (map unfiltered state.dimensions)) g.dimension ≡ true) state.groups (λ g taken. ap (λ all. is_taken all g.dimension) ids ∙ taken) is.live;
      few_rows = is.few_rows;
      few_entries = omega (arith, sum-map (λ (d : LiveDimension A P). entries_by keys_of state.rows d.accessor) unfiltered state.dimensions, is.few_entries);
      few_dimensions = omega (arith, length-map state.dimensions unfiltered, is.few_dimensions);
      few_groups = is.few_groups;
    }

-- what a group has beside its field stays where it is ranked by another
ordered-same : {G R Y : Type 0} (of : LiveGroup G R → Y) (id field : ℕ) (group : LiveGroup G R) → of (record group { field = field }) ≡ of group → of (reordered id field group) ≡ of group
ordered-same {G} {R} of id field group same = elim (group.id == id) as (λ b. of (cond b (record group { field = field }) group) ≡ of group) [ true ↦ same | false ↦ refl ]

-- where the field is one of its reducer's, each field still is
ordered-fields : {G R : Type 0} (fields : R → ℕ) (id field : ℕ) (groups : List (LiveGroup G R)) → AreDistinct (group_ids groups) → IfSome (find (group_has_id id) groups) (λ group. field < fields group.reducer) → AllByRecursion (λ group. group.field < fields group.reducer) groups → AllByRecursion (λ group. group.field < fields group.reducer) (map (reordered id field) groups)
ordered-fields fields id field [] distinct within all = tt
ordered-fields {G} {R} fields id field (group ∷ groups) distinct within all = go (group.id == id) refl within (ordered-fields fields id field groups distinct.1)
  where
    IsWithin : LiveGroup G R → Type 0
    IsWithin other = other.field < fields other.reducer

    rest : List (LiveGroup G R)
    rest = map (reordered id field) groups

    go : (b : Bool) → (group.id == id) ≡ b → IfSome (cond b (Some group) (find (group_has_id id) groups)) (λ other. field < fields other.reducer) → (IfSome (find (group_has_id id) groups) (λ other. field < fields other.reducer) → AllByRecursion IsWithin groups → AllByRecursion IsWithin rest) → AllByRecursion IsWithin (cond b (record group { field = field }) group ∷ rest)
    go true e here later =
        let same : group.id ≡ id = grind (arith, nat_tests, e) in
        let as_before : rest ≡ groups = map-free (λ (g : LiveGroup G R). g.id) (λ (g : LiveGroup G R). record g { field = field }) id groups (ap (is_taken (group_ids groups)) (sym same) ∙ distinct.0) in
        (here, subst (AllByRecursion IsWithin) (sym as_before) all.1)
    go false e here later = (all.0, later here all.1)

-- with another order of a group
pub sound-with_order : {A G P R : Type 0} (keys_of : A → List Cell → List Key) (fits_to : A → List Column → Bool) (kind_of : A → KeyKind) (keys_in : P → List Key) (suits : R → List Column → Bool) (fields : R → ℕ) (state : State A G P R) (id field : ℕ) → IsState keys_of fits_to kind_of keys_in suits fields state → IfSome (group_named state id) (λ group. field < fields group.reducer) → IsState keys_of fits_to kind_of keys_in suits fields (with_order state id field)
sound-with_order {A} {G} {P} {R} keys_of fits_to kind_of keys_in suits fields state id field is within =
    let ids : group_ids (map (reordered id field) state.groups) ≡ group_ids state.groups = mapped-same (reordered id field) (λ (g : LiveGroup G R). g.id) state.groups (λ g. ordered-same (λ (h : LiveGroup G R). h.id) id field g refl) in
    record {
      limits = is.limits;
      of_schema = is.of_schema;
      fit = is.fit;
      filters = is.filters;
      group_fit = all-map (λ (g : LiveGroup G R). suits g.reducer state.columns ≡ true) (reordered id field) state.groups
          (weaken (λ (g : LiveGroup G R). suits g.reducer state.columns ≡ true) (λ (g : LiveGroup G R). suits (reordered id field g).reducer state.columns ≡ true) state.groups (λ g fit. ap (λ reducer. suits reducer state.columns) (ordered-same (λ (h : LiveGroup G R). h.reducer) id field g refl) ∙ fit) is.group_fit);
      group_fields = ordered-fields fields id field state.groups is.distinct_groups within is.group_fields;
      whole_fit = is.whole_fit;
      distinct = is.distinct;
      distinct_groups = subst AreDistinct (sym ids) is.distinct_groups;
      distinct_wholes = is.distinct_wholes;
      live = all-map (λ (g : LiveGroup G R). is_taken (dimension_ids state.dimensions) g.dimension ≡ true) (reordered id field) state.groups
          (weaken (λ (g : LiveGroup G R). is_taken (dimension_ids state.dimensions) g.dimension ≡ true) (λ (g : LiveGroup G R). is_taken (dimension_ids state.dimensions) (reordered id field g).dimension ≡ true) state.groups (λ g taken. ap (is_taken (dimension_ids state.dimensions)) (ordered-same (λ (h : LiveGroup G R). h.dimension) id field g refl) ∙ taken) is.live);
      few_rows = is.few_rows;
      few_entries = is.few_entries;
      few_dimensions = is.few_dimensions;
      few_groups = omega (arith, length-map state.groups (reordered id field), is.few_groups);
    }
