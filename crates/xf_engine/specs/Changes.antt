-- The state after each change.
use Rattle.std.specs.Prelude.{ℕ, ◌+◌, ◌-◌, ◌^◌, min, ◌==◌, Bool, not, if◌then◌else◌, List, [], ◌∷◌, ◌++◌, filter, map, Option, Some, None}
use Rattle.xf_base.specs.declared.cell.Cell.{Cell}
use Rattle.xf_base.specs.declared.key.Key.{Key}
use Rattle.xf_engine.specs.Answers.{passes_under}
use Rattle.xf_engine.specs.State.{LiveDimension, LiveGroup, State, dimension_named, dimensions_of}
use Rattle.xf_engine.specs.declared.events.Events.{Events}
use Rattle.xf_filter.specs.declared.filter.Filter.{Filter}
use Rattle.xf_filter.specs.declared.filter.Filter.TheVariants.{All}
use Rattle.xf_model.specs.Dimension.{passes_each}

-- a number of events with one more, which stands still at its type's end
abbrev pub one_more : ℕ → ℕ
one_more count = min (count + 1) (2 ^ 64 - 1)

-- with one time more that rows came, that filters were set, or that rows went
abbrev pub once_added : Events → Events
once_added events = record events { added = one_more events.added }

abbrev pub once_filtered : Events → Events
once_filtered events = record events { filtered = one_more events.filtered }

abbrev pub once_removed : Events → Events
once_removed events = record events { removed = one_more events.removed }

-- with rows put at the end
abbrev pub with_rows : {A G P R : Type 0} → State A G P R → List (List Cell) → State A G P R
with_rows state rows = record state { rows = state.rows ++ rows; events = once_added state.events }

-- with a dimension more, without a filter
abbrev pub with_dimension : {A G P R : Type 0} → State A G P R → ℕ → A → State A G P R
with_dimension state id accessor =
    record state { dimensions = state.dimensions ++ record { id = id; accessor = accessor; filter = All } ∷ [] }

-- without a dimension and its groups
abbrev pub without_dimension : {A G P R : Type 0} → State A G P R → ℕ → State A G P R
without_dimension state id = record state {
  dimensions = filter (λ live. not (live.id == id)) state.dimensions;
  groups = filter (λ group. not (group.dimension == id)) state.groups;
}

-- with a group more, whose order is the natural one
abbrev pub with_group : {A G P R : Type 0} → State A G P R → ℕ → ℕ → G → R → State A G P R
with_group state id dimension rounding reducer =
    record state { groups = state.groups ++ record { id = id; dimension = dimension; rounding = rounding; reducer = reducer; field = 0 } ∷ [] }

abbrev pub without_group : {A G P R : Type 0} → State A G P R → ℕ → State A G P R
without_group state id = record state { groups = filter (λ group. not (group.id == id)) state.groups }

-- a group that is ranked by another field, if it is the one of this id
abbrev pub reordered : {G R : Type 0} → ℕ → ℕ → LiveGroup G R → LiveGroup G R
reordered id field group = if group.id == id then record group { field = field } else group

abbrev pub with_order : {A G P R : Type 0} → State A G P R → ℕ → ℕ → State A G P R
with_order state id field = record state { groups = map (reordered id field) state.groups }

-- with a whole more
abbrev pub with_whole : {A G P R : Type 0} → State A G P R → ℕ → R → State A G P R
with_whole state id reducer = record state { wholes = state.wholes ++ record { id = id; reducer = reducer } ∷ [] }

abbrev pub without_whole : {A G P R : Type 0} → State A G P R → ℕ → State A G P R
without_whole state id = record state { wholes = filter (λ whole. not (whole.id == id)) state.wholes }

-- a dimension with another filter, if it is the one of this id
abbrev pub refiltered : {A P : Type 0} → ℕ → Filter P → LiveDimension A P → LiveDimension A P
refiltered id new live = if live.id == id then record live { filter = new } else live

-- with another filter on a dimension
abbrev pub with_filter : {A G P R : Type 0} → State A G P R → ℕ → Filter P → State A G P R
with_filter state id new = record state { dimensions = map (refiltered id new) state.dimensions; events = once_filtered state.events }

-- a dimension without its filter
abbrev pub unfiltered : {A P : Type 0} → LiveDimension A P → LiveDimension A P
unfiltered live = record live { filter = All }

-- without a filter on any dimension
abbrev pub without_filters : {A G P R : Type 0} → State A G P R → State A G P R
without_filters state = record state { dimensions = map unfiltered state.dimensions; events = once_filtered state.events }

-- without the rows for which a test says yes
abbrev pub without_rows : {A G P R : Type 0} → (List Cell → Bool) → State A G P R → State A G P R
without_rows gone state = record state { rows = filter (λ row. not (gone row)) state.rows; events = once_removed state.events }

-- without the rows that pass every dimension
abbrev pub without_passing : {A G P R : Type 0} → (A → List Cell → List Key) → (P → Key → Bool) → State A G P R → State A G P R
without_passing keys_of says state = without_rows (passes_each (dimensions_of keys_of says state.dimensions)) state

-- without the rows that pass a dimension under a filter, if one is live
abbrev pub without_under : {A G P R : Type 0} → (A → List Cell → List Key) → (P → Key → Bool) → State A G P R → Filter P → Option (LiveDimension A P) → State A G P R
without_under keys_of says state new (Some live) = without_rows (passes_under keys_of says new live) state
without_under keys_of says state new None = state

abbrev pub without_where : {A G P R : Type 0} → (A → List Cell → List Key) → (P → Key → Bool) → State A G P R → ℕ → Filter P → State A G P R
without_where keys_of says state id new = without_under keys_of says state new (dimension_named state id)
