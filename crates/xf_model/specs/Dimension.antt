-- What a dimension and its filter mean: which rows pass, and which are selected.
--
-- A row is of any type, and so is a key. A dimension is the function that gives a row's keys, with the
-- filter that is set on it. Nothing here knows of an index, a mask or a running value.
use Rattle.std.specs.Prelude.{ℕ, Bool, true, false, ◌&&◌, ◌||◌, List, Option, Some, None, filter, remove}
use Rattle.std.specs.List.{list_all, list_any}
use Rattle.std.specs.declared.cmp.Ordering.{Ordering}
use Rattle.std.specs.Ordering.{is_eq, is_le, is_lt}

-- a filter: whether it is "all", and whether it holds for a key
pub record Filter (Key : Type 0) : Type 0 where
  pub is_all : Bool
  pub holds : Key → Bool

-- no filter: it holds for every key
abbrev pub all : {Key : Type 0} → Filter Key
all = record { is_all = true; holds = λ _. true }

-- the keys that equal one
abbrev pub exactly : {Key : Type 0} → (Key → Key → Ordering) → Key → Filter Key
exactly cmp value = record { is_all = false; holds = λ key. is_eq (cmp key value) }

-- the keys from the low end on that are below the high end
abbrev pub range : {Key : Type 0} → (Key → Key → Ordering) → Key → Key → Filter Key
range cmp low high = record { is_all = false; holds = λ key. is_le (cmp low key) && is_lt (cmp key high) }

-- the keys of which a function says yes
abbrev pub such_that : {Key : Type 0} → (Key → Bool) → Filter Key
such_that says = record { is_all = false; holds = says }

-- a dimension: the keys of a row, ascending and distinct, and the filter that is set
pub record Dimension (Row Key : Type 0) : Type 0 where
  pub keys : Row → List Key
  pub chosen : Filter Key

-- a row passes a dimension where its filter is "all" or holds for some key of the row
abbrev pub passes : {Row Key : Type 0} → Dimension Row Key → Row → Bool
passes dimension row = dimension.chosen.is_all || list_any dimension.chosen.holds (dimension.keys row)

abbrev pub passes_each : {Row Key : Type 0} → List (Dimension Row Key) → Row → Bool
passes_each dimensions row = list_all (λ dimension. passes dimension row) dimensions

-- every dimension but the one at a place, or every dimension
abbrev pub all_but : {X : Type 0} → Option ℕ → List X → List X
all_but None dimensions = dimensions
all_but (Some place) dimensions = remove dimensions place

-- the rows, in order, that pass every dimension but the one at a place, if one is named
abbrev pub selected : {Row Key : Type 0} → List (Dimension Row Key) → Option ℕ → List Row → List Row
selected dimensions but rows = filter (passes_each (all_but but dimensions)) rows
