-- What a session is seen as.
use Rattle.std.specs.Prelude.{◌≡◌, ℕ, Bool, List, map, Option, unwrap_or}
use Rattle.std.specs.List.{list_any}
use Rattle.std.specs.Map.{lookup}
use Rattle.std.specs.Str.{bytes_eq}
use Rattle.xf_access.specs.Stock.{form_of}
use Rattle.xf_access.specs.declared.stock_accessor.StockAccessor.{StockAccessor}
use Rattle.xf_access.specs.declared.stock_rounding.StockRounding.{StockRounding}
use Rattle.xf_base.specs.Kind.{kind_of_key_form}
use Rattle.xf_base.specs.declared.kind.KeyKind.{KeyKind}
use Rattle.xf_base.specs.declared.form.AtomForm.TheVariants.{Text}
use Rattle.xf_base.specs.declared.form.KeyForm.TheVariants.{One}
use Rattle.xf_board.specs.Board.{BoardParts}
use Rattle.xf_engine.specs.State.{LiveDimension, State, group_ids, whole_ids}
use Rattle.xf_engine.specs.declared.ids.GroupId.{GroupId}
use Rattle.xf_engine.specs.declared.ids.WholeId.{WholeId}
use Rattle.xf_filter.specs.declared.filter.Filter.{Filter}
use Rattle.xf_filter.specs.declared.stock_predicate.StockPredicate.{StockPredicate}
use Rattle.xf_reduce.specs.declared.stock_reducer.StockReducer.{StockReducer}
use Rattle.xf_session.specs.declared.naming.Naming.{Naming}
pub use Rattle.xf_sheet.specs.SheetParts.{AreDistinctNames}

-- a crossfilter whose accessors, roundings, predicates and reducers are those of the stock
abbrev pub StockState : Type 0
StockState = State StockAccessor StockRounding StockPredicate StockReducer

abbrev pub StockFilter : Type 0
StockFilter = Filter StockPredicate

abbrev pub Name : Type 0
Name = List ℕ

-- the board that it began with, a crossfilter, and the names of its dimensions, groups and wholes, in order of creation
pub record Session : Type 0 where
  pub board : BoardParts
  pub cross : StockState
  pub dimensions : List (Name × Naming)
  pub groups : List (Name × GroupId)
  pub wholes : List (Name × WholeId)

abbrev pub names_in : {A : Type 0} → List (Name × A) → List Name
names_in names = map (λ entry. entry.0) names

-- that of these parts
abbrev pub session_of : BoardParts → StockState → List (Name × Naming) → List (Name × GroupId) → List (Name × WholeId) → Session
session_of board cross dimensions groups wholes = record { board = board; cross = cross; dimensions = dimensions; groups = groups; wholes = wholes }

-- the kind of the keys of an accessor
abbrev pub kind_of : StockAccessor → KeyKind
kind_of accessor = kind_of_key_form (form_of accessor)

-- ---- looking up a name

-- what a name stands for
abbrev pub named : {A : Type 0} → List (Name × A) → Name → Option A
named names name = lookup (bytes_eq name) names

abbrev pub is_among : List Name → Name → Bool
is_among names name = list_any (bytes_eq name) names

-- what the name of a dimension stands for; where none has it, id 0 and the form of texts
abbrev pub naming_of : Session → Name → Naming
naming_of session name = unwrap_or (named session.dimensions name) (record { id = record { 0 = 0 }; form = One Text })

abbrev pub dimension_id_of : Session → Name → ℕ
dimension_id_of session name = (naming_of session name).id.0

abbrev pub group_id_of : Session → Name → ℕ
group_id_of session name = (unwrap_or (named session.groups name) (record { 0 = 0 })).0

abbrev pub whole_id_of : Session → Name → ℕ
whole_id_of session name = (unwrap_or (named session.wholes name) (record { 0 = 0 })).0

-- ---- what is true of every session

-- what the names of the dimensions of a crossfilter stand for
abbrev pub naming_for : LiveDimension StockAccessor StockPredicate → Naming
naming_for live = record { id = record { 0 = live.id }; form = form_of live.accessor }

-- each dimension, each group and each whole has a name, in the same order; names of one sort differ
pub record IsSession (session : Session) : Type 0 where
  pub dimensions : map (λ entry. entry.1) session.dimensions ≡ map naming_for session.cross.dimensions
  pub groups : map (λ entry. entry.1.0) session.groups ≡ group_ids session.cross.groups
  pub wholes : map (λ entry. entry.1.0) session.wholes ≡ whole_ids session.cross.wholes
  pub distinct : AreDistinctNames (names_in session.dimensions)
  pub distinct_groups : AreDistinctNames (names_in session.groups)
  pub distinct_wholes : AreDistinctNames (names_in session.wholes)
