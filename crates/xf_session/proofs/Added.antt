-- What comes: a group, a whole or a dimension more, and what is as it was where its name is not kept.
use Rattle.std.proofs.Common.{◌≡◌, ℕ, ◌+◌, ◌==◌, nat_le, nat_lt, Bool, true, false, not, ◌||◌, cond, List, [], ◌∷◌, ◌++◌, length, map, Option, Some, None, is_some, is_none, option_map, unwrap_or, Result, Ok, Err, IfOk, OnOk, OnErr, ◌⊎◌, inl, inr, is_err, refl, sym, ap, ap₂, ◌∙◌, arith}
use Rattle.std.proofs.lemmas.Bool.Decides.{nat_tests}
use Rattle.std.proofs.lemmas.List.{length-map}
use Rattle.std.specs.List.{AllByRecursion, filter}
use Rattle.xf_access.specs.Stock.{form_of, keys_of_row}
use Rattle.xf_access.specs.declared.stock_accessor.StockAccessor.{StockAccessor}
use Rattle.xf_access.specs.declared.stock_rounding.StockRounding.{StockRounding}
use Rattle.xf_base.specs.declared.form.KeyForm.{KeyForm}
use Rattle.xf_columns.specs.Columns.{accessor_of, applies, reducer_of, rounding_of}
use Rattle.xf_columns.specs.declared.words.AccessorWords.{AccessorWords}
use Rattle.xf_columns.specs.declared.words.ReducerWords.{ReducerWords}
use Rattle.xf_columns.specs.declared.words.RoundingWords.{RoundingWords}
use Rattle.xf_engine.proofs.ById.{apart}
use Rattle.xf_engine.specs.Changes as change
use Rattle.xf_engine.specs.State.{AreDistinct, IsFreeId, LiveDimension, dimension_ids, dimension_named, entries_by, entry_count, group_ids, is_taken, whole_ids}
use Rattle.xf_engine.specs.Refusals.{dimension_refusal_of, group_refusal_of, has_room_for_group, whole_refusal_of}
use Rattle.xf_engine.specs.declared.dimension_refusal.DimensionRefusal.{DimensionRefusal}
use Rattle.xf_engine.specs.declared.dimension_refusal.DimensionRefusal.TheVariants as cause
use Rattle.xf_engine.specs.declared.group_refusal.GroupRefusal.{GroupRefusal}
use Rattle.xf_engine.specs.declared.group_refusal.GroupRefusal.TheVariants as group_refusal
use Rattle.xf_engine.specs.declared.ids.DimensionId.{DimensionId}
use Rattle.xf_engine.specs.declared.ids.GroupId.{GroupId}
use Rattle.xf_engine.specs.declared.ids.WholeId.{WholeId}
use Rattle.xf_engine.specs.declared.whole_refusal.WholeRefusal.{WholeRefusal}
use Rattle.xf_engine.specs.declared.whole_refusal.WholeRefusal.TheVariants as whole_refusal
use Rattle.xf_filter.specs.declared.filter.Filter.TheVariants.{All}
use Rattle.xf_filter.specs.declared.stock_predicate.StockPredicate.{StockPredicate}
use Rattle.xf_model.specs.Replay.{refused, state_after}
use Rattle.xf_reduce.specs.declared.stock_reducer.StockReducer.{StockReducer}
use Rattle.xf_outside.specs.Account.{Files}
use Rattle.xf_reply.specs.declared.refusal.Refusal.{Refusal}
use Rattle.xf_reply.specs.declared.refusal.Refusal.TheVariants as refusal
use Rattle.xf_reply.specs.declared.reply.Reply.{Reply}
use Rattle.xf_reply.specs.declared.reply.Reply.TheVariants as reply
use Rattle.xf_base.specs.declared.out_of_memory.OutOfMemory.{OutOfMemory}
use Rattle.xf_script.specs.declared.command.CommandForm.TheVariants as form
use Rattle.xf_session.proofs.FreeId.{free-is}
use Rattle.xf_session.proofs.NameLists.{absent-among, distinct-names-push}
use Rattle.xf_session.proofs.Named.{StockGroup, StockWhole, named_live}
use Rattle.xf_session.proofs.NamedLive.{named-push}
use Rattle.xf_session.specs.Columns.{accessor_causes, reducer_causes}
use Rattle.xf_session.specs.Command.{first_cause, free_id, outcome_of, plain, too_many_dimensions, too_many_entries, too_many_groups, unless_refused, where_so, with_dimension, with_group, with_whole}
use Rattle.xf_session.specs.Does.{Does}
use Rattle.xf_session.specs.Outcome.{Outcome, reply_of}
use Rattle.xf_session.specs.Refused.{cause_of_dimension}
use Rattle.xf_session.specs.State.{IsSession, Name, Session, StockState, dimension_id_of, named, naming_for, naming_of}
use Rattle.xf_session.specs.declared.naming.Naming.{Naming}

-- what holds where a call was done, and where it was not
pub where-done : {T E : Type 0} (result : Result T E) (P : Type 0) → OnOk result P → is_err result ≡ false → P
where-done (Ok value) P holds done = holds
where-done (Err error) P holds done = absurd cc

pub where-failed : {T E : Type 0} (result : Result T E) (P : Type 0) → OnErr result P → is_err result ≡ true → P
where-failed (Ok value) P holds failed = absurd cc
where-failed (Err error) P holds failed = holds

pub none-named : {A : Type 0} (found : Option A) → is_some found ≡ false → found ≡ None
none-named None none = refl
none-named (Some value) none = absurd cc

-- one that comes and goes
same-id : (id : ℕ) → (id == id) ≡ true
same-id id = grind (arith, nat_tests)

either-not : (a b : Bool) → (a || b) ≡ false → (a ≡ false) × (b ≡ false)
either-not true b e = absurd cc
either-not false b e = (refl, e)

pub come-and-gone : {X : Type 0} (of : X → ℕ) (xs : List X) (x : X) → is_taken (map of xs) (of x) ≡ false → filter (λ y. not (of y == of x)) (xs ++ x ∷ []) ≡ xs
come-and-gone of [] x free = ap (λ b. cond (not b) (x ∷ []) []) (same-id (of x))
come-and-gone {X} of (y ∷ xs) x free =
    let parts = either-not (of y == of x) (is_taken (map of xs) (of x)) free in
    let rest : List X = filter (λ z. not (of z == of x)) (xs ++ x ∷ []) in
    ap (λ b. cond (not b) (y ∷ rest) rest) parts.0 ∙ ap (λ later. y ∷ later) (come-and-gone of xs x parts.1)

-- the first cause of some, or of those after them
first-here : (causes later : List (Option Refusal)) (why : Refusal) → first_cause causes ≡ Some why → first_cause (causes ++ later) ≡ Some why
first-here [] later why told = absurd cc
first-here (Some first ∷ causes) later why told = told
first-here (None ∷ causes) later why told = first-here causes later why told

first-later : (causes later : List (Option Refusal)) → first_cause causes ≡ None → first_cause (causes ++ later) ≡ first_cause later
first-later [] later none = refl
first-later (Some first ∷ causes) later none = absurd cc
first-later (None ∷ causes) later none = first-later causes later none

-- ---- a group

pub group-undone : (state : StockState) (id dimension : ℕ) (rounding : StockRounding) (reducer : StockReducer) → IsFreeId (group_ids state.groups) id → change.without_group (change.with_group state id dimension rounding reducer) id ≡ state
group-undone state id dimension rounding reducer is =
    let one : StockGroup = record { id = id; dimension = dimension; rounding = rounding; reducer = reducer; field = 0 } in
    ap (λ (groups : List StockGroup). record state { groups = groups }) (come-and-gone (λ (group : StockGroup). group.id) state.groups one is.free)

pub group-added : (s : Session) (name dimension : Name) (naming : Naming) (rounding : StockRounding) (reducer : StockReducer) (id : GroupId) → named s.dimensions dimension ≡ Some naming → IsFreeId (group_ids s.cross.groups) id.0
    → record s { cross = change.with_group s.cross id.0 naming.id.0 rounding reducer; groups = s.groups ++ (name, id) ∷ [] } ≡ with_group s name dimension rounding reducer
group-added s name dimension naming rounding reducer id stands is =
    let made : ℕ → ℕ → Session = λ own of. record s { cross = change.with_group s.cross own of rounding reducer; groups = s.groups ++ (name, record { 0 = own }) ∷ [] } in
    let of : dimension_id_of s dimension ≡ naming.id.0 = ap (λ (found : Option Naming). (unwrap_or found (naming_of (record s { dimensions = [] }) dimension)).id.0) stands in
    ap (λ (own : ℕ). made own naming.id.0) (free-is (group_ids s.cross.groups) id.0 is) ∙ ap (made (free_id (group_ids s.cross.groups))) (sym of)

pub kept-with-group : (s : Session) (name : Name) (dimension : ℕ) (rounding : StockRounding) (reducer : StockReducer) (id : GroupId) → IsSession s → named s.groups name ≡ None
    → IsSession (record s { cross = change.with_group s.cross id.0 dimension rounding reducer; groups = s.groups ++ (name, id) ∷ [] })
kept-with-group s name dimension rounding reducer id is absent = record {
  dimensions = is.dimensions;
  groups = named-push (λ (own : GroupId). own.0) (λ (group : StockGroup). group.id) (λ (own : ℕ). own) s.groups s.cross.groups name id (record { id = id.0; dimension = dimension; rounding = rounding; reducer = reducer; field = 0 }) is.groups refl;
  wholes = is.wholes;
  distinct = is.distinct;
  distinct_groups = distinct-names-push s.groups name id is.distinct_groups (absent-among s.groups name absent);
  distinct_wholes = is.distinct_wholes;
}

-- there is room for a group or a whole in the crossfilter where there is among the names
groups-many : (s : Session) → IsSession s → length s.groups + length s.wholes ≡ length s.cross.groups + length s.cross.wholes
groups-many s is =
    let groups : length s.groups ≡ length s.cross.groups = sym (length-map s.groups (λ (entry : Name × GroupId). entry.1.0)) ∙ ap length is.groups ∙ length-map s.cross.groups (λ (group : StockGroup). group.id) in
    let wholes : length s.wholes ≡ length s.cross.wholes = sym (length-map s.wholes (λ (entry : Name × WholeId). entry.1.0)) ∙ ap length is.wholes ∙ length-map s.cross.wholes (λ (whole : StockWhole). whole.id) in
    ap₂ (λ (some more : ℕ). some + more) groups wholes

no-room : (limit count : ℕ) → nat_le limit count ≡ not (nat_lt count limit)
no-room limit count = go (nat_lt count limit) refl
  where
    go : (b : Bool) → nat_lt count limit ≡ b → nat_le limit count ≡ not b
    go true e = grind (arith, nat_tests, e)
    go false e = grind (arith, nat_tests, e)

session-room : (s : Session) → IsSession s → too_many_groups s ≡ where_so (not (has_room_for_group s.cross)) (refusal.TooManyGroups s.cross.limits.groups)
session-room s is =
    ap (λ (count : ℕ). where_so (nat_le s.cross.limits.groups count) (refusal.TooManyGroups s.cross.limits.groups)) (groups-many s is)
    ∙ ap (λ (full : Bool). where_so full (refusal.TooManyGroups s.cross.limits.groups)) (no-room s.cross.limits.groups (length s.cross.groups + length s.cross.wholes))

one-cause : (cause : Option Refusal) → first_cause (cause ∷ []) ≡ cause
one-cause None = refl
one-cause (Some why) = refl

-- why a group is not added, as the session tells it; a dimension that has a name is live, and want of memory is no cause
abbrev pub cause_of_group : GroupRefusal → Refusal
cause_of_group (group_refusal.TooManyGroups limit) = refusal.TooManyGroups limit
cause_of_group (group_refusal.NoDimension id) = refusal.NoHeader
cause_of_group group_refusal.OutOfMemory = refusal.NoHeader

group-room : (room : Bool) (limit : ℕ) → where_so (not room) (refusal.TooManyGroups limit) ≡ option_map cause_of_group (cond room None (Some (group_refusal.TooManyGroups limit)))
group-room true limit = refl
group-room false limit = refl

live-refusal : (state : StockState) (id : ℕ) → is_some (dimension_named state id) ≡ true → group_refusal_of state id ≡ cond (has_room_for_group state) None (Some (group_refusal.TooManyGroups state.limits.groups))
live-refusal state id live = rw live refl

group-causes : (s : Session) (dimension : Name) (naming : Naming) → IsSession s → AreDistinct (dimension_ids s.cross.dimensions) → named s.dimensions dimension ≡ Some naming
    → first_cause (too_many_groups s ∷ []) ≡ option_map cause_of_group (group_refusal_of s.cross naming.id.0)
group-causes s dimension naming is distinct stands =
    let at = named_live s dimension naming is distinct stands in
    one-cause (too_many_groups s) ∙ session-room s is ∙ group-room (has_room_for_group s.cross) s.cross.limits.groups
    ∙ ap (option_map cause_of_group) (sym (live-refusal s.cross naming.id.0 (ap is_some at.found)))

-- the dimension of a name is there
pub group-there : (s : Session) (dimension : Name) (naming : Naming) (id : ℕ) → IsSession s → AreDistinct (dimension_ids s.cross.dimensions) → named s.dimensions dimension ≡ Some naming
    → group_refusal_of s.cross naming.id.0 ≡ Some (group_refusal.NoDimension id) → ⊥
group-there s dimension naming id is distinct stands told =
    let at = named_live s dimension naming is distinct stands in
    never (has_room_for_group s.cross) (sym (live-refusal s.cross naming.id.0 (ap is_some at.found)) ∙ told)
  where
    never : (room : Bool) → cond room None (Some (group_refusal.TooManyGroups s.cross.limits.groups)) ≡ Some (group_refusal.NoDimension id) → ⊥
    never true e = absurd cc
    never false e = absurd cc

-- what a new name of a group of a dimension does, by the cause that holds after that
new-group : (files : Files) (s : Session) (name dimension : Name) (naming : Naming) (words : RoundingWords) (reducer : ReducerWords) (why : Option Refusal) → named s.groups name ≡ None
    → named s.dimensions dimension ≡ Some naming → applies (rounding_of words) naming.form ≡ true → first_cause (reducer_causes s.cross.columns reducer ++ too_many_groups s ∷ []) ≡ why
    → outcome_of files s (form.Group name dimension words reducer) ≡ unless_refused why (with_group s name dimension (rounding_of words) (reducer_of s.cross.columns reducer)) plain
new-group files s name dimension naming words reducer why absent stands fits is =
    let apply : applies (rounding_of words) (naming_of s dimension).form ≡ true = ap (λ (found : Option Naming). applies (rounding_of words) (unwrap_or found (naming_of (record s { dimensions = [] }) dimension)).form) stands ∙ fits in
    let there : is_none (named s.dimensions dimension) ≡ false = ap is_none stands in
    let free : is_some (named s.groups name) ≡ false = ap is_some absent in
    rw (free, there, apply) (ap (λ (held : Option Refusal). unless_refused held (with_group s name dimension (rounding_of words) (reducer_of s.cross.columns reducer)) plain) is)

-- its reducer does not fit
pub group-reducer-outcome : (files : Files) (s : Session) (name dimension : Name) (naming : Naming) (words : RoundingWords) (reducer : ReducerWords) (why : Refusal) → named s.groups name ≡ None
    → named s.dimensions dimension ≡ Some naming → applies (rounding_of words) naming.form ≡ true → first_cause (reducer_causes s.cross.columns reducer) ≡ Some why
    → outcome_of files s (form.Group name dimension words reducer) ≡ refused why
group-reducer-outcome files s name dimension naming words reducer why absent stands fits told =
    new-group files s name dimension naming words reducer (Some why) absent stands fits (first-here (reducer_causes s.cross.columns reducer) (too_many_groups s ∷ []) why told)

-- or it does, and the crossfilter decides
pub group-outcome : (files : Files) (s : Session) (name dimension : Name) (naming : Naming) (words : RoundingWords) (reducer : ReducerWords) (why : Option GroupRefusal) → IsSession s
    → AreDistinct (dimension_ids s.cross.dimensions) → named s.groups name ≡ None → named s.dimensions dimension ≡ Some naming → applies (rounding_of words) naming.form ≡ true
    → first_cause (reducer_causes s.cross.columns reducer) ≡ None → group_refusal_of s.cross naming.id.0 ≡ why
    → outcome_of files s (form.Group name dimension words reducer) ≡ unless_refused (option_map cause_of_group why) (with_group s name dimension (rounding_of words) (reducer_of s.cross.columns reducer)) plain
group-outcome files s name dimension naming words reducer why is distinct absent stands fits suits told =
    new-group files s name dimension naming words reducer (option_map cause_of_group why) absent stands fits
    (first-later (reducer_causes s.cross.columns reducer) (too_many_groups s ∷ []) suits ∙ group-causes s dimension naming is distinct stands ∙ ap (option_map cause_of_group) told)

-- ---- a whole

pub whole-undone : (state : StockState) (id : ℕ) (reducer : StockReducer) → IsFreeId (whole_ids state.wholes) id → change.without_whole (change.with_whole state id reducer) id ≡ state
whole-undone state id reducer is =
    let one : StockWhole = record { id = id; reducer = reducer } in
    ap (λ (wholes : List StockWhole). record state { wholes = wholes }) (come-and-gone (λ (whole : StockWhole). whole.id) state.wholes one is.free)

pub whole-added : (s : Session) (name : Name) (reducer : StockReducer) (id : WholeId) → IsFreeId (whole_ids s.cross.wholes) id.0
    → record s { cross = change.with_whole s.cross id.0 reducer; wholes = s.wholes ++ (name, id) ∷ [] } ≡ with_whole s name reducer
whole-added s name reducer id is =
    let made : ℕ → Session = λ own. record s { cross = change.with_whole s.cross own reducer; wholes = s.wholes ++ (name, record { 0 = own }) ∷ [] } in
    ap made (free-is (whole_ids s.cross.wholes) id.0 is)

pub kept-with-whole : (s : Session) (name : Name) (reducer : StockReducer) (id : WholeId) → IsSession s → named s.wholes name ≡ None
    → IsSession (record s { cross = change.with_whole s.cross id.0 reducer; wholes = s.wholes ++ (name, id) ∷ [] })
kept-with-whole s name reducer id is absent = record {
  dimensions = is.dimensions;
  groups = is.groups;
  wholes = named-push (λ (own : WholeId). own.0) (λ (whole : StockWhole). whole.id) (λ (own : ℕ). own) s.wholes s.cross.wholes name id (record { id = id.0; reducer = reducer }) is.wholes refl;
  distinct = is.distinct;
  distinct_groups = is.distinct_groups;
  distinct_wholes = distinct-names-push s.wholes name id is.distinct_wholes (absent-among s.wholes name absent);
}

-- why a whole is not added, as the session tells it; want of memory is no cause
abbrev pub cause_of_whole : WholeRefusal → Refusal
cause_of_whole (whole_refusal.TooManyGroups limit) = refusal.TooManyGroups limit
cause_of_whole whole_refusal.OutOfMemory = refusal.NoHeader

whole-room : (room : Bool) (limit : ℕ) → where_so (not room) (refusal.TooManyGroups limit) ≡ option_map cause_of_whole (cond room None (Some (whole_refusal.TooManyGroups limit)))
whole-room true limit = refl
whole-room false limit = refl

whole-causes : (s : Session) → IsSession s → first_cause (too_many_groups s ∷ []) ≡ option_map cause_of_whole (whole_refusal_of s.cross)
whole-causes s is = one-cause (too_many_groups s) ∙ session-room s is ∙ whole-room (has_room_for_group s.cross) s.cross.limits.groups

-- what a new name of a whole does, by the cause that holds after that
new-whole : (files : Files) (s : Session) (name : Name) (reducer : ReducerWords) (why : Option Refusal) → named s.wholes name ≡ None
    → first_cause (reducer_causes s.cross.columns reducer ++ too_many_groups s ∷ []) ≡ why
    → outcome_of files s (form.Whole name reducer) ≡ unless_refused why (with_whole s name (reducer_of s.cross.columns reducer)) plain
new-whole files s name reducer why absent is =
    let free : is_some (named s.wholes name) ≡ false = ap is_some absent in
    rw free (ap (λ (held : Option Refusal). unless_refused held (with_whole s name (reducer_of s.cross.columns reducer)) plain) is)

-- its reducer does not fit
pub whole-reducer-outcome : (files : Files) (s : Session) (name : Name) (reducer : ReducerWords) (why : Refusal) → named s.wholes name ≡ None → first_cause (reducer_causes s.cross.columns reducer) ≡ Some why
    → outcome_of files s (form.Whole name reducer) ≡ refused why
whole-reducer-outcome files s name reducer why absent told =
    new-whole files s name reducer (Some why) absent (first-here (reducer_causes s.cross.columns reducer) (too_many_groups s ∷ []) why told)

-- or it does, and the crossfilter decides
pub whole-outcome : (files : Files) (s : Session) (name : Name) (reducer : ReducerWords) (why : Option WholeRefusal) → IsSession s → named s.wholes name ≡ None
    → first_cause (reducer_causes s.cross.columns reducer) ≡ None → whole_refusal_of s.cross ≡ why
    → outcome_of files s (form.Whole name reducer) ≡ unless_refused (option_map cause_of_whole why) (with_whole s name (reducer_of s.cross.columns reducer)) plain
whole-outcome files s name reducer why is absent suits told =
    new-whole files s name reducer (option_map cause_of_whole why) absent
    (first-later (reducer_causes s.cross.columns reducer) (too_many_groups s ∷ []) suits ∙ whole-causes s is ∙ ap (option_map cause_of_whole) told)

-- ---- a dimension

-- no group is of a dimension that is not there
groups-apart : (ids : List ℕ) (id : ℕ) (groups : List StockGroup) → is_taken ids id ≡ false → AllByRecursion (λ group. is_taken ids group.dimension ≡ true) groups → filter (λ group. not (group.dimension == id)) groups ≡ groups
groups-apart ids id [] free live = refl
groups-apart ids id (group ∷ groups) free live =
    let rest : List StockGroup = filter (λ other. not (other.dimension == id)) groups in
    let other : (id == group.dimension) ≡ false = apart id group.dimension ids free live.0 in
    let one : (group.dimension == id) ≡ false = grind (arith, nat_tests, other) in
    ap (λ b. cond (not b) (group ∷ rest) rest) one ∙ ap (λ later. group ∷ later) (groups-apart ids id groups free live.1)

pub dimension-undone : (state : StockState) (id : ℕ) (accessor : StockAccessor) → IsFreeId (dimension_ids state.dimensions) id
    → AllByRecursion (λ group. is_taken (dimension_ids state.dimensions) group.dimension ≡ true) state.groups → change.without_dimension (change.with_dimension state id accessor) id ≡ state
dimension-undone state id accessor is live =
    let one : LiveDimension StockAccessor StockPredicate = record { id = id; accessor = accessor; filter = All } in
    ap (λ (dimensions : List (LiveDimension StockAccessor StockPredicate)). record state { dimensions = dimensions; groups = filter (λ (group : StockGroup). not (group.dimension == id)) state.groups })
    (come-and-gone (λ (own : LiveDimension StockAccessor StockPredicate). own.id) state.dimensions one is.free)
    ∙ ap (λ (groups : List StockGroup). record state { groups = groups }) (groups-apart (dimension_ids state.dimensions) id state.groups is.free live)

pub dimension-added : (s : Session) (name : Name) (accessor : StockAccessor) (id : DimensionId) (form : KeyForm) → IsFreeId (dimension_ids s.cross.dimensions) id.0 → form ≡ form_of accessor
    → record s { cross = change.with_dimension s.cross id.0 accessor; dimensions = s.dimensions ++ (name, record { id = id; form = form }) ∷ [] } ≡ with_dimension s name accessor
dimension-added s name accessor id form is same =
    let made : ℕ → KeyForm → Session = λ own written. record s { cross = change.with_dimension s.cross own accessor; dimensions = s.dimensions ++ (name, record { id = record { 0 = own }; form = written }) ∷ [] } in
    ap (λ (own : ℕ). made own form) (free-is (dimension_ids s.cross.dimensions) id.0 is) ∙ ap (made (free_id (dimension_ids s.cross.dimensions))) same

pub kept-with-dimension : (s : Session) (name : Name) (accessor : StockAccessor) (id : DimensionId) (form : KeyForm) → IsSession s → named s.dimensions name ≡ None → form ≡ form_of accessor
    → IsSession (record s { cross = change.with_dimension s.cross id.0 accessor; dimensions = s.dimensions ++ (name, record { id = id; form = form }) ∷ [] })
kept-with-dimension s name accessor id form is absent same = record {
  dimensions = named-push (λ (own : Naming). own) naming_for (λ (own : Naming). own.id.0) s.dimensions s.cross.dimensions name (record { id = id; form = form }) (record { id = id.0; accessor = accessor; filter = All }) is.dimensions
      (ap (λ (written : KeyForm). record { id = id; form = written }) same);
  groups = is.groups;
  wholes = is.wholes;
  distinct = distinct-names-push s.dimensions name (record { id = id; form = form }) is.distinct (absent-among s.dimensions name absent);
  distinct_groups = is.distinct_groups;
  distinct_wholes = is.distinct_wholes;
}

-- the crossfilter refuses a dimension for what the session does
causes-same : (full over : Bool) (dimensions have more entries : ℕ)
    → first_cause (where_so full (refusal.TooManyDimensions dimensions) ∷ where_so over (refusal.TooManyEntries have more entries) ∷ [])
    ≡ option_map cause_of_dimension (cond full (Some (cause.TooManyDimensions dimensions)) (cond over (Some (cause.TooManyEntries have more entries)) None))
causes-same true over dimensions have more entries = refl
causes-same false true dimensions have more entries = refl
causes-same false false dimensions have more entries = refl

session-causes : (s : Session) (accessor : StockAccessor) → IsSession s
    → first_cause (too_many_dimensions s ∷ too_many_entries s (entries_by keys_of_row s.cross.rows accessor) ∷ []) ≡ option_map cause_of_dimension (dimension_refusal_of keys_of_row s.cross accessor)
session-causes s accessor is =
    let as_many : length s.dimensions ≡ length s.cross.dimensions = sym (length-map s.dimensions (λ (entry : Name × Naming). entry.1)) ∙ ap length is.dimensions ∙ length-map s.cross.dimensions naming_for in
    rw as_many (causes-same (nat_le s.cross.limits.dimensions (length s.cross.dimensions))
    (nat_lt s.cross.limits.entries (entry_count keys_of_row s.cross s.cross.rows + entries_by keys_of_row s.cross.rows accessor))
    s.cross.limits.dimensions (entry_count keys_of_row s.cross s.cross.rows) (entries_by keys_of_row s.cross.rows accessor) s.cross.limits.entries)

-- what a new name does, by the cause that holds after that
new-name : (files : Files) (s : Session) (name : Name) (words : AccessorWords) (why : Option Refusal) → named s.dimensions name ≡ None
    → first_cause (accessor_causes s.cross.columns words ++ too_many_dimensions s ∷ too_many_entries s (entries_by keys_of_row s.cross.rows (accessor_of s.cross.columns words)) ∷ []) ≡ why
    → outcome_of files s (form.Dimension name words) ≡ unless_refused why (with_dimension s name (accessor_of s.cross.columns words)) plain
new-name files s name words why absent is =
    let free : is_some (named s.dimensions name) ≡ false = ap is_some absent in
    rw free (ap (λ (held : Option Refusal). unless_refused held (with_dimension s name (accessor_of s.cross.columns words)) plain) is)

pub accessor-outcome : (files : Files) (s : Session) (name : Name) (words : AccessorWords) (why : Refusal) → named s.dimensions name ≡ None
    → first_cause (accessor_causes s.cross.columns words) ≡ Some why → outcome_of files s (form.Dimension name words) ≡ refused why
accessor-outcome files s name words why absent told =
    new-name files s name words (Some why) absent (first-here (accessor_causes s.cross.columns words) (too_many_dimensions s ∷ too_many_entries s (entries_by keys_of_row s.cross.rows (accessor_of s.cross.columns words)) ∷ []) why told)

pub dimension-outcome : (files : Files) (s : Session) (name : Name) (words : AccessorWords) (why : Option DimensionRefusal) → IsSession s → named s.dimensions name ≡ None
    → first_cause (accessor_causes s.cross.columns words) ≡ None → dimension_refusal_of keys_of_row s.cross (accessor_of s.cross.columns words) ≡ why
    → outcome_of files s (form.Dimension name words) ≡ unless_refused (option_map cause_of_dimension why) (with_dimension s name (accessor_of s.cross.columns words)) plain
dimension-outcome files s name words why is absent fits told =
    new-name files s name words (option_map cause_of_dimension why) absent
    (first-later (accessor_causes s.cross.columns words) (too_many_dimensions s ∷ too_many_entries s (entries_by keys_of_row s.cross.rows (accessor_of s.cross.columns words)) ∷ []) fits
    ∙ session-causes s (accessor_of s.cross.columns words) is ∙ ap (option_map cause_of_dimension) told)

pub none-mapped : {A B : Type 0} (f : A → B) (found : Option A) → is_some (option_map f found) ≡ false → found ≡ None
none-mapped f None none = refl
none-mapped f (Some value) none = absurd cc

-- what a refused dimension does
pub does-refused : (outcome : Outcome) (s new : Session) (why : DimensionRefusal) (told : Option DimensionRefusal) (result : Result Reply OutOfMemory) → IfOk result (λ told_reply. told_reply ≡ reply.Refused (cause_of_dimension why)) → OnOk result (why ≡ cause.OutOfMemory → ⊥)
    → (why ≡ cause.OutOfMemory) ⊎ (told ≡ Some why) → (told ≡ Some why → outcome ≡ refused (cause_of_dimension why)) → new ≡ s → Does outcome s new result
does-refused outcome s new why told (Ok answer) is memory (inl wanting) does same = absurd (memory wanting)
does-refused outcome s new why told (Ok answer) is memory (inr holds) does same = (is ∙ ap reply_of (sym (does holds)), same ∙ ap (state_after s) (sym (does holds)))
does-refused outcome s new why told (Err error) is memory cause_holds does same = same
