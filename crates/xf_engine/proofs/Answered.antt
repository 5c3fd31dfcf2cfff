-- What a state answers about an id, and what stays where none is live.
use Rattle.std.proofs.Common.{◌≡◌, ℕ, ◌+◌, ◌<◌, ◌≤◌, ◌==◌, Bool, true, false, not, cond, is_some, List, [], ◌∷◌, Option, Some, None, length, refl, sym, ap, ◌∙◌, arith}
use Rattle.std.proofs.lemmas.Bool.Decides.{nat_tests}
use Rattle.std.specs.List.{AllByRecursion, filter, find, position}
use Rattle.xf_base.specs.declared.key.Key.{Key}
use Rattle.xf_base.specs.declared.kind.KeyKind.{KeyKind}
use Rattle.xf_engine.specs.Changes.{with_order, without_dimension, without_group, without_whole}
use Rattle.xf_engine.specs.Refusals.{filter_refusal_for, filter_refusal_of, group_refusal_of, has_room_for_group, whole_refusal_of, wrong_kind}
use Rattle.xf_engine.specs.State.{LiveDimension, LiveGroup, LiveWhole, State, dimension_ids, dimension_named, dimension_place, group_place, has_id, is_taken, whole_place}
use Rattle.xf_engine.specs.declared.filter_refusal.FilterRefusal.TheVariants as refusal
use Rattle.xf_engine.specs.declared.group_refusal.GroupRefusal.TheVariants as group
use Rattle.xf_engine.specs.declared.whole_refusal.WholeRefusal.TheVariants as whole
use Rattle.xf_filter.specs.Filter.{filter_keys, first_other}
use Rattle.xf_filter.specs.declared.filter.Filter.{Filter}
use Rattle.xf_engine.proofs.ById.{apart, filter-free, map-free}
use Rattle.xf_engine.proofs.FreeId.{free-unplaced}
use Rattle.xf_engine.proofs.Named.{find-placed, find-unplaced}

-- none where it is not some
none-of : {X : Type 0} (x : Option X) → is_some x ≡ false → x ≡ None
none-of None e = refl
none-of (Some x) e = absurd cc

-- what has a place is found
some-found : {X : Type 0} (p : X → Bool) (xs : List X) → is_some (position p xs) ≡ true → is_some (find p xs) ≡ true
some-found p [] some = absurd cc
some-found p (x ∷ xs) some = go (position p (x ∷ xs)) refl some
  where
    go : (at : Option ℕ) → position p (x ∷ xs) ≡ at → is_some at ≡ true → is_some (find p (x ∷ xs)) ≡ true
    go None e t = absurd cc
    go (Some place) e t = ap is_some (find-placed p (x ∷ xs) place x e)

-- whether there is room for a group or a whole
room-left : {A G P R : Type 0} (state : State A G P R) → length state.groups + length state.wholes < state.limits.groups → has_room_for_group state ≡ true
room-left state room = grind (arith, nat_tests, room)

no-room : {A G P R : Type 0} (state : State A G P R) → state.limits.groups ≤ length state.groups + length state.wholes → has_room_for_group state ≡ false
no-room state full = grind (arith, nat_tests, full)

-- a group is refused where its dimension is not live, or where there are too many groups and wholes
pub refused-no_dimension : {A G P R : Type 0} (state : State A G P R) (id : ℕ) → is_some (dimension_place state id) ≡ false → group_refusal_of state id ≡ Some (group.NoDimension id)
refused-no_dimension state id none =
    ap (λ found. cond (is_some found) (cond (has_room_for_group state) None (Some (group.TooManyGroups state.limits.groups))) (Some (group.NoDimension id)))
    (find-unplaced (has_id id) state.dimensions (none-of (dimension_place state id) none))

pub refused-groups : {A G P R : Type 0} (state : State A G P R) (id : ℕ) → is_some (dimension_place state id) ≡ true → state.limits.groups ≤ length state.groups + length state.wholes → group_refusal_of state id ≡ Some (group.TooManyGroups state.limits.groups)
refused-groups state id some full =
    ap (λ b. cond b (cond (has_room_for_group state) None (Some (group.TooManyGroups state.limits.groups))) (Some (group.NoDimension id))) (some-found (has_id id) state.dimensions some)
    ∙ ap (λ b. cond b None (Some (group.TooManyGroups state.limits.groups))) (no-room state full)

pub accepted-group : {A G P R : Type 0} (state : State A G P R) (id : ℕ) → is_some (dimension_place state id) ≡ true → length state.groups + length state.wholes < state.limits.groups → group_refusal_of state id ≡ None
accepted-group state id some room =
    ap (λ b. cond b (cond (has_room_for_group state) None (Some (group.TooManyGroups state.limits.groups))) (Some (group.NoDimension id))) (some-found (has_id id) state.dimensions some)
    ∙ ap (λ b. cond b None (Some (group.TooManyGroups state.limits.groups))) (room-left state room)

-- a whole is refused where there are too many groups and wholes
pub refused-wholes : {A G P R : Type 0} (state : State A G P R) → state.limits.groups ≤ length state.groups + length state.wholes → whole_refusal_of state ≡ Some (whole.TooManyGroups state.limits.groups)
refused-wholes state full = ap (λ b. cond b None (Some (whole.TooManyGroups state.limits.groups))) (no-room state full)

pub accepted-whole : {A G P R : Type 0} (state : State A G P R) → length state.groups + length state.wholes < state.limits.groups → whole_refusal_of state ≡ None
accepted-whole state room = ap (λ b. cond b None (Some (whole.TooManyGroups state.limits.groups))) (room-left state room)

-- a filter is refused where its dimension is not live, and where a key of it is of another kind
pub refused-unplaced : {A G P R : Type 0} (kind_of : A → KeyKind) (keys_in : P → List Key) (state : State A G P R) (id : ℕ) (new : Filter P) → dimension_place state id ≡ None → filter_refusal_of kind_of keys_in state id new ≡ Some (refusal.NoDimension id)
refused-unplaced kind_of keys_in state id new none = ap (filter_refusal_for kind_of keys_in id new) (find-unplaced (has_id id) state.dimensions none)

pub refused-kind : {A G P R : Type 0} (kind_of : A → KeyKind) (keys_in : P → List Key) (state : State A G P R) (id : ℕ) (new : Filter P) (live : LiveDimension A P) (wanted given : KeyKind) → dimension_named state id ≡ Some live → wanted ≡ kind_of live.accessor → first_other wanted (filter_keys keys_in new) ≡ Some given → filter_refusal_of kind_of keys_in state id new ≡ Some (refusal.WrongKind wanted given)
refused-kind kind_of keys_in state id new live wanted given named kind other =
    ap (filter_refusal_for kind_of keys_in id new) named
    ∙ ap (λ own. wrong_kind own (first_other own (filter_keys keys_in new))) (sym kind)
    ∙ ap (wrong_kind wanted) other

pub accepted-filter : {A G P R : Type 0} (kind_of : A → KeyKind) (keys_in : P → List Key) (state : State A G P R) (id : ℕ) (new : Filter P) (live : LiveDimension A P) → dimension_named state id ≡ Some live → first_other (kind_of live.accessor) (filter_keys keys_in new) ≡ None → filter_refusal_of kind_of keys_in state id new ≡ None
accepted-filter kind_of keys_in state id new live named none =
    ap (filter_refusal_for kind_of keys_in id new) named ∙ ap (wrong_kind (kind_of live.accessor)) none

no-other : (wanted : KeyKind) (given : Option KeyKind) → wrong_kind wanted given ≡ None → given ≡ None
no-other wanted None none = refl
no-other wanted (Some given) none = absurd cc

-- the keys of a filter that is not refused are of the dimension's kind
pub fits-accepted : {A G P R : Type 0} (kind_of : A → KeyKind) (keys_in : P → List Key) (state : State A G P R) (id : ℕ) (new : Filter P) (live : LiveDimension A P) → dimension_named state id ≡ Some live → filter_refusal_of kind_of keys_in state id new ≡ None → first_other (kind_of live.accessor) (filter_keys keys_in new) ≡ None
fits-accepted kind_of keys_in state id new live named accepted =
    no-other (kind_of live.accessor) (first_other (kind_of live.accessor) (filter_keys keys_in new)) (sym (ap (filter_refusal_for kind_of keys_in id new) named) ∙ accepted)

-- nothing changes where nothing has the id
pub no-group : {A G P R : Type 0} (state : State A G P R) (id : ℕ) → group_place state id ≡ None → state ≡ without_group state id
no-group {A} {G} {P} {R} state id none =
    ap (λ groups. record state { groups = groups }) (sym (filter-free (λ (g : LiveGroup G R). g.id) id state.groups (free-unplaced (λ (g : LiveGroup G R). g.id) id state.groups none)))

pub no-order : {A G P R : Type 0} (state : State A G P R) (id field : ℕ) → group_place state id ≡ None → state ≡ with_order state id field
no-order {A} {G} {P} {R} state id field none =
    ap (λ groups. record state { groups = groups })
    (sym (map-free (λ (g : LiveGroup G R). g.id) (λ (g : LiveGroup G R). record g { field = field }) id state.groups (free-unplaced (λ (g : LiveGroup G R). g.id) id state.groups none)))

pub no-whole : {A G P R : Type 0} (state : State A G P R) (id : ℕ) → whole_place state id ≡ None → state ≡ without_whole state id
no-whole {A} {G} {P} {R} state id none =
    ap (λ wholes. record state { wholes = wholes }) (sym (filter-free (λ (w : LiveWhole R). w.id) id state.wholes (free-unplaced (λ (w : LiveWhole R). w.id) id state.wholes none)))

flip : (a b : ℕ) → (a == b) ≡ false → (b == a) ≡ false
flip a b e = grind (arith, nat_tests, e)

-- no group is of a dimension that is not live
no-groups : {G R : Type 0} (ids : List ℕ) (id : ℕ) (groups : List (LiveGroup G R)) → is_taken ids id ≡ false → AllByRecursion (λ group. is_taken ids group.dimension ≡ true) groups → filter (λ group. not (group.dimension == id)) groups ≡ groups
no-groups ids id [] free live = refl
no-groups {G} {R} ids id (group ∷ groups) free live =
    let other : (group.dimension == id) ≡ false = flip id group.dimension (apart id group.dimension ids free live.0) in
    let rest : List (LiveGroup G R) = filter (λ (g : LiveGroup G R). not (g.dimension == id)) groups in
    ap (λ b. cond (not b) (group ∷ rest) rest) other ∙ ap (λ gs. group ∷ gs) (no-groups ids id groups free live.1)

pub no-dimension : {A G P R : Type 0} (state : State A G P R) (id : ℕ) → AllByRecursion (λ (group : LiveGroup G R). is_taken (dimension_ids state.dimensions) group.dimension ≡ true) state.groups → dimension_place state id ≡ None → state ≡ without_dimension state id
no-dimension {A} {G} {P} {R} state id live none =
    let free : is_taken (dimension_ids state.dimensions) id ≡ false = free-unplaced (λ (d : LiveDimension A P). d.id) id state.dimensions none in
    ap (λ dimensions. record state { dimensions = dimensions }) (sym (filter-free (λ (d : LiveDimension A P). d.id) id state.dimensions free))
    ∙ ap (λ groups. record (without_dimension state id) { groups = groups }) (sym (no-groups (dimension_ids state.dimensions) id state.groups free live))
