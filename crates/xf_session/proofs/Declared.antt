-- A session that begins on a board: what it has after each dimension, group and whole, and that the next is not refused.
use Rattle.std.proofs.Common.{◌≡◌, ◌⊎◌, ℕ, zero, suc, ◌+◌, ◌<◌, ◌≤◌, nat_le, nat_lt, Bool, true, false, cond, ◌&&◌, ◌||◌, List, [], ◌∷◌, ◌++◌, length, map, sum_by, find, fold, take, get_or, Option, Some, None, is_none, is_some, option_map, refl, sym, ap, subst, ◌∙◌, arith, append-nil, append_assoc, length-append}
use Rattle.std.proofs.lemmas.Bool.Decides.{nat_tests}
use Rattle.std.proofs.lemmas.Cmp.{nat_list_eq_equiv}
use Rattle.std.proofs.lemmas.List.{length-map, length-take, map-append, take_all}
use Rattle.std.proofs.lemmas.List.Sums.{fold_more}
use Rattle.std.proofs.lemmas.Map.Made.{is_some-lookup}
use Rattle.std.specs.List.{list_any}
use Rattle.std.specs.Str.{bytes_eq}
use Rattle.xf_access.specs.Stock.{fits_columns, form_of, keys_of_row}
use Rattle.xf_access.specs.declared.stock_rounding.StockRounding.{StockRounding}
use Rattle.xf_base.specs.Bounds.{Bounds}
use Rattle.xf_base.specs.declared.form.KeyForm.{KeyForm}
use Rattle.xf_board.specs.Board.{AllAfter, BoardParts, IsBoard, IsNewDimension, IsNewGroup, IsNewWhole, dimension_named, form_named, group_named, is_within, rounds, whole_named}
use Rattle.xf_board.specs.declared.parts.DimensionSpec.{DimensionSpec}
use Rattle.xf_board.specs.declared.parts.GroupSpec.{GroupSpec}
use Rattle.xf_board.specs.declared.parts.WholeSpec.{WholeSpec}
use Rattle.xf_engine.specs.Refusals.{dimension_refusal_of, group_refusal_of, has_room_for_group, whole_refusal_of}
use Rattle.xf_engine.specs.State.{entries_by, entry_count, group_ids, whole_ids}
use Rattle.xf_engine.specs.declared.dimension_refusal.DimensionRefusal.{DimensionRefusal}
use Rattle.xf_engine.specs.declared.group_refusal.GroupRefusal.{GroupRefusal}
use Rattle.xf_engine.specs.declared.group_refusal.GroupRefusal.TheVariants as group_refusal
use Rattle.xf_model.specs.Replay.{state_after}
use Rattle.xf_reduce.specs.StockReducer.{stock_fits}
use Rattle.xf_reply.specs.declared.refusal.Refusal.{Refusal}
use Rattle.xf_session.proofs.Named.{StockDimension}
use Rattle.xf_session.specs.Command.{first_cause, unless_refused, with_dimension, with_group, with_whole}
use Rattle.xf_session.specs.Outcome.{Answer}
use Rattle.xf_session.specs.Start.{bare_session, board_session, declare_dimension, declare_group, declare_whole, in_order, with_dimensions, with_groups, with_wholes}
use Rattle.xf_session.specs.State.{IsSession, Name, Session, named, names_in}

-- ---- what it has after some of each

abbrev dimension_names : List DimensionSpec → List Name
dimension_names = map (λ dimension. dimension.name)

abbrev group_names : List GroupSpec → List Name
group_names = map (λ group. group.name)

abbrev whole_names : List WholeSpec → List Name
whole_names = map (λ whole. whole.name)

-- a session on a board without records, with these dimensions, groups and wholes
pub record StandsAt (bounds : Bounds) (begun : BoardParts) (of_dimensions : List DimensionSpec) (of_groups : List GroupSpec) (of_wholes : List WholeSpec) (s : Session) : Type 0 where
  pub board : s.board ≡ begun
  pub columns : s.cross.columns ≡ begun.columns
  pub limits : s.cross.limits ≡ bounds
  pub rows : s.cross.rows ≡ []
  pub dimensions : names_in s.dimensions ≡ dimension_names of_dimensions
  pub groups : names_in s.groups ≡ group_names of_groups
  pub wholes : names_in s.wholes ≡ whole_names of_wholes

-- one name more
names-more : {A X : Type 0} (name_of : X → Name) (entries : List (Name × A)) (value : A) (done : List X) (x : X) → names_in entries ≡ map name_of done
    → names_in (entries ++ (name_of x, value) ∷ []) ≡ map name_of (done ++ x ∷ [])
names-more {A} name_of entries value done x is =
    map-append (λ (entry : Name × A). entry.0) entries ((name_of x, value) ∷ [])
    ∙ ap (λ names. names ++ name_of x ∷ []) is
    ∙ sym (map-append name_of done (x ∷ []))

-- a command that is accepted with some state, or refused, leaves what that state and the old one have
pub either-way : (P : Session → Type 0) (old new : Session) (answer : Answer) (cause : Option Refusal) → P old → P new → P (state_after old (unless_refused cause new answer))
either-way P old new answer None before after = after
either-way P old new answer (Some cause) before after = before

-- an order changes nothing of this
order-stands : (limits : Bounds) (board : BoardParts) (dimensions : List DimensionSpec) (groups : List GroupSpec) (wholes : List WholeSpec) (s : Session) (name : Name) (field : ℕ)
    → StandsAt limits board dimensions groups wholes s → StandsAt limits board dimensions groups wholes (in_order s name field)
order-stands limits board dimensions groups wholes s name field is =
    either-way (StandsAt limits board dimensions groups wholes) s _ _ _ is (record {
      board = is.board;
      columns = is.columns;
      limits = is.limits;
      rows = is.rows;
      dimensions = is.dimensions;
      groups = is.groups;
      wholes = is.wholes;
    })

-- what each step keeps holds after all
fold-keeps : {S X : Type 0} (step : S → X → S) (P : List X → S → Type 0) → ((before : List X) (x : X) (s : S) → P before s → P (before ++ x ∷ []) (step s x))
    → (s : S) (before rest : List X) → P before s → P (before ++ rest) (fold step s rest)
fold-keeps step P keeps s before [] holds = subst (λ xs. P xs s) (sym (append-nil before)) holds
fold-keeps step P keeps s before (x ∷ rest) holds =
    subst (λ xs. P xs (fold step (step s x) rest)) (append_assoc before (x ∷ []) rest) (fold-keeps step P keeps (step s x) (before ++ x ∷ []) rest (keeps before x s holds))

pub bare-stands : (limits : Bounds) (board : BoardParts) → StandsAt limits board [] [] [] (bare_session limits board)
bare-stands limits board = record { board = refl; columns = refl; limits = refl; rows = refl; dimensions = refl; groups = refl; wholes = refl }

pub dimensions-stand : (limits : Bounds) (board : BoardParts) (dimensions : List DimensionSpec) → StandsAt limits board dimensions [] [] (with_dimensions limits board dimensions)
dimensions-stand limits board dimensions =
    fold-keeps declare_dimension (λ done s. StandsAt limits board done [] [] s)
    (λ done dimension s is. record {
      board = is.board;
      columns = is.columns;
      limits = is.limits;
      rows = is.rows;
      dimensions = names-more (λ (d : DimensionSpec). d.name) s.dimensions _ done dimension is.dimensions;
      groups = is.groups;
      wholes = is.wholes;
    })
    (bare_session limits board) [] dimensions (bare-stands limits board)

pub groups-stand : (limits : Bounds) (board : BoardParts) (groups : List GroupSpec) → StandsAt limits board board.dimensions groups [] (with_groups limits board groups)
groups-stand limits board groups =
    fold-keeps declare_group (λ done s. StandsAt limits board board.dimensions done [] s)
    (λ done group s is. order-stands limits board board.dimensions (done ++ group ∷ []) [] (with_group s group.name group.of group.round group.reduce) group.name group.order (record {
      board = is.board;
      columns = is.columns;
      limits = is.limits;
      rows = is.rows;
      dimensions = is.dimensions;
      groups = names-more (λ (g : GroupSpec). g.name) s.groups _ done group is.groups;
      wholes = is.wholes;
    }))
    (with_dimensions limits board board.dimensions) [] groups (dimensions-stand limits board board.dimensions)

pub wholes-stand : (limits : Bounds) (board : BoardParts) (wholes : List WholeSpec) → StandsAt limits board board.dimensions board.groups wholes (with_wholes limits board wholes)
wholes-stand limits board wholes =
    fold-keeps declare_whole (λ done s. StandsAt limits board board.dimensions board.groups done s)
    (λ done whole s is. record {
      board = is.board;
      columns = is.columns;
      limits = is.limits;
      rows = is.rows;
      dimensions = is.dimensions;
      groups = is.groups;
      wholes = names-more (λ (w : WholeSpec). w.name) s.wholes _ done whole is.wholes;
    })
    (with_groups limits board board.groups) [] wholes (groups-stand limits board board.groups)

-- ---- the next of each

-- what each part keeps beside those before it, at a place
after-at : {A : Type 0} (Keeps : List A → A → Type 0) (before xs : List A) (place : ℕ) (d : A) → place < length xs → AllAfter Keeps before xs → Keeps (before ++ take place xs) (get_or xs place d)
after-at Keeps before [] place d within all = absurd (omega (arith, within))
after-at Keeps before (x ∷ xs) zero d within all = subst (λ ys. Keeps ys x) (sym (append-nil before)) all.0
after-at Keeps before (x ∷ xs) (suc place) d within all =
    subst (λ ys. Keeps ys (get_or xs place d)) (append_assoc before (x ∷ []) (take place xs)) (after-at Keeps (before ++ x ∷ []) xs place d (omega (arith, within)) all.1)

pub part-at : {A : Type 0} (Keeps : List A → A → Type 0) (xs : List A) (place : ℕ) (d : A) → place < length xs → AllAfter Keeps [] xs → Keeps (take place xs) (get_or xs place d)
part-at Keeps xs place d within all = after-at Keeps [] xs place d within all

split-found : {X : Type 0} (b : Bool) (x : X) (later : Option X) (rest : Bool) → is_some later ≡ rest → is_some (cond b (Some x) later) ≡ (b || rest)
split-found true x later rest is = refl
split-found false x later rest is = is

-- a part is found by its name exactly where its name is among the names
pub found-any : {X : Type 0} (name_of : X → Name) (xs : List X) (name : Name) → is_some (find (λ x. bytes_eq (name_of x) name) xs) ≡ list_any (bytes_eq name) (map name_of xs)
found-any name_of [] name = refl
found-any name_of (x ∷ xs) name =
    rw (nat_list_eq_equiv.symm name (name_of x))
    (split-found (bytes_eq (name_of x) name) x (find (λ y. bytes_eq (name_of y) name) xs) (list_any (bytes_eq name) (map name_of xs)) (found-any name_of xs name))

-- what stands for a name, where that name is found among parts of the same names, or is not
same-found : {A X : Type 0} (name_of : X → Name) (entries : List (Name × A)) (xs : List X) (name : Name) → names_in entries ≡ map name_of xs → is_some (named entries name) ≡ is_some (find (λ x. bytes_eq (name_of x) name) xs)
same-found name_of entries xs name are = is_some-lookup (bytes_eq name) entries ∙ ap (list_any (bytes_eq name)) are ∙ sym (found-any name_of xs name)

none-of : {A : Type 0} (o : Option A) → is_some o ≡ false → o ≡ None
none-of None e = refl
none-of (Some x) e = cc e

pub not-yet : {A X : Type 0} (name_of : X → Name) (entries : List (Name × A)) (xs : List X) (name : Name) → names_in entries ≡ map name_of xs
    → is_some (find (λ x. bytes_eq (name_of x) name) xs) ≡ false → named entries name ≡ None
not-yet name_of entries xs name are new = none-of (named entries name) (same-found name_of entries xs name are ∙ new)

-- names in the order of parts are as many
count-names : {A X : Type 0} (name_of : X → Name) (entries : List (Name × A)) (xs : List X) → names_in entries ≡ map name_of xs → length entries ≡ length xs
count-names {A} name_of entries xs are =
    sym (length-map entries (λ (entry : Name × A). entry.0)) ∙ ap length are ∙ length-map xs name_of

-- a session has a name for each dimension, group and whole
lengths-dimensions : (s : Session) → IsSession s → length s.cross.dimensions ≡ length s.dimensions
lengths-dimensions s is = sym (length-map s.cross.dimensions _) ∙ sym (ap length is.dimensions) ∙ length-map s.dimensions _

lengths-groups : (s : Session) → IsSession s → length s.cross.groups ≡ length s.groups
lengths-groups s is = sym (length-map s.cross.groups _) ∙ sym (ap length is.groups) ∙ length-map s.groups _

lengths-wholes : (s : Session) → IsSession s → length s.cross.wholes ≡ length s.wholes
lengths-wholes s is = sym (length-map s.cross.wholes _) ∙ sym (ap length is.wholes) ∙ length-map s.wholes _

-- limits have room
record HasRoom (board : BoardParts) (limits : Bounds) : Type 0 where
  dimensions : length board.dimensions ≤ limits.dimensions
  groups : length board.groups + length board.wholes ≤ limits.groups

room-of : (board : BoardParts) (limits : Bounds) → is_within board limits ≡ true → HasRoom board limits
room-of board limits within = record { dimensions = grind (arith, nat_tests, within); groups = grind (arith, nat_tests, within) }

-- no rows have no entries
no-entries : (dimensions : List StockDimension) → sum_by (λ (live : StockDimension). entries_by keys_of_row [] live.accessor) dimensions ≡ 0
no-entries [] = refl
no-entries (live ∷ dimensions) = no-entries dimensions

-- the next dimension is not refused
pub dimension-fits : (limits : Bounds) (board : BoardParts) (place : ℕ) (d : DimensionSpec) (s : Session) → IsSession s → is_within board limits ≡ true → place < length board.dimensions
    → StandsAt limits board (take place board.dimensions) [] [] s → dimension_refusal_of keys_of_row s.cross (get_or board.dimensions place d).from ≡ None
dimension-fits limits board place d s sound within inside is =
    let room = room-of board limits within in
    let count : length s.cross.dimensions ≡ place =
    lengths-dimensions s sound ∙ count-names (λ (own : DimensionSpec). own.name) s.dimensions (take place board.dimensions) is.dimensions ∙ (omega (arith, length-take place board.dimensions, inside)) in
    let few : nat_le s.cross.limits.dimensions (length s.cross.dimensions) ≡ false = rw (is.limits, count) (grind (arith, nat_tests, room.dimensions, inside)) in
    let none = no-entries s.cross.dimensions in
    let entries : nat_lt s.cross.limits.entries (entry_count keys_of_row s.cross s.cross.rows + entries_by keys_of_row s.cross.rows (get_or board.dimensions place d).from) ≡ false =
    rw is.rows (grind (arith, nat_tests, none)) in
    rw (few, entries) refl

-- nor is the next group or whole for want of room
pub group-fits : (limits : Bounds) (board : BoardParts) (place : ℕ) (s : Session) → IsSession s → is_within board limits ≡ true → place < length board.groups
    → StandsAt limits board board.dimensions (take place board.groups) [] s → has_room_for_group s.cross ≡ true
group-fits limits board place s sound within inside is =
    let room = room-of board limits within in
    let groups : length s.cross.groups ≡ place =
    lengths-groups s sound ∙ count-names (λ (own : GroupSpec). own.name) s.groups (take place board.groups) is.groups ∙ (omega (arith, length-take place board.groups, inside)) in
    let wholes : length s.cross.wholes ≡ 0 = lengths-wholes s sound ∙ count-names (λ (own : WholeSpec). own.name) s.wholes [] is.wholes in
    rw (is.limits, groups, wholes) (grind (arith, nat_tests, room.groups, inside))

pub whole-fits : (limits : Bounds) (board : BoardParts) (place : ℕ) (s : Session) → IsSession s → is_within board limits ≡ true → place < length board.wholes
    → StandsAt limits board board.dimensions board.groups (take place board.wholes) s → whole_refusal_of s.cross ≡ None
whole-fits limits board place s sound within inside is =
    let room = room-of board limits within in
    let groups : length s.cross.groups ≡ length board.groups =
    lengths-groups s sound ∙ count-names (λ (own : GroupSpec). own.name) s.groups board.groups is.groups in
    let wholes : length s.cross.wholes ≡ place =
    lengths-wholes s sound ∙ count-names (λ (own : WholeSpec). own.name) s.wholes (take place board.wholes) is.wholes ∙ (omega (arith, length-take place board.wholes, inside)) in
    let some : has_room_for_group s.cross ≡ true = rw (is.limits, groups, wholes) (grind (arith, nat_tests, room.groups, inside)) in
    rw some refl

-- the dimension of a group is declared
pub declared : (limits : Bounds) (board : BoardParts) (groups : List GroupSpec) (rounding : StockRounding) (name : Name) (s : Session) → rounds rounding (form_named board.dimensions name) ≡ true
    → StandsAt limits board board.dimensions groups [] s → is_some (named s.dimensions name) ≡ true
declared limits board groups rounding name s rounded is =
    same-found (λ (own : DimensionSpec). own.name) s.dimensions board.dimensions name is.dimensions ∙ found (dimension_named board.dimensions name) rounded
  where
    found : (o : Option DimensionSpec) → rounds rounding (option_map (λ dimension. form_of dimension.from) o) ≡ true → is_some o ≡ true
    found None e = cc e
    found (Some dimension) e = refl

-- ---- what stands for a copy of the next

pub dimension-new : (limits : Bounds) (board : BoardParts) (place : ℕ) (d : DimensionSpec) (s : Session) → IsBoard board → place < length board.dimensions → StandsAt limits board (take place board.dimensions) [] [] s
    → (named s.dimensions (get_or board.dimensions place d).name ≡ None) × (fits_columns (get_or board.dimensions place d).from s.cross.columns ≡ true)
dimension-new limits board place d s sound inside is =
    let own : IsNewDimension board.columns (take place board.dimensions) (get_or board.dimensions place d) = part-at (IsNewDimension board.columns) board.dimensions place d inside sound.dimensions in
    (not-yet (λ (x : DimensionSpec). x.name) s.dimensions (take place board.dimensions) (get_or board.dimensions place d).name is.dimensions own.new, rw is.columns own.fits)

pub group-new : (limits : Bounds) (board : BoardParts) (place : ℕ) (d : GroupSpec) (s : Session) → IsBoard board → place < length board.groups → StandsAt limits board board.dimensions (take place board.groups) [] s
    → (named s.groups (get_or board.groups place d).name ≡ None) × (stock_fits (get_or board.groups place d).reduce s.cross.columns ≡ true) × (is_some (named s.dimensions (get_or board.groups place d).of) ≡ true)
group-new limits board place d s sound inside is =
    let own : IsNewGroup board.columns board.dimensions (take place board.groups) (get_or board.groups place d) = part-at (IsNewGroup board.columns board.dimensions) board.groups place d inside sound.groups in (
      not-yet (λ (x : GroupSpec). x.name) s.groups (take place board.groups) (get_or board.groups place d).name is.groups own.new,
      rw is.columns own.fits,
      declared limits board (take place board.groups) (get_or board.groups place d).round (get_or board.groups place d).of s own.rounds is,
    )

pub whole-new : (limits : Bounds) (board : BoardParts) (place : ℕ) (d : WholeSpec) (s : Session) → IsBoard board → place < length board.wholes → StandsAt limits board board.dimensions board.groups (take place board.wholes) s
    → (named s.wholes (get_or board.wholes place d).name ≡ None) × (stock_fits (get_or board.wholes place d).reduce s.cross.columns ≡ true)
whole-new limits board place d s sound inside is =
    let own : IsNewWhole board.columns (take place board.wholes) (get_or board.wholes place d) = part-at (IsNewWhole board.columns) board.wholes place d inside sound.wholes in
    (not-yet (λ (x : WholeSpec). x.name) s.wholes (take place board.wholes) (get_or board.wholes place d).name is.wholes own.new, rw is.columns own.fits)

-- with room, no group is one too many
pub room-told : (there room : Bool) (id limit given : ℕ) → room ≡ true → cond there (cond room None (Some (group_refusal.TooManyGroups limit))) (Some (group_refusal.NoDimension id)) ≡ Some (group_refusal.TooManyGroups given) → ⊥
room-told true true id limit given some e = cc e
room-told true false id limit given some e = cc some
room-told false room id limit given some e = cc e
