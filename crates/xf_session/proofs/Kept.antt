-- A session is still one when its crossfilter is changed, with the same dimensions, groups and wholes, and when one of these goes.
use Rattle.std.proofs.Common.{◌≡◌, ℕ, ◌==◌, Bool, true, false, not, cond, List, [], ◌∷◌, map, Some, refl, sym, ap, subst, ◌∙◌}
use Rattle.std.specs.Str.{bytes_eq}
use Rattle.xf_base.specs.declared.cell.Cell.{Cell}
use Rattle.xf_engine.specs.Changes as change
use Rattle.xf_engine.specs.Changes.{refiltered, reordered, unfiltered}
use Rattle.xf_engine.specs.State.{AreDistinct, dimension_ids, group_ids, is_taken, whole_ids}
use Rattle.xf_engine.specs.declared.ids.GroupId.{GroupId}
use Rattle.xf_engine.specs.declared.ids.WholeId.{WholeId}
use Rattle.xf_session.proofs.NameLists.{distinct-names-filter}
use Rattle.xf_session.proofs.Named.{StockDimension, StockGroup, StockWhole}
use Rattle.xf_session.proofs.NamedLive.{left-each, named-left, named-without}
use Rattle.xf_session.specs.Command.{live_groups, with_cross, without_name}
use Rattle.xf_session.specs.State.{IsSession, Name, Session, StockFilter, StockState, named, naming_for}
use Rattle.xf_session.specs.declared.naming.Naming.{Naming}

-- what names stand for is the same in a changed crossfilter
pub record NamesTheSame (old new : StockState) : Type 0 where
  pub dimensions : map naming_for new.dimensions ≡ map naming_for old.dimensions
  pub groups : group_ids new.groups ≡ group_ids old.groups
  pub wholes : whole_ids new.wholes ≡ whole_ids old.wholes

pub kept : (s : Session) (new : StockState) → IsSession s → NamesTheSame s.cross new → IsSession (with_cross s new)
kept s new session same = record {
  dimensions = session.dimensions ∙ sym same.dimensions;
  groups = session.groups ∙ sym same.groups;
  wholes = session.wholes ∙ sym same.wholes;
  distinct = session.distinct;
  distinct_groups = session.distinct_groups;
  distinct_wholes = session.distinct_wholes;
}

-- so it is where the crossfilter is told to be such a one
pub kept_as : (s : Session) (new told : StockState) → new ≡ told → IsSession (with_cross s told) → IsSession (with_cross s new)
kept_as s new told is session = subst (λ cross. IsSession (with_cross s cross)) (sym is) session

-- another filter changes no name
pub refiltered_same : (id : ℕ) (new : StockFilter) (lives : List StockDimension) → map naming_for (map (refiltered id new) lives) ≡ map naming_for lives
refiltered_same id new [] = refl
refiltered_same id new (live ∷ lives) =
    elim (live.id == id) as (λ b. (naming_for (cond b (record live { filter = new }) live) ∷ map naming_for (map (refiltered id new) lives)) ≡ (naming_for live ∷ map naming_for lives)) [
      | true ↦ ap (λ rest. naming_for live ∷ rest) (refiltered_same id new lives)
      | false ↦ ap (λ rest. naming_for live ∷ rest) (refiltered_same id new lives)
    ]

pub unfiltered_same : (lives : List StockDimension) → map naming_for (map unfiltered lives) ≡ map naming_for lives
unfiltered_same [] = refl
unfiltered_same (live ∷ lives) = ap (λ rest. naming_for live ∷ rest) (unfiltered_same lives)

-- so a session stays one where a filter is set, where none is left, and where records go or come
pub kept_with_filter : (s : Session) (id : ℕ) (new : StockFilter) → IsSession s → IsSession (with_cross s (change.with_filter s.cross id new))
kept_with_filter s id new session = kept s (change.with_filter s.cross id new) session (record { dimensions = refiltered_same id new s.cross.dimensions; groups = refl; wholes = refl })

pub kept_without_filters : (s : Session) → IsSession s → IsSession (with_cross s (change.without_filters s.cross))
kept_without_filters s session = kept s (change.without_filters s.cross) session (record { dimensions = unfiltered_same s.cross.dimensions; groups = refl; wholes = refl })

pub kept_without_rows : (s : Session) (gone : List Cell → Bool) → IsSession s → IsSession (with_cross s (change.without_rows gone s.cross))
kept_without_rows s gone session = kept s (change.without_rows gone s.cross) session (record { dimensions = refl; groups = refl; wholes = refl })

-- another order changes no name
reordered_same : (id field : ℕ) (groups : List StockGroup) → group_ids (map (reordered id field) groups) ≡ group_ids groups
reordered_same id field [] = refl
reordered_same id field (group ∷ groups) =
    elim (group.id == id) as (λ b. group_ids (cond b (record group { field = field }) group ∷ map (reordered id field) groups) ≡ group_ids (group ∷ groups)) [
      | true ↦ ap (λ rest. group.id ∷ rest) (reordered_same id field groups)
      | false ↦ ap (λ rest. group.id ∷ rest) (reordered_same id field groups)
    ]

pub kept_with_order : (s : Session) (id field : ℕ) → IsSession s → IsSession (with_cross s (change.with_order s.cross id field))
kept_with_order s id field session = kept s (change.with_order s.cross id field) session (record { dimensions = refl; groups = reordered_same id field s.cross.groups; wholes = refl })

-- ---- what goes

-- without a group
pub kept-without-group : (s : Session) (name : Name) (id : GroupId) → IsSession s → AreDistinct (group_ids s.cross.groups) → named s.groups name ≡ Some id
    → IsSession (record s { cross = change.without_group s.cross id.0; groups = without_name name s.groups })
kept-without-group s name id is distinct stands = record {
  dimensions = is.dimensions;
  wholes = is.wholes;
  groups = named-without (λ (own : GroupId). own.0) (λ (group : StockGroup). group.id) (λ (own : ℕ). own) s.groups s.cross.groups name id is.groups distinct is.distinct_groups stands;
  distinct = is.distinct;
  distinct_groups = distinct-names-filter (λ (entry : Name × GroupId). not (bytes_eq name entry.0)) s.groups is.distinct_groups;
  distinct_wholes = is.distinct_wholes;
}

-- without a whole
pub kept-without-whole : (s : Session) (name : Name) (id : WholeId) → IsSession s → AreDistinct (whole_ids s.cross.wholes) → named s.wholes name ≡ Some id
    → IsSession (record s { cross = change.without_whole s.cross id.0; wholes = without_name name s.wholes })
kept-without-whole s name id is distinct stands = record {
  dimensions = is.dimensions;
  groups = is.groups;
  wholes = named-without (λ (own : WholeId). own.0) (λ (whole : StockWhole). whole.id) (λ (own : ℕ). own) s.wholes s.cross.wholes name id is.wholes distinct is.distinct_wholes stands;
  distinct = is.distinct;
  distinct_groups = is.distinct_groups;
  distinct_wholes = distinct-names-filter (λ (entry : Name × WholeId). not (bytes_eq name entry.0)) s.wholes is.distinct_wholes;
}

-- without a dimension and its groups
pub kept-without-dimension : (s : Session) (name : Name) (naming : Naming) → IsSession s → AreDistinct (dimension_ids s.cross.dimensions) → AreDistinct (group_ids s.cross.groups) → named s.dimensions name ≡ Some naming
    → IsSession (record s {
      cross = change.without_dimension s.cross naming.id.0;
      dimensions = without_name name s.dimensions;
      groups = live_groups (change.without_dimension s.cross naming.id.0) s.groups;
    })
kept-without-dimension s name naming is distinct distinct_groups stands =
    let after : StockState = change.without_dimension s.cross naming.id.0 in
    record {
      dimensions = named-without (λ (own : Naming). own) naming_for (λ (own : Naming). own.id.0) s.dimensions s.cross.dimensions name naming is.dimensions distinct is.distinct stands;
      wholes = is.wholes;
      groups = named-left (λ (own : GroupId). own.0) (λ (group : StockGroup). group.id) (is_taken (group_ids after.groups)) (λ (group : StockGroup). not (group.dimension == naming.id.0)) s.groups s.cross.groups is.groups
          (left-each (λ (group : StockGroup). group.id) (λ (group : StockGroup). not (group.dimension == naming.id.0)) s.cross.groups distinct_groups);
      distinct = distinct-names-filter (λ (entry : Name × Naming). not (bytes_eq name entry.0)) s.dimensions is.distinct;
      distinct_groups = distinct-names-filter (λ (entry : Name × GroupId). is_taken (group_ids after.groups) entry.1.0) s.groups is.distinct_groups;
      distinct_wholes = is.distinct_wholes;
    }
