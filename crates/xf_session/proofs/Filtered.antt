-- A filter on the dimension of a name: why it is refused, and what it does where it is not.
use Rattle.std.proofs.Common.{◌≡◌, ℕ, Bool, true, false, cond, List, [], ◌∷◌, Option, Some, None, is_none, option_map, unwrap_or, refl, sym, ap, subst, ◌∙◌}
use Rattle.std.specs.List.{AllByRecursion, find}
use Rattle.xf_access.specs.Stock.{keys_of_row}
use Rattle.xf_base.specs.Kind.{kind_of_key_form}
use Rattle.xf_base.specs.declared.form.AtomForm.TheVariants.{Text}
use Rattle.xf_base.specs.declared.form.KeyForm.{KeyForm}
use Rattle.xf_base.specs.declared.form.KeyForm.TheVariants.{One}
use Rattle.xf_base.specs.declared.key.Key.{Key}
use Rattle.xf_base.specs.declared.kind.KeyKind.{KeyKind}
use Rattle.xf_engine.specs.Answers as answer
use Rattle.xf_engine.specs.Changes as change
use Rattle.xf_engine.specs.Refusals as engine
use Rattle.xf_engine.specs.State.{has_id}
use Rattle.xf_engine.specs.declared.filter_refusal.FilterRefusal.{FilterRefusal}
use Rattle.xf_engine.specs.declared.filter_refusal.FilterRefusal.TheVariants as filter
use Rattle.xf_engine.specs.declared.remove_refusal.RemoveRefusal.TheVariants as remove
use Rattle.xf_filter.specs.Filter.{filter_keys, first_other}
use Rattle.xf_filter.specs.Stock.{stock_keys, stock_says}
use Rattle.xf_model.specs.Replay.{refused, accepted, state_after}
use Rattle.xf_reply.specs.declared.refusal.Refusal.{Refusal}
use Rattle.xf_reply.specs.declared.refusal.Refusal.TheVariants as refusal
use Rattle.xf_reply.specs.declared.reply.Change.TheVariants.{Moved, Removed}
use Rattle.xf_reply.specs.declared.reply.Reply.TheVariants as reply
use Rattle.xf_session.proofs.Named.{IsNamed, StockDimension}
use Rattle.xf_session.specs.Command.{moved, moving, no_dimension, removed, unless, where_so, with_cross, with_filter, wrong_kind}
use Rattle.xf_session.specs.Outcome.{Answer, reply_of}
use Rattle.xf_session.specs.Filtering.{removing, setting}
use Rattle.xf_session.specs.State.{Name, Session, StockFilter, StockState, dimension_id_of, kind_of, named, naming_of}
use Rattle.xf_session.specs.declared.naming.Naming.{Naming}

-- ---- the name

-- a command that names a dimension which is there is refused for no such cause
pub unless_named : (s : Session) (name : Name) (naming : Naming) (causes : List (Option Refusal)) (after : Session) (told : Answer) → named s.dimensions name ≡ Some naming → unless (no_dimension s name ∷ causes) after told ≡ unless causes after told
unless_named s name naming causes after told is = ap (λ (found : Option Naming). unless (where_so (is_none found) (refusal.NoDimension name) ∷ causes) after told) is

pub naming_is : (s : Session) (name : Name) (naming : Naming) → named s.dimensions name ≡ Some naming → naming_of s name ≡ naming
naming_is s name naming is = ap (λ (found : Option Naming). unwrap_or found (record { id = record { 0 = 0 }; form = One Text })) is

-- ---- the kind of the keys

-- why the crossfilter refuses a filter on a dimension that is live
refusal_is : (cross : StockState) (naming : Naming) (new : StockFilter) → IsNamed cross.dimensions naming
    → engine.filter_refusal_of kind_of stock_keys cross naming.id.0 new ≡ engine.wrong_kind (kind_of_key_form naming.form) (first_other (kind_of_key_form naming.form) (filter_keys stock_keys new))
refusal_is cross naming new at =
    ap (engine.filter_refusal_for kind_of stock_keys naming.id.0 new) at.found
    ∙ ap (λ (form : KeyForm). engine.wrong_kind (kind_of_key_form form) (first_other (kind_of_key_form form) (filter_keys stock_keys new))) at.form

kind_alone : (wanted : KeyKind) (given : Option KeyKind) (id : ℕ) → engine.wrong_kind wanted given ≡ Some (filter.NoDimension id) → ⊥
kind_alone wanted None id told = absurd cc
kind_alone wanted (Some kind) id told = absurd cc

-- so the dimension is there
pub dimension_there : (cross : StockState) (naming : Naming) (new : StockFilter) (id : ℕ) → IsNamed cross.dimensions naming → engine.filter_refusal_of kind_of stock_keys cross naming.id.0 new ≡ Some (filter.NoDimension id) → ⊥
dimension_there cross naming new id at told =
    kind_alone (kind_of_key_form naming.form) (first_other (kind_of_key_form naming.form) (filter_keys stock_keys new)) id (sym (refusal_is cross naming new at) ∙ told)

-- the kind that is refused in a session
wrong_kind_is : (s : Session) (name : Name) (naming : Naming) (keys : List Key) → named s.dimensions name ≡ Some naming
    → wrong_kind s name keys ≡ option_map (refusal.WrongKind (kind_of_key_form naming.form)) (first_other (kind_of_key_form naming.form) keys)
wrong_kind_is s name naming keys is = ap (λ (own : Naming). option_map (refusal.WrongKind (kind_of_key_form own.form)) (first_other (kind_of_key_form own.form) keys)) (naming_is s name naming is)

kind_refused : (own : KeyKind) (other : Option KeyKind) (wanted given : KeyKind) (after : Session) (told : Answer) → engine.wrong_kind own other ≡ Some (filter.WrongKind wanted given)
    → unless (option_map (refusal.WrongKind own) other ∷ []) after told ≡ refused (refusal.WrongKind wanted given)
kind_refused own None wanted given after told same = absurd cc
kind_refused own (Some kind) wanted given after told same = cc

kind_accepted : (own : KeyKind) (other : Option KeyKind) (after : Session) (told : Answer) → engine.wrong_kind own other ≡ None
    → unless (option_map (refusal.WrongKind own) other ∷ []) after told ≡ accepted after told
kind_accepted own None after told same = refl
kind_accepted own (Some kind) after told same = absurd cc

-- a command that names a dimension and a filter is refused as the crossfilter refuses the filter
pub refused_as : (s : Session) (name : Name) (naming : Naming) (new : StockFilter) (wanted given : KeyKind) (after : Session) (told : Answer) → named s.dimensions name ≡ Some naming → IsNamed s.cross.dimensions naming
    → engine.filter_refusal_of kind_of stock_keys s.cross naming.id.0 new ≡ Some (filter.WrongKind wanted given)
    → unless (no_dimension s name ∷ wrong_kind s name (filter_keys stock_keys new) ∷ []) after told ≡ refused (refusal.WrongKind wanted given)
refused_as s name naming new wanted given after told is at same =
    let kind = kind_of_key_form naming.form in
    let keys = filter_keys stock_keys new in
    unless_named s name naming (wrong_kind s name keys ∷ []) after told is
    ∙ ap (λ (cause : Option Refusal). unless (cause ∷ []) after told) (wrong_kind_is s name naming keys is)
    ∙ kind_refused kind (first_other kind keys) wanted given after told (sym (refusal_is s.cross naming new at) ∙ same)

-- and accepted where the crossfilter takes it
pub accepted_as : (s : Session) (name : Name) (naming : Naming) (new : StockFilter) (after : Session) (told : Answer) → named s.dimensions name ≡ Some naming → IsNamed s.cross.dimensions naming
    → engine.filter_refusal_of kind_of stock_keys s.cross naming.id.0 new ≡ None
    → unless (no_dimension s name ∷ wrong_kind s name (filter_keys stock_keys new) ∷ []) after told ≡ accepted after told
accepted_as s name naming new after told is at same =
    let kind = kind_of_key_form naming.form in
    let keys = filter_keys stock_keys new in
    unless_named s name naming (wrong_kind s name keys ∷ []) after told is
    ∙ ap (λ (cause : Option Refusal). unless (cause ∷ []) after told) (wrong_kind_is s name naming keys is)
    ∙ kind_accepted kind (first_other kind keys) after told (sym (refusal_is s.cross naming new at) ∙ same)

-- ---- setting one

-- an answer is what was told of it
pub answer_told : (count : ℕ) (told : Option ℕ) → Some count ≡ told → unwrap_or told 0 ≡ count
answer_told count None same = absurd cc
answer_told count (Some own) same = cc

moved_is : (s : Session) (name : Name) (naming : Naming) (new : StockFilter) (count : ℕ) → named s.dimensions name ≡ Some naming → Some count ≡ answer.moved_by keys_of_row stock_says s.cross naming.id.0 new → moved s name new ≡ count
moved_is s name naming new count is told =
    ap (λ (own : Naming). unwrap_or (answer.moved_by keys_of_row stock_says s.cross own.id.0 new) 0) (naming_is s name naming is)
    ∙ answer_told count (answer.moved_by keys_of_row stock_says s.cross naming.id.0 new) told

pub with_filter_is : (s : Session) (name : Name) (naming : Naming) (new : StockFilter) → named s.dimensions name ≡ Some naming → with_filter s name new ≡ with_cross s (change.with_filter s.cross naming.id.0 new)
with_filter_is s name naming new is = ap (λ (own : Naming). with_cross s (change.with_filter s.cross own.id.0 new)) (naming_is s name naming is)

-- what is told and left where it is set
pub set_told : (s : Session) (name : Name) (naming : Naming) (new : StockFilter) (count : ℕ) → named s.dimensions name ≡ Some naming → IsNamed s.cross.dimensions naming
    → engine.filter_refusal_of kind_of stock_keys s.cross naming.id.0 new ≡ None → Some count ≡ answer.moved_by keys_of_row stock_says s.cross naming.id.0 new
    → reply_of (setting s name new) ≡ reply.Changed (Moved count)
set_told s name naming new count is at fits told =
    ap reply_of (accepted_as s name naming new (with_filter s name new) (moving (moved s name new)) is at fits)
    ∙ ap (λ n. reply.Changed (Moved n)) (moved_is s name naming new count is told)

pub set_left : (s : Session) (name : Name) (naming : Naming) (new : StockFilter) → named s.dimensions name ≡ Some naming → IsNamed s.cross.dimensions naming
    → engine.filter_refusal_of kind_of stock_keys s.cross naming.id.0 new ≡ None
    → state_after s (setting s name new) ≡ with_cross s (change.with_filter s.cross naming.id.0 new)
set_left s name naming new is at fits =
    ap (state_after s) (accepted_as s name naming new (with_filter s name new) (moving (moved s name new)) is at fits) ∙ with_filter_is s name naming new is

-- and where it is refused
pub set_refused : (s : Session) (name : Name) (naming : Naming) (new : StockFilter) (wanted given : KeyKind) → named s.dimensions name ≡ Some naming → IsNamed s.cross.dimensions naming
    → engine.filter_refusal_of kind_of stock_keys s.cross naming.id.0 new ≡ Some (filter.WrongKind wanted given)
    → setting s name new ≡ refused (refusal.WrongKind wanted given)
set_refused s name naming new wanted given is at same =
    refused_as s name naming new wanted given (with_filter s name new) (moving (moved s name new)) is at same

-- ---- removing by one

removal_kind : (own : Option FilterRefusal) (wanted given : KeyKind) → option_map engine.as_remove_refusal own ≡ Some (remove.WrongKind wanted given) → own ≡ Some (filter.WrongKind wanted given)
removal_kind None wanted given same = absurd cc
removal_kind (Some (filter.NoDimension id)) wanted given same = absurd cc
removal_kind (Some (filter.WrongKind mine other)) wanted given same = cc
removal_kind (Some filter.OutOfMemory) wanted given same = absurd cc

removal_none : (own : Option FilterRefusal) (id : ℕ) → option_map engine.as_remove_refusal own ≡ Some (remove.NoDimension id) → own ≡ Some (filter.NoDimension id)
removal_none None id same = absurd cc
removal_none (Some (filter.NoDimension mine)) id same = cc
removal_none (Some (filter.WrongKind mine other)) id same = absurd cc
removal_none (Some filter.OutOfMemory) id same = absurd cc

-- the dimension is there
pub removal_there : (cross : StockState) (naming : Naming) (given : StockFilter) (id : ℕ) → IsNamed cross.dimensions naming → engine.remove_refusal_of kind_of stock_keys cross naming.id.0 given ≡ Some (remove.NoDimension id) → ⊥
removal_there cross naming given id at told =
    dimension_there cross naming given id at (removal_none (engine.filter_refusal_of kind_of stock_keys cross naming.id.0 given) id told)

-- what is told and left where records go
pub removed_told : (s : Session) (name : Name) (naming : Naming) (given : StockFilter) (count : ℕ) → named s.dimensions name ≡ Some naming → IsNamed s.cross.dimensions naming
    → engine.filter_refusal_of kind_of stock_keys s.cross naming.id.0 given ≡ None → Some count ≡ answer.passing_under keys_of_row stock_says s.cross naming.id.0 given
    → reply_of (removing s name given) ≡ reply.Changed (Removed count)
removed_told s name naming given count is at fits told =
    ap reply_of (accepted_as s name naming given
    (with_cross s (change.without_where keys_of_row stock_says s.cross (dimension_id_of s name) given))
    (removed (unwrap_or (answer.passing_under keys_of_row stock_says s.cross (dimension_id_of s name) given) 0)) is at fits)
    ∙ ap (λ (own : Naming). reply.Changed (Removed (unwrap_or (answer.passing_under keys_of_row stock_says s.cross own.id.0 given) 0))) (naming_is s name naming is)
    ∙ ap (λ n. reply.Changed (Removed n)) (answer_told count (answer.passing_under keys_of_row stock_says s.cross naming.id.0 given) told)

pub removed_left : (s : Session) (name : Name) (naming : Naming) (given : StockFilter) → named s.dimensions name ≡ Some naming → IsNamed s.cross.dimensions naming
    → engine.filter_refusal_of kind_of stock_keys s.cross naming.id.0 given ≡ None
    → state_after s (removing s name given) ≡ with_cross s (change.without_where keys_of_row stock_says s.cross naming.id.0 given)
removed_left s name naming given is at fits =
    ap (state_after s) (accepted_as s name naming given
    (with_cross s (change.without_where keys_of_row stock_says s.cross (dimension_id_of s name) given))
    (removed (unwrap_or (answer.passing_under keys_of_row stock_says s.cross (dimension_id_of s name) given) 0)) is at fits)
    ∙ ap (λ (own : Naming). with_cross s (change.without_where keys_of_row stock_says s.cross own.id.0 given)) (naming_is s name naming is)

-- and where it is refused
pub removal_refused : (s : Session) (name : Name) (naming : Naming) (given : StockFilter) (wanted other : KeyKind) → named s.dimensions name ≡ Some naming → IsNamed s.cross.dimensions naming
    → engine.remove_refusal_of kind_of stock_keys s.cross naming.id.0 given ≡ Some (remove.WrongKind wanted other)
    → removing s name given ≡ refused (refusal.WrongKind wanted other)
removal_refused s name naming given wanted other is at same =
    refused_as s name naming given wanted other
    (with_cross s (change.without_where keys_of_row stock_says s.cross (dimension_id_of s name) given))
    (removed (unwrap_or (answer.passing_under keys_of_row stock_says s.cross (dimension_id_of s name) given) 0)) is at
    (removal_kind (engine.filter_refusal_of kind_of stock_keys s.cross naming.id.0 given) wanted other same)

-- ---- the filter that is set

all_found : (P : StockDimension → Type 0) (p : StockDimension → Bool) (lives : List StockDimension) (live : StockDimension) → AllByRecursion P lives → find p lives ≡ Some live → P live
all_found P p [] live all found = absurd cc
all_found P p (first ∷ lives) live all found =
    elim (p first) as (λ b. cond b (Some first) (find p lives) ≡ Some live → P live) [
      | true ↦ λ here. subst P (let e : first ≡ live = cc in e) all.0
      | false ↦ λ later. all_found P p lives live all.1 later
    ] found

-- its keys are of the dimension's kind
pub own_fits : (cross : StockState) (naming : Naming) (own : StockFilter) (at : IsNamed cross.dimensions naming)
    → AllByRecursion (λ (live : StockDimension). first_other (kind_of live.accessor) (filter_keys stock_keys live.filter) ≡ None) cross.dimensions
    → Some own ≡ answer.filter_named cross naming.id.0 → first_other (kind_of_key_form naming.form) (filter_keys stock_keys own) ≡ None
own_fits cross naming own at fits told =
    let is : Some own ≡ Some at.live.filter = told ∙ ap (option_map (λ (live : StockDimension). live.filter)) at.found in
    let same : own ≡ at.live.filter = cc in
    ap (λ (f : StockFilter). first_other (kind_of_key_form naming.form) (filter_keys stock_keys f)) same
    ∙ ap (λ (form : KeyForm). first_other (kind_of_key_form form) (filter_keys stock_keys at.live.filter)) (sym at.form)
    ∙ all_found (λ (live : StockDimension). first_other (kind_of live.accessor) (filter_keys stock_keys live.filter) ≡ None) (has_id naming.id.0) cross.dimensions at.live fits at.found
