-- The answers about the dimension of a name that is there, and about one that is not.
use Rattle.std.proofs.Common.{◌≡◌, ◌∙◌, ℕ, List, [], ◌∷◌, map, Option, Some, None, is_none, option_map, unwrap_or, Result, ap, subst, sym}
use Rattle.xf_engine.specs.declared.ids.DimensionId.{DimensionId}
use Rattle.xf_engine.specs.declared.ids.GroupId.{GroupId}
use Rattle.xf_model.specs.Replay.{accepted}
use Rattle.xf_reply.specs.declared.refusal.Refusal.{Refusal}
use Rattle.xf_reply.specs.declared.refusal.Refusal.TheVariants.{NoDimension, NoGroup}
use Rattle.xf_reply.specs.declared.reply.Reply.{Reply}
use Rattle.xf_session.specs.Command.{first_cause, no_dimension, no_group, unless, unless_refused, where_so}
use Rattle.xf_session.specs.Does.{Tells}
use Rattle.xf_session.specs.Outcome.{Answer}
use Rattle.xf_session.specs.State.{Name, Session, dimension_id_of, group_id_of, named}
use Rattle.xf_session.specs.declared.naming.Naming.{Naming}

told-found : {E : Type 0} (s : Session) (name : Name) (nothing : Naming) (found : Option Naming) (id : DimensionId) (answer : ℕ → Answer) (result : Result Reply E) → Some id ≡ option_map (λ (naming : Naming). naming.id) found
    → Tells (accepted s (answer id.0)) result → Tells (unless (where_so (is_none found) (NoDimension name) ∷ []) s (answer (unwrap_or found nothing).id.0)) result
told-found s name nothing (Some naming) id answer result is told =
    let same : id ≡ naming.id = cc is in
    subst (λ (id : DimensionId). Tells (accepted s (answer id.0)) result) same told
told-found s name nothing None id answer result is told = absurd (cc is)

-- an answer about the dimension of a name that is there
pub told-dimension : {E : Type 0} (s : Session) (name : Name) (id : DimensionId) (answer : ℕ → Answer) (result : Result Reply E) → Some id ≡ option_map (λ (naming : Naming). naming.id) (named s.dimensions name)
    → Tells (accepted s (answer id.0)) result → Tells (unless (no_dimension s name ∷ []) s (answer (dimension_id_of s name))) result
told-dimension s name id answer result is told = told-found s name _ (named s.dimensions name) id answer result is told

group-found : {E : Type 0} (s : Session) (name : Name) (nothing : GroupId) (found : Option GroupId) (id : GroupId) (answer : ℕ → Answer) (result : Result Reply E) → Some id ≡ found
    → Tells (accepted s (answer id.0)) result → Tells (unless (where_so (is_none found) (NoGroup name) ∷ []) s (answer (unwrap_or found nothing).0)) result
group-found s name nothing (Some group) id answer result is told =
    let same : id ≡ group = cc is in
    subst (λ (id : GroupId). Tells (accepted s (answer id.0)) result) same told
group-found s name nothing None id answer result is told = absurd (cc is)

-- and about the group of one
pub told-group : {E : Type 0} (s : Session) (name : Name) (id : GroupId) (answer : ℕ → Answer) (result : Result Reply E) → Some id ≡ named s.groups name
    → Tells (accepted s (answer id.0)) result → Tells (unless (no_group s name ∷ []) s (answer (group_id_of s name))) result
told-group s name id answer result is told = group-found s name _ (named s.groups name) id answer result is told

-- what is told of something that is there
pub told-some : {X : Type 0} (found : Option (List X)) (items shown : List X) → found ≡ Some items → shown ≡ items → shown ≡ unwrap_or found []
told-some {X = X} found items shown is same = same ∙ sym (ap (λ (found : Option (List X)). unwrap_or found []) is)

-- an answer where all names are there
pub told-names : {E : Type 0} (s : Session) (names : List Name) (answer : Answer) (result : Result Reply E) → first_cause (map (no_dimension s) names) ≡ None
    → Tells (accepted s answer) result → Tells (unless (map (no_dimension s) names) s answer) result
told-names s names answer result none told = subst (λ (cause : Option Refusal). Tells (unless_refused cause s answer) result) (sym none) told
