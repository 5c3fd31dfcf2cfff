-- The first cause of a list that holds.
use Rattle.std.proofs.Common.{◌≡◌, List, [], ◌∷◌, ◌++◌, Option, Some, None, Result, Ok, Err, IfErr, refl, ◌∙◌}
use Rattle.xf_reply.specs.declared.refusal.Refusal.{Refusal}
use Rattle.xf_session.specs.Command.{first_cause}

-- the first of two that holds is the first of a longer list
pub front_two : (first second : Option Refusal) (rest : List (Option Refusal)) (cause : Refusal) → first_cause (first ∷ second ∷ []) ≡ Some cause → first_cause (first ∷ second ∷ rest) ≡ Some cause
front_two (Some own) second rest cause is = is
front_two None (Some own) rest cause is = is
front_two None None rest cause is = cc is

-- so is it where a result tells it
pub told_two : {X : Type 0} (result : Result X Refusal) (first second : Option Refusal) (rest : List (Option Refusal)) → IfErr result (λ cause. first_cause (first ∷ second ∷ []) ≡ Some cause) → IfErr result (λ cause. first_cause (first ∷ second ∷ rest) ≡ Some cause)
told_two (Ok value) first second rest told = told
told_two (Err cause) first second rest told = front_two first second rest cause told

-- the first of some that holds is the first of those with more after them
pub front_holds : (causes more : List (Option Refusal)) (cause : Refusal) → first_cause causes ≡ Some cause → first_cause (causes ++ more) ≡ Some cause
front_holds [] more cause is = absurd cc
front_holds (Some own ∷ causes) more cause is = is
front_holds (None ∷ causes) more cause is = front_holds causes more cause is

-- and where none of them holds, the first of those after them is
pub front_none : (causes more : List (Option Refusal)) → first_cause causes ≡ None → first_cause (causes ++ more) ≡ first_cause more
front_none [] more none = refl
front_none (Some own ∷ causes) more none = absurd cc
front_none (None ∷ causes) more none = front_none causes more none

-- so are they where a result tells them
pub told_front : {X : Type 0} (result : Result X Refusal) (causes more : List (Option Refusal)) → IfErr result (λ cause. first_cause causes ≡ Some cause) → IfErr result (λ cause. first_cause (causes ++ more) ≡ Some cause)
told_front (Ok value) causes more told = told
told_front (Err cause) causes more told = front_holds causes more cause told

pub told_back : {X : Type 0} (result : Result X Refusal) (causes more : List (Option Refusal)) → first_cause causes ≡ None → IfErr result (λ cause. first_cause more ≡ Some cause) → IfErr result (λ cause. first_cause (causes ++ more) ≡ Some cause)
told_back (Ok value) causes more none told = told
told_back (Err cause) causes more none told = front_none causes more none ∙ told
