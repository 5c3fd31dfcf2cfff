-- Values that tell as many calls: what is kept twice is kept, and what holds of values that stay ready holds of these.
use Rattle.std.proofs.Common.{ℕ, List, [], Option, Some, None, refl, sym, subst, ◌∙◌}
use Rattle.std.proofs.lemmas.Option.{same_Some}
use Rattle.xf_group.specs.Admitted.{StayReady, StayUncalled}
use Rattle.xf_group.specs.Fresh.{KeepCalls}
use Rattle.xf_group.specs.declared.entry.Entry.{Entry}
use Rattle.xf_reduce.specs.Laws.{SameCalls}

pub same_calls_itself : {Value : Type 0} (calls : Option (Value → ℕ)) (one : Value) → SameCalls calls one one
same_calls_itself None one = tt
same_calls_itself (Some count) one = refl

pub same_calls_on : {Value : Type 0} (calls : Option (Value → ℕ)) (one two three : Value) → SameCalls calls one two → SameCalls calls two three → SameCalls calls one three
same_calls_on None one two three first next = tt
same_calls_on (Some count) one two three first next = next ∙ first

-- a value that tells as many calls as one is as a value that is ready
pub calls_from_stay : {Value : Type 0} (calls : Option (Value → ℕ)) (old new : List (Entry Value)) → ((one : Value) → StayReady (λ value row. SameCalls calls one value) old new) → KeepCalls calls old new
calls_from_stay calls old new stay key one found = stay one key [] (one, found, same_calls_itself calls one)

pub stay_from_calls : {Value : Type 0} (calls : Option (Value → ℕ)) (old new : List (Entry Value)) → KeepCalls calls old new → (one : Value) → StayReady (λ value row. SameCalls calls one value) old new
stay_from_calls calls old new keep one key row ready =
    let kept = keep key ready.0 ready.1 in
    (kept.0, kept.1, same_calls_on calls one ready.0 kept.0 ready.2 kept.2)

pub keep_calls_itself : {Value : Type 0} (calls : Option (Value → ℕ)) (entries : List (Entry Value)) → KeepCalls calls entries entries
keep_calls_itself calls entries key one found = (one, found, same_calls_itself calls one)

pub keep_calls_on : {Value : Type 0} (calls : Option (Value → ℕ)) (old new later : List (Entry Value)) → KeepCalls calls old new → KeepCalls calls new later → KeepCalls calls old later
keep_calls_on calls old new later first next key one found =
    let mid = first key one found in
    let kept = next key mid.0 mid.1 in
    (kept.0, kept.1, same_calls_on calls one mid.0 kept.0 mid.2 kept.2)

-- so no key's value tells another number
pub uncalled_from_kept : {Value : Type 0} (calls : Option (Value → ℕ)) (old new : List (Entry Value)) → KeepCalls calls old new → StayUncalled calls old new
uncalled_from_kept calls old new keep key one other found now =
    let kept = keep key one found in
    subst (SameCalls calls one) (same_Some kept.0 other (sym kept.1 ∙ now)) kept.2
