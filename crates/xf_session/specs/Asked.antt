-- What a line asks of a depot, and what the depot counts.
use Rattle.std.specs.Prelude.{◌≡◌, ◌⊎◌, ℕ, ◌+◌, ◌≤◌, IfOk, Result, Ok, Err}
use Rattle.xf_outside.specs.Account.{DepotAccount}
use Rattle.xf_outside.specs.Count.{Rose, RoseExactly}
use Rattle.xf_reply.specs.Refused.{refusal_number}
use Rattle.xf_reply.specs.declared.refusal.Refusal.{Refusal}
use Rattle.xf_reply.specs.declared.refusal.Refusal.TheVariants as refusal
use Rattle.xf_reply.specs.declared.reply.Change.TheVariants.{Added}
use Rattle.xf_reply.specs.declared.reply.Reply.{Reply}
use Rattle.xf_reply.specs.declared.reply.Reply.TheVariants as reply
use Rattle.xf_base.specs.declared.out_of_memory.OutOfMemory.{OutOfMemory}
use Rattle.xf_model.specs.Replay.{state_after}
use Rattle.xf_reply.specs.Step.{HasText}
use Rattle.xf_script.specs.declared.command.CommandForm.{CommandForm}
use Rattle.xf_script.specs.declared.command.CommandForm.TheVariants as form
use Rattle.xf_session.specs.Does.{outcome_within}
use Rattle.xf_session.specs.Outcome.{reply_of}
use Rattle.xf_session.specs.State.{Name, Session}
use Rattle.xf_session.specs.declared.apply.Performed.{Performed}
use Rattle.xf_session.specs.declared.apply.Performed.TheVariants as performed
use Rattle.xf_session.specs.declared.apply.SessionFault.{SessionFault}
use Rattle.xf_session.specs.declared.apply.SessionFault.TheVariants as fault

-- a failure is counted once, and the count of faults stands still where none is told
abbrev pub FaultsAfter : {X : Type 0} → Result X SessionFault → ℕ → ℕ → Type 0
FaultsAfter (Ok x) before now = now ≡ before
FaultsAfter (Err fault.ReadFault) before now = RoseExactly before now 1
FaultsAfter (Err fault.OutOfMemory) before now = now ≡ before

-- the reply tells that a file is not there, or that it is too long
abbrev pub TellsAbsent : Reply → Type 0
TellsAbsent answer = (name : Name) × (answer ≡ reply.Refused (refusal.Absent name))

abbrev pub TellsTooLong : ℕ → Reply → Type 0
TellsTooLong limit answer = (name : Name) × (answer ≡ reply.Refused (refusal.TooLong name limit))

-- a cause for which a `load` may be refused: 15 to 20, and 22 to 24
abbrev pub IsLoadCause : Refusal → Type 0
IsLoadCause cause = (15 ≤ refusal_number cause) × (refusal_number cause ≤ 24) × (refusal_number cause ≡ 21 → ⊥)

-- how a `load` may be answered
abbrev pub IsLoadReply : Reply → Type 0
IsLoadReply answer = ((count : ℕ) × (answer ≡ reply.Changed (Added count))) ⊎ ((cause : Refusal) × (answer ≡ reply.Refused cause) × IsLoadCause cause)

-- a `load` was answered: a file that is not there was missed once, and one that is too long was taken in above the limit
pub record IsLoaded (limit : ℕ) (before after : DepotAccount) (answer : Reply) : Type 0 where
  pub answered : IsLoadReply answer
  pub absent : TellsAbsent answer → RoseExactly before.misses after.misses 1
  pub too_long : TellsTooLong limit answer → Rose before.taken after.taken (limit + 1)

-- no call changes a file; a fault is counted once, and none where none is told; no file is missed but where that is told
pub record IsCounted (result : Result Reply SessionFault) (before after : DepotAccount) : Type 0 where
  pub files : after.files ≡ before.files
  pub faults : FaultsAfter result before.faults after.faults
  pub found : IfOk result (λ answer. (TellsAbsent answer → ⊥) → after.misses ≡ before.misses)

-- ---- a command that may ask for a file

-- a command was done, and asks for no file, or it asks for one and nothing is done yet
abbrev pub Performs : CommandForm → Session → Session → Result Performed OutOfMemory → Type 0
Performs given old new (Ok (performed.Done reply)) =
    (reply ≡ reply_of (outcome_within old given)) × (new ≡ state_after old (outcome_within old given)) × HasText reply × ((file : Name) → given ≡ form.Load file → ⊥)
Performs given old new (Ok (performed.Asks file)) = (given ≡ form.Load file) × (new ≡ old)
Performs given old new (Err error) = new ≡ old

-- what came of a command that asks for no file
abbrev pub done_of : Result Reply OutOfMemory → Result Performed OutOfMemory
done_of (Ok reply) = Ok (performed.Done reply)
done_of (Err error) = Err error
