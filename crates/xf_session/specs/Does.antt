-- What a call did, by the outcome that it is to have.
use Rattle.std.specs.Prelude.{◌≡◌, Result, Ok, Err}
use Rattle.std.specs.FinMap as map_of
use Rattle.xf_model.specs.Replay.{state_after}
use Rattle.xf_outside.specs.Account.{Files}
use Rattle.xf_reply.specs.declared.reply.Reply.{Reply}
use Rattle.xf_session.specs.Command.{outcome_of}
use Rattle.xf_session.specs.Outcome.{Outcome, reply_of}
use Rattle.xf_session.specs.State.{Session}
use Rattle.xf_script.specs.declared.command.CommandForm.{CommandForm}

-- no files: only `load` asks for one
abbrev pub no_files : Files
no_files = map_of.empty

-- what a command that asks for no file does
abbrev pub outcome_within : Session → CommandForm → Outcome
outcome_within = outcome_of no_files

-- the call told the outcome and left the state after it, or it failed and left the state as it was
abbrev pub Does : {E : Type 0} → Outcome → Session → Session → Result Reply E → Type 0
Does outcome old new (Ok reply) = (reply ≡ reply_of outcome) × (new ≡ state_after old outcome)
Does outcome old new (Err error) = new ≡ old

-- the call told the outcome, where that changes nothing, or it failed
abbrev pub Tells : {E : Type 0} → Outcome → Result Reply E → Type 0
Tells outcome (Ok reply) = reply ≡ reply_of outcome
Tells outcome (Err error) = Unit {0}
