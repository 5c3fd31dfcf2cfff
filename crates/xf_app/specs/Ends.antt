-- Only the private parts of a run need this file: how each of them ends, and what all of it together gives.
use Rattle.std.specs.Prelude.{◌≡◌, ◌⊎◌, ℕ, ◌+◌, ◌≤◌, List, [], Result, Ok, Err}
use Rattle.xf_app.specs.Due.{Due, absent_due, progress_due, refused_due, session_of, too_long_due}
use Rattle.xf_app.specs.Page.{data_view}
use Rattle.xf_app.specs.Put.{Puts, PutsPart}
use Rattle.xf_app.specs.Run.{CountsFaults, CountsMisses, HasCause, Headline, IsStopped, MeetsDue, RunAccount}
use Rattle.xf_app.specs.declared.replay.Tally.{Tally}
use Rattle.xf_app.specs.declared.start.StartRefusal.{StartRefusal}
use Rattle.xf_app.specs.declared.start.StartRefusal.TheVariants as start
use Rattle.xf_app.specs.declared.status.Status.{Status}
use Rattle.xf_app.specs.declared.status.Status.TheVariants as status
use Rattle.xf_model.specs.Replay.{refusal_count, state_after, step_count}
use Rattle.xf_outside.specs.Account.{DepotAccount, Files, SinkAccount}
use Rattle.xf_outside.specs.Count.{RoseExactly}
use Rattle.xf_outside.specs.declared.depot.FetchFault.{FetchFault}
use Rattle.xf_outside.specs.declared.depot.FetchFault.TheVariants as fetch
use Rattle.xf_reply.specs.declared.reply.Reply.{Reply}
use Rattle.xf_reply.specs.declared.reply.Reply.TheVariants as reply
use Rattle.xf_session.specs.Command.{command}
use Rattle.xf_session.specs.Outcome.{written}
use Rattle.xf_session.specs.State.{Session}

-- ---- before the session

-- this text was put, and no fault was counted
abbrev pub PutsWhole : List ℕ → SinkAccount → SinkAccount → Type 0
PutsWhole text before after = Puts before after text × (after.faults ≡ before.faults)

-- a first part of this text was put: the sink failed once and counted it, or memory was refused and no fault was counted
abbrev pub StopsIn : List ℕ → SinkAccount → SinkAccount → Status → Type 0
StopsIn text before after got =
    ((got ≡ status.WriteFault) × PutsPart before after text × RoseExactly before.faults after.faults 1)
    ⊎ ((got ≡ status.Memory) × PutsPart before after text × (after.faults ≡ before.faults))

-- what is due was put and gave the status that is due, or it was not put whole
abbrev pub Ends : Due → SinkAccount → SinkAccount → Status → Type 0
Ends due before after got = ((got ≡ due.status) × PutsWhole due.text before after) ⊎ StopsIn due.text before after got

-- nothing was put, and the status is this one
abbrev pub EndsSilent : Status → SinkAccount → SinkAccount → Status → Type 0
EndsSilent wanted before after got = (got ≡ wanted) × (after ≡ before)

-- the end of a run for which a file was not fetched
abbrev pub EndsUnfetched : FetchFault → List ℕ → SinkAccount → SinkAccount → Status → Type 0
EndsUnfetched fetch.Absent name before after got = Ends (absent_due name) before after got
EndsUnfetched fetch.TooLong name before after got = Ends (too_long_due name) before after got
EndsUnfetched fetch.Failed name before after got = EndsSilent status.ReadFault before after got
EndsUnfetched fetch.OutOfMemory name before after got = EndsSilent status.Memory before after got

-- the end of a run whose board's file has no session
abbrev pub EndsRefused : StartRefusal → SinkAccount → SinkAccount → Status → Type 0
EndsRefused (start.Data cause) before after got = Ends (refused_due (start.Data cause)) before after got
EndsRefused (start.Board cause) before after got = Ends (refused_due (start.Board cause)) before after got
EndsRefused start.OutOfMemory before after got = EndsSilent status.Memory before after got

-- ---- in the session: what the outside counts, whatever it tells

-- a depot and a sink
pub record Sides : Type 0 where
  pub depot : DepotAccount
  pub sink : SinkAccount

abbrev pub sides : DepotAccount → SinkAccount → Sides
sides depot sink = record { depot = depot; sink = sink }

abbrev pub NoDepotFault : Sides → Sides → Type 0
NoDepotFault before after = after.depot.faults ≡ before.depot.faults

abbrev pub NoSinkFault : Sides → Sides → Type 0
NoSinkFault before after = after.sink.faults ≡ before.sink.faults

-- what was counted where the session ended so: no fault but the one that the status tells, and no miss where no step was
-- refused
abbrev pub Counted : Status → Sides → Sides → Type 0
Counted status.Done before after = NoDepotFault before after × NoSinkFault before after × (after.depot.misses ≡ before.depot.misses)
Counted status.DoneWithRefusals before after = NoDepotFault before after × NoSinkFault before after
Counted status.Usage before after = ⊥
Counted status.BoardRefused before after = ⊥
Counted status.ReadFault before after = RoseExactly before.depot.faults after.depot.faults 1 × NoSinkFault before after
Counted status.WriteFault before after = NoDepotFault before after × RoseExactly before.sink.faults after.sink.faults 1
Counted status.Memory before after = NoDepotFault before after × NoSinkFault before after
Counted status.Absent before after = ⊥
Counted status.TooLong before after = ⊥

-- a line is one step at most, no more steps are refused than there are, and no number falls
pub record Follows (old new : Tally) : Type 0 where
  pub number : new.number ≤ old.number + 1
  pub few : new.refusals ≤ new.number
  pub stay : old.refusals ≤ new.refusals

-- and what was counted for a line that was done: no fault, and no miss where it was not refused
abbrev pub CountedLine : Tally → Tally → Sides → Sides → Result Unit Status → Type 0
CountedLine old new before after (Ok done) =
    NoDepotFault before after × NoSinkFault before after × (new.refusals ≡ old.refusals → after.depot.misses ≡ before.depot.misses)
CountedLine old new before after (Err got) = IsStopped got × Counted got before after

-- ---- in the session, by the reply to a line

-- how many steps a line with this reply is, and how many of these are refused
abbrev pub reply_steps : Reply → ℕ
reply_steps reply.Skipped = 0
reply_steps (reply.Changed change) = 1
reply_steps (reply.Answer lines) = 1
reply_steps (reply.Refused cause) = 1

abbrev pub reply_refusals : Reply → ℕ
reply_refusals reply.Skipped = 0
reply_refusals (reply.Changed change) = 0
reply_refusals (reply.Answer lines) = 0
reply_refusals (reply.Refused cause) = 1

-- the view that is to be put behind its text
abbrev pub reply_view : Session → Reply → List ℕ
reply_view state reply.Skipped = []
reply_view state (reply.Changed change) = data_view state
reply_view state (reply.Answer lines) = data_view state
reply_view state (reply.Refused cause) = []

-- ---- in the session, where the depot tells these files

-- what is to be put for a line, where a session stands at this state after so many steps
abbrev pub line_text : Files → Session → Tally → List ℕ → List ℕ
line_text files state tally line = written data_view (tally.number + 1) (command files state line)

-- from the old state and numbers the line leads to the new ones
pub record LeadsTo (files : Files) (old : Session) (before : Tally) (line : List ℕ) (new : Session) (after : Tally) : Type 0 where
  pub state : new ≡ state_after old (command files old line)
  pub number : after.number ≡ before.number + step_count (command files old line)
  pub refusals : after.refusals ≡ before.refusals + refusal_count (command files old line)

-- a line was done and its text put, or the run stops in that text
abbrev pub Advances : Files → Session → Tally → List ℕ → Session → Tally → SinkAccount → SinkAccount → Result Unit Status → Type 0
Advances files old tally line new later before after (Ok done) =
    LeadsTo files old tally line new later × Puts before after (line_text files old tally line)
Advances files old tally line new later before after (Err got) = PutsPart before after (line_text files old tally line)

-- a session's text was put and gave its status, or the run stopped in it
abbrev pub Plays : Files → Session → List ℕ → SinkAccount → SinkAccount → Status → Type 0
Plays files start bytes before after got =
    let due = progress_due (session_of files start bytes) in
    ((got ≡ due.status) × Puts before after due.text) ⊎ (IsStopped got × PutsPart before after due.text)

-- ---- the whole run

-- what a whole run meets
pub record IsRun (run : RunAccount) (got : Status) : Type 0 where
  pub cause : HasCause run got
  pub faults : CountsFaults run got
  pub misses : CountsMisses run got
  pub due : MeetsDue run got
  pub headline : Headline run got
