-- What each status says of a run, and the headline.
use Rattle.std.specs.Prelude.{◌≡◌, ◌⊎◌, ℕ, ◌+◌, ◌≤◌, List, length, Some, None, IsSome, IfSome, Ok, ⊤}
use Rattle.std.specs.FinMap.{get}
use Rattle.xf_app.specs.Due.{due_of, session_of}
use Rattle.xf_app.specs.Put.{Puts, PutsPart}
use Rattle.xf_app.specs.Start.{start_in}
use Rattle.xf_app.specs.Words.{names_of}
use Rattle.xf_app.specs.declared.status.Status.{Status}
use Rattle.xf_app.specs.declared.status.Status.TheVariants as status
use Rattle.xf_base.specs.declared.limits.TheConstants.Limits.{FILE_BYTES}
use Rattle.xf_outside.specs.Account.{DepotAccount, Files, SinkAccount}
use Rattle.xf_outside.specs.Count.{Rose, RoseExactly}
use Rattle.xf_session.specs.State.{Session}

-- what stands outside a run: what its depot and its sink tell
pub record Outside : Type 0 where
  pub depot : DepotAccount
  pub sink : SinkAccount

-- what a run is judged by: the words that it was given, and the outside before it and after it
pub record RunAccount : Type 0 where
  pub words : List (List ℕ)
  pub before : Outside
  pub after : Outside

abbrev pub run_account : List (List ℕ) → DepotAccount × SinkAccount → DepotAccount × SinkAccount → RunAccount
run_account words before after = record {
  words = words;
  before = record { depot = before.0; sink = before.1 };
  after = record { depot = after.0; sink = after.1 };
}

-- the words were accepted
abbrev pub IsAccepted : RunAccount → Type 0
IsAccepted run = IsSome (names_of run.words)

-- the count of the depot's faults rose by one in the run
abbrev pub ReadingFailed : RunAccount → Type 0
ReadingFailed run = Rose run.before.depot.faults run.after.depot.faults 1

-- the count of the sink's faults rose by one
abbrev pub WritingFailed : RunAccount → Type 0
WritingFailed run = Rose run.before.sink.faults run.after.sink.faults 1

-- the depot counted no fault
abbrev pub NoReadFault : RunAccount → Type 0
NoReadFault run = run.after.depot.faults ≡ run.before.depot.faults

-- the sink counted no fault
abbrev pub NoWriteFault : RunAccount → Type 0
NoWriteFault run = run.after.sink.faults ≡ run.before.sink.faults

-- the cause of each status, whether the depot tells its files or not
abbrev pub HasCause : RunAccount → Status → Type 0
HasCause run status.Done = IsAccepted run
HasCause run status.DoneWithRefusals = IsAccepted run
HasCause run status.Usage = names_of run.words ≡ None
HasCause run status.BoardRefused = IsAccepted run
HasCause run status.ReadFault = IsAccepted run × ReadingFailed run
HasCause run status.WriteFault = WritingFailed run
HasCause run status.Memory = ⊤
HasCause run status.Absent = IsAccepted run × Rose run.before.depot.misses run.after.depot.misses 1
HasCause run status.TooLong = IsAccepted run × Rose run.before.depot.taken run.after.depot.taken (FILE_BYTES + 1)

-- a count of faults stands still, but for the fault that the status tells, which is counted once
abbrev pub CountsFaults : RunAccount → Status → Type 0
CountsFaults run status.Done = NoReadFault run × NoWriteFault run
CountsFaults run status.DoneWithRefusals = NoReadFault run × NoWriteFault run
CountsFaults run status.Usage = NoReadFault run × NoWriteFault run
CountsFaults run status.BoardRefused = NoReadFault run × NoWriteFault run
CountsFaults run status.ReadFault = RoseExactly run.before.depot.faults run.after.depot.faults 1 × NoWriteFault run
CountsFaults run status.WriteFault = NoReadFault run × RoseExactly run.before.sink.faults run.after.sink.faults 1
CountsFaults run status.Memory = NoReadFault run × NoWriteFault run
CountsFaults run status.Absent = NoReadFault run × NoWriteFault run
CountsFaults run status.TooLong = NoReadFault run × NoWriteFault run

-- no name that was asked for was missed
abbrev pub NoMiss : RunAccount → Type 0
NoMiss run = run.after.depot.misses ≡ run.before.depot.misses

-- one name at most was missed
abbrev pub OneMiss : RunAccount → Type 0
OneMiss run = run.after.depot.misses ≤ run.before.depot.misses + 1

-- no name was missed where no step was refused, and before the session none but the one that `Absent` tells; its line may
-- not have been put whole. A refused `load` may have missed its file.
abbrev pub CountsMisses : RunAccount → Status → Type 0
CountsMisses run status.Done = NoMiss run
CountsMisses run status.DoneWithRefusals = ⊤
CountsMisses run status.Usage = NoMiss run
CountsMisses run status.BoardRefused = NoMiss run
CountsMisses run status.ReadFault = ⊤
CountsMisses run status.WriteFault = ⊤
CountsMisses run status.Memory = ⊤
CountsMisses run status.Absent = OneMiss run
CountsMisses run status.TooLong = NoMiss run

-- a run that stopped before what is due was put whole
abbrev pub IsStopped : Status → Type 0
IsStopped got = (got ≡ status.ReadFault) ⊎ (got ≡ status.WriteFault) ⊎ (got ≡ status.Memory)

-- the run ended as is due and put what is due, or it stopped and put a first part of that; where what is due is known
abbrev pub MeetsDue : RunAccount → Status → Type 0
MeetsDue run got =
    IfSome (due_of run.words run.before.depot.files) (λ due.
    ((got ≡ due.status) × Puts run.before.sink run.after.sink due.text)
    ⊎ (IsStopped got × PutsPart run.before.sink run.after.sink due.text))

-- the files hold these bytes under a name, within the limit of a file
abbrev pub Holds : Files → List ℕ → List ℕ → Type 0
Holds files name bytes = (get files name ≡ Some bytes) × (length bytes ≤ FILE_BYTES)

-- the headline: for a board and a session that are held and accepted, where no count of faults rose and memory was not
-- refused, the bytes put are the session's text
abbrev pub Headline : RunAccount → Status → Type 0
Headline run got =
    (name session_name bytes session : List ℕ) (files : Files) (start : Session)
    → names_of run.words ≡ Some (name, session_name) → run.before.depot.files ≡ Some files
    → Holds files name bytes → start_in name bytes ≡ Ok start → Holds files session_name session
    → (ReadingFailed run → ⊥) → (WritingFailed run → ⊥) → (got ≡ status.Memory → ⊥)
    → Puts run.before.sink run.after.sink (session_of files start session).text
