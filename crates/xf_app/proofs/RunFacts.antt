-- What the parts of a run give together.
use Rattle.std.proofs.Common.{◌≡◌, ◌⊎◌, inl, inr, ℕ, ◌+◌, ◌<◌, ◌≤◌, nat_lt, true, false, List, length, Option, Some, None, IfSome, IsSome, IsSomeAnd, Result, Ok, Err, refl, sym, ap, subst, ◌∙◌, arith}
use Rattle.std.proofs.lemmas.Bool.{lt-ltb, le-ltb}
use Rattle.std.specs.FinMap.{get}
use Rattle.xf_app.proofs.Put.{part-nothing}
use Rattle.xf_app.proofs.Told.{told-both, told-each, told-map}
use Rattle.xf_app.specs.Due.{Due, absent_due, board_due, due_of, file_due, files_due, names_due, progress_due, refused_due, session_of, too_long_due, usage_due}
use Rattle.xf_app.specs.Ends.{Counted, Ends, EndsRefused, EndsSilent, EndsUnfetched, IsRun, Plays, Sides}
use Rattle.xf_app.specs.Put.{Puts, PutsPart}
use Rattle.xf_app.specs.Run.{CountsFaults, CountsMisses, HasCause, Headline, Holds, IsAccepted, IsStopped, MeetsDue, NoMiss, NoReadFault, NoWriteFault, OneMiss, ReadingFailed, RunAccount, WritingFailed}
use Rattle.xf_app.specs.Start.{start_in}
use Rattle.xf_app.specs.Words.{names_of}
use Rattle.xf_app.specs.declared.start.StartRefusal.{StartRefusal}
use Rattle.xf_app.specs.declared.start.StartRefusal.TheVariants as start
use Rattle.xf_app.specs.declared.status.Status.{Status}
use Rattle.xf_app.specs.declared.status.Status.TheVariants as status
use Rattle.xf_base.specs.declared.limits.TheConstants.Limits.{FILE_BYTES}
use Rattle.xf_outside.specs.Account.{DepotAccount, Files, SinkAccount}
use Rattle.xf_outside.specs.Count.{FaultsAfterFetch, MissesAfterFetch, Rose, RoseExactly}
use Rattle.xf_outside.specs.declared.depot.FetchFault.{FetchFault}
use Rattle.xf_outside.specs.declared.depot.FetchFault.TheVariants as fetch
use Rattle.xf_session.specs.State.{Session}

-- what the depot counted is as this status tells it, where its text is put whole and where it is not
record CountsAs (run : RunAccount) (got : Status) : Type 0 where
  faults : NoReadFault run
  told : NoWriteFault run → CountsFaults run got
  misses : CountsMisses run got

-- a run that stopped without memory has counted a fault
stopped-counted : (run : RunAccount) (got : Status) → HasCause run got → IsStopped got → (got ≡ status.Memory → ⊥) → (ReadingFailed run → ⊥) → (WritingFailed run → ⊥) → ⊥
stopped-counted run got cause stopped memory reading writing =
    elim stopped [
      | inl read ↦ let c = subst (HasCause run) read cause in reading c.1
      | inr later ↦ elim later [
        | inl wrote ↦ let c = subst (HasCause run) wrote cause in writing c
        | inr none ↦ memory none
      ]
    ]

-- a file that is held within the limit is what its bytes say
file_due-held : (files : Files) (name bytes : List ℕ) (given : List ℕ → Due) → Holds files name bytes → file_due name (get files name) given ≡ given bytes
file_due-held files name bytes given held =
    let short : nat_lt FILE_BYTES (length bytes) ≡ false = le-ltb FILE_BYTES (length bytes) held.1 in
    rw (held.0, short) refl

-- what is due for the session's file, after a board that was accepted
abbrev after_board : Files → List ℕ → Session → Due
after_board files session board = file_due session (get files session) (λ s. progress_due (session_of files board s))

-- what is due for a board that is held is what it reads as
files_due-held : (files : Files) (name session bytes : List ℕ) (read : Result Session StartRefusal) → Holds files name bytes → start_in name bytes ≡ read
    → files_due name session files ≡ board_due read (after_board files session)
files_due-held files name session bytes read held made =
    file_due-held files name bytes (λ b. board_due (start_in name b) (after_board files session)) held ∙ ap (λ r. board_due r (after_board files session)) made

-- the headline follows from what is due
headline-from : (run : RunAccount) (got : Status) → HasCause run got → MeetsDue run got → Headline run got
headline-from run got cause meets = λ name session_name bytes session files board names told held made session_held reading writing memory.
    let session_due : Due = progress_due (session_of files board session) in
    let due : due_of run.words run.before.depot.files ≡ Some session_due =
    rw (names, told) (ap (λ (d : Due). Some d) (files_due-held files name session_name bytes (Ok board) held made
    ∙ file_due-held files session_name session (λ s. progress_due (session_of files board s)) session_held)) in
    elim (rw due at meets) [
      | inl whole ↦ whole.1
      | inr stopped ↦ absurd (stopped-counted run got cause stopped.0 memory reading writing)
    ]

meets : (run : RunAccount) (got : Status) → HasCause run got → CountsFaults run got → CountsMisses run got → MeetsDue run got → IsRun run got
meets run got cause faults misses due = record {
  cause = cause;
  faults = faults;
  misses = misses;
  due = due;
  headline = headline-from run got cause due;
}

-- what is due is this, where it is known
abbrev IsDue : RunAccount → Due → Type 0
IsDue run due = IfSome (due_of run.words run.before.depot.files) (λ d. d ≡ due)

-- a run that ended with what is due
ends : (run : RunAccount) (due : Due) (got : Status) → IsDue run due → HasCause run due.status → CountsAs run due.status → Ends due run.before.sink run.after.sink got → IsRun run got
ends run due got is cause counted h =
    elim h [
      | inl whole ↦ meets run got (subst (HasCause run) (sym whole.0) cause) (subst (CountsFaults run) (sym whole.0) (counted.told whole.1.1)) (subst (CountsMisses run) (sym whole.0) counted.misses)
          (told-map (due_of run.words run.before.depot.files) _ _ (λ d e. inl (rw e whole.0, rw e whole.1.0)) is)
      | inr stopped ↦ elim stopped [
        | inl failed ↦ meets run got (subst (HasCause run) (sym failed.0) failed.2.0) (subst (CountsFaults run) (sym failed.0) (counted.faults, failed.2)) (subst (CountsMisses run) (sym failed.0) tt)
            (told-map (due_of run.words run.before.depot.files) _ _ (λ d e. inr (inr (inl failed.0), rw e failed.1)) is)
        | inr memory ↦ meets run got (subst (HasCause run) (sym memory.0) tt) (subst (CountsFaults run) (sym memory.0) (counted.faults, memory.2)) (subst (CountsMisses run) (sym memory.0) tt)
            (told-map (due_of run.words run.before.depot.files) _ _ (λ d e. inr (inr (inr memory.0), rw e memory.1)) is)
      ]
    ]

-- nothing was put: the run stopped before it put anything
silent-due : (run : RunAccount) (got : Status) → IsStopped got → run.after.sink ≡ run.before.sink → MeetsDue run got
silent-due run got stopped same =
    told-each (due_of run.words run.before.depot.files) _ (λ due e. inr (stopped, subst (λ sink. PutsPart run.before.sink sink due.text) (sym same) (part-nothing run.before.sink due.text)))

-- memory was refused before anything was put
pub silent-memory : (run : RunAccount) (got : Status) → NoReadFault run → EndsSilent status.Memory run.before.sink run.after.sink got → IsRun run got
silent-memory run got quiet h =
    meets run got (subst (HasCause run) (sym h.0) tt) (subst (CountsFaults run) (sym h.0) (quiet, ap (λ (s : SinkAccount). s.faults) h.1)) (subst (CountsMisses run) (sym h.0) tt)
    (silent-due run got (inr (inr h.0)) h.1)

-- the count of the depot's faults rose by one, and by no more
abbrev FailedOnce : RunAccount → Type 0
FailedOnce run = RoseExactly run.before.depot.faults run.after.depot.faults 1

silent-read_fault : (run : RunAccount) (got : Status) → IsAccepted run → FailedOnce run → EndsSilent status.ReadFault run.before.sink run.after.sink got → IsRun run got
silent-read_fault run got accepted failed h =
    meets run got (subst (HasCause run) (sym h.0) (accepted, failed.0)) (subst (CountsFaults run) (sym h.0) (failed, ap (λ (s : SinkAccount). s.faults) h.1)) (subst (CountsMisses run) (sym h.0) tt)
    (silent-due run got (inl h.0) h.1)

-- the words are accepted
accepted : (words : List (List ℕ)) (names : List ℕ × List ℕ) → names_of words ≡ Some names → IsSome (names_of words)
accepted words names e = rw e refl

-- the words are refused
pub run-usage : (run : RunAccount) (got : Status) → names_of run.words ≡ None → NoReadFault run → NoMiss run → Ends usage_due run.before.sink run.after.sink got → IsRun run got
run-usage run got none quiet found h =
    let is : IsDue run usage_due = rw none refl in
    ends run usage_due got is none (record { faults = quiet; told = λ w. (quiet, w); misses = found }) h

-- what the files tell of a name
names-due : (run : RunAccount) (name session : List ℕ) (due : Due) (fact : Files → Type 0) → names_of run.words ≡ Some (name, session)
    → IfSome run.before.depot.files fact → ((files : Files) → fact files → files_due name session files ≡ due) → IsDue run due
names-due run name session due fact names told gives = rw names (go run.before.depot.files told)
  where
    go : (o : Option Files) → IfSome o fact → IfSome (names_due (Some (name, session)) o) (λ d. d ≡ due)
    go None t = tt
    go (Some files) t = gives files t

-- a file that has more bytes than the limit is too long
file_due-long : (files : Files) (name : List ℕ) (given : List ℕ → Due) → IsSomeAnd (get files name) (λ bytes. FILE_BYTES < length bytes) → file_due name (get files name) given ≡ too_long_due name
file_due-long files name given h = go (get files name) h
  where
    go : (o : Option (List ℕ)) → IsSomeAnd o (λ bytes. FILE_BYTES < length bytes) → file_due name o given ≡ too_long_due name
    go None t = absurd t
    go (Some bytes) t = let long : nat_lt FILE_BYTES (length bytes) ≡ true = lt-ltb FILE_BYTES (length bytes) t in rw long refl

-- a count that rose after an earlier one rose from that one too
pub rose-later : (a b c by : ℕ) → a ≤ b → Rose b c by → Rose a c by
rose-later a b c by first h = omega (arith, h)

-- what a fetch of a name that was answered by a fault tells
pub record IsMissed (run : RunAccount) (name : List ℕ) (cause : FetchFault) : Type 0 where
  pub absent : cause ≡ fetch.Absent → Rose run.before.depot.misses run.after.depot.misses 1 × IfSome run.before.depot.files (λ files. get files name ≡ None)
  pub too_long : cause ≡ fetch.TooLong → Rose run.before.depot.taken run.after.depot.taken (FILE_BYTES + 1) × IfSome run.before.depot.files (λ files. IsSomeAnd (get files name) (λ bytes. FILE_BYTES < length bytes))
  pub failed : cause ≡ fetch.Failed → FailedOnce run
  pub quiet : (cause ≡ fetch.Failed → ⊥) → NoReadFault run
  pub once : OneMiss run
  pub found : (cause ≡ fetch.Absent → ⊥) → NoMiss run

-- what the clauses of the first fetch tell
pub missed-first : (run : RunAccount) (name : List ℕ) (cause : FetchFault)
    → (cause ≡ fetch.Absent → Rose run.before.depot.misses run.after.depot.misses 1 × IfSome run.before.depot.files (λ files. get files name ≡ None))
    → (cause ≡ fetch.TooLong → Rose run.before.depot.taken run.after.depot.taken (FILE_BYTES + 1) × IfSome run.before.depot.files (λ files. IsSomeAnd (get files name) (λ bytes. FILE_BYTES < length bytes)))
    → FaultsAfterFetch {X = Unit {0}} (Err cause) run.before.depot.faults run.after.depot.faults → MissesAfterFetch {X = Unit {0}} (Err cause) run.before.depot.misses run.after.depot.misses → IsMissed run name cause
missed-first run name fetch.Absent absent long faults misses = record { absent = absent; too_long = long; failed = λ e. cc e; quiet = λ e. faults; once = misses.1; found = λ e. absurd (e refl) }
missed-first run name fetch.TooLong absent long faults misses = record { absent = absent; too_long = long; failed = λ e. cc e; quiet = λ e. faults; once = omega (arith, misses); found = λ e. misses }
missed-first run name fetch.Failed absent long faults misses = record { absent = absent; too_long = long; failed = λ e. faults; quiet = λ e. absurd (e refl); once = omega (arith, misses); found = λ e. misses }
missed-first run name fetch.OutOfMemory absent long faults misses = record { absent = absent; too_long = long; failed = λ e. cc e; quiet = λ e. faults; once = omega (arith, misses); found = λ e. misses }

-- and those of the second, where the first has counted no fault and no miss
pub missed-second : (run : RunAccount) (name : List ℕ) (cause : FetchFault) (now : DepotAccount) → now.files ≡ run.before.depot.files → now.faults ≡ run.before.depot.faults
    → now.misses ≡ run.before.depot.misses → run.before.depot.taken ≤ now.taken
    → (cause ≡ fetch.Absent → Rose now.misses run.after.depot.misses 1 × IfSome now.files (λ files. get files name ≡ None))
    → (cause ≡ fetch.TooLong → Rose now.taken run.after.depot.taken (FILE_BYTES + 1) × IfSome now.files (λ files. IsSomeAnd (get files name) (λ bytes. FILE_BYTES < length bytes)))
    → FaultsAfterFetch {X = Unit {0}} (Err cause) now.faults run.after.depot.faults → MissesAfterFetch {X = Unit {0}} (Err cause) now.misses run.after.depot.misses → IsMissed run name cause
missed-second run name cause now files quiet found taken absent long faults misses =
    missed-first run name cause
    (λ e. let miss = absent e in (subst (λ n. Rose n run.after.depot.misses 1) found miss.0, subst (λ o. IfSome o (λ f. get f name ≡ None)) files miss.1))
    (λ e. let more = long e in (rose-later run.before.depot.taken now.taken run.after.depot.taken (FILE_BYTES + 1) taken more.0, subst (λ o. IfSome o (λ f. IsSomeAnd (get f name) (λ bytes. FILE_BYTES < length bytes))) files more.1))
    (subst (λ n. FaultsAfterFetch {X = Unit {0}} (Err cause) n run.after.depot.faults) quiet faults)
    (subst (λ n. MissesAfterFetch {X = Unit {0}} (Err cause) n run.after.depot.misses) found misses)

-- a file that was fetched is held
pub holds-fetched : (told : Option Files) (name bytes : List ℕ) → length bytes ≤ FILE_BYTES → IfSome told (λ files. get files name ≡ Some bytes) → IfSome told (λ files. Holds files name bytes)
holds-fetched told name bytes small at = told-map told _ _ (λ files e. (e, small)) at

-- a file that is not there is told, and one that is too long
counted-absent : (run : RunAccount) (name : List ℕ) → IsMissed run name fetch.Absent → CountsAs run status.Absent
counted-absent run name missed =
    let quiet = missed.quiet (λ e. cc e) in
    record { faults = quiet; told = λ w. (quiet, w); misses = missed.once }

counted-too_long : (run : RunAccount) (name : List ℕ) → IsMissed run name fetch.TooLong → CountsAs run status.TooLong
counted-too_long run name missed =
    let quiet = missed.quiet (λ e. cc e) in
    record { faults = quiet; told = λ w. (quiet, w); misses = missed.found (λ e. cc e) }

-- the board was not fetched
pub run-no_board : (run : RunAccount) (name session : List ℕ) (cause : FetchFault) (got : Status) → names_of run.words ≡ Some (name, session)
    → IsMissed run name cause → EndsUnfetched cause name run.before.sink run.after.sink got → IsRun run got
run-no_board run name session fetch.Absent got names missed h =
    let miss = missed.absent refl in
    let is = names-due run name session (absent_due name) (λ files. get files name ≡ None) names miss.1 (λ files none. rw none refl) in
    ends run (absent_due name) got is (accepted run.words (name, session) names, miss.0) (counted-absent run name missed) h
run-no_board run name session fetch.TooLong got names missed h =
    let more = missed.too_long refl in
    let is = names-due run name session (too_long_due name) (λ files. IsSomeAnd (get files name) (λ bytes. FILE_BYTES < length bytes)) names more.1 (λ files long. file_due-long files name (λ b. board_due (start_in name b) (after_board files session)) long) in
    ends run (too_long_due name) got is (accepted run.words (name, session) names, more.0) (counted-too_long run name missed) h
run-no_board run name session fetch.Failed got names missed h = silent-read_fault run got (accepted run.words (name, session) names) (missed.failed refl) h
run-no_board run name session fetch.OutOfMemory got names missed h = silent-memory run got (missed.quiet (λ e. cc e)) h

-- what a start was said to be, where memory was not refused
pub started : (name bytes : List ℕ) (given : Session) → (◌≡◌ {A = Result Session StartRefusal} (Ok given) (Err start.OutOfMemory)) ⊎ (Ok given ≡ start_in name bytes) → start_in name bytes ≡ Ok given
started name bytes given (inl none) = cc none
started name bytes given (inr is) = sym is

-- the board's file has no session
pub run-refused : (run : RunAccount) (name session bytes : List ℕ) (refusal : StartRefusal) (got : Status) → names_of run.words ≡ Some (name, session)
    → IfSome run.before.depot.files (λ files. Holds files name bytes) → NoReadFault run → NoMiss run
    → (◌≡◌ {A = Result Session StartRefusal} (Err refusal) (Err start.OutOfMemory)) ⊎ (Err refusal ≡ start_in name bytes)
    → EndsRefused refusal run.before.sink run.after.sink got → IsRun run got
run-refused run name session bytes refusal got names held quiet found made h = go refusal made h
  where
    caused-by : (cause : StartRefusal) → start_in name bytes ≡ Err cause → Ends (refused_due cause) run.before.sink run.after.sink got → IsRun run got
    caused-by cause is ended =
        let due = names-due run name session (refused_due cause) (λ files. Holds files name bytes) names held (λ files holds. files_due-held files name session bytes (Err cause) holds is) in
        ends run (refused_due cause) got due (accepted run.words (name, session) names) (record { faults = quiet; told = λ w. (quiet, w); misses = found }) ended

    go : (cause : StartRefusal) → (◌≡◌ {A = Result Session StartRefusal} (Err cause) (Err start.OutOfMemory)) ⊎ (Err cause ≡ start_in name bytes)
        → EndsRefused cause run.before.sink run.after.sink got → IsRun run got
    go start.OutOfMemory is ended = silent-memory run got quiet ended
    go (start.Data cause) (inl none) ended = cc none
    go (start.Data cause) (inr is) ended = caused-by (start.Data cause) (sym is) ended
    go (start.Board cause) (inl none) ended = cc none
    go (start.Board cause) (inr is) ended = caused-by (start.Board cause) (sym is) ended

-- what is due where the board was accepted
session-due : (name session bytes : List ℕ) (board : Session) (files : Files) → Holds files name bytes → start_in name bytes ≡ Ok board
    → files_due name session files ≡ file_due session (get files session) (λ s. progress_due (session_of files board s))
session-due name session bytes board files holds made = files_due-held files name session bytes (Ok board) holds made

-- the session was not fetched, after a board that was accepted
pub run-no_session : (run : RunAccount) (name session bytes : List ℕ) (board : Session) (cause : FetchFault) (got : Status) → names_of run.words ≡ Some (name, session)
    → IfSome run.before.depot.files (λ files. Holds files name bytes) → start_in name bytes ≡ Ok board → IsMissed run session cause
    → EndsUnfetched cause session run.before.sink run.after.sink got → IsRun run got
run-no_session run name session bytes board fetch.Absent got names held made missed h =
    let miss = missed.absent refl in
    let is = names-due run name session (absent_due session) (λ files. Holds files name bytes × (get files session ≡ None)) names (told-both run.before.depot.files _ _ held miss.1)
    (λ files t. session-due name session bytes board files t.0 made ∙ rw t.1 refl) in
    ends run (absent_due session) got is (accepted run.words (name, session) names, miss.0) (counted-absent run session missed) h
run-no_session run name session bytes board fetch.TooLong got names held made missed h =
    let more = missed.too_long refl in
    let is = names-due run name session (too_long_due session) (λ files. Holds files name bytes × IsSomeAnd (get files session) (λ b. FILE_BYTES < length b)) names (told-both run.before.depot.files _ _ held more.1)
    (λ files t. session-due name session bytes board files t.0 made ∙ file_due-long files session (λ s. progress_due (session_of files board s)) t.1) in
    ends run (too_long_due session) got is (accepted run.words (name, session) names, more.0) (counted-too_long run session missed) h
run-no_session run name session bytes board fetch.Failed got names held made missed h = silent-read_fault run got (accepted run.words (name, session) names) (missed.failed refl) h
run-no_session run name session bytes board fetch.OutOfMemory got names held made missed h = silent-memory run got (missed.quiet (λ e. cc e)) h

-- the session was played, after fetches that counted no fault and no miss
caused : (run : RunAccount) (got : Status) (before after : Sides) → IsAccepted run → before.depot.faults ≡ run.before.depot.faults → before.sink ≡ run.before.sink
    → after.depot ≡ run.after.depot → after.sink ≡ run.after.sink → Counted got before after → HasCause run got
caused run status.Done before after ok faults sink depot_is sink_is h = ok
caused run status.DoneWithRefusals before after ok faults sink depot_is sink_is h = ok
caused run status.Usage before after ok faults sink depot_is sink_is h = absurd h
caused run status.BoardRefused before after ok faults sink depot_is sink_is h = absurd h
caused run status.ReadFault before after ok faults sink depot_is sink_is h = (ok, rw (← faults, ← depot_is) h.0.0)
caused run status.WriteFault before after ok faults sink depot_is sink_is h = rw (← sink, ← sink_is) h.1.0
caused run status.Memory before after ok faults sink depot_is sink_is h = tt
caused run status.Absent before after ok faults sink depot_is sink_is h = absurd h
caused run status.TooLong before after ok faults sink depot_is sink_is h = absurd h

fault_counts : (run : RunAccount) (got : Status) (before after : Sides) → before.depot.faults ≡ run.before.depot.faults → before.sink ≡ run.before.sink
    → after.depot ≡ run.after.depot → after.sink ≡ run.after.sink → Counted got before after → CountsFaults run got
fault_counts run status.Done before after faults sink depot_is sink_is h = rw (← faults, ← sink, ← depot_is, ← sink_is) (h.0, h.1)
fault_counts run status.DoneWithRefusals before after faults sink depot_is sink_is h = rw (← faults, ← sink, ← depot_is, ← sink_is) h
fault_counts run status.Usage before after faults sink depot_is sink_is h = absurd h
fault_counts run status.BoardRefused before after faults sink depot_is sink_is h = absurd h
fault_counts run status.ReadFault before after faults sink depot_is sink_is h = rw (← faults, ← sink, ← depot_is, ← sink_is) h
fault_counts run status.WriteFault before after faults sink depot_is sink_is h = rw (← faults, ← sink, ← depot_is, ← sink_is) h
fault_counts run status.Memory before after faults sink depot_is sink_is h = rw (← faults, ← sink, ← depot_is, ← sink_is) h
fault_counts run status.Absent before after faults sink depot_is sink_is h = absurd h
fault_counts run status.TooLong before after faults sink depot_is sink_is h = absurd h

miss_counts : (run : RunAccount) (got : Status) (before after : Sides) → before.depot.misses ≡ run.before.depot.misses → after.depot ≡ run.after.depot → Counted got before after → CountsMisses run got
miss_counts run status.Done before after misses depot_is h = rw (← misses, ← depot_is) h.2
miss_counts run status.DoneWithRefusals before after misses depot_is h = tt
miss_counts run status.Usage before after misses depot_is h = absurd h
miss_counts run status.BoardRefused before after misses depot_is h = absurd h
miss_counts run status.ReadFault before after misses depot_is h = tt
miss_counts run status.WriteFault before after misses depot_is h = tt
miss_counts run status.Memory before after misses depot_is h = tt
miss_counts run status.Absent before after misses depot_is h = absurd h
miss_counts run status.TooLong before after misses depot_is h = absurd h

pub run-played : (run : RunAccount) (name session_name bytes session : List ℕ) (start : Session) (got : Status) (before : Sides) → names_of run.words ≡ Some (name, session_name)
    → IfSome run.before.depot.files (λ files. Holds files name bytes) → IfSome run.before.depot.files (λ files. Holds files session_name session) → start_in name bytes ≡ Ok start
    → before.depot.files ≡ run.before.depot.files → before.depot.faults ≡ run.before.depot.faults → before.depot.misses ≡ run.before.depot.misses → before.sink ≡ run.before.sink
    → Counted got before (record { depot = run.after.depot; sink = run.after.sink })
    → IfSome before.depot.files (λ files. Plays files start session before.sink run.after.sink got) → IsRun run got
run-played run name session_name bytes session start got before names held session_held made files faults misses sink counted plays =
    let after : Sides = record { depot = run.after.depot; sink = run.after.sink } in
    let ok = accepted run.words (name, session_name) names in
    let all = told-both run.before.depot.files _ _ held (told-both run.before.depot.files _ _ session_held (rw (files, sink) at plays)) in
    let due : MeetsDue run got = rw names (told-due run.before.depot.files all) in
    meets run got (caused run got before after ok faults sink refl refl counted) (fault_counts run got before after faults sink refl refl counted) (miss_counts run got before after misses refl counted) due
  where
    told-due : (o : Option Files) → IfSome o (λ files. Holds files name bytes × (Holds files session_name session × Plays files start session run.before.sink run.after.sink got))
        → IfSome (names_due (Some (name, session_name)) o) (λ due. ((got ≡ due.status) × Puts run.before.sink run.after.sink due.text) ⊎ (IsStopped got × PutsPart run.before.sink run.after.sink due.text))
    told-due None t = tt
    told-due (Some files) t =
        let is = session-due name session_name bytes start files t.0 made ∙ file_due-held files session_name session (λ s. progress_due (session_of files start s)) t.1.0 in
        subst (λ due. ((got ≡ due.status) × Puts run.before.sink run.after.sink due.text) ⊎ (IsStopped got × PutsPart run.before.sink run.after.sink due.text)) (sym is) t.1.1
