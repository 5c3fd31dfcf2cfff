-- What lines and commands do, by what the calls for them did.
use Rattle.std.proofs.Common.{◌≡◌, inl, inr, ◌∙◌, ℕ, ◌+◌, ◌<◌, ◌^◌, nat_lt, Bool, true, false, cond, decimal, List, Option, Some, None, Result, Ok, Err, IfOk, ap, refl, subst, sym}
use Rattle.xf_base.specs.declared.out_of_memory.OutOfMemory.{OutOfMemory}
use Rattle.xf_columns.specs.Columns.{IsWidth}
use Rattle.xf_columns.specs.declared.words.ReducerWords.{ReducerWords}
use Rattle.xf_columns.specs.declared.words.RoundingWords.TheVariants as rounding
use Rattle.xf_columns.specs.declared.words.RoundingWords.{RoundingWords}
use Rattle.xf_model.specs.Replay.{state_after}
use Rattle.xf_outside.specs.Account.{DepotAccount, Files}
use Rattle.xf_outside.specs.Count.{Rose, RoseExactly}
use Rattle.xf_reply.specs.Step.{HasText}
use Rattle.xf_reply.specs.declared.refusal.Refusal.{Refusal}
use Rattle.xf_reply.specs.declared.reply.Reply.{Reply}
use Rattle.xf_filter.proofs.CountWords.{count-small}
use Rattle.xf_filter.specs.Words.{count_of, if_passing}
use Rattle.xf_script.proofs.Said.{Said, SaidRounding, said_of}
use Rattle.xf_script.specs.Openers.{width_of}
use Rattle.xf_script.specs.Grammar.{Answers, IsCommand, Read, form_of_line}
use Rattle.xf_script.specs.declared.command.CommandForm.{CommandForm}
use Rattle.xf_script.specs.declared.command.CommandForm.TheVariants as form
use Rattle.xf_script.specs.declared.line_refusal.LineRefusal.{LineRefusal}
use Rattle.xf_script.specs.declared.line_refusal.LineRefusal.TheVariants as line
use Rattle.xf_session.proofs.ChangeTexts.{IsChange, change_text}
use Rattle.xf_session.specs.Asked.{IsLoadReply, IsLoaded, Performs, TellsAbsent, TellsTooLong, done_of}
use Rattle.xf_session.specs.Command.{Tells, TellsFor, command, outcome_of, outcome_read, unless_refused}
use Rattle.xf_session.specs.Does.{Does, no_files, outcome_within}
use Rattle.xf_session.specs.Does as does
use Rattle.xf_session.specs.Outcome.{Answer, reply_of}
use Rattle.xf_session.specs.State.{Name, Session}
use Rattle.xf_session.specs.declared.apply.Performed.{Performed}
use Rattle.xf_session.specs.declared.apply.Performed.TheVariants as performed

-- ---- a command that asks for no file

-- what it does is the same with any files
pub within_any : (files : Files) (s : Session) (given : CommandForm) → ((file : Name) → given ≡ form.Load file → ⊥) → outcome_within s given ≡ outcome_of files s given
within_any files s (form.Load file) never = absurd (never file refl)
within_any files s (form.Add words) never = refl
within_any files s (form.Filter name words) never = refl
within_any files s (form.Toggle name words) never = refl
within_any files s (form.Clear name) never = refl
within_any files s form.ClearAll never = refl
within_any files s form.RemovePassing never = refl
within_any files s (form.RemoveWhere name words) never = refl
within_any files s (form.Dimension name words) never = refl
within_any files s (form.Group name dimension words reducer) never = refl
within_any files s (form.Whole name reducer) never = refl
within_any files s (form.Order name field) never = refl
within_any files s (form.DisposeDimension name) never = refl
within_any files s (form.DisposeGroup name) never = refl
within_any files s (form.DisposeWhole name) never = refl
within_any files s (form.Top name count offset) never = refl
within_any files s (form.Bottom name count offset) never = refl
within_any files s (form.Groups name) never = refl
within_any files s (form.GroupTop name count) never = refl
within_any files s (form.Value name key) never = refl
within_any files s (form.Records names) never = refl
within_any files s form.Size never = refl
within_any files s form.Passing never = refl
within_any files s form.Events never = refl
within_any files s (form.Note words) never = refl

-- it was done where a call did it that changes something
pub done_change : (given : CommandForm) (old new : Session) (inner : Result Reply OutOfMemory) (outer : Result Performed OutOfMemory)
    → IsChange given → ((file : Name) → given ≡ form.Load file → ⊥) → outer ≡ done_of inner → Does (outcome_within old given) old new inner → Performs given old new outer
done_change given old new inner outer change never is did = subst (Performs given old new) (sym is) (go inner did)
  where
    go : (inner : Result Reply OutOfMemory) → Does (outcome_within old given) old new inner → Performs given old new (done_of inner)
    go (Ok answer) did = (did.0, did.1, change_text old given answer change did.0, never)
    go (Err error) did = did

-- and where a call told it that changes nothing
pub done_asked : (given : CommandForm) (old : Session) (inner : Result Reply OutOfMemory) (outer : Result Performed OutOfMemory)
    → state_after old (outcome_within old given) ≡ old → ((file : Name) → given ≡ form.Load file → ⊥) → outer ≡ done_of inner → does.Tells (outcome_within old given) inner → IfOk inner HasText
    → Performs given old old outer
done_asked given old inner outer same never is told text = subst (Performs given old old) (sym is) (go inner told text)
  where
    go : (inner : Result Reply OutOfMemory) → does.Tells (outcome_within old given) inner → IfOk inner HasText → Performs given old old (done_of inner)
    go (Ok answer) told text = (told, sym same, text, never)
    go (Err error) told text = refl

-- ---- a line

-- the depot tells the files that its command asks for
tells_for : (told : Option Files) (files : Files) (line : List ℕ) (given : CommandForm) → form_of_line line ≡ Ok (Some given) → Tells told files line → TellsFor told files given
tells_for told files line given read tells =
    elim tells [
      | inl is ↦ inl is
      | inr never ↦ inr (λ file is. never file (read ∙ ap (λ (given : CommandForm). Ok (Some given)) is))
    ]

-- a line does what its command does
pub line_does : {E : Type 0} (told : Option Files) (line : List ℕ) (given : CommandForm) (old new : Session) (result : Result Reply E) → form_of_line line ≡ Ok (Some given)
    → ((files : Files) → TellsFor told files given → Does (outcome_of files old given) old new result)
    → (files : Files) → Tells told files line → Does (command files old line) old new result
line_does told line given old new result read did files tells =
    subst (λ (read : Read (Option CommandForm)). Does (outcome_read files old read) old new result) (sym read) (did files (tells_for told files line given read tells))

-- and so it does over some files
pub line_somewhere : {E : Type 0} (line : List ℕ) (given : CommandForm) (old new : Session) (result : Result Reply E) → form_of_line line ≡ Ok (Some given)
    → ((files : Files) × Does (outcome_of files old given) old new result) → (files : Files) × Does (command files old line) old new result
line_somewhere line given old new result read did =
    (did.0, subst (λ (read : Read (Option CommandForm)). Does (outcome_read did.0 old read) old new result) (sym read) did.1)

-- why a line says no command
pub read_refused : (cause : LineRefusal) (read : Read (Option CommandForm)) → Answers {A = Option CommandForm} (Err cause) read → (cause ≡ line.OutOfMemory → ⊥) → read ≡ Err cause
read_refused (line.TooLong length) read told never = told
read_refused (line.NotText place) read told never = told
read_refused line.Verb read told never = told
read_refused (line.Word number) read told never = told
read_refused (line.TooDeep number) read told never = told
read_refused line.OutOfMemory read told never = absurd (never refl)

-- ---- the single commands

-- what only asks leaves the state
unless_same : (s : Session) (cause : Option Refusal) (answer : Answer) → state_after s (unless_refused cause s answer) ≡ s
unless_same s None answer = refl
unless_same s (Some cause) answer = refl

pub asked_value : (s : Session) (name : Name) (key : List ℕ) → state_after s (outcome_within s (form.Value name key)) ≡ s
asked_value s name key = unless_same s _ _

pub asked_tops : (s : Session) (name : Name) (count : ℕ) → state_after s (outcome_within s (form.GroupTop name count)) ≡ s
asked_tops s name count = unless_same s _ _

pub asked_records : (s : Session) (names : List Name) → state_after s (outcome_within s (form.Records names)) ≡ s
asked_records s names = unless_same s _ _

-- a width that was read has few digits
width_few : (width : ℕ) → width_of (decimal width) ≡ Some width → width < 10 ^ 15
width_few width is = count-small (decimal width) width (passed (nat_lt 0) (count_of (decimal width)) width is)
  where
    passed : (test : ℕ → Bool) (count : Option ℕ) (width : ℕ) → if_passing test count ≡ Some width → count ≡ Some width
    passed test None width is = is
    passed test (Some count) width is = pick (test count) count width is
      where
        pick : (b : Bool) (count width : ℕ) → cond b (Some count) None ≡ Some width → Some count ≡ Some width
        pick true count width is = is
        pick false count width is = cc is

said_width : (rounding : RoundingWords) → SaidRounding rounding → IsWidth rounding
said_width rounding.Same said = tt
said_width (rounding.Floor width) said = width_few width said
said_width rounding.Month said = tt
said_width rounding.Year said = tt
said_width (rounding.Letters letters) said = tt

pub width_of_group : (given : CommandForm) (name dimension : Name) (rounding : RoundingWords) (reducer : ReducerWords) → given ≡ form.Group name dimension rounding reducer → IsCommand given → IsWidth rounding
width_of_group given name dimension rounding reducer is command =
    let said : Said (form.Group name dimension rounding reducer) = subst Said is (said_of command.0 given command.1) in
    said_width rounding said

-- ---- a command that may ask for a file

-- it was done without one
pub performed_done : (told : Option Files) (given : CommandForm) (old new : Session) (answer : Reply) → Performs given old new (Ok (performed.Done answer))
    → (files : Files) → TellsFor told files given → (answer ≡ reply_of (outcome_of files old given)) × (new ≡ state_after old (outcome_of files old given))
performed_done told given old new answer did files tells =
    subst (λ outcome. (answer ≡ reply_of outcome) × (new ≡ state_after old outcome)) (within_any files old given did.3) (did.0, did.1)

pub performed_somewhere : (given : CommandForm) (old new : Session) (answer : Reply) → Performs given old new (Ok (performed.Done answer))
    → (files : Files) × ((answer ≡ reply_of (outcome_of files old given)) × (new ≡ state_after old (outcome_of files old given)))
performed_somewhere given old new answer did = (no_files, (did.0, did.1))

-- or the file was loaded
pub performed_load : {E : Type 0} (told : Option Files) (given : CommandForm) (file : Name) (old mid new : Session) (result : Result Reply E) → Performs given old mid (Ok (performed.Asks file))
    → ((files : Files) → told ≡ Some files → Does (outcome_of files mid (form.Load file)) mid new result)
    → (files : Files) → TellsFor told files given → Does (outcome_of files old given) old new result
performed_load told given file old mid new result asks loaded files tells =
    elim tells [
      | inl is ↦ rw asks.0 (subst (λ (s : Session). Does (outcome_of files s (form.Load file)) s new result) asks.1 (loaded files is))
      | inr never ↦ absurd (never file asks.0)
    ]

pub loaded_somewhere : {E : Type 0} (given : CommandForm) (file : Name) (old mid new : Session) (result : Result Reply E) → Performs given old mid (Ok (performed.Asks file))
    → ((files : Files) × Does (outcome_of files mid (form.Load file)) mid new result) → (files : Files) × Does (outcome_of files old given) old new result
loaded_somewhere given file old mid new result asks loaded =
    (loaded.0, rw asks.0 (subst (λ (s : Session). Does (outcome_of loaded.0 s (form.Load file)) s new result) asks.1 loaded.1))

-- what a `load` tells and counts, whatever its file
pub loaded_as : {E : Type 0} (old mid : Session) (before after : DepotAccount) (result : Result Reply E) → mid ≡ old → IfOk result IsLoadReply
    → IfOk result (λ answer. TellsAbsent answer → RoseExactly before.misses after.misses 1)
    → IfOk result (λ answer. TellsTooLong mid.cross.limits.file_bytes answer → Rose before.taken after.taken (mid.cross.limits.file_bytes + 1))
    → IfOk result (IsLoaded old.cross.limits.file_bytes before after)
loaded_as old mid before after (Ok answer) same answered absent long =
    subst (λ (s : Session). IsLoaded s.cross.limits.file_bytes before after answer) same (record { answered = answered; absent = absent; too_long = long })
loaded_as old mid before after (Err error) same answered absent long = tt
