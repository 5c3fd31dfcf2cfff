-- What `load` and `add` do, by the rows that are read.
use Rattle.std.proofs.Common.{◌≡◌, ◌∙◌, ℕ, ◌+◌, ◌<◌, ◌≤◌, nat_lt, Bool, true, false, not, cond, List, [], ◌∷◌, length, replicate, Option, Some, None, is_none, unwrap_or, Result, Ok, Err, ap, refl, subst, sym, arith}
use Rattle.std.specs.FinMap as map_of
use Rattle.std.specs.Result.{result_unwrap_or}
use Rattle.std.specs.Cmp.{eq_by_cmp_equiv}
use Rattle.std.proofs.lemmas.Cmp.{nat_list_cmp_total}
use Rattle.std.proofs.lemmas.Bool.{eq-eqb}
use Rattle.std.proofs.lemmas.Bool.Decides.{nat_tests}
use Rattle.std.proofs.lemmas.List.{length-replicate}
use Rattle.xf_base.specs.Key.{text_cmp}
use Rattle.xf_base.specs.declared.cell.Cell.{Cell}
use Rattle.xf_load.specs.Load.{rows_of}
use Rattle.xf_load.specs.declared.load.LoadRefusal.{LoadRefusal}
use Rattle.xf_model.specs.Replay.{refused}
use Rattle.xf_outside.specs.Account.{Files}
use Rattle.xf_reply.specs.declared.refusal.Refusal.{Refusal}
use Rattle.xf_reply.specs.declared.refusal.Refusal.TheVariants as refusal
use Rattle.xf_reply.specs.declared.reply.Reply.TheVariants as reply
use Rattle.xf_script.specs.declared.command.CommandForm.TheVariants as form
use Rattle.xf_session.specs.Arrivals.{read_outcome, row_outcome}
use Rattle.xf_session.specs.Command.{added, bad_rows, outcome_of, row_of_words, too_much, unless, where_so, with_rows}
use Rattle.xf_session.specs.Does.{Does, no_files}
use Rattle.xf_session.specs.Outcome.{Outcome}
use Rattle.xf_session.specs.State.{Name, Session}
use Rattle.xf_session.specs.declared.apply.SessionFault.{SessionFault}

-- words for each column
by-row : (s : Session) (even : Bool) (cause : Refusal) (read : Result (List Cell) LoadRefusal) → even ≡ true
    → unless (where_so (not even) cause ∷ bad_rows s.cross.columns read ∷ too_much s (result_unwrap_or read [] ∷ [])) (with_rows s (result_unwrap_or read [] ∷ [])) (added 1) ≡ row_outcome s read
by-row s true cause (Ok row) is = refl
by-row s true cause (Err why) is = refl
by-row s false cause read is = absurd (cc is)

pub add-outcome : (files : Files) (s : Session) (words : List (List ℕ)) → length words ≡ length s.cross.columns
    → outcome_of files s (form.Add words) ≡ row_outcome s (row_of_words s.cross.columns words)
add-outcome files s words even = by-row s _ _ (row_of_words s.cross.columns words) (eq-eqb (length words) (length s.cross.columns) even)

-- a file that is there and is not too long
by-rows : (s : Session) (long : Bool) (cause : Refusal) (read : Result (List (List Cell)) LoadRefusal) → long ≡ false
    → unless (where_so long cause ∷ bad_rows s.cross.columns read ∷ too_much s (result_unwrap_or read [])) (with_rows s (result_unwrap_or read [])) (added (length (result_unwrap_or read []))) ≡ read_outcome s read
by-rows s false cause (Ok rows) is = refl
by-rows s false cause (Err why) is = refl
by-rows s true cause read is = absurd (cc is)

-- the outcome by what is found under a name
abbrev found_outcome : Session → Name → Option (List ℕ) → Outcome
found_outcome s file found = let read = rows_of s.cross.columns (unwrap_or found []) in
    unless (where_so (is_none found) (refusal.Absent file) ∷ where_so (nat_lt s.cross.limits.file_bytes (length (unwrap_or found []))) (refusal.TooLong file s.cross.limits.file_bytes)
    ∷ bad_rows s.cross.columns read ∷ too_much s (result_unwrap_or read [])) (with_rows s (result_unwrap_or read [])) (added (length (result_unwrap_or read [])))

short-enough : (limit count : ℕ) → count ≤ limit → nat_lt limit count ≡ false
short-enough limit count short = grind (arith, nat_tests)

pub load-outcome : (files : Files) (s : Session) (file : Name) (bytes : List ℕ) → map_of.get files file ≡ Some bytes → length bytes ≤ s.cross.limits.file_bytes
    → outcome_of files s (form.Load file) ≡ read_outcome s (rows_of s.cross.columns bytes)
load-outcome files s file bytes is short =
    subst (λ (found : Option (List ℕ)). found_outcome s file found ≡ read_outcome s (rows_of s.cross.columns bytes)) (sym is)
    (by-rows s _ _ (rows_of s.cross.columns bytes) (short-enough s.cross.limits.file_bytes (length bytes) short))

-- ---- files that answer as a depot did

refused_told : (outcome : Outcome) (s : Session) (cause : Refusal) → outcome ≡ refused cause → Does {E = SessionFault} outcome s s (Ok (reply.Refused cause))
refused_told outcome s cause is = rw is (refl, refl)

-- one file alone
abbrev pub holding : Name → List ℕ → Files
holding file bytes = map_of.insert no_files file bytes

pub held : (file : Name) (bytes : List ℕ) → map_of.get (holding file bytes) file ≡ Some bytes
held file bytes =
    map_of.get-insert nat_list_cmp_total no_files file bytes file
    ∙ ap (λ (same : Bool). cond same (Some bytes) (map_of.get no_files file)) ((eq_by_cmp_equiv nat_list_cmp_total).refl file)

-- a file that is not there is refused
by-absent : (s : Session) (file : Name) → found_outcome s file None ≡ refused (refusal.Absent file)
by-absent s file = refl

absent-outcome : (s : Session) (file : Name) → outcome_of no_files s (form.Load file) ≡ refused (refusal.Absent file)
absent-outcome s file =
    subst (λ (found : Option (List ℕ)). found_outcome s file found ≡ refused (refusal.Absent file)) (sym (map_of.get-empty text_cmp file)) (by-absent s file)

pub load-absent : (s : Session) (file : Name) → (files : Files) × Does {E = SessionFault} (outcome_of files s (form.Load file)) s s (Ok (reply.Refused (refusal.Absent file)))
load-absent s file = (no_files, refused_told _ s (refusal.Absent file) (absent-outcome s file))

-- and one that is too long
by-long : (s : Session) (file : Name) (found : List ℕ) → nat_lt s.cross.limits.file_bytes (length found) ≡ true
    → found_outcome s file (Some found) ≡ refused (refusal.TooLong file s.cross.limits.file_bytes)
by-long s file found long = rw long refl

long-enough : (limit count : ℕ) → limit < count → nat_lt limit count ≡ true
long-enough limit count long = grind (arith, nat_tests)

-- a file of one byte more than a limit
abbrev long_file : ℕ → List ℕ
long_file limit = replicate (limit + 1) 0

long-outcome : (s : Session) (file : Name) → outcome_of (holding file (long_file s.cross.limits.file_bytes)) s (form.Load file) ≡ refused (refusal.TooLong file s.cross.limits.file_bytes)
long-outcome s file = let limit = s.cross.limits.file_bytes in
    subst (λ (found : Option (List ℕ)). found_outcome s file found ≡ refused (refusal.TooLong file limit)) (sym (held file (long_file limit)))
    (by-long s file (long_file limit) (long-enough limit (length (long_file limit)) (omega (arith, length-replicate {A = ℕ} (limit + 1) 0))))

pub load-long : (s : Session) (file : Name) (limit : ℕ) → limit ≡ s.cross.limits.file_bytes
    → (files : Files) × Does {E = SessionFault} (outcome_of files s (form.Load file)) s s (Ok (reply.Refused (refusal.TooLong file limit)))
load-long s file limit is =
    rw is (holding file (long_file s.cross.limits.file_bytes), refused_told _ s (refusal.TooLong file s.cross.limits.file_bytes) (long-outcome s file))
