use Rattle.std.proofs.Common.{◌≡◌, ◌∙◌, ℕ, ◌≤◌, List, length, IfSome, Option, Some, ap, refl, rules, subst, sym}
use Rattle.std.specs.FinMap as map_of
use Rattle.xf_base.specs.Bounds.{Bounds}
use Rattle.xf_load.specs.Load.{rows_of}
use Rattle.xf_model.specs.Replay.{state_after}
use Rattle.xf_outside.specs.Account.{Files}
use Rattle.xf_script.specs.declared.command.CommandForm.TheVariants.{Load}
use Rattle.xf_session.proofs.ReadRows.{held, holding, load-absent, load-long, load-outcome}
use Rattle.xf_session.specs.Arrivals.{read_outcome}
use Rattle.xf_session.specs.Command.{outcome_of}
use Rattle.xf_session.specs.Does.{no_files}
use Rattle.xf_session.specs.Outcome.{reply_of}
use Rattle.xf_session.specs.State.{Name, Session}
use Rattle.xf_session.proofs.session.Session.load.Goals as goal

pub returns-in_ok-add_file-in-Ok-clause-command : goal.returns-in_ok-add_file-in-Ok-clause-command
returns-in_ok-add_file-in-Ok-clause-command g c = λ files told.
    let s = c.args.self.now in
    let bytes = c.in-Ok.bytes.items in
    let fetched = c.in-Ok.ensures.fetched in
    let here = subst (λ (told : Option Files). IfSome told (λ files. map_of.get files c.as_str.result.now ≡ Some bytes)) told fetched.1 in
    let found : map_of.get files c.args.file ≡ Some bytes = subst (λ (name : Name). map_of.get files name ≡ Some bytes) c.as_str.ensures here in
    let limit : c.limits.result.now ≡ s.cross.limits = c.limits.ensures ∙ ap (λ (s : Session). s.cross.limits) c.self.view_is in
    let short : length bytes ≤ s.cross.limits.file_bytes = subst (λ (limits : Bounds). length bytes ≤ limits.file_bytes) (c.behind-self.view_is ∙ limit) fetched.0 in
    let is : read_outcome s (rows_of s.cross.columns c.as_slice.result.now) ≡ outcome_of files s (Load c.args.file) =
    ap (λ (bytes : List ℕ). read_outcome s (rows_of s.cross.columns bytes)) c.as_slice.ensures.value ∙ sym (load-outcome files s c.args.file bytes found short) in
    let told = c.in_ok-add_file-in-Ok.ensures.command in
    (told.0 ∙ ap reply_of is, told.1 ∙ ap (state_after s) is)

pub returns-in_ok-add_file-in-Ok-clause-some_files : goal.returns-in_ok-add_file-in-Ok-clause-some_files
returns-in_ok-add_file-in-Ok-clause-some_files g c =
    let s = c.args.self.now in
    let bytes = c.in-Ok.bytes.items in
    let limit : c.limits.result.now ≡ s.cross.limits = c.limits.ensures ∙ ap (λ (s : Session). s.cross.limits) c.self.view_is in
    let short : length bytes ≤ s.cross.limits.file_bytes = subst (λ (limits : Bounds). length bytes ≤ limits.file_bytes) (c.behind-self.view_is ∙ limit) c.in-Ok.ensures.fetched.0 in
    let is : read_outcome s (rows_of s.cross.columns c.as_slice.result.now) ≡ outcome_of (holding c.args.file bytes) s (Load c.args.file) =
    ap (λ (bytes : List ℕ). read_outcome s (rows_of s.cross.columns bytes)) c.as_slice.ensures.value ∙ sym (load-outcome (holding c.args.file bytes) s c.args.file bytes (held c.args.file bytes) short) in
    let told = c.in_ok-add_file-in-Ok.ensures.command in
    (holding c.args.file bytes, (told.0 ∙ ap reply_of is, told.1 ∙ ap (state_after s) is))

pub returns-in_err-add_file-in-Ok-clause-some_files : goal.returns-in_err-add_file-in-Ok-clause-some_files
returns-in_err-add_file-in-Ok-clause-some_files g c = (no_files, search rules)

pub returns-in-Err-Absent-clause-some_files : goal.returns-in-Err-Absent-clause-some_files
returns-in-Err-Absent-clause-some_files g c = load-absent c.args.self.now c.args.file

pub returns-in-Err-TooLong-clause-some_files : goal.returns-in-Err-TooLong-clause-some_files
returns-in-Err-TooLong-clause-some_files g c =
    let s = c.args.self.now in
    let limit : c.limits.result.now ≡ s.cross.limits = c.limits.ensures ∙ ap (λ (s : Session). s.cross.limits) c.self.view_is in
    load-long s c.args.file c.behind-self.inside.file_bytes (ap (λ (limits : Bounds). limits.file_bytes) (c.behind-self.view_is ∙ limit))

pub returns-in-Err-Failed-clause-some_files : goal.returns-in-Err-Failed-clause-some_files
returns-in-Err-Failed-clause-some_files g c = (no_files, refl)

pub returns-in-Err-OutOfMemory-clause-some_files : goal.returns-in-Err-OutOfMemory-clause-some_files
returns-in-Err-OutOfMemory-clause-some_files g c = (no_files, refl)
