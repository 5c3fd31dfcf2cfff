-- The reply to a command that changes something has no lines, so that none is anything but UTF-8.
use Rattle.std.proofs.Common.{◌≡◌, Option, Some, None, sym, subst}
use Rattle.std.specs.Bool.{⊤}
use Rattle.xf_reply.specs.Step.{HasText}
use Rattle.xf_reply.specs.declared.refusal.Refusal.{Refusal}
use Rattle.xf_reply.specs.declared.reply.Change.{Change}
use Rattle.xf_reply.specs.declared.reply.Reply.{Reply}
use Rattle.xf_script.specs.declared.command.CommandForm.{CommandForm}
use Rattle.xf_script.specs.declared.command.CommandForm.TheVariants as form
use Rattle.xf_session.specs.Command.{unless_refused}
use Rattle.xf_session.specs.Does.{outcome_within}
use Rattle.xf_session.specs.Outcome.{Changes, reply_of}
use Rattle.xf_session.specs.State.{Session}

-- a command that is refused, or else tells what changed
abbrev pub IsChange : CommandForm → Type 0
IsChange (form.Load file) = ⊤
IsChange (form.Add words) = ⊤
IsChange (form.Filter name words) = ⊤
IsChange (form.Toggle name words) = ⊤
IsChange (form.Clear name) = ⊤
IsChange form.ClearAll = ⊤
IsChange form.RemovePassing = ⊤
IsChange (form.RemoveWhere name words) = ⊤
IsChange (form.Dimension name words) = ⊤
IsChange (form.Group name dimension words reducer) = ⊤
IsChange (form.Whole name reducer) = ⊤
IsChange (form.Order name field) = ⊤
IsChange (form.DisposeDimension name) = ⊤
IsChange (form.DisposeGroup name) = ⊤
IsChange (form.DisposeWhole name) = ⊤
IsChange (form.Top name count offset) = ⊥
IsChange (form.Bottom name count offset) = ⊥
IsChange (form.Groups name) = ⊥
IsChange (form.GroupTop name count) = ⊥
IsChange (form.Value name key) = ⊥
IsChange (form.Records names) = ⊥
IsChange form.Size = ⊥
IsChange form.Passing = ⊥
IsChange form.Events = ⊥
IsChange (form.Note words) = ⊥

refused_or_changed : (cause : Option Refusal) (after : Session) (change : Change) → HasText (reply_of (unless_refused cause after (Changes change)))
refused_or_changed None after change = tt
refused_or_changed (Some cause) after change = tt

text_of : (s : Session) (given : CommandForm) → IsChange given → HasText (reply_of (outcome_within s given))
text_of s (form.Load file) is = refused_or_changed _ _ _
text_of s (form.Add words) is = refused_or_changed _ _ _
text_of s (form.Filter name words) is = refused_or_changed _ _ _
text_of s (form.Toggle name words) is = refused_or_changed _ _ _
text_of s (form.Clear name) is = refused_or_changed _ _ _
text_of s form.ClearAll is = tt
text_of s form.RemovePassing is = tt
text_of s (form.RemoveWhere name words) is = refused_or_changed _ _ _
text_of s (form.Dimension name words) is = refused_or_changed _ _ _
text_of s (form.Group name dimension words reducer) is = refused_or_changed _ _ _
text_of s (form.Whole name reducer) is = refused_or_changed _ _ _
text_of s (form.Order name field) is = refused_or_changed _ _ _
text_of s (form.DisposeDimension name) is = refused_or_changed _ _ _
text_of s (form.DisposeGroup name) is = refused_or_changed _ _ _
text_of s (form.DisposeWhole name) is = refused_or_changed _ _ _
text_of s (form.Top name count offset) is = absurd is
text_of s (form.Bottom name count offset) is = absurd is
text_of s (form.Groups name) is = absurd is
text_of s (form.GroupTop name count) is = absurd is
text_of s (form.Value name key) is = absurd is
text_of s (form.Records names) is = absurd is
text_of s form.Size is = absurd is
text_of s form.Passing is = absurd is
text_of s form.Events is = absurd is
text_of s (form.Note words) is = absurd is

pub change_text : (s : Session) (given : CommandForm) (answer : Reply) → IsChange given → answer ≡ reply_of (outcome_within s given) → HasText answer
change_text s given answer is told = subst HasText (sym told) (text_of s given is)
