-- What a line does, with its cause or its answer as a value, and what is written for that.
use Rattle.std.specs.Prelude.{ℕ, List, [], ◌++◌, flat_map, Option, Some, None}
use Rattle.xf_base.specs.declared.cell.Cell.{Cell}
use Rattle.xf_base.specs.declared.column.Column.{Column}
use Rattle.xf_base.specs.declared.form.KeyForm.{KeyForm}
use Rattle.xf_engine.specs.declared.events.Events.{Events}
use Rattle.xf_base.specs.declared.key.Key.{Key}
use Rattle.xf_reply.specs.declared.answer.Field.{Field}
use Rattle.xf_model.specs.Replay as replay
use Rattle.xf_reply.specs.Answer as line
use Rattle.xf_reply.specs.Step.{reply_text}
use Rattle.xf_reply.specs.declared.refusal.Refusal.{Refusal}
use Rattle.xf_reply.specs.declared.reply.Change.{Change}
use Rattle.xf_reply.specs.declared.reply.Reply.{Reply}
use Rattle.xf_reply.specs.declared.reply.Reply.TheVariants as reply
use Rattle.xf_session.specs.State.{Session}

-- an entry of a group: its key and its fields
abbrev pub KeyFields : Type 0
KeyFields = Key × List Field

-- the answer to an accepted line: what changed; records of these columns with their places; entries of a group, whose keys
-- are written so; the entry of a key, if there is one; a number; counts of events; nothing
pub data Answer : Type 0 where
  Changes : Change → Answer
  Records : List Column → List (ℕ × List Cell) → Answer
  Entries : KeyForm → List KeyFields → Answer
  Entry : KeyForm → Option KeyFields → Answer
  Number : ℕ → Answer
  Counts : Events → Answer
  Nothing : Answer

abbrev pub Outcome : Type 0
Outcome = replay.Outcome Session Refusal Answer

-- ---- what is written

abbrev pub entry_lines : KeyForm → List KeyFields → List ℕ
entry_lines form entries = flat_map (λ (entry : KeyFields). line.entry_line form entry.0 entry.1) entries

abbrev pub found_line : KeyForm → Option KeyFields → List ℕ
found_line form (Some entry) = line.entry_line form entry.0 entry.1
found_line form None = line.none_line

abbrev pub record_lines : List Column → List (ℕ × List Cell) → List ℕ
record_lines columns placed = flat_map (λ (at : ℕ × List Cell). line.record_line columns at.0 at.1) placed

-- the reply that tells an answer
abbrev pub reply_to : Answer → Reply
reply_to (Changes change) = reply.Changed change
reply_to (Records columns placed) = reply.Answer (record_lines columns placed)
reply_to (Entries form list) = reply.Answer (entry_lines form list)
reply_to (Entry form found) = reply.Answer (found_line form found)
reply_to (Number count) = reply.Answer (line.number_line count)
reply_to (Counts counts) = reply.Answer (line.events_line counts.added counts.removed counts.filtered)
reply_to Nothing = reply.Answer []

-- the reply that tells an outcome
abbrev pub reply_of : Outcome → Reply
reply_of replay.skipped = reply.Skipped
reply_of (replay.refused cause) = reply.Refused cause
reply_of (replay.accepted state answer) = reply_to answer

-- the view of the state after an accepted line
abbrev pub view_after : (Session → List ℕ) → Outcome → List ℕ
view_after view replay.skipped = []
view_after view (replay.refused cause) = []
view_after view (replay.accepted state answer) = view state

-- what is written for a line with this outcome, if it is the step of this number
abbrev pub written : (Session → List ℕ) → ℕ → Outcome → List ℕ
written view number outcome = reply_text number (reply_of outcome) ++ view_after view outcome
