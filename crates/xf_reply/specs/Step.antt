-- What is written for a step.
use Rattle.std.specs.Prelude.{ℕ, List, [], ◌∷◌, ◌++◌, codes, decimal, IsUtf8}
use Rattle.xf_reply.specs.Refused.{refusal_number, refusal_words}
use Rattle.xf_reply.specs.declared.reply.Change.{Change}
use Rattle.xf_reply.specs.declared.reply.Change.TheVariants as change
use Rattle.xf_reply.specs.declared.reply.Reply.{Reply}
use Rattle.xf_reply.specs.declared.reply.Reply.TheVariants as reply

-- a line for the step of a number
abbrev pub step_line : ℕ → List ℕ → List ℕ
step_line number words = codes "step " ++ decimal number ++ 32 ∷ words ++ 10 ∷ []

-- how many came, went or moved, behind a blank
abbrev pub change_words : Change → List ℕ
change_words change.Plain = []
change_words (change.Added count) = codes " added " ++ decimal count
change_words (change.Removed count) = codes " removed " ++ decimal count
change_words (change.Moved count) = codes " moved " ++ decimal count

-- what is written for a reply: nothing for a line that is no step
abbrev pub reply_text : ℕ → Reply → List ℕ
reply_text number reply.Skipped = []
reply_text number (reply.Changed change) = step_line number (codes "ok" ++ change_words change)
reply_text number (reply.Answer lines) = step_line number (codes "ok") ++ lines
reply_text number (reply.Refused cause) = step_line number (codes "refused " ++ decimal (refusal_number cause) ++ 32 ∷ refusal_words cause)

-- the lines of its answer are UTF-8, where it has some
abbrev pub HasText : Reply → Type 0
HasText reply.Skipped = Unit {0}
HasText (reply.Changed change) = Unit {0}
HasText (reply.Answer lines) = IsUtf8 lines
HasText (reply.Refused cause) = Unit {0}
