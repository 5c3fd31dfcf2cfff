-- What the reply to a line tells of its outcome.
use Rattle.std.proofs.Common.{◌≡◌, inl, inr, ℕ, ◌+◌, List, [], ◌++◌, IfErr, OnOk, Result, Ok, Err, refl, subst, ap, ◌∙◌, arith}
use Rattle.xf_app.specs.Ends.{Advances, LeadsTo, PutsWhole, StopsIn, line_text, reply_refusals, reply_steps, reply_view}
use Rattle.xf_app.specs.Page.{data_view}
use Rattle.xf_app.specs.Put.{Puts, PutsPart}
use Rattle.xf_app.specs.declared.replay.Tally.{Tally}
use Rattle.xf_app.specs.declared.status.Status.{Status}
use Rattle.xf_model.specs.Replay.{accepted, refusal_count, refused, skipped, state_after, step_count}
use Rattle.xf_outside.specs.Account.{Files, SinkAccount}
use Rattle.xf_reply.specs.Step.{reply_text}
use Rattle.xf_reply.specs.declared.reply.Reply.{Reply}
use Rattle.xf_session.specs.Asked.{TellsAbsent}
use Rattle.xf_session.specs.Command.{command}
use Rattle.xf_session.specs.Outcome.{Answer, Changes, Counts, Entries, Entry, Nothing, Number, Outcome, Records, reply_of, reply_to, view_after}
use Rattle.xf_session.specs.State.{Session}

-- an accepted line is one step, which is not refused, and the view of the state after it stands behind its text
accepted-tells : (state : Session) (answer : Answer) → (reply_steps (reply_to answer) ≡ 1) × (reply_refusals (reply_to answer) ≡ 0) × (reply_view state (reply_to answer) ≡ data_view state)
accepted-tells state (Changes change) = (refl, refl, refl)
accepted-tells state (Records columns placed) = (refl, refl, refl)
accepted-tells state (Entries form list) = (refl, refl, refl)
accepted-tells state (Entry form found) = (refl, refl, refl)
accepted-tells state (Number count) = (refl, refl, refl)
accepted-tells state (Counts counts) = (refl, refl, refl)
accepted-tells state Nothing = (refl, refl, refl)

outcome-tells : (old : Session) (outcome : Outcome) → (reply_steps (reply_of outcome) ≡ step_count outcome) × (reply_refusals (reply_of outcome) ≡ refusal_count outcome)
    × (reply_view (state_after old outcome) (reply_of outcome) ≡ view_after data_view outcome)
outcome-tells old skipped = (refl, refl, refl)
outcome-tells old (refused cause) = (refl, refl, refl)
outcome-tells old (accepted state answer) = accepted-tells state answer

-- a line that was counted by its reply leads on
pub reply-leads : (files : Files) (old new : Session) (before after : Tally) (line : List ℕ) (reply : Reply) → reply ≡ reply_of (command files old line) → new ≡ state_after old (command files old line)
    → after.number ≡ before.number + reply_steps reply → after.refusals ≡ before.refusals + reply_refusals reply → LeadsTo files old before line new after
reply-leads files old new before after line reply is state number refusals =
    let tells = outcome-tells old (command files old line) in
    record {
      state = state;
      number = number ∙ ap (λ r. before.number + reply_steps r) is ∙ ap (λ n. before.number + n) tells.0;
      refusals = refusals ∙ ap (λ r. before.refusals + reply_refusals r) is ∙ ap (λ n. before.refusals + n) tells.1;
    }

-- and what is to be put for it is the text of its reply, and the view
reply-text : (files : Files) (old new : Session) (before : Tally) (line : List ℕ) (reply : Reply) → reply ≡ reply_of (command files old line) → new ≡ state_after old (command files old line)
    → reply_text (before.number + 1) reply ++ reply_view new reply ≡ line_text files old before line
reply-text files old new before line reply is state =
    let tells = outcome-tells old (command files old line) in
    ap (λ r. reply_text (before.number + 1) r ++ reply_view new r) is
    ∙ ap (λ s. reply_text (before.number + 1) (reply_of (command files old line)) ++ reply_view s (reply_of (command files old line))) state
    ∙ ap (λ v. reply_text (before.number + 1) (reply_of (command files old line)) ++ v) tells.2

-- so it is what was put behind nothing
pub reply-put : (files : Files) (old new : Session) (before : Tally) (line : List ℕ) (reply : Reply) (cleared stepped viewed : List ℕ) → reply ≡ reply_of (command files old line) → new ≡ state_after old (command files old line)
    → cleared ≡ [] → stepped ≡ cleared ++ reply_text (before.number + 1) reply → viewed ≡ stepped ++ reply_view new reply → viewed ≡ line_text files old before line
reply-put files old new before line reply cleared stepped viewed is state none step view =
    view ∙ ap (λ text. text ++ reply_view new reply) (step ∙ ap (λ text. text ++ reply_text (before.number + 1) reply) none) ∙ reply-text files old new before line reply is state

-- a reply that was not counted as refused tells of no file that is not there
pub unrefused-found : (reply : Reply) → reply_refusals reply ≡ 0 → TellsAbsent reply → ⊥
unrefused-found reply none absent = let one : reply_refusals reply ≡ 1 = ap reply_refusals absent.1 in absurd (omega (arith, none, one))

-- a text that was not put whole was put in part
stops-part : (text : List ℕ) (before after : SinkAccount) (got : Status) → StopsIn text before after got → PutsPart before after text
stops-part text before after got stops = elim stops [ inl failed ↦ failed.1 | inr memory ↦ memory.1 ]

-- a line was done, and its text put or not
pub advances-put : (files : Files) (old new : Session) (tally later : Tally) (line text : List ℕ) (before after : SinkAccount) (result : Result Unit Status)
    → LeadsTo files old tally line new later → text ≡ line_text files old tally line
    → OnOk result (PutsWhole text before after) → IfErr result (λ got. StopsIn text before after got) → Advances files old tally line new later before after result
advances-put files old new tally later line text before after (Ok done) leads is whole stops = (leads, subst (λ t. Puts before after t) is whole.0)
advances-put files old new tally later line text before after (Err got) leads is whole stops = subst (λ t. PutsPart before after t) is (stops-part text before after got stops)
