-- What a session of joined lines is, beside that of the first.
use Rattle.std.proofs.Common.{◌≡◌, ℕ, ◌+◌, ◌≤◌, List, [], ◌∷◌, ◌++◌, refl, sym, ap, ◌∙◌, arith}
use Rattle.std.proofs.lemmas.List.{append-nil}
use Rattle.std.proofs.Common.{append_assoc}
use Rattle.std.proofs.lemmas.List.Sums.{fold-append}
use Rattle.std.specs.List.{fold}
use Rattle.xf_model.specs.Replay.{Outcome, Progress, beginning, progress_after, replay, session_text, skipped, refused, accepted}

-- a session goes on from where its first lines have brought it
pub replay-append : {State Cause Answer Line : Type 0} (command : State → Line → Outcome State Cause Answer) (written : ℕ → Outcome State Cause Answer → List ℕ) (state : State) (xs ys : List Line) → replay command written state (xs ++ ys) ≡ fold (λ so_far line. progress_after written so_far (command so_far.state line)) (replay command written state xs) ys
replay-append command written state xs ys = fold-append (λ so_far line. progress_after written so_far (command so_far.state line)) (beginning state) xs ys

-- a line leaves what is written, and adds to it
text-progress_after : {State Cause Answer : Type 0} (written : ℕ → Outcome State Cause Answer → List ℕ) (so_far : Progress State) (outcome : Outcome State Cause Answer) → (added : List ℕ) × ((progress_after written so_far outcome).text ≡ so_far.text ++ added)
text-progress_after written so_far outcome = (written (so_far.number + 1) outcome, refl)

-- so do lines in turn
pub text-fold : {State Cause Answer Line : Type 0} (command : State → Line → Outcome State Cause Answer) (written : ℕ → Outcome State Cause Answer → List ℕ) (so_far : Progress State) (lines : List Line) → (added : List ℕ) × ((fold (λ p line. progress_after written p (command p.state line)) so_far lines).text ≡ so_far.text ++ added)
text-fold command written so_far [] = ([], sym (append-nil so_far.text))
text-fold command written so_far (line ∷ lines) =
    let first = text-progress_after written so_far (command so_far.state line) in
    let rest = text-fold command written (progress_after written so_far (command so_far.state line)) lines in
    (first.0 ++ rest.0, rest.1 ∙ ap (λ text. text ++ rest.0) first.1 ∙ append_assoc so_far.text first.0 rest.0)

-- the text of the first lines begins the text of all
pub session_text-append : {State Cause Answer Line : Type 0} (command : State → Line → Outcome State Cause Answer) (written : ℕ → Outcome State Cause Answer → List ℕ) (state : State) (xs ys : List Line) → (added : List ℕ) × (session_text command written state (xs ++ ys) ≡ session_text command written state xs ++ added)
session_text-append command written state xs ys =
    let rest = text-fold command written (replay command written state xs) ys in
    (rest.0, ap (λ progress. progress.text) (replay-append command written state xs ys) ∙ rest.1)

refusals-progress_after : {State Cause Answer : Type 0} (written : ℕ → Outcome State Cause Answer → List ℕ) (so_far : Progress State) (outcome : Outcome State Cause Answer) → so_far.refusals ≤ so_far.number → (progress_after written so_far outcome).refusals ≤ (progress_after written so_far outcome).number
refusals-progress_after written so_far skipped fewer = omega arith
refusals-progress_after written so_far (refused cause) fewer = omega arith
refusals-progress_after written so_far (accepted state answer) fewer = omega arith

refusals-fold : {State Cause Answer Line : Type 0} (command : State → Line → Outcome State Cause Answer) (written : ℕ → Outcome State Cause Answer → List ℕ) (so_far : Progress State) (lines : List Line) → so_far.refusals ≤ so_far.number → (fold (λ p line. progress_after written p (command p.state line)) so_far lines).refusals ≤ (fold (λ p line. progress_after written p (command p.state line)) so_far lines).number
refusals-fold command written so_far [] fewer = fewer
refusals-fold command written so_far (line ∷ lines) fewer =
    refusals-fold command written (progress_after written so_far (command so_far.state line)) lines (refusals-progress_after written so_far (command so_far.state line) fewer)

-- no more steps are refused than there are
pub refusals-le-number : {State Cause Answer Line : Type 0} (command : State → Line → Outcome State Cause Answer) (written : ℕ → Outcome State Cause Answer → List ℕ) (state : State) (lines : List Line) → (replay command written state lines).refusals ≤ (replay command written state lines).number
refusals-le-number command written state lines = refusals-fold command written (beginning state) lines (omega arith)
