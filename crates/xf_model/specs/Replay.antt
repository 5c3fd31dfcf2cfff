-- What a session of lines means: a fold over them that carries the state and the bytes written.
use Rattle.std.specs.Prelude.{ℕ, ◌+◌, List, [], ◌++◌, fold}

-- what a line does in a state: it is no step; it is refused for a cause, which changes nothing; or it is accepted, which
-- gives the state after it and an answer
pub data Outcome (State Cause Answer : Type 0) : Type 0 where
  skipped : Outcome State Cause Answer
  refused : Cause → Outcome State Cause Answer
  accepted : State → Answer → Outcome State Cause Answer

-- the state after a line with this outcome
abbrev pub state_after : {State Cause Answer : Type 0} → State → Outcome State Cause Answer → State
state_after state skipped = state
state_after state (refused cause) = state
state_after state (accepted new answer) = new

-- how many steps a line is, and how many of these are refused
abbrev pub step_count : {State Cause Answer : Type 0} → Outcome State Cause Answer → ℕ
step_count skipped = 0
step_count (refused cause) = 1
step_count (accepted state answer) = 1

abbrev pub refusal_count : {State Cause Answer : Type 0} → Outcome State Cause Answer → ℕ
refusal_count skipped = 0
refusal_count (refused cause) = 1
refusal_count (accepted state answer) = 0

-- how far a session has come: its state, the number of its last step, how many steps were refused, and the bytes
pub record Progress (State : Type 0) : Type 0 where
  pub state : State
  pub number : ℕ
  pub refusals : ℕ
  pub text : List ℕ

abbrev pub beginning : {State : Type 0} → State → Progress State
beginning state = record { state = state; number = 0; refusals = 0; text = [] }

-- how far it has come after a line with this outcome, where `written` is what is written for a step of a number
abbrev pub progress_after : {State Cause Answer : Type 0} → (ℕ → Outcome State Cause Answer → List ℕ) → Progress State → Outcome State Cause Answer → Progress State
progress_after written so_far outcome = record {
  state = state_after so_far.state outcome;
  number = so_far.number + step_count outcome;
  refusals = so_far.refusals + refusal_count outcome;
  text = so_far.text ++ written (so_far.number + 1) outcome;
}

-- the lines in turn, from a first state
abbrev pub replay : {State Cause Answer Line : Type 0} → (State → Line → Outcome State Cause Answer) → (ℕ → Outcome State Cause Answer → List ℕ) → State → List Line → Progress State
replay command written state lines =
    fold (λ so_far line. progress_after written so_far (command so_far.state line)) (beginning state) lines

abbrev pub session_text : {State Cause Answer Line : Type 0} → (State → Line → Outcome State Cause Answer) → (ℕ → Outcome State Cause Answer → List ℕ) → State → List Line → List ℕ
session_text command written state lines = (replay command written state lines).text
