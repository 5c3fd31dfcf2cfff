-- What a sink in memory holds.
use Rattle.std.specs.Prelude.{ℕ, List, Option, Some, option_map, find, ◌==◌}
use Rattle.xf_outside.specs.Account.{SinkAccount}

-- bytes, the failing calls as pairs of a number and how many bytes are kept, the calls so far, and the faults
pub record Tape : Type 0 where
  pub bytes : List ℕ
  pub failing : List (ℕ × ℕ)
  pub calls : ℕ
  pub faults : ℕ

-- what a sink of this tape tells of itself
abbrev pub tape_account : Tape → SinkAccount
tape_account tape = record { bytes = Some tape.bytes; faults = tape.faults }

-- how many bytes the call of this number keeps before it fails, or None where it does not fail
abbrev pub cut_of : List (ℕ × ℕ) → ℕ → Option ℕ
cut_of failing call = option_map (λ p. p.1) (find (λ p. p.0 == call) failing)
