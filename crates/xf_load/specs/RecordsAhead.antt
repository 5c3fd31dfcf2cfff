-- What a reader has yet to give. Only the model of `RecordReader` and proofs need this; what a file means is in
-- Records.antt alone.
use Rattle.std.specs.Prelude.{◌≡◌, ℕ, ◌+◌, true, false, List, [], length, Option, Some, None, IsSome}
use Rattle.csv.specs.Machine.{ends_at_end}
use Rattle.csv.specs.Reading.{Ready, default_config, is_flexible, reader_config, reader_state, reader_trim, records_from, source_of}
use Rattle.csv.specs.declared.parser.Config.{Config}
use Rattle.csv.specs.declared.parser.State.{State}
use Rattle.csv.specs.declared.reader.Reader.{Reader}
use Rattle.csv.specs.declared.reader.Trim.TheVariants as trim

-- the records of these bytes, from a state of the reading machine on
abbrev pub records_left : Config → State → List ℕ → List (List (List ℕ))
records_left config state bytes = records_from config (length bytes + 1) state bytes

abbrev pub records_in : State → Option (List ℕ) → List (List (List ℕ))
records_in state None = []
records_in state (Some bytes) = records_left default_config state bytes

-- the bytes that a reader has yet to read, where `remaining` tells those of what it reads from
abbrev pub unread : {R : Type 0} → (R → Option (List ℕ)) → Reader R → Option (List ℕ)
unread remaining reader = source_of remaining reader

-- the records that a reader has yet to give
abbrev pub records_ahead : {R : Type 0} → (R → Option (List ℕ)) → Reader R → List (List (List ℕ))
records_ahead remaining reader = records_in (reader_state reader) (unread remaining reader)

-- a reader that has not failed, tells its bytes, takes records of any length as they are, and stands between two of them
pub record IsReading {R : Type 0} (remaining : R → Option (List ℕ)) (reader : Reader R) : Type 0 where
  pub plain : reader_trim reader ≡ trim.None
  pub ready : Ready reader
  pub config : reader_config reader ≡ default_config
  pub flexible : is_flexible reader ≡ true
  pub known : IsSome (unread remaining reader)
  pub between : ends_at_end (reader_state reader) ≡ false
