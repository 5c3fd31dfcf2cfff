-- What a put to the standard output counts.
use Rattle.std.specs.Prelude.{ℕ, Bool, None}
use Rattle.xf_outside.specs.Account.{SinkAccount}

-- failures, bytes that were taken, and whether all of them were flushed
pub record PutCounts : Type 0 where
  pub faults : ℕ
  pub taken : ℕ
  pub is_flushed : Bool

-- what a sink of these counts tells of itself: no bytes
abbrev pub untold_sink : PutCounts → SinkAccount
untold_sink counts = record { bytes = None; faults = counts.faults }
