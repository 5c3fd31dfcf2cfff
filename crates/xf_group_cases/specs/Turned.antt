-- When a test may add a row to the counts of even rows, or take one back.
use Rattle.std.specs.Prelude.{◌≡◌, ℕ, ◌<◌, ◌≤◌, Bool, false}
use Rattle.xf_base.specs.declared.limits.TheConstants.Limits.{ROWS}

-- a count of few rows, and of one at least where a row is to be taken back
abbrev pub MayTurn : Bool → ℕ → Type 0
MayTurn on count = (count < ROWS) × (on ≡ false → 1 ≤ count)
