-- What a depot and a sink tell of themselves.
use Rattle.std.specs.Prelude.{ℕ, List, Option}
use Rattle.std.specs.FinMap.{FinMap}
use Rattle.xf_base.specs.Key.{text_cmp}

-- the bytes of each file by its name
abbrev pub Files : Type 0
Files = FinMap text_cmp (List ℕ)

-- what a depot tells of itself: its files, where it tells them, and what it counted: failures, names that it did not
-- find, and bytes taken in
pub record DepotAccount : Type 0 where
  pub files : Option Files
  pub faults : ℕ
  pub misses : ℕ
  pub taken : ℕ

-- what a sink tells of itself: all bytes that were put, where it tells them, and how often it failed
pub record SinkAccount : Type 0 where
  pub bytes : Option (List ℕ)
  pub faults : ℕ
