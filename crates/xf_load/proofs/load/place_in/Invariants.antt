-- No field so far is the name.
use Rattle.std.proofs.Common.{◌≡◌, ℕ, ◌<◌, get_or, false, []}
use Rattle.std.specs.Str.{bytes_eq}
use Rattle.csv.specs.Records.{fields_of}
use Rattle.xf_load.proofs.load.place_in.Given as goal

abbrev pub invariant-loop-place : goal.invariant-loop-place
invariant-loop-place l = (k : ℕ) → k < l.place → bytes_eq l.name (get_or (fields_of l.header) k []) ≡ false
