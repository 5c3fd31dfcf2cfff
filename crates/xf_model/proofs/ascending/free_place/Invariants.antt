-- Each key so far is below the key.
use Rattle.std.proofs.Common.{◌≡◌, ℕ, ◌<◌, Less, get_or}
use Rattle.xf_model.proofs.ascending.free_place.Given as goal

abbrev pub invariant-loop-place : goal.invariant-loop-place
invariant-loop-place g l = (k : ℕ) → k < l.place → g.Key.Ord.cmp (get_or l.keys k l.key) l.key ≡ Less
