-- All lower ids are taken, so that there are at least as many.
use Rattle.std.proofs.Common.{◌≡◌, ℕ, ◌<◌, ◌-◌, length, true}
use Rattle.xf_engine.specs.Held.{held_group_ids}
use Rattle.xf_engine.specs.State.{is_taken}
use Rattle.xf_engine.proofs.grouping.free_group_id.Given as goal

abbrev pub invariant-loop-id : goal.invariant-loop-id
invariant-loop-id g l = (lower : ℕ) → lower < l.id → is_taken (held_group_ids l.groups) lower ≡ true

abbrev pub decreases-loop-id : goal.decreases-loop-id
decreases-loop-id g l = length l.groups - l.id
