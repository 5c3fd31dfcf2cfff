-- None of the ids so far is the same.
use Rattle.std.proofs.Common.{◌≡◌, ◌==◌, false, take}
use Rattle.std.specs.List.{list_any}
use Rattle.xf_engine.specs.declared.ids.DimensionId.{DimensionId}
use Rattle.xf_engine.proofs.filtered.is_ignored.Given as goal

abbrev pub invariant-loop-own : goal.invariant-loop-own
invariant-loop-own l = list_any (λ (own : DimensionId). own.0 == l.id.0) (take l.own-index l.ignored) ≡ false
