-- Those so far and those of the rest at its front that are below the key are all.
use Rattle.std.proofs.Common.{◌≡◌, ◌+◌, drop, is_lt}
use Rattle.std.specs.List.{prefix_len}
use Rattle.xf_base.specs.Key.{key_cmp}
use Rattle.xf_group.proofs.admit.count_below.Given as goal

abbrev pub invariant-loop-place : goal.invariant-loop-place
invariant-loop-place l = l.place + prefix_len (λ other. is_lt (key_cmp other.now l.key)) (drop l.place l.fresh) ≡ prefix_len (λ other. is_lt (key_cmp other.now l.key)) l.fresh
