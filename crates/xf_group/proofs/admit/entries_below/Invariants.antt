-- Those so far and those of the rest at its front that are below the key are all.
use Rattle.std.proofs.Common.{◌≡◌, ◌+◌, drop, is_lt}
use Rattle.std.specs.List.{prefix_len}
use Rattle.xf_base.specs.Key.{key_cmp}
use Rattle.xf_group.proofs.admit.entries_below.Given as goal

abbrev pub invariant-loop-place : goal.invariant-loop-place
invariant-loop-place g l = l.place + prefix_len (λ entry. is_lt (key_cmp entry.key l.key)) (drop l.place l.entries) ≡ prefix_len (λ entry. is_lt (key_cmp entry.key l.key)) l.entries
