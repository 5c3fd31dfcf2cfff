use Rattle.std.proofs.Common.{◌≡◌, ◌+◌, drop}
use Rattle.std.specs.List.{prefix_len}
use Rattle.xf_script.specs.Line.{is_space}
use Rattle.xf_script.proofs.line.space_length.Given as goal

-- the blanks so far and those of the bytes that are left are all in front
abbrev pub invariant-loop-place : goal.invariant-loop-place
invariant-loop-place l = l.place + prefix_len is_space (drop l.place l.text) ≡ prefix_len is_space l.text
