use Rattle.std.proofs.Common.{◌≡◌, drop, false}
use Rattle.xf_script.specs.Line.{quoted}
use Rattle.xf_script.proofs.Cuts.{before}
use Rattle.xf_script.proofs.line.unquoted.Given as goal

-- the word so far, and what the bytes that are left say
abbrev pub invariant-loop-place : goal.invariant-loop-place
invariant-loop-place l = quoted false l.text ≡ before l.word.items (quoted l.is_behind_backslash (drop l.place l.text))
