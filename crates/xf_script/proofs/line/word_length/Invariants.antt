use Rattle.std.proofs.Common.{◌≡◌, ◌+◌, drop}
use Rattle.xf_script.specs.Line.{word_len}
use Rattle.xf_script.proofs.line.word_length.Given as goal

-- the bytes so far and those of the word that are left are the word
abbrev pub invariant-loop-place : goal.invariant-loop-place
invariant-loop-place l = l.place + word_len (drop l.place l.text) ≡ word_len l.text
